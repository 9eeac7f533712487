use Rattle.std.proofs.Common.{◌≡◌, ◌+◌, ◌-◌, ◌*◌, get_or, refl, arith}
use Rattle.lemmas.proofs.Writes.{lost_writes, lost_is}
use Rattle.lemmas.proofs.words.Clauses.lose.Goals as goal

pub returns : goal.returns
returns c =
    let C = c.args.self.now in
    let d = c.drop_literal-left in
    let k = c.args.number in
    let e : 32 * k + get_or C.lengths.now k 0 - 32 * k ≡ get_or C.lengths.now k 0 = omega arith in
    record {
      wrote = lost_writes C d.new.clause k c.args.literal.word d.result _ e c.requires d.ensures refl refl refl refl;
      lost = lost_is C d.new.clause k c.args.literal.word d.result _ e c.requires d.ensures;
    }
