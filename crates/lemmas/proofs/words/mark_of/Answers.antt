use Rattle.std.proofs.Common.{◌%◌, ◌/◌, get_or, ap, arith}
use lib.Bits.{bit_or}
use Rattle.std.proofs.lemmas.Nat.{one_shl}
use Rattle.clause.proofs.Signs.{added_more, added_all}
use Rattle.lemmas.specs.Marks.{noding}
use Rattle.lemmas.proofs.words.mark_of.Goals as goal

pub loop-l-preserved : goal.loop-l-preserved
loop-l-preserved c =
    let C = c.args.clause.now in
    let v = c.loop-l in
    let l = get_or C v.l-index 0 in
    added_more noding C v.l-index v.mark _ (omega arith) (ap (bit_or v.mark) (one_shl (l / 2 % 32) 32 (omega arith))) v.invariant

pub returns : goal.returns
returns c =
    let v = c.loop-l in
    added_all noding c.args.clause.now v.l-index v.mark (omega arith) v.invariant
