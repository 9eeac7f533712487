use Rattle.std.proofs.Common.{length, ap, arith}
use Rattle.std.proofs.lemmas.Bool.Decides.{nat_tests}
use Rattle.owned.proofs.Texts.{listed_length}
use Rattle.owned.proofs.owned.Owned.is_listed.Goals as goal

pub returns-then-text-gt1 : goal.returns-then-text-gt1
returns-then-text-gt1 c =
    let e = listed_length c.args.self.now.texts.now c.args.x in
    let t = ap length c.text.ensures in
    grind (arith, nat_tests)

pub returns-else-text-gt1 : goal.returns-else-text-gt1
returns-else-text-gt1 c =
    let e = listed_length c.args.self.now.texts.now c.args.x in
    let t = ap length c.text.ensures in
    let g = ap length c.gone.ensures in
    let q = c.is_empty.ensures in
    grind (arith, nat_tests)
