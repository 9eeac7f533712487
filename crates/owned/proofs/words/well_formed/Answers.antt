use Rattle.std.proofs.Common.{sym, ◌∙◌, arith}
use Rattle.std.proofs.lemmas.Bool.Decides.{nat_tests}
use Rattle.owned.proofs.Forms.{well_is}
use Rattle.owned.proofs.words.well_formed.Goals as goal
use Rattle.owned.proofs.words.well_formed.Goals.{then-c-le-LONGEST, else-c-le-LONGEST}

pub returns-then-passes : goal.returns-then-passes
returns-then-passes c =
    elim c.if-c-le-LONGEST.branch [
      | then-c-le-LONGEST w ↦ well_is c.args.c.now (omega arith) (omega arith) (sym w.passes.ensures ∙ sym w.value-is ∙ c.if-passes.true)
      | else-c-le-LONGEST w ↦ absurd (let v = sym w.value-is ∙ c.if-passes.true in grind (arith, nat_tests))
    ]
