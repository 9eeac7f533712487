use Rattle.std.proofs.Common.{arith}
use Rattle.std.proofs.lemmas.Bool.Decides.{nat_tests}
use Rattle.network.specs.Assignments.{lit, put}
use Rattle.intake.proofs.row.Row.literal.Goals as goal

pub returns : goal.returns
unfolding lit put
returns c = grind (arith, nat_tests)
