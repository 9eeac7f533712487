use Rattle.std.proofs.Common.{refl}
use Rattle.image.specs.Headers.{headed, climbs}
use Rattle.intake.specs.Answers.{accepts, take_in_answer, nodes_answer}
use Rattle.intake.proofs.state.Intake.smallest.Goals as goal

pub invariant_of-result : goal.invariant_of-result
unfolding accepts take_in_answer headed climbs nodes_answer
invariant_of-result c = record { right = refl; zero = refl }
