use Rattle.std.proofs.Common.{ap, ◌∙◌}
use Rattle.image.specs.Runs.{whole}
use Rattle.intake.proofs.Steps.{accepted_whole}
use Rattle.intake.proofs.state.Intake.whole_run.Goals as goal

pub invariant_of-result : goal.invariant_of-result
invariant_of-result c = record { whole = ap whole c.run.ensures.words ∙ accepted_whole _ c.args.node c.args.self.now.right }
