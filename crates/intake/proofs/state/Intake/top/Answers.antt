use Rattle.std.proofs.Common.{refl, arith}
use Rattle.intake.proofs.Steps.{accepted_parts}
use Rattle.intake.proofs.state.Intake.top.Goals as goal

pub bounds-self-0 : goal.bounds-self-0
bounds-self-0 c = let h = (accepted_parts _ c.args.self.now.right).head in omega (arith, h.three)

pub returns : goal.returns
returns c = record { answer = refl; small = (accepted_parts _ c.args.self.now.right).head.few }
