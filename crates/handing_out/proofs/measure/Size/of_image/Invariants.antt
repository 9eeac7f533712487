use Rattle.std.proofs.Common.{◌≡◌, ℕ, suc, ◌≤◌, []}
use Rattle.simplifier.specs.Shown.{work_of}
use Rattle.handing_out.proofs.Images.{Measured}
use Rattle.handing_out.proofs.measure.Size.of_image.Given as goal

abbrev pub invariant-loop-node : goal.invariant-loop-node
invariant-loop-node g l = (k : ℕ) × (l.node ≡ suc k) × (k ≤ l.s.top) × Measured (work_of g.S.Lists.meaning l.s []) k l.size
