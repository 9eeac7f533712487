use Rattle.std.proofs.Common.{◌≡◌, ℕ, suc, ◌≤◌}
use Rattle.intake.proofs.Steps.{Counting}
use Rattle.intake.proofs.check.check_nodes.Given as goal

abbrev pub invariant-loop-node : goal.invariant-loop-node
invariant-loop-node l = (k : ℕ) × (l.node ≡ suc k) × (k ≤ l.top) × Counting l.words k l.count
