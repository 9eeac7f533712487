use Rattle.std.proofs.Common.{◌≡◌, ℕ, ◌<◌, false, length, get_or}
use Rattle.starting.proofs.blank.Given as goal

abbrev pub invariant-loop-node : goal.invariant-loop-node
invariant-loop-node g l = record {
  long : length l.frozen ≡ 1024;
  same : (k : ℕ) → k < l.node → get_or l.frozen k false ≡ get_or l.intake.frozen k false;
}
