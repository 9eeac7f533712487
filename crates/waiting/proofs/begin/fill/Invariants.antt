use Rattle.std.proofs.Common.{◌≡◌, ℕ, ◌+◌, ◌*◌, ◌<◌, ◌≤◌, length, get_or}
use Rattle.rules.specs.Store.{count}
use Rattle.waiting.proofs.begin.fill.Given as goal

abbrev pub invariant-loop-literal : goal.invariant-loop-literal
invariant-loop-literal g l = record {
  long : length l.counts ≡ 2048;
  counts : (k : ℕ) → k < l.literal → k < 2 * l.top + 2 → get_or l.counts k 0 ≡ count (g.S.Lists.meaning l.store) k;
  none : (k : ℕ) → k < l.literal → 2 * l.top + 2 ≤ k → get_or l.counts k 0 ≡ 0;
}
