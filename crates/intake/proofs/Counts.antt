-- An accepted image has fewer clauses than words. Assumes nothing.
use Rattle.std.proofs.Common.{ℕ, zero, suc, ◌+◌, ◌<◌, ◌≤◌, List, arith}
use Rattle.image.specs.Headers.{top, stated_count, offset, run}
use Rattle.intake.specs.Accepted.{Image, total}
use Rattle.intake.proofs.Steps.{clauses_short, run_length}

module _ (ws : List ℕ) (I : Image ws) where
  -- the clauses of so many nodes, and the header, are no more than the words up to there
  before_offset : (k : ℕ) → k ≤ top ws → total ws k + (top ws + 3) ≤ offset ws k
  before_offset zero l = omega (arith, I.header.first)
  before_offset (suc k) l = omega (arith, before_offset k (omega arith), I.header.climb k l, run_length ws k l, clauses_short (run ws (suc k)))

  pub fewer_clauses : stated_count ws < offset ws (top ws)
  fewer_clauses = omega (arith, I.count, before_offset (top ws) (omega arith))
