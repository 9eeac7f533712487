use Rattle.std.proofs.Common.{◌≡◌, ◌+◌, ◌≤◌, length}
use Rattle.image.specs.Runs.{clauses, whole}
use Rattle.image.proofs.reader.Run.count_clauses.Given as goal

abbrev pub invariant-loop-count : goal.invariant-loop-count
invariant-loop-count l =
    (whole l.walk.left.now ≡ whole l.self.words.now)
    × (l.count + length (clauses l.walk.left.now) ≡ length (clauses l.self.words.now))
    × (l.count + length l.walk.left.now ≤ length l.self.words.now)

abbrev pub decreases-loop-count : goal.decreases-loop-count
decreases-loop-count l = length l.walk.left.now
