use Rattle.std.proofs.Common.{length}
use Rattle.image.proofs.Notes.{Noting}
use Rattle.image.proofs.lowers.lower_nodes.Given as goal

abbrev pub invariant-loop-clause : goal.invariant-loop-clause
invariant-loop-clause l = Noting l.run.node l.run.words.now l.walk.left.now l.low.0.items

abbrev pub decreases-loop-clause : goal.decreases-loop-clause
decreases-loop-clause l = length l.walk.left.now
