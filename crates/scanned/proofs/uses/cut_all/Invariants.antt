use Rattle.std.proofs.Common.{length}
use Rattle.scanned.specs.Sequence.{Sound, nodes_behind}
use Rattle.scanned.proofs.uses.cut_all.Given as goal

abbrev pub invariant-loop-n : goal.invariant-loop-n
invariant-loop-n l = Sound l.room l.ws

abbrev pub decreases-loop-n : goal.decreases-loop-n
decreases-loop-n l = length (nodes_behind l.room l.ws 0)
