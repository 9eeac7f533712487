use Rattle.std.proofs.Common.{◌-◌}
use Rattle.lemmas.specs.Marks.{Marked}
use Rattle.lemmas.proofs.Sweeps.{Running}
use Rattle.lemmas.proofs.words.Clauses.run.Given as goal

abbrev pub invariant-loop-at : goal.invariant-loop-at
invariant-loop-at l = record {
  run : Running l.n l.initial.self l.initial.order l.self l.order l.at l.left;
  marked : Marked l.self l.marks;
}

abbrev pub decreases-loop-at : goal.decreases-loop-at
decreases-loop-at l = l.left - l.at
