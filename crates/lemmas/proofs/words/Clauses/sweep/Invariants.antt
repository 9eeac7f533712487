use Rattle.lemmas.specs.Marks.{Marked}
use Rattle.lemmas.proofs.Sweeps.{Sweeping}
use Rattle.lemmas.proofs.words.Clauses.sweep.Given as goal

abbrev pub invariant-loop-j : goal.invariant-loop-j
invariant-loop-j l = record {
  turn : Sweeping l.at l.n l.initial.self l.initial.order l.self l.order l.j l.left l.again;
  marked : Marked l.self l.marks;
}
