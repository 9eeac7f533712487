use Rattle.std.proofs.Common.{◌≤◌, drop, Some}
use Rattle.network.specs.Clauses.{without}
use Rattle.clause.proofs.Fronts.{Sofar}
use Rattle.clause.proofs.subsumption.drop_literal.Given as goal

abbrev pub invariant-loop-i : goal.invariant-loop-i
invariant-loop-i l =
    (l.n ≤ l.i) × Sofar (Some (without l.literal.word l.initial.clause)) (Some (without l.literal.word (drop l.i l.initial.clause))) l.initial.clause l.clause l.n
