use Rattle.std.proofs.Common.{◌≤◌, drop}
use Rattle.network.specs.Values.{simplified}
use Rattle.clause.specs.Types.{values_of}
use Rattle.clause.proofs.Fronts.{Sofar}
use Rattle.clause.proofs.values.ordered_simp.Given as goal

abbrev pub invariant-loop-l : goal.invariant-loop-l
invariant-loop-l l =
    (l.n ≤ l.l-index) × Sofar (simplified (values_of l.values) l.clause) (simplified (values_of l.values) (drop l.l-index l.clause)) l.initial.out l.out l.n
