use Rattle.std.proofs.Common.{◌≡◌, ◌+◌, ◌-◌, ◌≤◌, ◌∷◌, length, drop, get_or}
use Rattle.network.specs.Clauses.{without}
use Rattle.network.specs.Resolution.{merge, unless_twice}
use Rattle.clause.proofs.Merges.{Merging}
use Rattle.clause.proofs.resolvents.ordered_resolvent.Given as goal

abbrev pub invariant-loop-k : goal.invariant-loop-k
invariant-loop-k l = record {
  same_reference : l.merged.out.ghost_name ≡ l.initial.merged.out.ghost_name;
  few : l.merged.len + (length l.a - l.k) + length l.rest ≤ length l.a + length l.b;
  so_far : Merging (unless_twice (merge (without l.x l.a) (without l.y l.b))) (merge (without l.x (drop l.k l.a)) (without l.y l.rest)) l.fn.out l.merged;
}

abbrev pub invariant-loop-rest : goal.invariant-loop-rest
invariant-loop-rest l = record {
  same_reference : l.merged.out.ghost_name ≡ l.initial.merged.out.ghost_name;
  few : l.merged.len + (length l.a - l.k) + length l.rest ≤ length l.a + length l.b;
  so_far :
      Merging (unless_twice (merge (without l.x l.a) (without l.y l.b))) (merge (get_or l.a l.k 0 ∷ without l.x (drop (l.k + 1) l.a)) (without l.y l.rest)) l.fn.out
      l.merged;
}

abbrev pub decreases-loop-rest : goal.decreases-loop-rest
decreases-loop-rest l = length l.rest
