use Rattle.std.proofs.Common.{◌≡◌, ℕ, ◌-◌, ◌<◌, drop, Some, None}
use Rattle.rules.specs.Store.{Meaning, count}
use Rattle.subsumption_pass.specs.Checks.{Stands, Surrounds}
use Rattle.subsumption_pass.specs.Candidates.{Reaches}
use Rattle.subsumption_pass.proofs.candidates.against_uses.Given as goal

abbrev pub invariant-loop-at : goal.invariant-loop-at
invariant-loop-at g l = record {
  around : Surrounds (g.S.Lists.meaning l.s) l.around;
  stands : elim l.at [
    | None ↦ count (g.S.Lists.meaning l.s) l.x ≡ l.place
    | Some u ↦ g.S.Store.usage l.s u l.x l.place × (l.place < count (g.S.Lists.meaning l.s) l.x)
  ];
  reaches : (k i : ℕ) → Stands (g.S.Lists.at l.fn.s) (g.S.Lists.meaning l.fn.s) l.one k i
      → Reaches (g.S.Lists.at l.s) l.one k i (λ (M : Meaning). M.uses l.x) (λ (M : Meaning). drop l.place (M.uses l.x)) (g.S.Lists.meaning l.fn.s) (g.S.Lists.meaning l.s);
}

abbrev pub decreases-loop-at : goal.decreases-loop-at
decreases-loop-at g l = count (g.S.Lists.meaning l.s) l.x - l.place
