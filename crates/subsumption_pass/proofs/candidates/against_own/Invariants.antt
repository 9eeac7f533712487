use Rattle.std.proofs.Common.{ℕ, ◌-◌, length}
use Rattle.rules.specs.Store.{Meaning}
use Rattle.rules.specs.Subsume.{refs_of}
use Rattle.subsumption_pass.specs.Checks.{Stands, Next, Surrounds}
use Rattle.subsumption_pass.specs.Candidates.{Reaches}
use Rattle.subsumption_pass.proofs.Refs.{refs_from}
use Rattle.subsumption_pass.proofs.candidates.against_own.Given as goal

abbrev pub invariant-loop-at : goal.invariant-loop-at
invariant-loop-at g l = record {
  around : Surrounds (g.S.Lists.meaning l.s) l.around;
  stands : Next (g.S.Lists.at l.s) (g.S.Lists.meaning l.s) l.at l.x l.place;
  reaches : (k i : ℕ) → Stands (g.S.Lists.at l.fn.s) (g.S.Lists.meaning l.fn.s) l.one k i
      → Reaches (g.S.Lists.at l.s) l.one k i (λ (M : Meaning). refs_of M l.x) (refs_from l.x l.place) (g.S.Lists.meaning l.fn.s) (g.S.Lists.meaning l.s);
}

abbrev pub decreases-loop-at : goal.decreases-loop-at
decreases-loop-at g l = length ((g.S.Lists.meaning l.s).own l.x) - l.place
