-- What holds of every such store, out of what its fields keep. Assumes nothing.
-- The proofs stand here, since the laws of the code's `impl` cite them.
use Rattle.std.specs.Prelude.{true, length}
use Rattle.std.proofs.lemmas.List.{nil_from_length}
use mathlib.Core.Logic.{∥∥₁_elim}
use native.Mathlib.Bridge.{le_prop}
use denote.Struct.Props.{≡_prop}
use base.Stored.{coded_ℕ, coded_bool}
use Rattle.network.specs.Clauses.{last, well_formed}
use Rattle.rules.specs.Store.{Meaning}
use Rattle.rules.specs.Lawful.{Lawful}
use Rattle.slotted.specs.Law.{Law}

law_prop : (M : Meaning) → IsProp (Law M)
law_prop M p q = λ i. record {
  formed = λ l C h. ≡_prop coded_bool (well_formed C) true (p.formed l C h) (q.formed l C h) i;
  placed = λ l C h. ≡_prop coded_ℕ (last C) l (p.placed l C h) (q.placed l C h) i;
  bounded = λ x h. ≡_prop coded_ℕ (length (M.uses x)) 0 (p.bounded x h) (q.bounded x h) i;
  named = λ x l j h. le_prop (p.named x l j h) (q.named x l j h) i;
  once = λ x l j. le_prop (p.once x l j) (q.once x l j) i;
  mourned = λ x. le_prop (p.mourned x) (q.mourned x) i;
  within = le_prop p.within q.within i;
  unindexed = λ e. (λ x. ≡_prop coded_ℕ (length (M.uses x)) 0 ((p.unindexed e).0 x) ((q.unindexed e).0 x) i, ≡_prop coded_ℕ M.dead_clauses 0 (p.unindexed e).1 (q.unindexed e).1 i);
}

-- a fact of the struct, as the meaning is lawful
pub law : (M : Meaning) → ∥ Law M ∥₁ → Lawful M
law M h =
    let w = ∥∥₁_elim h (law_prop M) (λ s. s) in
    record {
      formed = w.formed;
      placed = w.placed;
      bounded = λ x h. nil_from_length (M.uses x) (w.bounded x h);
      named = w.named;
      once = w.once;
      mourned = w.mourned;
      within = w.within;
      unindexed = λ e. (λ x. nil_from_length (M.uses x) ((w.unindexed e).0 x), (w.unindexed e).1);
    }
