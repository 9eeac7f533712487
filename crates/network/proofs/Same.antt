-- Two networks that say the same at each level, where the levels below hold, have the same models, and each node has
-- its values in both or in neither. Assumes nothing.
use Rattle.std.proofs.Common.{ℕ, zero, suc, true, false, sym, subst, ⊎_elim, arith}
use Rattle.network.specs.Assignments.{Assignment, put}
use Rattle.network.specs.Levels.{Below, Total, Unique, Locals, Same}
use Rattle.network.proofs.Levels.{below_put}
use Rattle.std.proofs.lemmas.Bool.{cases_eq}

module _ (L M : ℕ → Assignment → Type 0) (same : Same L M) where
  pub same_below : (k : ℕ) (σ : Assignment) → Below L k σ → Below M k σ
  same_below k σ s j l = (same j σ (λ i m. s i (omega arith))).0 (s j l)

  pub below_same : (k : ℕ) (σ : Assignment) → Below M k σ → Below L k σ
  below_same zero σ s j l = absurd (omega arith)
  below_same (suc k) σ s j l =
      let lower : Below L k σ = below_same k σ (λ i m. s i (omega arith)) in
      ⊎_elim (λ e. subst (λ i. L i σ) (sym e) ((same k σ lower).1 (s k (omega arith)))) (λ d. lower j (omega (arith, d))) (cases_eq j k)

  pub same_sym : Same M L
  same_sym k σ s = let e = same k σ (below_same k σ s) in (e.1, e.0)

  module _ (loc : Locals L) where
    pub total_same : (k : ℕ) → Total L k → Total M k
    total_same k t σ s =
        let b = t σ (below_same k σ s) in
        (b.0, (same k (put σ k b.0) (below_put L loc k σ k b.0 (omega arith) (below_same k σ s))).0 b.1)

    pub unique_same : (k : ℕ) → Unique L k → Unique M k
    unique_same k u σ s p q =
        let r = below_same k σ s in
        u σ r ((same k (put σ k true) (below_put L loc k σ k true (omega arith) r)).1 p) ((same k (put σ k false) (below_put L loc k σ k false (omega arith) r)).1 q)
