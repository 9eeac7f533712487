-- Levels: a level k is a statement about an assignment that depends only on the nodes up to k. Assumes nothing.
use Rattle.std.proofs.Common.{ℕ, zero, suc, ◌+◌, ◌≤◌, Bool, sym, refl, ◌∙◌, subst, ⊎_elim, arith}
use Rattle.std.proofs.lemmas.Bool.{cases_eq}
use Rattle.network.specs.Assignments.{Assignment, put, Agree}
use Rattle.network.specs.Levels.{Below, Total, Locals}
use Rattle.network.proofs.Literals.{put_apart}

pub put_agree : (k : ℕ) (σ : Assignment) (n : ℕ) (b : Bool) → k ≤ n → Agree k (put σ n b) σ
put_agree k σ n b h i l = put_apart σ n b i (λ e. omega arith)

module _ (L : ℕ → Assignment → Type 0) where
  pub below_less : (j k : ℕ) (σ : Assignment) → j ≤ k → Below L k σ → Below L j σ
  below_less j k σ h s i l = s i (omega arith)

  pub below_more : (k : ℕ) (σ : Assignment) → Below L k σ → L k σ → Below L (suc k) σ
  below_more k σ s t j l = ⊎_elim (λ e. subst (λ i. L i σ) (sym e) t) (λ d. s j (omega (arith, d))) (cases_eq j k)

module _ (L : ℕ → Assignment → Type 0) (loc : Locals L) where
  pub below_agree : (k : ℕ) (σ τ : Assignment) → Agree k σ τ → Below L k σ → Below L k τ
  below_agree k σ τ a h j l = loc j σ τ (λ n m. a n (omega arith)) (h j l)

  pub below_put : (k : ℕ) (σ : Assignment) (n : ℕ) (b : Bool) → k ≤ n → Below L k σ → Below L k (put σ n b)
  below_put k σ n b h s = below_agree k σ (put σ n b) (λ i l. sym (put_agree k σ n b h i l)) s

  -- an assignment of the nodes below k extends to one of the nodes below d + k
  pub extend : ((i : ℕ) → Total L i) → (d k : ℕ) (σ : Assignment) → Below L k σ → (τ : Assignment) × Agree k τ σ × Below L (d + k) τ
  extend t zero k σ s = (σ, (λ n l. refl), λ j l. s j (omega arith))
  extend t (suc d) k σ s =
      let e = extend t d k σ s in
      let τ = e.0 in
      let b = t (d + k) τ e.2 in
      let ρ = put τ (d + k) b.0 in (
        ρ,
        (λ n l. put_agree k τ (d + k) b.0 (omega arith) n l ∙ e.1 n l),
        λ j l. below_more L (d + k) ρ (below_put (d + k) τ (d + k) b.0 (omega arith) e.2) b.1 j (omega arith),
      )

  -- what follows from the levels below some m, and says something of the nodes below k alone, follows from the levels below k
  pub conservative : ((i : ℕ) → Total L i) → (k m : ℕ) (P : Assignment → Type 0)
      → ((σ τ : Assignment) → Agree k σ τ → P σ → P τ)
      → ((σ : Assignment) → Below L m σ → P σ) → (σ : Assignment) → Below L k σ → P σ
  conservative t k m P p h σ s =
      let e = extend t m k σ s in
      p e.0 σ e.1 (h e.0 (below_less L m (m + k) e.0 (omega arith) e.2))
