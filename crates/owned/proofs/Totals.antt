-- Sums over the numbers below n. Assumes nothing.
use Rattle.std.proofs.Common.{◌≡◌, ℕ, zero, suc, ◌+◌, ◌<◌, ◌≤◌, sym, refl, ap, inl, inr, arith}
use Rattle.std.proofs.lemmas.Bool.{cases_eq}
use Rattle.owned.specs.Totals.{total}

-- by what is summed
pub total_same : (n : ℕ) (f g : ℕ → ℕ) → ((x : ℕ) → x < n → f x ≡ g x) → total n f ≡ total n g
unfolding total
total_same zero f g h = refl
total_same (suc n) f g h = let a = total_same n f g (λ x k. h x (omega arith)) in let b = h n (omega arith) in omega arith

-- a sum of nothing
pub total_none : (n : ℕ) (f : ℕ → ℕ) → ((x : ℕ) → x < n → f x ≡ 0) → total n f ≡ 0
unfolding total
total_none zero f h = refl
total_none (suc n) f h = let a = total_none n f (λ x k. h x (omega arith)) in let b = h n (omega arith) in omega arith

-- one of them changes
pub total_at : (n : ℕ) (f g : ℕ → ℕ) (l : ℕ) → l < n → ((x : ℕ) → x < n → (x ≡ l → ⊥) → g x ≡ f x) → total n g + f l ≡ total n f + g l
unfolding total
total_at zero f g l h s = absurd (omega arith)
total_at (suc n) f g l h s =
    elim (cases_eq l n) [
      | inl e ↦
          let a = total_same n g f (λ x k. s x (omega arith) (λ q. omega arith)) in
          let b : f l ≡ f n = ap f e in
          let c : g l ≡ g n = ap g e in
          omega arith
      | inr ne ↦
          let a = total_at n f g l (omega arith) (λ x k q. s x (omega arith) q) in
          let b = s n (omega arith) (λ q. ne (sym q)) in
          omega arith
    ]

-- no more than all
pub total_ge : (n : ℕ) (f : ℕ → ℕ) (l : ℕ) → l < n → f l ≤ total n f
unfolding total
total_ge zero f l h = absurd (omega arith)
total_ge (suc n) f l h =
    elim (cases_eq l n) [ inl e ↦ let q : f l ≡ f n = ap f e in omega arith | inr ne ↦ let q = total_ge n f l (omega arith) in omega arith ]
