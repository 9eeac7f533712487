-- How often a literal stands in a list, and the counts of a clause's literals changed. Assumes nothing.
use Rattle.std.proofs.Common.{◌≡◌, ℕ, suc, ◌+◌, ◌-◌, ◌<◌, ◌≤◌, ◌⊎◌, List, [], ◌∷◌, length, get_or, take, set, sym, refl, ap, ◌∙◌, inl, inr, ⊎_elim, arith}
use Rattle.std.proofs.lemmas.Bool.{cases_eq}
use Rattle.std.proofs.lemmas.Bool.Decides.{nat_tests}
use Rattle.std.proofs.lemmas.List.{take_more, take_all, get_or-set_same, get_or-set_other}
use Rattle.network.specs.Clauses.{front}
use Rattle.rules.specs.Store.{how_many}
use Rattle.rules.proofs.HowMany.{count_append}
use Rattle.waiting.specs.Waits.{times}

-- the literals but the last are the first ones
pub front_take : (C : List ℕ) → take (length C - 1) C ≡ front C
front_take [] = refl
front_take (x ∷ []) = refl
front_take (x ∷ y ∷ C) =
    let e : suc (suc (length C)) - 1 ≡ suc (suc (length C) - 1) = omega arith in
    ap (λ n. take n (x ∷ y ∷ C)) e ∙ ap (λ D. x ∷ D) (front_take (y ∷ C))

-- in a list of one
pub times_one : (k : ℕ) → times k (k ∷ []) ≡ 1
unfolding how_many
times_one k = grind (arith, nat_tests)

pub times_other : (k v : ℕ) → (k ≡ v → ⊥) → times k (v ∷ []) ≡ 0
unfolding how_many
times_other k v a = grind (arith, nat_tests)

-- one literal more
pub times_more : (k i : ℕ) (xs : List ℕ) → i < length xs → times k (take (i + 1) xs) ≡ times k (take i xs) + times k (get_or xs i 0 ∷ [])
times_more k i xs h = ap (times k) (take_more xs i 0 h) ∙ count_append _ (take i xs) (get_or xs i 0 ∷ [])

-- the count of k has changed from a to b if the literal was k, and k stands once more in the literals so far
abbrev pub Recounted : (ℕ → ℕ) → List ℕ → List ℕ → ℕ → List ℕ → ℕ → Type 0
Recounted f cs ds k xs i =
    ((get_or ds k 0 ≡ f (get_or cs k 0)) × (times k (take (i + 1) xs) ≡ times k (take i xs) + 1))
    ⊎ ((get_or ds k 0 ≡ get_or cs k 0) × (times k (take (i + 1) xs) ≡ times k (take i xs)))

module _ (f : ℕ → ℕ) (cs ds xs : List ℕ) (i n m : ℕ) (was : n ≡ get_or cs (get_or xs i 0) 0) (now : m ≡ f n) (made : ds ≡ set cs (get_or xs i 0) m) (hi : i < length xs) where
  pub recounted : (k : ℕ) → k < length cs → Recounted f cs ds k xs i
  recounted k hk =
      ⊎_elim
      (λ e. inl (ap (λ ys. get_or ys k 0) made ∙ same e, omega (arith, times_more k i xs hi, ap (λ w. times k (w ∷ [])) (sym e), times_one k)))
      (λ ne. inr (ap (λ ys. get_or ys k 0) made ∙ get_or-set_other cs (get_or xs i 0) k m 0 ne, omega (arith, times_more k i xs hi, times_other k (get_or xs i 0) ne)))
      (cases_eq k (get_or xs i 0))
    where
      same : k ≡ get_or xs i 0 → get_or (set cs (get_or xs i 0) m) k 0 ≡ f (get_or cs k 0)
      same e = ap (λ v. get_or (set cs v m) k 0) (sym e) ∙ get_or-set_same cs k m 0 hk ∙ now ∙ ap f (was ∙ ap (λ v. get_or cs v 0) (sym e))

pub times_none : (k : ℕ) → times k [] ≡ 0
unfolding how_many
times_none k = refl

-- all of a list
pub times_whole : (k i : ℕ) (xs ys : List ℕ) → length xs ≤ i → xs ≡ ys → times k (take i xs) ≡ times k ys
times_whole k i xs ys h e = ap (times k) (take_all i xs h ∙ e)
