-- How many pass a test, and sums. Assumes nothing.
use Rattle.std.proofs.Common.{◌≡◌, ℕ, zero, suc, ◌+◌, ◌<◌, ◌≤◌, Bool, true, cond, not, ◌⊎◌, List, [], ◌∷◌, ◌++◌, map, length, filter, sym, refl, ap, inl, inr, ⊎_elim, arith}
use Rattle.std.proofs.lemmas.Bool.{cases_eq}
use Rattle.network.specs.Lists.{In}
use Rattle.rules.specs.Store.{from, sum_of, how_many}

pub count_more : {X : Type 0} (p q : X → Bool) (xs : List X) → ((x : X) → In x xs → p x ≡ true → q x ≡ true) → how_many p xs ≤ how_many q xs
unfolding how_many
count_more p q [] h = omega arith
count_more p q (x ∷ xs) h = let r = count_more p q xs (λ y i. h y (inr i)) in let s = h x (inl refl) in grind (arith, r, s)

pub count_kept : {X : Type 0} (p q : X → Bool) (xs : List X) → how_many p (filter q xs) ≤ how_many p xs
unfolding how_many
count_kept p q [] = omega arith
count_kept p q (x ∷ xs) = grind (arith, count_kept p q xs)

pub count_map : {X Y : Type 0} (p : Y → Bool) (f : X → Y) (xs : List X) → how_many p (map f xs) ≡ how_many (λ x. p (f x)) xs
unfolding how_many
count_map p f [] = refl
count_map p f (x ∷ xs) = ap (λ n. cond (p (f x)) (suc n) n) (count_map p f xs)

pub kept_length : {X : Type 0} (p : X → Bool) (xs : List X) → length (filter (λ x. not (p x)) xs) + how_many p xs ≡ length xs
unfolding how_many
kept_length p [] = refl
kept_length p (x ∷ xs) = grind (arith, kept_length p xs)

pub count_none : {X : Type 0} (p : X → Bool) (xs : List X) → ((x : X) → In x xs → p x ≡ true → ⊥) → how_many p xs ≡ 0
unfolding how_many
count_none p [] h = refl
count_none p (x ∷ xs) h = let r = count_none p xs (λ y i. h y (inr i)) in let s = h x (inl refl) in grind (arith, r, s)

pub count_append : {X : Type 0} (p : X → Bool) (xs ys : List X) → how_many p (xs ++ ys) ≡ how_many p xs + how_many p ys
unfolding how_many
count_append p [] ys = omega arith
count_append p (x ∷ xs) ys = grind (arith, count_append p xs ys)

pub count_one : {X : Type 0} (p : X → Bool) (r : X) → (how_many p (r ∷ []) ≡ 0) ⊎ ((how_many p (r ∷ []) ≡ 1) × (p r ≡ true))
unfolding how_many
count_one p r = grind arith

-- the sum of the lengths, one list shorter by one
pub sum_apart : (f g : ℕ → ℕ) (m i : ℕ) → ((k : ℕ) → i ≤ k → f k ≡ g k) → sum_of (map f (from i m)) ≡ sum_of (map g (from i m))
sum_apart f g zero i h = refl
sum_apart f g (suc m) i h = omega (arith, h i (omega arith), sum_apart f g m (suc i) (λ k l. h k (omega arith)))

pub sum_less : (f g : ℕ → ℕ) (a : ℕ) (m i : ℕ) → i ≤ a → a < i + m → suc (f a) ≡ g a → ((k : ℕ) → (k ≡ a → ⊥) → f k ≡ g k) → suc (sum_of (map f (from i m))) ≡ sum_of (map g (from i m))
sum_less f g a zero i l u e h = absurd (omega arith)
sum_less f g a (suc m) i l u e h = ⊎_elim
    (λ q. omega (arith, e, ap f q, ap g q, sum_apart f g m (suc i) (λ k w. h k (λ z. omega arith))))
    (λ q. omega (arith, h i (λ z. q (sym z)), sum_less f g a m (suc i) (omega (arith, q)) (omega arith) e h)) (cases_eq a i)

pub sum_up : (f g : ℕ → ℕ) (a m i : ℕ) → f a ≤ suc (g a) → ((k : ℕ) → (k ≡ a → ⊥) → f k ≡ g k) → sum_of (map f (from i m)) ≤ suc (sum_of (map g (from i m)))
sum_up f g a zero i e h = omega arith
sum_up f g a (suc m) i e h = ⊎_elim
    (λ q. omega (arith, e, ap f q, ap g q, sum_apart f g m (suc i) (λ k w. h k (λ z. omega arith))))
    (λ q. omega (arith, h i (λ z. q (sym z)), sum_up f g a m (suc i) e h)) (cases_eq a i)

-- what passes one test passes one of two others
pub count_either : {X : Type 0} (p q r : X → Bool) (xs : List X) → ((x : X) → In x xs → p x ≡ true → (q x ≡ true) ⊎ (r x ≡ true)) → how_many p xs ≤ how_many q xs + how_many r xs
unfolding how_many
count_either p q r [] h = omega arith
count_either p q r (x ∷ xs) h = let s = count_either p q r xs (λ y i. h y (inr i)) in let t = h x (inl refl) in grind (arith, s, t)

-- sums of lists that grow nowhere
pub sum_le : (f g : ℕ → ℕ) (m i : ℕ) → ((k : ℕ) → f k ≤ g k) → sum_of (map f (from i m)) ≤ sum_of (map g (from i m))
sum_le f g zero i h = omega arith
sum_le f g (suc m) i h = omega (arith, h i, sum_le f g m (suc i) h)

-- the sum of a part
pub sum_part : (f : ℕ → ℕ) (n b m a : ℕ) → b ≤ a → a + m ≤ b + n → sum_of (map f (from a m)) ≤ sum_of (map f (from b n))
sum_part f n b zero a l u = omega arith
sum_part f zero b (suc m) a l u = absurd (omega arith)
sum_part f (suc n) b (suc m) a l u = ⊎_elim
    (λ e. omega (arith, ap f e, sum_part f n (suc b) m (suc a) (omega arith) (omega arith)))
    (λ d. omega (arith, sum_part f n (suc b) (suc m) a (omega (arith, d)) (omega arith))) (cases_eq a b)
