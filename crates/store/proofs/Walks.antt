-- The lengths of own lists add up. Assumes nothing.
use Rattle.std.proofs.Common.{◌≡◌, ℕ, zero, suc, ◌+◌, map, length, ap, ◌∙◌, arith}
use Rattle.rules.specs.Store.{Meaning, from, sum_of, live_clauses}

-- one number more
sum_last : (f : ℕ → ℕ) (n i : ℕ) → sum_of (map f (from i (suc n))) ≡ sum_of (map f (from i n)) + f (i + n)
sum_last f zero i = let e : f (i + 0) ≡ f i = ap f (omega arith) in omega (arith, e)
sum_last f (suc n) i = let e : f (suc i + n) ≡ f (i + suc n) = ap f (omega arith) in let h = sum_last f n (suc i) in omega (arith, e, h)

-- the lengths of one own list more
pub walked_step : (f : ℕ → ℕ) (n l k : ℕ) → n ≡ sum_of (map f (from 0 l)) → k ≡ f l → n + k ≡ sum_of (map f (from 0 (l + 1)))
walked_step f n l k e q =
    let a = sum_last f l 0 in
    let b : f (0 + l) ≡ f l = ap f (omega arith) in
    let d : l + 1 ≡ suc l = omega arith in
    let c : sum_of (map f (from 0 (l + 1))) ≡ sum_of (map f (from 0 (suc l))) = ap (λ (m : ℕ). sum_of (map f (from 0 m))) d in
    omega (arith, a, b, c, e, q)

-- the lengths of all
pub walked_live : (M : Meaning) (n l : ℕ) → n ≡ sum_of (map (λ k. length (M.own k)) (from 0 l)) → l ≡ 2048 → n ≡ live_clauses M
unfolding live_clauses
walked_live M n l e q = e ∙ ap (λ (m : ℕ). sum_of (map (λ k. length (M.own k)) (from 0 m))) q
