-- When clauses are too much. Assumes nothing.
use Rattle.std.proofs.Common.{◌≡◌, ℕ, zero, suc, ◌+◌, ◌<◌, ◌≤◌, Bool, true, false, ◌||◌, ◌⊎◌, List, [], ◌∷◌, ◌++◌, map, length, refl, inl, inr, ⊎_elim, arith, length-append}
use Rattle.std.specs.Prelude.{nat_lt}
use Rattle.std.specs.List.{list_any, range_with_len}
use Rattle.std.proofs.lemmas.Bool.Decides.{nat_tests}
use Rattle.std.proofs.lemmas.List.Folds.{list_any-append}
use Rattle.std.proofs.lemmas.List.FromFn.{length-map-range_with_len}
use Rattle.rules.specs.Bve.{greatest_length}
use Rattle.resolving.specs.Collected.{too_much}

either_more : (a b c d : Bool) → (c ≡ true → d ≡ true) → (a || c) ≡ true → (a || b || d) ≡ true
either_more true b c d f h = refl
either_more false true c d f h = refl
either_more false false c d f h = f h

-- with more clauses it stays too much
pub too_much_more : (m : ℕ) (Xs Ys : List (List ℕ)) → too_much m Xs ≡ true → too_much m (Xs ++ Ys) ≡ true
too_much_more m Xs Ys h =
    rw (list_any-append (λ R. nat_lt greatest_length (length R)) Xs Ys)
    (either_more (list_any (λ R. nat_lt greatest_length (length R)) Xs) (list_any (λ R. nat_lt greatest_length (length R)) Ys) (nat_lt m (length Xs)) (nat_lt m (length (Xs ++ Ys)))
    (λ e. let l = length-append Xs Ys in grind (arith, nat_tests)) h)

neither : (a b : Bool) → a ≡ false → b ≡ false → (a || b) ≡ false
neither a b e f = cc

none_long : (f : ℕ → List ℕ) (n a : ℕ) → ((k : ℕ) → k < a + n → length (f k) ≤ 32) → list_any (λ R. nat_lt greatest_length (length R)) (map f (range_with_len a n)) ≡ false
none_long f zero a h = refl
none_long f (suc n) a h =
    neither (nat_lt greatest_length (length (f a))) (list_any (λ R. nat_lt greatest_length (length R)) (map f (range_with_len (a + 1) n)))
    (let l = h a (omega arith) in grind (arith, nat_tests)) (none_long f n (a + 1) (λ k l. h k (omega arith)))

-- short clauses, and no more of them than may be, are not too much
pub fits : (m : ℕ) (f : ℕ → List ℕ) (n : ℕ) → ((k : ℕ) → k < n → length (f k) ≤ 32) → n ≤ m → too_much m (map f (range_with_len 0 n)) ≡ false
fits m f n short few =
    let Rs = map f (range_with_len 0 n) in
    let l = length-map-range_with_len f 0 n in
    neither (list_any (λ R. nat_lt greatest_length (length R)) Rs) (nat_lt m (length Rs)) (none_long f n 0 (λ k h. short k (omega arith))) (grind (arith, nat_tests))

last_true : (a b c : Bool) → (b ≡ true) ⊎ (c ≡ true) → (a || (b || false) || c) ≡ true
last_true true b c h = refl
last_true false true c h = refl
last_true false false c (inl h) = cc
last_true false false c (inr h) = h

-- a clause that is too long, or one too many, is too much
pub last_much : (m : ℕ) (Rs : List (List ℕ)) (R : List ℕ) → (32 < length R) ⊎ (m ≤ length Rs) → too_much m (Rs ++ (R ∷ [])) ≡ true
last_much m Rs R h =
    rw (list_any-append (λ S. nat_lt greatest_length (length S)) Rs (R ∷ []))
    (last_true (list_any (λ S. nat_lt greatest_length (length S)) Rs) (nat_lt greatest_length (length R)) (nat_lt m (length (Rs ++ (R ∷ []))))
    (⊎_elim (λ l. inl (grind (arith, nat_tests))) (λ l. inr (let e = length-append Rs (R ∷ []) in grind (arith, nat_tests))) h))
