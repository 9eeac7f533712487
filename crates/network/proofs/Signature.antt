-- The bits of a signature, and what two signatures tell of their clauses. Assumes nothing.
use Rattle.std.proofs.Common.{◌≡◌, ℕ, zero, suc, ◌+◌, ◌-◌, ◌*◌, ◌/◌, ◌%◌, ◌^◌, ◌<◌, ◌≤◌, min, max, Bool, true, false, cond, not, ◌&&◌, ◌||◌, eqb, ltb, ◌⊎◌, ◌↔◌, List, [], ◌∷◌, sym, refl, ap, ◌∙◌, subst, inl, inr, ⊎_elim, one-mul, mul-div_cancel, arith, fold}
use Rattle.std.specs.List.{list_any}
use native.Mathlib.Nat.{div-eq_of_lt}
use lib.Arith.{bin_ind}
use lib.Bits.{bit_and, bit_or, and_step, or_step, or_shr, and_self}
use lib.Count.{ones, ones_step, ones_cat}
use Rattle.std.proofs.lemmas.Nat.{pow_pos, pow-add, pow_below, shr-shr}
use Rattle.std.proofs.lemmas.Bool.{eq-eqb, ne_eqb, cases_order, cases_eq, cases_lt, lt-ltb, le-ltb, cond-true, cond-false, and_from}
use Rattle.std.proofs.lemmas.Bool.Decides.{nat_tests}
use Rattle.network.specs.Lists.{In}
use Rattle.network.specs.Clauses.{Subsumes}
use Rattle.network.specs.Signature.{place, bit, low, high, signature, bit_at, Covers, within, missing}
use Rattle.network.proofs.Lists.{any_from, any_some}

-- ---- bits

pub bit_of_or : (a b j : ℕ) → bit (bit_or a b) j ≡ max (bit a j) (bit b j)
bit_of_or a b j =
    ap (λ n. n % 2) (or_shr a b j ∙ or_step (a / 2 ^ j) (b / 2 ^ j)) ∙ digit (bit_or (a / 2 ^ j / 2) (b / 2 ^ j / 2)) (a / 2 ^ j) (b / 2 ^ j)
  where
    digit : (q x y : ℕ) → (q * 2 + max (x % 2) (y % 2)) % 2 ≡ max (x % 2) (y % 2)
    digit q x y = omega arith

pub bit_pow : (k j : ℕ) → bit (2 ^ k) j ≡ cond (eqb k j) 1 0
bit_pow k j =
    ⊎_elim
    (λ e. ap (λ m. bit (2 ^ m) j) e ∙ ap (λ n. n % 2) (ap (λ n. n / 2 ^ j) (sym (one-mul (2 ^ j))) ∙ mul-div_cancel 1 (pow_pos j)) ∙ sym (cond-true (eqb k j) 1 0 (eq-eqb k j e)))
    (⊎_elim
    (λ h. ap (λ n. n % 2) (div-eq_of_lt (pow_below k j h)) ∙ sym (cond-false (eqb k j) 1 0 (ne_eqb k j (λ e. omega arith))))
    (λ h.
    let d = k - j - 1 in
    let split : k ≡ (d + 1) + j = omega arith in
    let shifted : 2 ^ k / 2 ^ j ≡ 2 ^ d * 2 = ap (λ m. 2 ^ m / 2 ^ j) split ∙ ap (λ n. n / 2 ^ j) (pow-add 2 (d + 1) j) ∙ mul-div_cancel (2 ^ (d + 1)) (pow_pos j) ∙ pow-add 2 d 1 in
    let even : 2 ^ k / 2 ^ j % 2 ≡ 0 = omega (arith, shifted) in
    even ∙ sym (cond-false (eqb k j) 1 0 (ne_eqb k j (λ e. omega arith)))))
    (cases_order k j)

bit_zero : (j : ℕ) → bit 0 j ≡ 0
bit_zero j = ap (λ n. n % 2) (div-eq_of_lt (pow_pos j))

bit_suc : (n j : ℕ) → bit (n / 2) j ≡ bit n (1 + j)
bit_suc n j = ap (λ m. m % 2) (shr-shr n 1 j)

-- a has no bit that b lacks
pub and_from_bits : (a b : ℕ) → ((j : ℕ) → bit a j ≤ bit b j) → bit_and a b ≡ a
and_from_bits =
    bin_ind (λ a. (b : ℕ) → ((j : ℕ) → bit a j ≤ bit b j) → bit_and a b ≡ a) (λ b h. refl)
    (λ a ih b h.
    let halves : bit_and (a / 2) (b / 2) ≡ a / 2 = ih (b / 2) (λ j. omega (arith, bit_suc a j, bit_suc b j, h (1 + j))) in
    let last : a % 2 ≤ b % 2 = omega (arith, h 0) in
    and_step a b ∙ ap (λ n. n * 2 + min (a % 2) (b % 2)) halves ∙ omega arith)

-- a has no bit that b lacks, but for bit k
but_one_bit : (k a b : ℕ) → ((j : ℕ) → (j ≡ k → ⊥) → bit a j ≤ bit b j) → (a ≡ bit_and a b) ⊎ (a ≡ bit_and a b + 2 ^ k)
but_one_bit zero a b h =
    let halves : bit_and (a / 2) (b / 2) ≡ a / 2 = and_from_bits (a / 2) (b / 2) (λ j. omega (arith, bit_suc a j, bit_suc b j, h (1 + j) (λ e. omega arith))) in
    let step : bit_and a b ≡ (a / 2) * 2 + min (a % 2) (b % 2) = and_step a b ∙ ap (λ n. n * 2 + min (a % 2) (b % 2)) halves in
    ⊎_elim (λ e. inl (omega (arith, step))) (λ e. inr (omega (arith, step))) (cases_eq (min (a % 2) (b % 2)) (a % 2))
but_one_bit (suc k) a b h =
    let last : a % 2 ≤ b % 2 = omega (arith, h 0 (λ e. omega arith)) in
    let step = and_step a b in
    ⊎_elim (λ e. inl (omega (arith, step, e))) (λ e. inr (omega (arith, step, e, pow-add 2 k 1)))
    (but_one_bit k (a / 2) (b / 2) (λ j n. omega (arith, bit_suc a j, bit_suc b j, h (1 + j) (λ e. n (omega arith)))))

pub ones_zero : ones 0 ≡ 0
unfolding ones
ones_zero = refl

ones_pow : (k : ℕ) → ones (2 ^ k) ≡ 1
unfolding ones
ones_pow k = ap ones (omega arith) ∙ ones_cat k 1 0 (pow_pos k)

-- so that at most one bit is missing
at_most_one : (k a b : ℕ) → ((j : ℕ) → (j ≡ k → ⊥) → bit a j ≤ bit b j) → ones (a - bit_and a b) ≤ 1
at_most_one k a b h = grind (arith, nat_tests, ones_zero, ones_pow k, but_one_bit k a b h)

none_missing : (a b : ℕ) → ((j : ℕ) → bit a j ≤ bit b j) → ones (a - bit_and a b) ≡ 0
none_missing a b h = ap ones {y = 0} (let e = and_from_bits a b h in omega arith) ∙ ones_zero

-- the lowest bit taken from a number
pub ones_lowest : (m : ℕ) → ones (bit_and m (m - 1)) ≡ ones m - 1
unfolding ones
ones_lowest =
    bin_ind (λ m. ones (bit_and m (m - 1)) ≡ ones m - 1) refl
    (λ m ih. ⊎_elim (λ e. odd m e) (λ e. even m (omega arith) ih) (cases_eq (m % 2) 1))
  where
    doubled : (n : ℕ) → ones (n * 2) ≡ ones n
    doubled n = let q : n * 2 / 2 ≡ n = omega arith in omega (arith, ones_step (n * 2), ap ones q)

    odd : (m : ℕ) → m % 2 ≡ 1 → ones (bit_and m (m - 1)) ≡ ones m - 1
    odd m e =
        let half : (m - 1) / 2 ≡ m / 2 = omega arith in
        let both : bit_and m (m - 1) ≡ (m / 2) * 2 = and_step m (m - 1) ∙ ap (λ n. bit_and (m / 2) n * 2 + min (m % 2) ((m - 1) % 2)) half ∙ ap (λ n. n * 2 + min (m % 2) ((m - 1) % 2)) (and_self (m / 2)) ∙ omega arith in
        omega (arith, ap ones both, doubled (m / 2), ones_step m)

    even : (m : ℕ) → m % 2 ≡ 0 → ones (bit_and (m / 2) (m / 2 - 1)) ≡ ones (m / 2) - 1 → ones (bit_and m (m - 1)) ≡ ones m - 1
    even m e ih =
        let half : (m - 1) / 2 ≡ m / 2 - 1 = omega arith in
        let both : bit_and m (m - 1) ≡ bit_and (m / 2) (m / 2 - 1) * 2 = and_step m (m - 1) ∙ ap (λ n. bit_and (m / 2) n * 2 + min (m % 2) ((m - 1) % 2)) half ∙ omega arith in
        omega (arith, ap ones both, doubled (bit_and (m / 2) (m / 2 - 1)), ih, ones_step m)

pub ones_none : (m : ℕ) → ones m ≡ 0 → m ≡ 0
ones_none =
    bin_ind (λ m. ones m ≡ 0 → m ≡ 0) (λ e. refl) (λ m ih e. let s = ones_step m in let h : m / 2 ≡ 0 = ih (omega arith) in omega arith)

-- ---- a fold that sets bits

or_max : (x y : Bool) → max (cond x 1 0) (cond y 1 0) ≡ cond (x || y) 1 0
or_max true true = refl
or_max true false = refl
or_max false true = refl
or_max false false = refl

module _ (f : ℕ → ℕ → ℕ) (p : ℕ → ℕ → Bool) (each : (n l j : ℕ) → bit (f n l) j ≡ max (bit n j) (cond (p j l) 1 0)) where
  bit_from : (n : ℕ) (C : List ℕ) (j : ℕ) → bit (fold f n C) j ≡ max (bit n j) (cond (list_any (p j) C) 1 0)
  bit_from n [] j = omega arith
  bit_from n (l ∷ C) j =
      bit_from (f n l) C j ∙ ap (λ b. max b (cond (list_any (p j) C) 1 0)) (each n l j) ∙ (omega (arith, or_max (p j l) (list_any (p j) C)))

  bit_added : (C : List ℕ) (j : ℕ) → bit (fold f 0 C) j ≡ cond (list_any (p j) C) 1 0
  bit_added C j = bit_from 0 C j ∙ ap (λ b. max b (cond (list_any (p j) C) 1 0)) (bit_zero j) ∙ omega arith

  -- each bit that is set is that of an element that passes, and each of those has its bit
  bit_some : (C : List ℕ) (j : ℕ) → (bit (fold f 0 C) j ≡ 0) ⊎ ((l : ℕ) × In l C × (p j l ≡ true) × (bit (fold f 0 C) j ≡ 1))
  bit_some C j = go (list_any (p j) C) refl
    where
      go : (b : Bool) → list_any (p j) C ≡ b → (bit (fold f 0 C) j ≡ 0) ⊎ ((l : ℕ) × In l C × (p j l ≡ true) × (bit (fold f 0 C) j ≡ 1))
      go false e = inl (bit_added C j ∙ ap (λ b. cond b 1 0) e)
      go true e = let (l, i, t) = any_some (p j) C e in inr (l, i, t, bit_added C j ∙ ap (λ b. cond b 1 0) e)

  bit_has : (C : List ℕ) (j l : ℕ) → In l C → p j l ≡ true → bit (fold f 0 C) j ≡ 1
  bit_has C j l i t = bit_added C j ∙ ap (λ b. cond b 1 0) (any_from (p j) C l i t)

-- ---- the two halves

abbrev in_low : ℕ → ℕ → Bool
in_low j l = ltb (place l) 64 && eqb (place l) j

abbrev in_high : ℕ → ℕ → Bool
in_high j l = not (ltb (place l) 64) && eqb (place l - 64) j

bit_low : (n l j : ℕ) → bit (low n l) j ≡ max (bit n j) (cond (in_low j l) 1 0)
bit_low n l j = grind (arith, nat_tests, place l, bit_of_or n (2 ^ place l) j, bit_pow (place l) j)

bit_high : (n l j : ℕ) → bit (high n l) j ≡ max (bit n j) (cond (in_high j l) 1 0)
bit_high n l j = grind (arith, nat_tests, place l, bit_of_or n (2 ^ (place l - 64)) j, bit_pow (place l - 64) j)

-- each bit of a half is that of a literal
low_some : (C : List ℕ) (j : ℕ) → (bit (signature C).0 j ≡ 0) ⊎ ((l : ℕ) × In l C × (place l < 64) × (place l ≡ j) × (bit (signature C).0 j ≡ 1))
low_some C j = ⊎_elim inl (λ (l, i, t, b). inr (l, i, grind (arith, nat_tests), grind (arith, nat_tests), b)) (bit_some low in_low bit_low C j)

high_some : (C : List ℕ) (j : ℕ) → (bit (signature C).1 j ≡ 0) ⊎ ((l : ℕ) × In l C × (64 ≤ place l) × (place l ≡ j + 64) × (bit (signature C).1 j ≡ 1))
high_some C j = ⊎_elim inl (λ (l, i, t, b). inr (l, i, grind (arith, nat_tests), grind (arith, nat_tests), b)) (bit_some high in_high bit_high C j)

-- and each literal has its bit
low_has : (C : List ℕ) (l : ℕ) → In l C → place l < 64 → bit (signature C).0 (place l) ≡ 1
low_has C l i h = bit_has low in_low bit_low C (place l) l i (grind (arith, nat_tests))

high_has : (C : List ℕ) (l : ℕ) → In l C → 64 ≤ place l → bit (signature C).1 (place l - 64) ≡ 1
high_has C l i h = bit_has high in_high bit_high C (place l - 64) l i (grind (arith, nat_tests))

at_low : (s : ℕ × ℕ) (j : ℕ) → j < 64 → bit_at s j ≡ bit s.0 j
at_low s j h = cond-true (ltb j 64) (bit s.0 j) (bit s.1 (j - 64)) (lt-ltb j 64 h)

at_high : (s : ℕ × ℕ) (j : ℕ) → 64 ≤ j → bit_at s j ≡ bit s.1 (j - 64)
at_high s j h = cond-false (ltb j 64) (bit s.0 j) (bit s.1 (j - 64)) (le-ltb j 64 h)

pub covers_own : (C : List ℕ) → Covers (signature C) C
covers_own C l i =
    ⊎_elim (λ h. at_low (signature C) (place l) h ∙ low_has C l i h) (λ h. at_high (signature C) (place l) h ∙ high_has C l i h) (cases_lt (place l) 64)

-- bit j is set just where a literal is j modulo 128
pub bits_exactly : (C : List ℕ) (j : ℕ) → j < 128 → (bit_at (signature C) j ≡ 1) ↔ ((l : ℕ) × In l C × (place l ≡ j))
bits_exactly C j h = (⊎_elim lower upper (cases_lt j 64), λ (l, i, e). subst (λ k. bit_at (signature C) k ≡ 1) e (covers_own C l i))
  where
    lower : j < 64 → bit_at (signature C) j ≡ 1 → (l : ℕ) × In l C × (place l ≡ j)
    lower p e = ⊎_elim (λ z. absurd (omega (arith, e, at_low (signature C) j p, z))) (λ (l, i, a, b, t). (l, i, b)) (low_some C j)

    upper : 64 ≤ j → bit_at (signature C) j ≡ 1 → (l : ℕ) × In l C × (place l ≡ j)
    upper p e = ⊎_elim (λ z. absurd (omega (arith, e, at_high (signature C) j p, z))) (λ (l, i, a, b, t). (l, i, omega arith)) (high_some C (j - 64))

-- ---- the filters

module _ (C D : List ℕ) (s : ℕ × ℕ) (c : Covers s D) where
  -- a literal of C whose bit s lacks does not stand in D
  low_below : (j : ℕ) → ((l : ℕ) → In l C → place l < 64 → place l ≡ j → In l D) → bit (signature C).0 j ≤ bit s.0 j
  low_below j h = ⊎_elim (λ z. omega arith)
      (λ (l, i, p, e, t). omega (arith, t, ap (bit s.0) e, at_low s (place l) p, c l (h l i p e))) (low_some C j)

  high_below : (j : ℕ) → ((l : ℕ) → In l C → place l ≡ j + 64 → In l D) → bit (signature C).1 j ≤ bit s.1 j
  high_below j h = ⊎_elim (λ z. omega arith)
      (λ (l, i, p, e, t). let q : place l - 64 ≡ j = omega arith in omega (arith, t, ap (bit s.1) q, at_high s (place l) p, c l (h l i e))) (high_some C j)

  -- where C is part of D, no bit is missing
  pub part_within : Subsumes C D → within (signature C) s ≡ true
  part_within h = grind (arith, nat_tests, and_from (eqb (bit_and (signature C).0 s.0) (signature C).0) (eqb (bit_and (signature C).1 s.1) (signature C).1), eq-eqb, and_from_bits (signature C).0 s.0, low_below, and_from_bits (signature C).1 s.1, high_below)

  -- where each literal but those of one bit stands in D, at most one bit is missing
  pub but_one_missing : (k : ℕ) → ((l : ℕ) → In l C → (place l ≡ k → ⊥) → In l D) → missing (signature C) s ≤ 1
  but_one_missing k h = grind (arith, nat_tests, at_most_one k (signature C).0 s.0, low_below, none_missing (signature C).1 s.1, high_below, none_missing (signature C).0 s.0, at_most_one (k - 64) (signature C).1 s.1, cases_lt k 64)
