-- The steps of a signature, and its tests. Assumes nothing.
use Rattle.std.proofs.Common.{◌≡◌, ℕ, ◌+◌, ◌-◌, ◌*◌, ◌%◌, ◌^◌, ◌<◌, ◌≤◌, Bool, false, ltb, leb, List, length, get_or, drop, None, sym, ap, ◌∙◌, subst, arith, fold}
use lib.Bits.{bit_or}
use Rattle.std.proofs.lemmas.Nat.{one_shl}
use Rattle.std.proofs.lemmas.List.{at_drop_more, at_drop_all}
use Rattle.std.proofs.lemmas.Bool.{cond-true, cond-false, lt-ltb, le-ltb, leb-false}
use Rattle.network.specs.Signature.{place, low, high, signature, Covers, within, missing}
use Rattle.network.specs.Subsumption.{part_of, fits}
use Rattle.network.proofs.Spared.{part_spared, fit_spared}

-- ---- one turn of the loop, at the literal at i

module _ (f : ℕ → ℕ → ℕ) (C : List ℕ) (i n : ℕ) where
  pub added_more : (m : ℕ) → i < length C → m ≡ f n (get_or C i 0) → fold f n (drop i C) ≡ fold f 0 C → fold f m (drop (i + 1) C) ≡ fold f 0 C
  added_more m h is e = ap (λ k. fold f k (drop (i + 1) C)) is ∙ sym (at_drop_more (fold f n) C i 0 h) ∙ e

  pub added_all : length C ≤ i → fold f n (drop i C) ≡ fold f 0 C → n ≡ fold f 0 C
  added_all h e = sym (at_drop_all (fold f n) C i h) ∙ e

module _ (n m l : ℕ) where
  pub low_set : place l < 64 → m ≡ bit_or n ((1 * 2 ^ place l) % 2 ^ 64) → m ≡ low n l
  low_set h e = e ∙ ap (bit_or n) (one_shl (place l) 64 h) ∙ sym (cond-true (ltb (place l) 64) _ _ (lt-ltb (place l) 64 h))

  pub low_kept : 64 ≤ place l → m ≡ n → m ≡ low n l
  low_kept h e = e ∙ sym (cond-false (ltb (place l) 64) _ _ (le-ltb (place l) 64 h))

  pub high_set : 64 ≤ place l → m ≡ bit_or n ((1 * 2 ^ (place l - 64)) % 2 ^ 64) → m ≡ high n l
  high_set h e =
      let below : place l - 64 < 64 = omega arith in
      e ∙ ap (bit_or n) (one_shl (place l - 64) 64 below) ∙ sym (cond-false (ltb (place l) 64) _ _ (le-ltb (place l) 64 h))

  pub high_kept : place l < 64 → m ≡ n → m ≡ high n l
  high_kept h e = e ∙ sym (cond-true (ltb (place l) 64) _ _ (lt-ltb (place l) 64 h))

-- ---- the tests

pub spares_part : (s t : ℕ × ℕ) (r : Bool) → r ≡ within s t → (C D : List ℕ) → signature C ≡ s → Covers t D → r ≡ false → part_of C D ≡ false
spares_part s t r e C D q c h = part_spared C D t c (ap (λ u. within u t) q ∙ sym e ∙ h)

pub spares_fit : (s t : ℕ × ℕ) (r : Bool) → r ≡ leb (missing s t) 1 → (C D : List ℕ) → signature C ≡ s → Covers t D → r ≡ false → fits C D ≡ (false, None)
spares_fit s t r e C D q c h = fit_spared C D t c (subst (λ u. 1 < missing u t) (sym q) (leb-false (missing s t) 1 (sym e ∙ h)))
