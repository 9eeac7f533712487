-- Where the signatures differ too much, the walks need not be made. Assumes nothing.
use Rattle.std.proofs.Common.{◌≡◌, ℕ, ◌<◌, ◌≤◌, Bool, true, false, eqb, List, None, refl, ⊎_elim, arith}
use Rattle.std.specs.List.{list_all}
use Rattle.std.proofs.lemmas.Bool.{false_from_ne_true, both_ways, eq-eqb}
use Rattle.network.specs.Clauses.{has}
use Rattle.network.specs.Subsumption.{part_of, fits_but_one, fits}
use Rattle.network.specs.Signature.{place, signature, Covers, within, missing}
use Rattle.network.proofs.Lists.{any_from, all_at, all_not, has_in}
use Rattle.network.proofs.Fits.{part_found, found_two, refused}
use Rattle.network.proofs.Signature.{part_within, but_one_missing}

module _ (C D : List ℕ) (s : ℕ × ℕ) (c : Covers s D) where
  -- a bit is missing, so C is no part of D
  pub part_spared : within (signature C) s ≡ false → part_of C D ≡ false
  part_spared h = false_from_ne_true (part_of C D) (λ e. both_ways (within (signature C) s) h (part_within C D s c (part_found D C e)))

  few_missing : (fits_but_one C D).0 ≡ true → missing (signature C) s ≤ 1
  few_missing e = go (list_all (λ l. has l D) C) refl
    where
      go : (b : Bool) → list_all (λ l. has l D) C ≡ b → missing (signature C) s ≤ 1
      go true t = but_one_missing C D s c 0 (λ l i n. has_in l D (all_at (λ k. has k D) C t l i))
      go false t =
          let (l, i, h) = all_not (λ k. has k D) C t in
          but_one_missing C D s c (place l) (λ m j n. ⊎_elim (λ k. absurd (both_ways (has l D) h (any_from (eqb l) D l k (eq-eqb l l refl)))) (λ k. k) (found_two C D e l m i j (λ q. n (rw q))))

  -- two bits are missing, so C neither subsumes D nor strengthens it
  pub fit_spared : 1 < missing (signature C) s → fits C D ≡ (false, None)
  unfolding fits
  fit_spared h = refused (fits_but_one C D) (λ e. omega (arith, few_missing e))
