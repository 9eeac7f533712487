-- No list of uses has a place twice. Assumes nothing.
use Rattle.std.proofs.Common.{◌≡◌, ℕ, zero, suc, ◌-◌, ◌<◌, ◌≤◌, true, false, cond, not, ◌⊎◌, List, [], ◌∷◌, length, filter, sym, refl, ap, ◌∙◌, subst, inl, ⊎_elim, arith, flat_map}
use Rattle.std.proofs.lemmas.Bool.{cases_eq, cases_Bool, both_ways, not-true}
use Rattle.network.specs.Lists.{In}
use Rattle.network.proofs.Lists.{kept_in}
use Rattle.rules.specs.Store.{Ref, live, dead, Meaning, is_at, from, how_many, moved_ref, removed, places, index_on, filled}
use Rattle.rules.proofs.Index.{at_is, is_here}
use Rattle.rules.proofs.HowMany.{count_more, count_kept, count_map, count_append}

-- each place is named once in a list of uses
abbrev pub Once : Meaning → Type 0
Once M = (x l i : ℕ) → how_many (is_at l i) (M.uses x) ≤ 1

-- a place that holds no ref twice
pub is_at_of : (l i : ℕ) (r : Ref) → is_at l i r ≡ true → r ≡ live l i
is_at_of l i dead e = absurd (both_ways false refl e)
is_at_of l i (live a b) e = let (p, q) = at_is l i a b e in ap (λ k. live k b) p ∙ ap (live l) q

pub removed_once : (M : Meaning) (l i : ℕ) → Once M → Once (removed l i M)
unfolding removed
removed_once M l i o x k j = subst (λ n. n ≤ 1) (sym (count_map (is_at k j) (moved_ref l (length (M.own l) - 1) i) ys)) (⊎_elim here there (cases_Bool (is_at l i (live k j))))
  where
    m : ℕ
    m = length (M.own l) - 1

    ys : List Ref
    ys = filter (λ r. not (is_at l i r)) (M.uses x)

    moved_cases : (r : Ref) → is_at k j (moved_ref l (length (M.own l) - 1) i r) ≡ true → ((is_at l (length (M.own l) - 1) r ≡ true) × (is_at l i (live k j) ≡ true)) ⊎ (is_at k j r ≡ true)
    moved_cases r e = grind (arith, at_is k j l i, is_here l i)

    here : is_at l i (live k j) ≡ true → how_many (λ r. is_at k j (moved_ref l (length (M.own l) - 1) i r)) ys ≤ 1
    here t =
        let h = count_more (λ r. is_at k j (moved_ref l (length (M.own l) - 1) i r)) (is_at l (length (M.own l) - 1)) ys
        (λ r h e. ⊎_elim (λ w. w.0) (λ w. absurd (not_here r h w)) (moved_cases r e)) in
        omega (arith, h, count_kept (is_at l (length (M.own l) - 1)) (λ r. not (is_at l i r)) (M.uses x), o x l (length (M.own l) - 1))
      where
        not_here : (r : Ref) → In r ys → is_at k j r ≡ true → ⊥
        not_here r h w = both_ways (is_at l i r) (not-true (is_at l i r) (kept_in (λ r. not (is_at l i r)) r (M.uses x) h).1) (ap (is_at l i) (is_at_of k j r w) ∙ t)

    there : is_at l i (live k j) ≡ false → how_many (λ r. is_at k j (moved_ref l (length (M.own l) - 1) i r)) ys ≤ 1
    there f =
        let h = count_more (λ r. is_at k j (moved_ref l (length (M.own l) - 1) i r)) (is_at k j) ys (λ r h e. ⊎_elim (λ w. absurd (both_ways (is_at l i (live k j)) f w.1)) (λ w. w) (moved_cases r e)) in
        omega (arith, h, count_kept (is_at k j) (λ r. not (is_at l i r)) (M.uses x), o x k j)

pub places_low : (x l : ℕ) (Cs : List (List ℕ)) (i k j : ℕ) → ((k ≡ l → ⊥) ⊎ (j < i)) → how_many (is_at k j) (places x l i Cs) ≡ 0
unfolding places how_many
places_low x l [] i k j h = refl
places_low x l (C ∷ Cs) i k j h = grind (arith, places_low x l Cs (suc i) k j, at_is k j l i)

pub places_once : (x l : ℕ) (Cs : List (List ℕ)) (i k j : ℕ) → how_many (is_at k j) (places x l i Cs) ≤ 1
unfolding places how_many
places_once x l [] i k j = omega arith
places_once x l (C ∷ Cs) i k j = grind (arith, places_once x l Cs (suc i) k j, at_is k j l i, places_low x l Cs (suc i) k j)

module _ (M : Meaning) (x : ℕ) where
  every : ℕ → List Ref
  every l = places x l 0 (M.own l)

  every_low : (m i k j : ℕ) → k < i → how_many (is_at k j) (flat_map every (from i m)) ≡ 0
  unfolding how_many every
  every_low zero i k j l = refl
  every_low (suc m) i k j l = omega (arith, count_append (is_at k j) (every i) (flat_map every (from (suc i) m)), places_low x i (M.own i) 0 k j (inl (λ e. omega arith)), every_low m (suc i) k j (omega arith))

  every_once : (m i k j : ℕ) → how_many (is_at k j) (flat_map every (from i m)) ≤ 1
  unfolding how_many every
  every_once zero i k j = omega arith
  every_once (suc m) i k j = ⊎_elim
      (λ e. omega (arith, count_append (is_at k j) (every i) (flat_map every (from (suc i) m)), places_once x i (M.own i) 0 k j, every_low m (suc i) k j (omega (arith, e))))
      (λ a. omega (arith, count_append (is_at k j) (every i) (flat_map every (from (suc i) m)), places_low x i (M.own i) 0 k j (inl a), every_once m (suc i) k j)) (cases_eq k i)

pub index_once : (M : Meaning) → M.indexed ≡ false → Once (index_on M)
unfolding index_on every
index_once M off = subst (λ b. Once (cond b M (filled M))) (sym off) (λ x k j. every_once M x 2048 0 k j)
