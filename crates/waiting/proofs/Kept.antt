-- The counts stay those of a store, as a clause goes and comes. Assumes nothing.
use Rattle.std.proofs.Common.{◌≡◌, ℕ, ◌+◌, ◌-◌, ◌^◌, ◌<◌, ◌≤◌, Bool, true, cond, not, min, eqb, List, [], ◌∷◌, length, get_or, filter, sym, refl, ap, ◌∙◌, subst, ⊎_elim, arith}
use Rattle.std.proofs.lemmas.Bool.{cases_Bool, cases_lt, cases_eq, both_ways, eq-eqb, eqb-true, cond-true, cond-false}
use Rattle.std.proofs.lemmas.Bool.Decides.{nat_tests}
use Rattle.std.proofs.lemmas.List.{length-map, length-append, get_or_past}
use Rattle.network.specs.Lists.{In}
use Rattle.network.specs.Clauses.{Rising, has, last, front, well_formed}
use Rattle.network.proofs.Lists.{any_from, has_in}
use Rattle.network.proofs.Ordered.{ordered_rising}
use Rattle.rules.specs.Index.{Indexed}
use Rattle.rules.specs.Lawful.{Lawful}
use Rattle.rules.specs.Store.{live, Meaning, is_at, how_many, count, moved_ref, removed, entered}
use Rattle.rules.proofs.Formed.{formed_parts}
use Rattle.rules.proofs.HowMany.{kept_length, count_none}
use Rattle.rules.proofs.Index.{is_here}
use Rattle.rules.proofs.Once.{is_at_of}
use Rattle.rules.proofs.Passes.{counts_small}
use Rattle.rules.proofs.Places.{in_at}
use Rattle.rules.proofs.TakenOut.{front_in}
use Rattle.waiting.specs.Waits.{counts_of, times, Counting}
use Rattle.waiting.specs.declared.waiting.Waiting.{Waiting}

-- what passes a test is counted
counted_in : {X : Type 0} (p : X → Bool) (xs : List X) (x : X) → In x xs → p x ≡ true → 0 < how_many p xs
unfolding how_many
counted_in p [] x i t = absurd i
counted_in p (y ∷ xs) x i t = grind (arith, counted_in p xs x)

-- a literal stands once in a rising list, if it stands there
times_rising : (k : ℕ) (xs : List ℕ) → Rising xs → times k xs ≤ 1
unfolding how_many
times_rising k [] r = omega arith
times_rising k (x ∷ xs) (h, r) = ⊎_elim (λ e. let z = count_none (eqb k) xs (λ y i t. omega (arith, h y i, e, eqb-true k y t)) in grind (arith, z)) (λ ne. let z = times_rising k xs r in grind (arith, nat_tests, z, ne)) (cases_eq k x)

times_is : (k : ℕ) (xs : List ℕ) → Rising xs → times k xs ≡ cond (has k xs) 1 0
times_is k xs r = ⊎_elim
    (λ t. let a = counted_in (eqb k) xs k (has_in k xs t) (eq-eqb k k refl) in omega (arith, a, times_rising k xs r, cond-true {A = ℕ} (has k xs) 1 0 t))
    (λ f. count_none (eqb k) xs (λ y h e. both_ways (has k xs) f (any_from (eqb k) xs y h e)) ∙ sym (cond-false (has k xs) 1 0 f)) (cases_Bool (has k xs))

front_rising : (C : List ℕ) → Rising C → Rising (front C)
front_rising [] r = tt
front_rising (x ∷ []) r = tt
front_rising (x ∷ y ∷ C) (h, r) = (λ z i. h z (front_in (y ∷ C) z i), front_rising (y ∷ C) r)

-- a use of k is there as often as k stands in the clause before its last place
module _ (M : Meaning) (I : Indexed M) (L : Lawful M) (l i : ℕ) (li : i < length (M.own l)) where
  C : List ℕ
  C = get_or (M.own l) i []

  use_times : (k : ℕ) → how_many (is_at l i) (M.uses k) ≡ times k (front C)
  unfolding C
  use_times k = ⊎_elim
      (λ t. let a = counted_in (is_at l i) (M.uses k) (live l i) (I.every k l i li (has_in k (front E) t)) (is_here l i) in omega (arith, a, L.once k l i, is, cond-true {A = ℕ} (has k (front E)) 1 0 t))
      (λ f. count_none (is_at l i) (M.uses k) (λ r h e. both_ways (has k (front E)) f (any_from (eqb k) (front E) k (I.named k l i (subst (λ s. In s (M.uses k)) (is_at_of l i r e) h)).1 (eq-eqb k k refl))) ∙ sym (is ∙ cond-false (has k (front E)) 1 0 f))
      (cases_Bool (has k (front E)))
    where
      E : List ℕ
      E = get_or (M.own l) i []

      is : times k (front E) ≡ cond (has k (front E)) 1 0
      is = times_is k (front E) (front_rising E (ordered_rising E (formed_parts E (L.formed l E (in_at (M.own l) i [] li))).order))

  uses_left : (k : ℕ) → length ((removed l i M).uses k) + how_many (is_at l i) (M.uses k) ≡ length (M.uses k)
  unfolding removed
  uses_left k = omega (arith, length-map (filter (λ r. not (is_at l i r)) (M.uses k)) (moved_ref l (length (M.own l) - 1) i), kept_length (is_at l i) (M.uses k))

  pub goes_counting : Lawful (removed l i M) → (top : ℕ) (v w : Waiting) → ((k : ℕ) → k < 2048 → counts_of w k ≡ counts_of v k - times k (front (get_or (M.own l) i []))) → Counting M top v → Counting (removed l i M) top w
  unfolding C
  goes_counting L' top v w e c k h = ⊎_elim (λ s. omega (arith, e k s, c k h, use_times k, uses_left k)) (λ s. get_or_past w.counts.now k 0 (omega (arith, w.many)) ∙ sym (ap length (L'.bounded k s))) (cases_lt k 2048)

-- a clause entered is a use of each of its literals but the last
module _ (M : Meaning) (I : Indexed M) (D : List ℕ) where
  use_more : Rising D → (k : ℕ) → count (entered D M) k ≡ count M k + times k (front D)
  unfolding entered
  use_more r k = let t = times_is k (front D) (front_rising D r) in grind (arith, I.on, t, length-append (M.uses k) (live (last D) (length (M.own (last D))) ∷ []))

  pub comes_counting : well_formed D ≡ true → M.room ≤ 4096 → Lawful (entered D M) → (top : ℕ) (v w : Waiting) → ((k : ℕ) → k < 2048 → counts_of w k ≡ min (counts_of v k + times k (front D)) (2 ^ 32 - 1)) → Counting M top v → Counting (entered D M) top w
  comes_counting f small L' top v w e c k h =
      ⊎_elim (λ s. let few = counts_small (entered D M) L' k in omega (arith, e k s, c k h, use_more (ordered_rising D (formed_parts D f).order) k, few, L'.within, room))
      (λ s. get_or_past w.counts.now k 0 (omega (arith, w.many)) ∙ sym (ap length (L'.bounded k s))) (cases_lt k 2048)
    where
      room : (entered D M).room ≤ 4096
      room = unfold entered in small
