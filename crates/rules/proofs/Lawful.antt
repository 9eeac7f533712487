-- Every change of a store keeps its meaning lawful. Assumes nothing.
use Rattle.std.proofs.Common.{◌≡◌, ℕ, zero, suc, ◌+◌, ◌-◌, ◌<◌, ◌≤◌, true, false, cond, not, ◌&&◌, ◌||◌, eqb, ltb, ◌⊎◌, List, [], ◌∷◌, ◌++◌, map, length, get_or, filter, sym, refl, ap, ◌∙◌, subst, inl, inr, ⊎_elim, arith}
use Rattle.std.specs.List.{list_any}
use Rattle.std.proofs.lemmas.Bool.{cases_eq, cases_lt, cases_Bool, cond_both, cond-true, cond-false, both_ways, and_parts, ltb-true}
use Rattle.std.proofs.lemmas.Bool.Decides.{nat_tests}
use Rattle.std.proofs.lemmas.List.Edits.{length-remove}
use Rattle.std.proofs.lemmas.List.{length-append}
use Rattle.network.specs.Lists.{In}
use Rattle.network.specs.Clauses.{has, last, front, without, well_formed}
use Rattle.network.proofs.Lists.{in_cases, map_in, any_none, has_in}
use Rattle.rules.specs.Store.{Ref, live, dead, Meaning, is_at, is_dead, from, literals, sum_of, how_many, live_clauses, kept_clauses, emptied, with_use, entered, moved_ref, removed, after_retired, referred, retired, shortened, filled, index_on, index_off, present, enterable, droppable}
use Rattle.rules.specs.Lawful.{Lawful}
use Rattle.rules.proofs.Places.{in_at, closed_in, set_in, retired_own, retired_apart, shortened_own, shortened_apart, shortened_length, part_at}
use Rattle.rules.proofs.Index.{live_lit, live_place, live_dead, at_is, removed_apart, removed_length, removed_origin, entered_cases, entered_own, old_stays, filled_named, filled_live, in_up_to}
use Rattle.rules.proofs.HowMany.{count_either, count_more, count_kept, count_map, count_none, count_append, count_one, sum_part}
use Rattle.rules.proofs.Once.{is_at_of, removed_once, index_once}
use Rattle.rules.proofs.Lives.{entered_kept, removed_kept, removed_part, retired_live, shortened_live}
use Rattle.rules.proofs.Formed.{Formed, formed_parts, parts_formed, front_below, front_dropped}

nil_is : {X : Type 0} (xs : List X) → ((x : X) → In x xs → ⊥) → xs ≡ []
nil_is [] h = refl
nil_is (x ∷ xs) h = absurd (h x (inl refl))

-- a list with a clause is that of a literal of a node up to 1,023
pub own_small : (M : Meaning) → Lawful M → (l i : ℕ) → i < length (M.own l) → l < 2048
own_small M L l i h =
    let C = get_or (M.own l) i [] in
    let j : In C (M.own l) = in_at (M.own l) i [] h in
    omega (arith, (formed_parts C (L.formed l C j)).small, L.placed l C j)

sum_has : (f : ℕ → ℕ) (n l : ℕ) → l < n → f l ≤ sum_of (map f (from 0 n))
sum_has f n l h = let p : f l + 0 ≤ sum_of (map f (from 0 n)) = sum_part f n 0 1 l (omega arith) (omega arith) in omega arith

live_has : (M : Meaning) (l : ℕ) → l < 2048 → length (M.own l) ≤ live_clauses M
unfolding live_clauses
live_has M l h = sum_has (λ k. length (M.own k)) 2048 l h

-- no own list has more clauses than there is room for
pub own_few : (M : Meaning) → Lawful M → (l : ℕ) → length (M.own l) ≤ M.room
own_few M L l =
    let w : live_clauses M + M.dead_clauses ≤ M.room = L.within in
    elim (cases_lt l 2048) [
      | inl h ↦ let p = live_has M l h in omega arith
      | inr g ↦ elim (cases_eq (length (M.own l)) 0) [ inl z ↦ omega arith | inr n ↦ absurd (let s = own_small M L l 0 (omega arith) in omega arith) ]
    ]

-- ## Entering

module _ (C : List ℕ) (M : Meaning) (L : Lawful M) (ok : enterable M C ≡ true) where
  fC : Formed C
  fC = formed_parts C (and_parts (well_formed C) (ltb (kept_clauses M) M.room) ok).0

  use_cases : (x : ℕ) (P : List Ref → Type 0) → (has x (front C) ≡ true → P (M.uses x ++ (live (last C) (length (M.own (last C))) ∷ []))) → P (M.uses x) → P ((entered C M).uses x)
  unfolding entered
  use_cases x P f p = cond_both (M.indexed && has x (front C)) (M.uses x ++ (live (last C) (length (M.own (last C))) ∷ [])) (M.uses x) P
      (λ e. f (and_parts M.indexed (has x (front C)) e).1) (λ e. p)

  entered_named : (x l i : ℕ) → In (live l i) ((entered C M).uses x) → i < length ((entered C M).own l)
  entered_named x l i = use_cases x (λ rs. In (live l i) rs → i < length ((entered C M).own l))
      (λ e h. ⊎_elim old (λ j. new (⊎_elim (λ q. q) absurd j)) (in_cases (live l i) (M.uses x) (live (last C) (length (M.own (last C))) ∷ []) h)) old
    where
      old : In (live l i) (M.uses x) → i < length ((entered C M).own l)
      old j = (old_stays M C l i (L.named x l i j)).0

      new : live l i ≡ live (last C) (length (M.own (last C))) → i < length ((entered C M).own l)
      new q = subst (λ g. i < length ((entered C M).own g)) (sym (live_lit l i (last C) (length (M.own (last C))) q))
          (omega (arith, live_place l i (last C) (length (M.own (last C))) q, ap length (entered_own M C), length-append (M.own (last C)) (C ∷ [])))

  entered_once : (x l i : ℕ) → how_many (is_at l i) ((entered C M).uses x) ≤ 1
  entered_once x l i = use_cases x (λ rs. how_many (is_at l i) rs ≤ 1)
      (λ e. ⊎_elim (λ z. omega (arith, count_append (is_at l i) (M.uses x) (live (last C) (length (M.own (last C))) ∷ []), z, L.once x l i))
      (λ (z, t). let (p, q) = at_is l i (last C) (length (M.own (last C))) t in
      omega (arith, count_append (is_at l i) (M.uses x) (live (last C) (length (M.own (last C))) ∷ []), z, fresh p q))
      (count_one (is_at l i) (live (last C) (length (M.own (last C))))))
      (L.once x l i)
    where
      fresh : last C ≡ l → length (M.own (last C)) ≡ i → how_many (is_at l i) (M.uses x) ≡ 0
      fresh p q = count_none (is_at l i) (M.uses x) (λ r h e. past (L.named x l i (subst (λ s. In s (M.uses x)) (is_at_of l i r e) h)))
        where
          past : i < length (M.own l) → ⊥
          past b = omega (arith, b, ap (λ g. length (M.own g)) p, q)

  entered_mourned : (x : ℕ) → how_many is_dead ((entered C M).uses x) ≤ M.dead_clauses
  unfolding how_many
  entered_mourned x = use_cases x (λ rs. how_many is_dead rs ≤ M.dead_clauses)
      (λ e. omega (arith, count_append is_dead (M.uses x) (live (last C) (length (M.own (last C))) ∷ []), L.mourned x)) (L.mourned x)

  entered_bounded : (x : ℕ) → 2048 ≤ x → (entered C M).uses x ≡ []
  entered_bounded x b = use_cases x (λ rs. rs ≡ []) (λ e. absurd (omega (arith, front_below C fC.order x (has_in x (front C) e), fC.small))) (L.bounded x b)

  entered_within : kept_clauses (entered C M) ≤ M.room
  entered_within = omega (arith, entered_kept C M, ltb-true (kept_clauses M) M.room (and_parts (well_formed C) (ltb (kept_clauses M) M.room) ok).1)

  pub entered_lawful : Lawful (entered C M)
  entered_lawful = record {
    formed = λ l E h. ⊎_elim (L.formed l E) (λ (q, e). ap well_formed q ∙ (and_parts (well_formed C) (ltb (kept_clauses M) M.room) ok).0) (entered_cases M C l E h);
    placed = λ l E h. ⊎_elim (L.placed l E) (λ (q, e). ap last q ∙ sym e) (entered_cases M C l E h);
    bounded = entered_bounded;
    named = entered_named;
    once = entered_once;
    mourned = unfold entered in entered_mourned;
    within = unfold entered in entered_within;
    unindexed = λ e. ((λ x. off x (unfold entered in e)), unfold entered in (L.unindexed e).1);
  }
    where
      off : (x : ℕ) → M.indexed ≡ false → (entered C M).uses x ≡ []
      off x e = unfold entered in (ap (λ b. with_use (b && has x (front C)) (M.uses x) (live (last C) (length (M.own (last C))))) e ∙ (L.unindexed e).0 x)

-- ## Removing

module _ (l i : ℕ) (M : Meaning) (L : Lawful M) (li : i < length (M.own l)) where
  -- the place of a ref after the removal is there
  moved_there : (a b k j : ℕ) → b < length (M.own a) → is_at l i (live a b) ≡ false → live k j ≡ moved_ref l (length (M.own l) - 1) i (live a b) → j < length ((removed l i M).own k)
  moved_there a b k j lb f e = grind (arith, nat_tests, removed_length M l i, removed_apart M l i a)

  removed_named : (x k j : ℕ) → In (live k j) ((removed l i M).uses x) → j < length ((removed l i M).own k)
  removed_named x k j h = go (removed_origin M l i x (live k j) h)
    where
      go : (r : Ref) × In r (M.uses x) × (is_at l i r ≡ false) × (live k j ≡ moved_ref l (length (M.own l) - 1) i r) → j < length ((removed l i M).own k)
      go (dead, o, f, e) = absurd (live_dead k j e)
      go (live a b, o, f, e) = moved_there a b k j (L.named x a b o) f e

  removed_mourned : (x : ℕ) → how_many is_dead ((removed l i M).uses x) ≤ M.dead_clauses
  unfolding removed
  removed_mourned x = grind (arith, nat_tests, count_map is_dead (moved_ref l (length (M.own l) - 1) i), count_more, count_kept is_dead, L.mourned x)

  none_left : (x : ℕ) → M.uses x ≡ [] → (removed l i M).uses x ≡ []
  unfolding removed
  none_left x e = ap (λ rs. map (moved_ref l (length (M.own l) - 1) i) (filter (λ r. not (is_at l i r)) rs)) e

  removed_within : kept_clauses (removed l i M) ≤ M.room
  removed_within = omega (arith, removed_kept M l i, L.within)

  pub removed_lawful : Lawful (removed l i M)
  removed_lawful = record {
    formed = λ k E h. L.formed k E (removed_part M l i k E h);
    placed = λ k E h. L.placed k E (removed_part M l i k E h);
    bounded = λ x b. none_left x (L.bounded x b);
    named = removed_named;
    once = removed_once M l i L.once;
    mourned = unfold removed in removed_mourned;
    within = unfold removed in removed_within;
    unindexed = λ e. let (u, d) = L.unindexed (unfold removed in e) in ((λ x. none_left x (u x)), unfold removed in d);
  }

-- ## Retiring

-- a ref once a place is retired
after_cases : (l i a b : ℕ)
    → ((a ≡ l) × (b ≡ i) × (after_retired l i (live a b) ≡ dead)) ⊎ (((a ≡ l) × (i < b) × (after_retired l i (live a b) ≡ live a (b - 1))) ⊎ ((a ≡ l → b < i) × (after_retired l i (live a b) ≡ live a b)))
after_cases l i a b = grind (arith, nat_tests, cases_lt i b, cases_eq b i, cases_eq a l)

module _ (l i : ℕ) (M : Meaning) (L : Lawful M) (li : i < length (M.own l)) where
  retired_here : (k : ℕ) (E : List ℕ) → In E ((retired l i M).own k) → In E (M.own k)
  retired_here = part_at M (retired l i M) l (retired_apart M l i) (λ E h. closed_in (M.own l) i E (subst (In E) (retired_own M l i) h))

  shorter : suc (length ((retired l i M).own l)) ≡ length (M.own l)
  shorter = omega (arith, ap length (retired_own M l i), length-remove (M.own l) i li)

  after_there : (a b k j : ℕ) → b < length (M.own a) → live k j ≡ after_retired l i (live a b) → j < length ((retired l i M).own k)
  after_there a b k j lb e = grind (arith, nat_tests, after_cases l i a b, retired_own M l i, retired_apart M l i a, shorter)

  retired_named : (x k j : ℕ) → In (live k j) ((retired l i M).uses x) → j < length ((retired l i M).own k)
  retired_named x k j h = go (origin h)
    where
      origin : In (live k j) ((retired l i M).uses x) → (r : Ref) × In r (M.uses x) × (live k j ≡ after_retired l i r)
      origin h = map_in (after_retired l i) (live k j) (M.uses x) (unfold retired in h)

      go : (r : Ref) × In r (M.uses x) × (live k j ≡ after_retired l i r) → j < length ((retired l i M).own k)
      go (dead, o, e) = absurd (live_dead k j e)
      go (live a b, o, e) = after_there a b k j (L.named x a b o) e

  -- the place that comes to k, j
  before : ℕ → ℕ → ℕ
  before k j = cond (eqb k l) (cond (ltb j i) j (suc j)) j

  before_is : (k j : ℕ) (r : Ref) → is_at k j (after_retired l i r) ≡ true → is_at k (before k j) r ≡ true
  before_is k j dead e = absurd (both_ways false refl e)
  before_is k j (live a b) e = ⊎_elim (λ (p, q, w). absurd (both_ways false refl (ap (is_at k j) (sym w) ∙ e)))
      (⊎_elim (λ (p, q, w). let (s, t) = at_is k j a (b - 1) (ap (is_at k j) (sym w) ∙ e) in later p q s t)
      (λ (f, w). let (s, t) = at_is k j a b (ap (is_at k j) (sym w) ∙ e) in same f s t)) (after_cases l i a b)
    where
      later : a ≡ l → i < b → a ≡ k → b - 1 ≡ j → is_at k (before k j) (live a b) ≡ true
      later p q s t = unfold before in (grind (arith, nat_tests))

      same : (a ≡ l → b < i) → a ≡ k → b ≡ j → is_at k (before k j) (live a b) ≡ true
      same f s t = unfold before in (⊎_elim (λ p. near p (f p) s t) (λ p. far p s t) (cases_eq a l))
        where
          near : a ≡ l → b < i → a ≡ k → b ≡ j → is_at k (cond (eqb k l) (cond (ltb j i) j (suc j)) j) (live a b) ≡ true
          near p q s t = grind (arith, nat_tests)

          far : (a ≡ l → ⊥) → a ≡ k → b ≡ j → is_at k (cond (eqb k l) (cond (ltb j i) j (suc j)) j) (live a b) ≡ true
          far p s t = grind (arith, nat_tests)

  retired_once : (x k j : ℕ) → how_many (is_at k j) ((retired l i M).uses x) ≤ 1
  unfolding retired
  retired_once x k j = grind (arith, nat_tests, count_map (is_at k j) (after_retired l i) (M.uses x), count_more, before k j, before_is k j, L.once x k (before k j))

  dead_after : (r : Ref) → is_dead (after_retired l i r) ≡ true → (is_dead r ≡ true) ⊎ (is_at l i r ≡ true)
  dead_after dead e = inl refl
  dead_after (live a b) e = grind (arith, nat_tests)

  -- a literal that refers to the place, if the store has none
  unreferred : (x : ℕ) → referred M l i ≡ false → how_many (is_at l i) (M.uses x) ≡ 0
  unreferred x f = ⊎_elim
      (λ b. count_none (is_at l i) (M.uses x) (λ r h e. both_ways (is_at l i r) (any_none (is_at l i) (M.uses x) (any_none (λ x. list_any (is_at l i) (M.uses x)) literals f x (in_up_to 2048 x b)) r h) e))
      (λ b. ap (how_many (is_at l i)) (L.bounded x b) ∙ unfold how_many in refl) (cases_lt x 2048)

  retired_mourned : (x : ℕ) → how_many is_dead ((retired l i M).uses x) ≤ cond (referred M l i) (suc M.dead_clauses) M.dead_clauses
  unfolding retired
  retired_mourned x =
      let s = count_either (λ r. is_dead (after_retired l i r)) is_dead (is_at l i) (M.uses x) (λ r h. dead_after r) in
      let q = count_map is_dead (after_retired l i) (M.uses x) in
      cond_both (referred M l i) (suc M.dead_clauses) M.dead_clauses (λ n. how_many is_dead (map (after_retired l i) (M.uses x)) ≤ n)
      (λ e. omega (arith, s, q, L.mourned x, L.once x l i)) (λ e. omega (arith, s, q, L.mourned x, unreferred x e))

  none_retired : (x : ℕ) → M.uses x ≡ [] → (retired l i M).uses x ≡ []
  unfolding retired
  none_retired x e = ap (map (after_retired l i)) e

  retired_within : kept_clauses (retired l i M) ≤ M.room
  retired_within =
      let d : (retired l i M).dead_clauses ≤ suc M.dead_clauses = unfold retired in (cond_both (referred M l i) (suc M.dead_clauses) M.dead_clauses (λ n. n ≤ suc M.dead_clauses) (λ e. omega arith) (λ e. omega arith)) in
      omega (arith, retired_live M l i (own_small M L l i li) li, d, L.within)

  pub retired_lawful : Lawful (retired l i M)
  retired_lawful = record {
    formed = λ k E h. L.formed k E (retired_here k E h);
    placed = λ k E h. L.placed k E (retired_here k E h);
    bounded = λ x b. none_retired x (L.bounded x b);
    named = retired_named;
    once = retired_once;
    mourned = unfold retired in retired_mourned;
    within = unfold retired in retired_within;
    unindexed = λ e. let (u, d) = L.unindexed (unfold retired in e) in ((λ x. none_retired x (u x)), unfold retired in (no_dead u d));
  }
    where
      no_ref : ((x : ℕ) → M.uses x ≡ []) → (xs : List ℕ) → list_any (λ x. list_any (is_at l i) (M.uses x)) xs ≡ false
      no_ref u [] = refl
      no_ref u (x ∷ xs) = ap (λ rs. list_any (is_at l i) rs || list_any (λ x. list_any (is_at l i) (M.uses x)) xs) (u x) ∙ no_ref u xs

      no_dead : ((x : ℕ) → M.uses x ≡ []) → M.dead_clauses ≡ 0 → cond (referred M l i) (suc M.dead_clauses) M.dead_clauses ≡ 0
      no_dead u d = ap (λ b. cond b (suc M.dead_clauses) M.dead_clauses) (no_ref u literals) ∙ d

-- ## Shortening

module _ (l i x : ℕ) (M : Meaning) (L : Lawful M) (ok : droppable M l i x ≡ true) where
  there : i < length (M.own l)
  there = ltb-true i (length (M.own l)) (and_parts (present M l i) (has x (front (get_or (M.own l) i []))) ok).0

  in_front : In x (front (get_or (M.own l) i []))
  in_front = has_in x (front (get_or (M.own l) i [])) (and_parts (present M l i) (has x (front (get_or (M.own l) i []))) ok).1

  dropped : Formed (without x (get_or (M.own l) i [])) × (last (without x (get_or (M.own l) i [])) ≡ last (get_or (M.own l) i []))
  dropped = front_dropped x (get_or (M.own l) i []) (formed_parts (get_or (M.own l) i []) (L.formed l (get_or (M.own l) i []) (in_at (M.own l) i [] there))) in_front

  short_cases : (k : ℕ) (E : List ℕ) → In E ((shortened l i x M).own k) → In E (M.own k) ⊎ ((E ≡ without x (get_or (M.own l) i [])) × (k ≡ l))
  short_cases k E h = ⊎_elim
      (λ e. ⊎_elim (λ j. inl (subst (λ g. In E (M.own g)) (sym e) j)) (λ q. inr (q, e)) (set_in (M.own l) i (without x (get_or (M.own l) i [])) E (subst (In E) (shortened_own M l i x) (subst (λ g. In E ((shortened l i x M).own g)) e h))))
      (λ a. inl (subst (In E) (shortened_apart M l i x k a) h)) (cases_eq k l)

  shortened_within : kept_clauses (shortened l i x M) ≤ M.room
  shortened_within = let d : (shortened l i x M).dead_clauses ≡ M.dead_clauses = unfold shortened in refl in omega (arith, shortened_live M l i x, d, L.within)

  pub shortened_lawful : Lawful (shortened l i x M)
  shortened_lawful = record {
    formed = λ k E h. ⊎_elim (L.formed k E) (λ (q, e). ap well_formed q ∙ parts_formed (without x (get_or (M.own l) i [])) dropped.0) (short_cases k E h);
    placed = λ k E h. ⊎_elim (L.placed k E) (λ (q, e). ap last q ∙ dropped.1 ∙ L.placed l (get_or (M.own l) i []) (in_at (M.own l) i [] there) ∙ sym e) (short_cases k E h);
    bounded = unfold shortened in L.bounded;
    named = λ y k j h. subst (λ n. j < n) (sym (shortened_length M l i x k)) (L.named y k j (unfold shortened in h));
    once = unfold shortened in L.once;
    mourned = unfold shortened in L.mourned;
    within = unfold shortened in shortened_within;
    unindexed = unfold shortened in L.unindexed;
  }

-- ## The index

module _ (M : Meaning) (L : Lawful M) where
  index_is : M.indexed ≡ false → index_on M ≡ filled M
  unfolding index_on
  index_is = cond-false M.indexed M (filled M)

  index_stays : M.indexed ≡ true → index_on M ≡ M
  unfolding index_on
  index_stays = cond-true M.indexed M (filled M)

  no_far_use : (x : ℕ) → 2048 ≤ x → (r : Ref) → In r ((filled M).uses x) → ⊥
  no_far_use x b dead h = filled_live M x h
  no_far_use x b (live l i) h =
      let (li, f) = filled_named M x l i h in
      let F = formed_parts (get_or (M.own l) i []) (L.formed l (get_or (M.own l) i []) (in_at (M.own l) i [] li)) in
      omega (arith, front_below (get_or (M.own l) i []) F.order x f, F.small)

  indexed_within : kept_clauses (filled M) ≤ M.room
  unfolding live_clauses
  indexed_within = sums (sum_of (map (λ l. length (M.own l)) literals)) M.dead_clauses M.room L.within
    where
      sums : (a d r : ℕ) → a + d ≤ r → a + 0 ≤ r
      sums a d r p = omega arith

  indexed_lawful : M.indexed ≡ false → Lawful (filled M)
  indexed_lawful off = record {
    formed = L.formed;
    placed = L.placed;
    bounded = λ x b. nil_is ((filled M).uses x) (no_far_use x b);
    named = λ x l i h. (filled_named M x l i h).0;
    once = subst (λ N. (x l i : ℕ) → how_many (is_at l i) (N.uses x) ≤ 1) (index_is off) (index_once M off);
    mourned = λ x. omega (arith, count_none is_dead ((filled M).uses x) (λ r h e. filled_live M x (subst (λ s. In s ((filled M).uses x)) (is_dead_of r e) h)));
    within = indexed_within;
    unindexed = λ e. absurd (both_ways true e refl);
  }
    where
      is_dead_of : (r : Ref) → is_dead r ≡ true → r ≡ dead
      is_dead_of dead e = refl
      is_dead_of (live a b) e = absurd (both_ways false refl e)

  pub index_on_lawful : Lawful (index_on M)
  index_on_lawful = ⊎_elim (λ on. subst Lawful (sym (index_stays on)) L) (λ off. subst Lawful (sym (index_is off)) (indexed_lawful off)) (cases_Bool M.indexed)

  pub index_on_room : (index_on M).room ≡ M.room
  index_on_room = ⊎_elim (λ on. ap (λ N. N.room) (index_stays on)) (λ off. ap (λ N. N.room) (index_is off)) (cases_Bool M.indexed)

  unindexed_within : kept_clauses (index_off M) ≤ M.room
  unfolding index_off live_clauses
  unindexed_within = sums (sum_of (map (λ l. length (M.own l)) literals)) M.dead_clauses M.room L.within
    where
      sums : (a d r : ℕ) → a + d ≤ r → a + 0 ≤ r
      sums a d r p = omega arith

  pub index_off_lawful : Lawful (index_off M)
  index_off_lawful = record {
    formed = unfold index_off in L.formed;
    placed = unfold index_off in L.placed;
    bounded = λ x b. unfold index_off in refl;
    named = λ x l i h. absurd (unfold index_off in h);
    once = λ x l i. unfold index_off how_many in (omega arith);
    mourned = λ x. unfold index_off how_many in (omega arith);
    within = unfold index_off in unindexed_within;
    unindexed = λ e. unfold index_off in ((λ x. refl), refl);
  }

none_live : (n i : ℕ) → sum_of (map (λ (l : ℕ). length {A = List ℕ} []) (from i n)) ≡ 0
none_live zero i = refl
none_live (suc n) i = omega (arith, none_live n (suc i))

pub emptied_none : (M : Meaning) → kept_clauses (emptied M) ≡ 0
unfolding live_clauses
emptied_none M = omega (arith, none_live 2048 0)

pub emptied_lawful : (M : Meaning) → Lawful (emptied M)
emptied_lawful M = record {
  formed = λ l C h. absurd h;
  placed = λ l C h. absurd h;
  bounded = λ x b. refl;
  named = λ x l i h. absurd h;
  once = λ x l i. unfold how_many in (omega arith);
  mourned = λ x. unfold how_many in (omega arith);
  within = omega (arith, emptied_none M);
  unindexed = λ e. ((λ x. refl), refl);
}
