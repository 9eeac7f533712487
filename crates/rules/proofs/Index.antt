-- Changes of a store keep its index. Assumes nothing.
use Rattle.std.proofs.Common.{◌≡◌, ℕ, zero, suc, ◌+◌, ◌-◌, ◌<◌, ◌≤◌, true, false, ◌&&◌, eqb, ◌⊎◌, List, [], ◌∷◌, ◌++◌, map, length, get_or, set, sym, refl, ap, ◌∙◌, subst, inl, inr, ⊎_elim, arith}
use Rattle.std.specs.List.{swap_remove}
use Rattle.std.proofs.lemmas.Bool.{cases_eq, cases_lt, cases_Bool, cond-true, cond-false, not-true, not_from_false, eq-eqb}
use Rattle.std.proofs.lemmas.Bool.Decides.{nat_tests}
use Rattle.std.proofs.lemmas.List.{get_or-take, length-take-le, get_or-set_other, get_or-set_same, get_or_append_left, get_or_push, length-append, length-set}
use Rattle.network.specs.Lists.{In}
use Rattle.network.specs.Clauses.{has, last, front}
use Rattle.network.proofs.Lists.{in_left, in_right, in_cases, in_kept, kept_in, in_map, map_in, any_from, in_flat_map, flat_map_in, has_in}
use Rattle.rules.specs.Store.{Ref, live, dead, Meaning, is_at, from, up_to, literals, with_use, entered, moved_ref, removed, places, index_on, filled}
use Rattle.rules.specs.Index.{Indexed}
use Rattle.rules.proofs.Places.{in_at, changed_here, changed_apart}

module _ {X : Type 0} where
  pub swap_length : (d : X) (i : ℕ) (xs : List X) → length (swap_remove xs i d) ≡ length xs - 1
  swap_length d i xs = length-take-le (length xs - 1) (set xs i (get_or xs (length xs - 1) d)) (omega (arith, length-set xs i (get_or xs (length xs - 1) d)))

  pub swap_here : (d : X) (i : ℕ) (xs : List X) → i < length xs - 1 → get_or (swap_remove xs i d) i d ≡ get_or xs (length xs - 1) d
  swap_here d i xs l = get_or-take (length xs - 1) (set xs i (get_or xs (length xs - 1) d)) i d l ∙ get_or-set_same xs i (get_or xs (length xs - 1) d) d (omega arith)

  pub swap_other : (d : X) (i j : ℕ) (xs : List X) → j < length xs - 1 → (j ≡ i → ⊥) → get_or (swap_remove xs i d) j d ≡ get_or xs j d
  swap_other d i j xs l a = get_or-take (length xs - 1) (set xs i (get_or xs (length xs - 1) d)) j d l ∙ get_or-set_other xs i j (get_or xs (length xs - 1) d) d a

pub live_lit : (a b c d : ℕ) → live a b ≡ live c d → a ≡ c
live_lit a b c d e = cc

pub live_place : (a b c d : ℕ) → live a b ≡ live c d → b ≡ d
live_place a b c d e = cc

pub live_dead : (a b : ℕ) → live a b ≡ dead → ⊥
live_dead a b e = cc

pub at_is : (l i a b : ℕ) → is_at l i (live a b) ≡ true → (a ≡ l) × (b ≡ i)
at_is l i a b e = (grind (arith, nat_tests), grind (arith, nat_tests))

pub is_here : (l i : ℕ) → is_at l i (live l i) ≡ true
is_here l i = grind (arith, nat_tests)

pub at_not : (l i a b : ℕ) → ((a ≡ l) → (b ≡ i) → ⊥) → is_at l i (live a b) ≡ false
at_not l i a b h = ⊎_elim (λ t. absurd (h (at_is l i a b t).0 (at_is l i a b t).1)) (λ f. f) (cases_Bool (is_at l i (live a b)))

pub moved_here : (l m i a b : ℕ) → is_at l m (live a b) ≡ true → moved_ref l m i (live a b) ≡ live l i
moved_here l m i a b e = cond-true (is_at l m (live a b)) (live l i) (live a b) e

pub moved_not : (l m i a b : ℕ) → is_at l m (live a b) ≡ false → moved_ref l m i (live a b) ≡ live a b
moved_not l m i a b e = cond-false (is_at l m (live a b)) (live l i) (live a b) e

module _ (M : Meaning) (l i : ℕ) where
  pub removed_own : (removed l i M).own l ≡ swap_remove (M.own l) i []
  unfolding removed
  removed_own = changed_here M.own l (swap_remove (M.own l) i [])

  pub removed_apart : (k : ℕ) → (k ≡ l → ⊥) → (removed l i M).own k ≡ M.own k
  unfolding removed
  removed_apart k a = changed_apart M.own l (swap_remove (M.own l) i []) k a

  pub removed_length : length ((removed l i M).own l) ≡ length (M.own l) - 1
  removed_length = ap length removed_own ∙ swap_length [] i (M.own l)

  pub removed_origin : (x : ℕ) (s : Ref) → In s ((removed l i M).uses x) → (r : Ref) × In r (M.uses x) × (is_at l i r ≡ false) × (s ≡ moved_ref l (length (M.own l) - 1) i r)
  unfolding removed
  removed_origin x s h = grind (arith, nat_tests, map_in (moved_ref l (length (M.own l) - 1) i) s, kept_in, not-true)

  module _ (I : Indexed M) (li : i < length (M.own l)) where
    end : ℕ
    end = length (M.own l) - 1

    -- a use after the removal
    use_named : (x k j a b : ℕ) → In (live a b) (M.uses x) → is_at l i (live a b) ≡ false → live k j ≡ moved_ref l (length (M.own l) - 1) i (live a b)
        → (j < length ((removed l i M).own k)) × In x (front (get_or ((removed l i M).own k) j []))
    use_named x k j a b h f e = grind (arith, nat_tests, I.named x a b h, removed_own, removed_apart a, removed_length, swap_here [] i (M.own l), swap_other [] i b (M.own l), at_is l (length (M.own l) - 1) a b, cases_eq a l, moved_here l (length (M.own l) - 1) i a b, moved_not l (length (M.own l) - 1) i a b)

    -- a ref that stays
    use_stays : (x a b k j : ℕ) → In (live a b) (M.uses x) → is_at l i (live a b) ≡ false → moved_ref l (length (M.own l) - 1) i (live a b) ≡ live k j → In (live k j) ((removed l i M).uses x)
    unfolding removed
    use_stays x a b k j h f e = grind (arith, nat_tests, in_map (moved_ref l (length (M.own l) - 1) i) (live a b), in_kept, not_from_false (is_at l i (live a b)) f)

    use_every : (x k j : ℕ) → j < length ((removed l i M).own k) → In x (front (get_or ((removed l i M).own k) j [])) → In (live k j) ((removed l i M).uses x)
    use_every x k j lj h = grind (arith, nat_tests, removed_own, removed_apart k, removed_length, swap_here [] i (M.own l), swap_other [] i j (M.own l), I.every x k j, I.every x l (length (M.own l) - 1), use_stays x k j k j, use_stays x l (length (M.own l) - 1) l i, cases_eq k l, cases_eq j i, at_not l i k j, at_not l i l (length (M.own l) - 1), moved_here l (length (M.own l) - 1) i l (length (M.own l) - 1), is_here l (length (M.own l) - 1), moved_not l (length (M.own l) - 1) i k j, at_not l (length (M.own l) - 1) k j)

    pub removed_indexed : Indexed (removed l i M)
    removed_indexed = record { on = on'; named = λ x k j h. go x k j (removed_origin x (live k j) h); every = use_every; no_dead = λ x h. lost x (removed_origin x dead h) }
      where
        on' : (removed l i M).indexed ≡ true
        on' = unfold removed in I.on

        go : (x k j : ℕ) → (r : Ref) × In r (M.uses x) × (is_at l i r ≡ false) × (live k j ≡ moved_ref l (length (M.own l) - 1) i r) → (j < length ((removed l i M).own k)) × In x (front (get_or ((removed l i M).own k) j []))
        go x k j (dead, o, f, e) = absurd (I.no_dead x o)
        go x k j (live a b, o, f, e) = use_named x k j a b o f e

        lost : (x : ℕ) → (r : Ref) × In r (M.uses x) × (is_at l i r ≡ false) × (dead ≡ moved_ref l (length (M.own l) - 1) i r) → ⊥
        lost x (dead, o, f, e) = I.no_dead x o
        lost x (live a b, o, f, e) = grind (arith, nat_tests, live_dead l i, moved_here l (length (M.own l) - 1) i a b, live_dead a b, moved_not l (length (M.own l) - 1) i a b, cases_Bool (is_at l (length (M.own l) - 1) (live a b)))

-- a clause entered
module _ (M : Meaning) (C : List ℕ) where
  pub entered_own : (entered C M).own (last C) ≡ M.own (last C) ++ (C ∷ [])
  unfolding entered
  entered_own = changed_here M.own (last C) (M.own (last C) ++ (C ∷ []))

  pub entered_apart : (k : ℕ) → (k ≡ last C → ⊥) → (entered C M).own k ≡ M.own k
  unfolding entered
  entered_apart k a = changed_apart M.own (last C) (M.own (last C) ++ (C ∷ [])) k a

  pub entered_cases : (l : ℕ) (E : List ℕ) → In E ((entered C M).own l) → In E (M.own l) ⊎ ((E ≡ C) × (l ≡ last C))
  entered_cases l E h = grind (arith, cases_eq l (last C), entered_own, entered_apart l, in_cases E (M.own (last C)) (C ∷ []))

  pub old_stays : (k j : ℕ) → j < length (M.own k) → (j < length ((entered C M).own k)) × (get_or ((entered C M).own k) j [] ≡ get_or (M.own k) j [])
  old_stays k j l = grind (arith, cases_eq k (last C), entered_own, entered_apart k, length-append (M.own (last C)) (C ∷ []), get_or_append_left (M.own (last C)) (C ∷ []) [] j)

  module _ (I : Indexed M) where
    uses_is : (x : ℕ) → (entered C M).uses x ≡ with_use (has x (front C)) (M.uses x) (live (last C) (length (M.own (last C))))
    unfolding entered
    uses_is x = ap (λ b. with_use (b && has x (front C)) (M.uses x) (live (last C) (length (M.own (last C))))) I.on

    use_cases : (x : ℕ) (r : Ref) → In r ((entered C M).uses x) → In r (M.uses x) ⊎ ((r ≡ live (last C) (length (M.own (last C)))) × In x (front C))
    use_cases x r h = let i = subst (In r) (uses_is x) h in grind (arith, i, in_cases r (M.uses x) (live (last C) (length (M.own (last C))) ∷ []), has_in x (front C))

    use_old : (x : ℕ) (r : Ref) → In r (M.uses x) → In r ((entered C M).uses x)
    use_old x r h = subst (In r) (sym (uses_is x)) (grind (arith, h, in_left r (M.uses x)))

    use_new : (x : ℕ) → In x (front C) → In (live (last C) (length (M.own (last C)))) ((entered C M).uses x)
    use_new x h = grind (arith, nat_tests, M.own (last C), uses_is x, any_from (eqb x) (front C) x h, eq-eqb x x, in_right (live (last C) (length (M.own (last C)))) (M.uses x) (live (last C) (length (M.own (last C))) ∷ []))

    new_named : (x : ℕ) → In x (front C) → (length (M.own (last C)) < length ((entered C M).own (last C))) × In x (front (get_or ((entered C M).own (last C)) (length (M.own (last C))) []))
    new_named x h = grind (arith, entered_own, length-append (M.own (last C)) (C ∷ []), get_or_push (M.own (last C)) C [] (length (M.own (last C))) refl)

    pub entered_indexed : Indexed (entered C M)
    entered_indexed = record {
      on = unfold entered in I.on;
      named = λ x k j h. ⊎_elim (λ o. let (l, e) = I.named x k j o in let (l', e') = old_stays k j l in (l', subst (λ E. In x (front E)) (sym e') e))
          (λ (e, f). subst (λ g. (j < length ((entered C M).own g)) × In x (front (get_or ((entered C M).own g) j []))) (sym (live_lit k j (last C) (length (M.own (last C))) e))
          (subst (λ g. (g < length ((entered C M).own (last C))) × In x (front (get_or ((entered C M).own (last C)) g []))) (sym (live_place k j (last C) (length (M.own (last C))) e)) (new_named x f))) (use_cases x (live k j) h);
      every = λ x k j l h. ⊎_elim (λ m. use_old x (live k j) (I.every x k j m (subst (λ E. In x (front E)) (old_stays k j m).1 h))) (λ m. last_every x k j l m h) (cases_lt j (length (M.own k)));
      no_dead = λ x h. ⊎_elim (I.no_dead x) (λ (e, f). live_dead (last C) (length (M.own (last C))) (sym e)) (use_cases x dead h);
    }
      where
        last_every : (x k j : ℕ) → j < length ((entered C M).own k) → length (M.own k) ≤ j → In x (front (get_or ((entered C M).own k) j [])) → In (live k j) ((entered C M).uses x)
        last_every x k j l m h = grind (arith, cases_eq k (last C), entered_own, entered_apart k, length-append (M.own (last C)) (C ∷ []), get_or_push (M.own (last C)) C [] j, use_new x)

-- an index made
pub in_from : (m i k : ℕ) → i ≤ k → k < i + m → In k (from i m)
in_from zero i k l u = absurd (omega arith)
in_from (suc m) i k l u = ⊎_elim (λ e. inl e) (λ a. inr (in_from m (suc i) k (omega (arith, a)) (omega arith))) (cases_eq k i)

pub in_up_to : (m k : ℕ) → k < m → In k (up_to m)
in_up_to m k l = in_from m 0 k (omega arith) (omega arith)

pub map_from : {X : Type 0} (f : ℕ → X) (d : X) (t i k : ℕ) → k < t → get_or (map f (from i t)) k d ≡ f (i + k)
map_from f d zero i k l = absurd (omega arith)
map_from f d (suc t) i zero l = ap f (omega arith)
map_from f d (suc t) i (suc k) l = map_from f d t (suc i) k (omega arith) ∙ ap f (omega arith)

pub from_length : (t i : ℕ) → length (from i t) ≡ t
from_length zero i = refl
from_length (suc t) i = ap suc (from_length t (suc i))

pub places_named : (x l : ℕ) (Cs : List (List ℕ)) (i k j : ℕ) → In (live k j) (places x l i Cs) → (k ≡ l) × (i ≤ j) × (j < i + length Cs) × In x (front (get_or Cs (j - i) []))
unfolding places
places_named x l [] i k j h = absurd h
places_named x l (C ∷ Cs) i k j h = grind (arith, nat_tests, places_named x l Cs (suc i) k j, live_place k j l i, live_lit k j l i, has_in x (front C))

places_every : (x l : ℕ) (Cs : List (List ℕ)) (i j : ℕ) → j < length Cs → In x (front (get_or Cs j [])) → In (live l (i + j)) (places x l i Cs)
unfolding places
places_every x l [] i j lj h = absurd (omega arith)
places_every x l (C ∷ Cs) i zero lj h = grind (arith, nat_tests, any_from (eqb x) (front C) x h, eq-eqb x x)
places_every x l (C ∷ Cs) i (suc j) lj h = grind (arith, nat_tests, places_every x l Cs (suc i) j)

pub places_live : (x l : ℕ) (Cs : List (List ℕ)) (i : ℕ) → In dead (places x l i Cs) → ⊥
unfolding places
places_live x l [] i h = h
places_live x l (C ∷ Cs) i h = grind (arith, live_dead l i, places_live x l Cs (suc i))

-- what is filled names the places that are there
pub filled_named : (M : Meaning) (x k j : ℕ) → In (live k j) ((filled M).uses x) → (j < length (M.own k)) × In x (front (get_or (M.own k) j []))
filled_named M x k j h =
    let (l, i, p) = flat_map_in (λ l. places x l 0 (M.own l)) literals (live k j) h in
    let (a, b, c, d) = places_named x l (M.own l) 0 k j p in
    subst (λ g. (j < length (M.own g)) × In x (front (get_or (M.own g) j []))) (sym a) (omega arith, subst (λ t. In x (front (get_or (M.own l) t []))) (omega arith) d)

pub filled_live : (M : Meaning) (x : ℕ) → In dead ((filled M).uses x) → ⊥
filled_live M x h = let (l, i, p) = flat_map_in (λ l. places x l 0 (M.own l)) literals dead h in places_live x l (M.own l) 0 p

pub index_on_indexed : (M : Meaning) → M.indexed ≡ false → ((l : ℕ) (C : List ℕ) → In C (M.own l) → l < 2048) → Indexed (index_on M)
unfolding index_on
index_on_indexed M off small = subst Indexed (sym (cond-false M.indexed M (filled M) off)) (record {
  on = refl;
  named = filled_named M;
  every = λ x l i li h. in_flat_map (λ l. places x l 0 (M.own l)) literals l (live l i)
      (in_up_to 2048 l (small l (get_or (M.own l) i []) (in_at (M.own l) i [] li))) (subst (λ t. In (live l t) (places x l 0 (M.own l))) (omega arith) (places_every x l (M.own l) 0 i li h));
  no_dead = filled_live M;
})
