-- Where an index stands as it was made, to clear the clauses that name a node is to take it out. Assumes nothing.
use Rattle.std.proofs.Common.{◌≡◌, ℕ, zero, suc, ◌+◌, ◌-◌, ◌*◌, ◌<◌, ◌≤◌, Bool, true, false, ◌||◌, ◌⊎◌, ltb, eqb, List, [], ◌∷◌, ◌++◌, map, length, get_or, replicate, sym, refl, ap, ◌∙◌, subst, inl, inr, ⊎_elim, arith}
use Rattle.std.specs.List.{list_any}
use Rattle.std.proofs.lemmas.Bool.{cases_eq, cases_Bool, both_ways, cond-false, cond_both, or_cases, or_from, or_parts, cases_lt, eq-eqb, eqb-true}
use Rattle.std.proofs.lemmas.List.{length-map, get_or_past}
use Rattle.network.specs.Assignments.{node}
use Rattle.network.specs.Lists.{In}
use Rattle.network.specs.Clauses.{has, last, front}
use Rattle.network.proofs.Lists.{any_from, any_some, any_none, has_in}
use Rattle.rules.specs.Bve.{use_marks, uses_cleared, taken_out}
use Rattle.rules.specs.Index.{Indexed}
use Rattle.rules.specs.Lawful.{Lawful}
use Rattle.rules.specs.Store.{Ref, live, Meaning, is_at, from, up_to}
use Rattle.rules.specs.Work.{Work, storing, taking_out, each, cleared, clear, clear_all}
use Rattle.rules.proofs.Clear.{clear_is}
use Rattle.rules.proofs.Formed.{Formed, formed_parts, front_below, some_not_nil}
use Rattle.rules.proofs.Index.{is_here, map_from, from_length}
use Rattle.rules.proofs.Once.{is_at_of}
use Rattle.rules.proofs.Places.{in_at}
use Rattle.rules.proofs.TakenOut.{front_in, front_or_last}
use Rattle.rules.proofs.Verdicts.{last_in}
use Rattle.removing.specs.Outs.{is_of, names, used_in, gone_if_used, without_named, uses_gone, named_out}

-- ## Lists and steps in turn

-- one test holds exactly where the other does
same_test : (a b : Bool) → (a ≡ true → b ≡ true) → (b ≡ true → a ≡ true) → a ≡ b
same_test true b f g = sym (f refl)
same_test false b f g = ⊎_elim (λ t. g t ∙ sym t) (λ e. sym e) (cases_Bool b)

-- the numbers of the places of a list, and its items
map_places : {X Y : Type 0} (f : ℕ → Y) (h : X → Y) (d : X) (xs : List X) (i : ℕ) → ((j : ℕ) → j < length xs → f (i + j) ≡ h (get_or xs j d)) → map f (from i (length xs)) ≡ map h xs
map_places f h d [] i e = refl
map_places f h d (x ∷ xs) i e =
    let here : i + 0 ≡ i = omega arith in
    let first : f i ≡ h x = ap f (sym here) ∙ e 0 (omega arith) in
    let later = map_places f h d xs (suc i) (λ j l. let next : suc i + j ≡ i + suc j = omega arith in ap f next ∙ e (suc j) (omega arith)) in
    (λ k. first k ∷ later k)

map_all : {X : Type 0} (h : X → Bool) (xs : List X) → ((x : X) → In x xs → h x ≡ true) → map h xs ≡ replicate (length xs) true
map_all h [] e = refl
map_all h (x ∷ xs) e = (λ k. e x (inl refl) k ∷ map_all h xs (λ y i. e y (inr i)) k)

from_parts : (m k a : ℕ) → from a (m + k) ≡ from a m ++ from (a + m) k
from_parts zero k a = let x : zero + k ≡ k = omega arith in let y : a ≡ a + zero = omega arith in (λ j. from (y j) (x j))
from_parts (suc m) k a =
    let x : suc m + k ≡ suc (m + k) = omega arith in
    let y : suc a + m ≡ a + suc m = omega arith in
    ap (from a) x ∙ ap (λ ns. a ∷ ns) (from_parts m k (suc a) ∙ ap (λ b. from (suc a) m ++ from b k) y)

pub each_parts : {X Y : Type 0} (f : X → Y → Y) (xs ys : List X) (y : Y) → each f (xs ++ ys) y ≡ each f ys (each f xs y)
each_parts f [] ys y = refl
each_parts f (x ∷ xs) ys y = each_parts f xs ys (f x y)

module _ {Y : Type 0} (f : ℕ → Y → Y) where
  each_idle : (m a : ℕ) (y : Y) → ((l : ℕ) → l < a + m → f l y ≡ y) → each f (from a m) y ≡ y
  each_idle zero a y e = refl
  each_idle (suc m) a y e = ap (each f (from (suc a) m)) (e a (omega arith)) ∙ each_idle m (suc a) y (λ l h. e l (omega arith))

  -- one more
  pub each_more : (m a : ℕ) (y : Y) → each f (from a (m + 1)) y ≡ f (a + m) (each f (from a m) y)
  each_more m a y = ap (λ ns. each f ns y) (from_parts m 1 a) ∙ each_parts f (from a m) (from (a + m) 1) y

-- ## Clearing

cleared_idle : (f l i : ℕ) (marks : List Bool) (M : Meaning) → ((j : ℕ) → get_or marks j false ≡ false) → cleared f l i marks M ≡ M
unfolding cleared
cleared_idle zero l i marks M e = refl
cleared_idle (suc f) l i marks M e = cond_both (ltb i (length (M.own l))) _ M (λ N. N ≡ M) (λ t. cond-false (get_or marks i false) _ (cleared f l (suc i) marks M) (e i) ∙ cleared_idle f l (suc i) marks M e) (λ t. refl)

unmarked : (n j : ℕ) → get_or (replicate n false) j false ≡ false
unmarked zero j = refl
unmarked (suc n) zero = refl
unmarked (suc n) (suc j) = unmarked n j

unmarked_past : (marks : List Bool) (n : ℕ) → ((j : ℕ) → get_or marks j false ≡ false) → (j : ℕ) → get_or (marks ++ replicate n false) j false ≡ false
unmarked_past [] n e j = unmarked n j
unmarked_past (m ∷ marks) n e zero = e zero
unmarked_past (m ∷ marks) n e (suc j) = unmarked_past marks n (λ i. e (suc i)) j

-- where nothing is marked, nothing goes
clear_idle : (l : ℕ) (marks : List Bool) (M : Meaning) → ((j : ℕ) → get_or marks j false ≡ false) → clear l marks M ≡ M
unfolding clear
clear_idle l marks M e = cleared_idle (length (M.own l)) l 0 (marks ++ replicate (length (M.own l) - length marks) false) M (unmarked_past marks (length (M.own l) - length marks) e)

-- the work without n, step by step
pub named_out_steps : (n : ℕ) (W : Work) (N P Q : Meaning) → N ≡ uses_gone n W.top W.store → P ≡ without_named n (2 * n) N → Q ≡ without_named n (2 * n + 1) P → storing (taking_out W n) Q ≡ named_out n W
unfolding named_out
named_out_steps n W N P Q e f g = ap (storing (taking_out W n)) (g ∙ ap (without_named n (2 * n + 1)) (f ∙ ap (without_named n (2 * n)) e))

-- the clauses of own l, well formed and in their place
abbrev Kept : ℕ → List (List ℕ) → Type 0
Kept l Cs = (C : List ℕ) → In C Cs → Formed C × (last C ≡ l)

module _ (n : ℕ) where
  marks_few : (l : ℕ) (M : Meaning) → length (map (names n) (M.own l)) ≤ length (M.own l)
  marks_few l M = omega (arith, length-map (M.own l) (names n))

  -- other own lists stay
  without_apart : (l : ℕ) (M : Meaning) (k : ℕ) → (k ≡ l → ⊥) → (without_named n l M).own k ≡ M.own k
  unfolding without_named
  without_apart l M = (clear_is l (map (names n) (M.own l)) M (marks_few l M)).apart

  pub without_indexed : (l : ℕ) (M : Meaning) → Indexed M → Indexed (without_named n l M)
  unfolding without_named
  without_indexed l M = (clear_is l (map (names n) (M.own l)) M (marks_few l M)).index

  -- the same of own lists that have no use of n
  gone_apart : (S : Meaning) (l : ℕ) (M : Meaning) (k : ℕ) → (k ≡ l → ⊥) → (gone_if_used S n l M).own k ≡ M.own k
  gone_apart S l M k a = cond_both (used_in S n l) (without_named n l M) M (λ P. P.own k ≡ M.own k) (λ t. without_apart l M k a) (λ t. refl)

  pub gone_indexed : (S : Meaning) (l : ℕ) (M : Meaning) → Indexed M → Indexed (gone_if_used S n l M)
  gone_indexed S l M I = cond_both (used_in S n l) (without_named n l M) M Indexed (λ t. without_indexed l M I) (λ t. I)

  each_apart : (S : Meaning) (m a : ℕ) (M : Meaning) (k : ℕ) → k < a → (each (gone_if_used S n) (from a m) M).own k ≡ M.own k
  each_apart S zero a M k h = refl
  each_apart S (suc m) a M k h = each_apart S m (suc a) (gone_if_used S n a M) k (omega arith) ∙ gone_apart S a M k (λ e. omega (arith, e))

  -- before the last place of a clause of another node stands a literal of n, or none
  front_named : (C : List ℕ) (l : ℕ) → last C ≡ l → (node l ≡ n → ⊥) → (has (2 * n) (front C) || has (2 * n + 1) (front C)) ≡ names n C
  front_named C l q a = same_test (has (2 * n) (front C) || has (2 * n + 1) (front C)) (names n C)
      (λ t. ⊎_elim (λ h. there (2 * n) (omega arith) h) (λ h. there (2 * n + 1) (omega arith) h) (or_cases (has (2 * n) (front C)) (has (2 * n + 1) (front C)) t))
      (λ t. let (x, i, e) = any_some (λ k. eqb (node k) n) C t in back x (eqb-true (node x) n e) (front_or_last C x i))
    where
      there : (x : ℕ) → node x ≡ n → has x (front C) ≡ true → names n C ≡ true
      there x e h = any_from (λ k. eqb (node k) n) C x (front_in C x (has_in x (front C) h)) (eq-eqb (node x) n e)

      here : (x y : ℕ) → x ≡ y → In x (front C) → has y (front C) ≡ true
      here x y e i = any_from (eqb y) (front C) x i (eq-eqb y x (sym e))

      back : (x : ℕ) → node x ≡ n → In x (front C) ⊎ (x ≡ last C) → (has (2 * n) (front C) || has (2 * n + 1) (front C)) ≡ true
      back x e (inr z) = absurd (a (ap node (sym (z ∙ q)) ∙ e))
      back x e (inl i) = ⊎_elim (λ z. let h = here x (2 * n) z i in grind (arith, h)) (λ z. let y : x ≡ 2 * n + 1 = omega (arith, z, e) in let h = here x (2 * n + 1) y i in grind (arith, h)) (cases_eq x (2 * n))

  own_named : (l : ℕ) (Cs : List (List ℕ)) → Kept l Cs → node l ≡ n → map (names n) Cs ≡ replicate (length Cs) true
  own_named l Cs ok e = map_all (names n) Cs (λ C i. let (f, q) = ok C i in any_from (λ k. eqb (node k) n) C (last C) (last_in C (some_not_nil C f.some)) (eq-eqb (node (last C)) n (ap node q ∙ e)))

  module _ (M : Meaning) (I : Indexed M) (l : ℕ) (ok : Kept l (M.own l)) where
    -- a place is among the uses of x exactly if its clause has x before the last place
    use_is : (x j : ℕ) → j < length (M.own l) → list_any (is_at l j) (M.uses x) ≡ has x (front (get_or (M.own l) j []))
    use_is x j h = same_test (list_any (is_at l j) (M.uses x)) (has x (front (get_or (M.own l) j [])))
        (λ t. let (r, i, e) = any_some (is_at l j) (M.uses x) t in any_from (eqb x) (front (get_or (M.own l) j [])) x (I.named x l j (subst (λ s. In s (M.uses x)) (is_at_of l j r e) i)).1 (eq-eqb x x refl))
        (λ t. any_from (is_at l j) (M.uses x) (live l j) (I.every x l j h (has_in x (front (get_or (M.own l) j [])) t)) (is_here l j))

    marks_named : (node l ≡ n → ⊥) → use_marks M n l ≡ map (names n) (M.own l)
    marks_named a = map_places (λ i. list_any (is_at l i) (M.uses (2 * n)) || list_any (is_at l i) (M.uses (2 * n + 1))) (names n) [] (M.own l) 0 here
      where
        here : (j : ℕ) → j < length (M.own l) → (list_any (is_at l (0 + j)) (M.uses (2 * n)) || list_any (is_at l (0 + j)) (M.uses (2 * n + 1))) ≡ names n (get_or (M.own l) j [])
        here j h =
            let z : 0 + j ≡ j = omega arith in
            ap (λ i. list_any (is_at l i) (M.uses (2 * n)) || list_any (is_at l i) (M.uses (2 * n + 1))) z ∙ (λ k. use_is (2 * n) j h k || use_is (2 * n + 1) j h k)
            ∙ front_named (get_or (M.own l) j []) l (ok (get_or (M.own l) j []) (in_at (M.own l) j [] h)).1 a

    -- a place that no use of n has is not marked
    marks_none : (j : ℕ) → (j < length (M.own l) → (x : ℕ) → node x ≡ n → list_any (is_at l j) (M.uses x) ≡ false) → get_or (use_marks M n l) j false ≡ false
    marks_none j unused = ⊎_elim within past (cases_lt j (length (M.own l)))
      where
        test : ℕ → Bool
        test i = list_any (is_at l i) (M.uses (2 * n)) || list_any (is_at l i) (M.uses (2 * n + 1))

        within : j < length (M.own l) → get_or (use_marks M n l) j false ≡ false
        within h = map_from test false (length (M.own l)) 0 j h ∙ ap test (omega arith) ∙ or_from (list_any (is_at l j) (M.uses (2 * n))) (list_any (is_at l j) (M.uses (2 * n + 1))) (unused h (2 * n) (omega arith)) (unused h (2 * n + 1) (omega arith))

        past : length (M.own l) ≤ j → get_or (use_marks M n l) j false ≡ false
        past h = get_or_past (use_marks M n l) j false (omega (arith, length-map (up_to (length (M.own l))) test, from_length (length (M.own l)) 0))

    marks_low : l < 2 * n + 2 → (j : ℕ) → get_or (use_marks M n l) j false ≡ false
    marks_low low j = marks_none j (λ h x e. ⊎_elim (λ t. absurd (lower h x e t)) (λ t. t) (cases_Bool (list_any (is_at l j) (M.uses x))))
      where
        lower : j < length (M.own l) → (x : ℕ) → node x ≡ n → list_any (is_at l j) (M.uses x) ≡ true → ⊥
        lower h x e t =
            let C = get_or (M.own l) j [] in
            let (f, q) = ok C (in_at (M.own l) j [] h) in
            omega (arith, front_below C f.order x (has_in x (front C) (sym (use_is x j h) ∙ t)), ap node q, e)

    marks_unused : used_in M n l ≡ false → (j : ℕ) → get_or (use_marks M n l) j false ≡ false
    marks_unused u j = marks_none j (λ h x e. ⊎_elim (λ t. let (r, i, q) = any_some (is_at l j) (M.uses x) t in absurd (both_ways (is_of l r) (apart x e r i) (ap (is_of l) (is_at_of l j r q) ∙ eq-eqb l l refl))) (λ t. t) (cases_Bool (list_any (is_at l j) (M.uses x))))
      where
        parts : (list_any (is_of l) (M.uses (2 * n)) ≡ false) × (list_any (is_of l) (M.uses (2 * n + 1)) ≡ false)
        parts = or_parts (list_any (is_of l) (M.uses (2 * n))) (list_any (is_of l) (M.uses (2 * n + 1))) u

        apart : (x : ℕ) → node x ≡ n → (r : Ref) → In r (M.uses x) → is_of l r ≡ false
        apart x e r i = ⊎_elim (λ z. any_none (is_of l) (M.uses (2 * n)) parts.0 r (subst (λ y. In r (M.uses y)) z i)) (λ z. let y : x ≡ 2 * n + 1 = omega (arith, z, e) in any_none (is_of l) (M.uses (2 * n + 1)) parts.1 r (subst (λ y. In r (M.uses y)) y i)) (cases_eq x (2 * n))

    -- the clauses that are uses of n are those that name it
    cleared_named : 2 * n + 2 ≤ l → clear l (use_marks M n l) M ≡ without_named n l M
    unfolding without_named
    cleared_named h = ap (λ marks. clear l marks M) (marks_named (λ e. omega (arith, e)))

  -- all clauses of n's own lists name it
  own_cleared : (M : Meaning) (l : ℕ) → Kept l (M.own l) → node l ≡ n → clear_all l M ≡ without_named n l M
  unfolding without_named clear_all
  own_cleared M l ok e = ap (λ marks. clear l marks M) (sym (own_named l (M.own l) ok e))

  -- the uses of n among the clauses of later literals
  module _ (S : Meaning) (I : Indexed S) (ok : (l : ℕ) → Kept l (S.own l)) where
    cleared_if_used : (l : ℕ) (N : Meaning) → Indexed N → 2 * n + 2 ≤ l → N.own l ≡ S.own l → clear l (use_marks N n l) N ≡ gone_if_used S n l N
    unfolding without_named
    cleared_if_used l N J h e =
        let is = cleared_named N J l (subst (Kept l) (sym e) (ok l)) h in
        cond_both (used_in S n l) (without_named n l N) N (λ P. clear l (use_marks N n l) N ≡ P) (λ t. is)
        (λ f. is ∙ clear_idle l (map (names n) (N.own l)) N (λ j. ap (λ Cs. get_or (map (names n) Cs) j false) e ∙ ap (λ marks. get_or marks j false) (sym (marks_named S I l (ok l) (λ q. omega (arith, q)))) ∙ marks_unused S I l (ok l) f j))

    sweeps_same : (m a : ℕ) (N : Meaning) → Indexed N → 2 * n + 2 ≤ a → ((k : ℕ) → a ≤ k → N.own k ≡ S.own k) → each (λ l P. clear l (use_marks P n l) P) (from a m) N ≡ each (gone_if_used S n) (from a m) N
    sweeps_same zero a N J h e = refl
    sweeps_same (suc m) a N J h e =
        ap (each (λ l P. clear l (use_marks P n l) P) (from (suc a) m)) (cleared_if_used a N J h (e a (omega arith)))
        ∙ sweeps_same m (suc a) (gone_if_used S n a N) (gone_indexed S a N J) (omega arith) (λ k le. gone_apart S a N k (λ q. omega (arith, q)) ∙ e k (omega arith))

  module _ (W : Work) (I : Indexed W.store) (L : Lawful W.store) (le : n ≤ W.top) where
    ok : (l : ℕ) → Kept l (W.store.own l)
    ok l C i = (formed_parts C (L.formed l C i), L.placed l C i)

    uses_cleared_named : uses_cleared n W ≡ uses_gone n W.top W.store
    uses_cleared_named =
        let f : ℕ → Meaning → Meaning = λ l P. clear l (use_marks P n l) P in
        let split : 2 * W.top + 2 ≡ (2 * n + 2) + 2 * (W.top - n) = omega arith in
        ap (λ m. each f (from 0 m) W.store) split ∙ ap (λ ls. each f ls W.store) (from_parts (2 * n + 2) (2 * (W.top - n)) 0)
        ∙ each_parts f (from 0 (2 * n + 2)) (from (0 + (2 * n + 2)) (2 * (W.top - n))) W.store ∙ (λ j. each f (from (start j) (2 * (W.top - n))) (idle j))
        ∙ sweeps_same W.store I ok (2 * (W.top - n)) (2 * n + 2) W.store I (omega arith) (λ k _. refl)
      where
        start : 0 + (2 * n + 2) ≡ 2 * n + 2
        start = omega arith

        idle : each (λ l P. clear l (use_marks P n l) P) (from 0 (2 * n + 2)) W.store ≡ W.store
        idle = each_idle (λ l P. clear l (use_marks P n l) P) (2 * n + 2) 0 W.store (λ l h. clear_idle l (use_marks W.store n l) W.store (marks_low W.store I l (ok l) (omega arith)))

    pub named_taken_out : named_out n W ≡ taken_out n W
    unfolding named_out taken_out
    named_taken_out =
        let S = W.store in
        let N = uses_gone n W.top S in
        let P = without_named n (2 * n) N in
        let first : N.own (2 * n) ≡ S.own (2 * n) = each_apart S (2 * (W.top - n)) (2 * n + 2) S (2 * n) (omega arith) in
        let second : P.own (2 * n + 1) ≡ S.own (2 * n + 1) = without_apart (2 * n) N (2 * n + 1) (λ e. omega arith) ∙ each_apart S (2 * (W.top - n)) (2 * n + 2) S (2 * n + 1) (omega arith) in
        ap (storing (taking_out W n))
        (sym (ap (λ X. clear_all (2 * n + 1) (clear_all (2 * n) X)) uses_cleared_named ∙ ap (clear_all (2 * n + 1)) (own_cleared N (2 * n) (subst (Kept (2 * n)) (sym first) (ok (2 * n))) (omega arith))
        ∙ own_cleared P (2 * n + 1) (subst (Kept (2 * n + 1)) (sym second) (ok (2 * n + 1))) (omega arith)))
