-- The clauses that name a node are cleared. Assumes nothing.
use Rattle.std.proofs.Common.{◌≡◌, ℕ, ◌+◌, ◌*◌, ◌<◌, Bool, true, false, ◌||◌, ◌⊎◌, List, [], ◌∷◌, length, get_or, sym, ap, ◌∙◌, subst, inl, inr, ⊎_elim, arith, ◌≤◌}
use Rattle.std.specs.List.{list_any}
use Rattle.std.proofs.lemmas.Bool.{cases_eq, cases_Bool, both_ways, or_parts, or_from}
use Rattle.network.specs.Assignments.{node}
use Rattle.network.specs.Lists.{In}
use Rattle.network.specs.Networks.{Free}
use Rattle.network.proofs.Lists.{any_some, any_from}
use Rattle.network.specs.Clauses.{last, front}
use Rattle.rules.specs.Store.{Ref, live, dead, Meaning, is_at, up_to}
use Rattle.rules.specs.Held.{held, Placed}
use Rattle.rules.specs.Index.{Indexed}
use Rattle.rules.specs.Work.{Work, each, literals_of, clear, clear_all}
use Rattle.rules.specs.Bve.{cost, use_marks, uses_cleared, taken_out}
use Rattle.rules.proofs.Places.{in_at, at_in, held_in, in_held}
use Rattle.rules.proofs.Index.{at_is, is_here, in_up_to, map_from, from_length}
use Rattle.rules.proofs.Clear.{Cleared, clear_is, clear_all_is, clear_all_empty}
use Rattle.rules.proofs.Facts.{nil_length}
use Rattle.rules.proofs.Lives.{clear_part}
use Rattle.std.proofs.lemmas.List.{length-map}

pub front_in : (E : List ℕ) (x : ℕ) → In x (front E) → In x E
front_in [] x h = h
front_in (y ∷ []) x h = absurd h
front_in (y ∷ z ∷ E) x h = ⊎_elim inl (λ j. inr (front_in (z ∷ E) x j)) h

pub front_or_last : (E : List ℕ) (x : ℕ) → In x E → In x (front E) ⊎ (x ≡ last E)
front_or_last [] x h = absurd h
front_or_last (y ∷ []) x h = ⊎_elim inr absurd h
front_or_last (y ∷ z ∷ E) x h = grind (arith, front_or_last (z ∷ E) x)

-- a literal of v stands in E before the last place
abbrev pub Uses : ℕ → List ℕ → Type 0
Uses v E = In (2 * v) (front E) ⊎ In (2 * v + 1) (front E)

module _ (M : Meaning) (I : Indexed M) (v l : ℕ) where
  marked : ℕ → Bool
  marked i = list_any (is_at l i) (M.uses (2 * v)) || list_any (is_at l i) (M.uses (2 * v + 1))

  marks_length : length (use_marks M v l) ≤ length (M.own l)
  unfolding marked
  marks_length = omega (arith, length-map (up_to (length (M.own l))) marked, from_length (length (M.own l)) 0)

  marks_at : (j : ℕ) → j < length (M.own l) → get_or (use_marks M v l) j false ≡ marked j
  unfolding marked
  marks_at j h = map_from (λ i. list_any (is_at l i) (M.uses (2 * v)) || list_any (is_at l i) (M.uses (2 * v + 1))) false (length (M.own l)) 0 j h ∙ ap (λ i. list_any (is_at l i) (M.uses (2 * v)) || list_any (is_at l i) (M.uses (2 * v + 1))) (omega arith)

  ref_named : (x j : ℕ) → list_any (is_at l j) (M.uses x) ≡ true → In x (front (get_or (M.own l) j []))
  ref_named x j t = go (any_some (is_at l j) (M.uses x) t)
    where
      go : (r : Ref) × In r (M.uses x) × (is_at l j r ≡ true) → In x (front (get_or (M.own l) j []))
      go (dead, i, e) = absurd (I.no_dead x i)
      go (live a b, i, e) = let (p, q) = at_is l j a b e in subst (λ g. In x (front (get_or (M.own g) j []))) p (subst (λ g. In x (front (get_or (M.own a) g []))) q (I.named x a b i).1)

  ref_every : (x j : ℕ) → j < length (M.own l) → In x (front (get_or (M.own l) j [])) → list_any (is_at l j) (M.uses x) ≡ true
  ref_every x j lj h = any_from (is_at l j) (M.uses x) (live l j) (I.every x l j lj h) (is_here l j)

  -- clearing the uses of v from own l
  step_left : (E : List ℕ) → In E ((clear l (use_marks M v l) M).own l) → In E (M.own l) × (Uses v E → ⊥)
  unfolding marked
  step_left E h =
      let (j, lj, u, e) = (clear_is l (use_marks M v l) M marks_length).left E h in
      let (p, q) = parts j (sym (marks_at j lj) ∙ u) in (
        subst (λ C. In C (M.own l)) e (in_at (M.own l) j [] lj),
        λ w. ⊎_elim (λ a. both_ways (list_any (is_at l j) (M.uses (2 * v))) p (ref_every (2 * v) j lj (subst (λ C. In (2 * v) (front C)) (sym e) a)))
            (λ a. both_ways (list_any (is_at l j) (M.uses (2 * v + 1))) q (ref_every (2 * v + 1) j lj (subst (λ C. In (2 * v + 1) (front C)) (sym e) a))) w,
      )
    where
      parts : (j : ℕ) → marked j ≡ false → (list_any (is_at l j) (M.uses (2 * v)) ≡ false) × (list_any (is_at l j) (M.uses (2 * v + 1)) ≡ false)
      parts j f = or_parts (list_any (is_at l j) (M.uses (2 * v))) (list_any (is_at l j) (M.uses (2 * v + 1))) f

  step_stays : (E : List ℕ) → In E (M.own l) → (Uses v E → ⊥) → In E ((clear l (use_marks M v l) M).own l)
  unfolding marked
  step_stays E h w =
      let (j, lj, e) = at_in (M.own l) E [] h in
      (clear_is l (use_marks M v l) M marks_length).stays E (j, lj, marks_at j lj ∙ not_marked j e, e)
    where
      not_ref : (x j : ℕ) → get_or (M.own l) j [] ≡ E → (In x (front E) → ⊥) → list_any (is_at l j) (M.uses x) ≡ false
      not_ref x j e a = ⊎_elim (λ t. absurd (a (subst (λ C. In x (front C)) e (ref_named x j t)))) (λ f. f) (cases_Bool (list_any (is_at l j) (M.uses x)))

      not_marked : (j : ℕ) → get_or (M.own l) j [] ≡ E → marked j ≡ false
      not_marked j e = or_from (list_any (is_at l j) (M.uses (2 * v))) (list_any (is_at l j) (M.uses (2 * v + 1))) (not_ref (2 * v) j e (λ a. w (inl a))) (not_ref (2 * v + 1) j e (λ a. w (inr a)))

  step_cleared : Cleared l (use_marks M v l) M (clear l (use_marks M v l) M)
  unfolding marked
  step_cleared = clear_is l (use_marks M v l) M marks_length

abbrev sweep : ℕ → List ℕ → Meaning → Meaning
sweep v ls M = each (λ l M. clear l (use_marks M v l) M) ls M

record Sweeping (v : ℕ) (ls : List ℕ) (M N : Meaning) : Type 0 where
  down : (k : ℕ) (E : List ℕ) → In E (N.own k) → In E (M.own k)
  unused : (k : ℕ) (E : List ℕ) → In k ls → In E (N.own k) → Uses v E → ⊥
  stays : (k : ℕ) (E : List ℕ) → In E (M.own k) → (Uses v E → ⊥) → In E (N.own k)
  index : Indexed N

sweeping : (v : ℕ) (ls : List ℕ) (M : Meaning) → Indexed M → Sweeping v ls M (sweep v ls M)
sweeping v [] M I = record { down = λ k E h. h; unused = λ k E i. absurd i; stays = λ k E h w. h; index = I }
sweeping v (l ∷ ls) M I =
    let c = step_cleared M I v l in
    let r = sweeping v ls (clear l (use_marks M v l) M) (c.index I) in
    record {
      down = λ k E h. clear_part l (use_marks M v l) M k E (r.down k E h);
      unused = λ k E i h. ⊎_elim (λ e. (step_left M I v l E (subst (λ g. In E ((clear l (use_marks M v l) M).own g)) e (r.down k E h))).1) (λ j. r.unused k E j h) i;
      stays = λ k E h w. r.stays k E (first_stays k E h w) w;
      index = r.index;
    }
  where
    first_stays : (k : ℕ) (E : List ℕ) → In E (M.own k) → (Uses v E → ⊥) → In E ((clear l (use_marks M v l) M).own k)
    first_stays k E h w = ⊎_elim (λ e. subst (λ g. In E ((clear l (use_marks M v l) M).own g)) (sym e) (step_stays M I v l E (subst (λ g. In E (M.own g)) e h) w))
        (λ a. subst (In E) (sym ((step_cleared M I v l).apart k a)) h) (cases_eq k l)

-- all of own l cleared
pub all_cleared : (l : ℕ) (M : Meaning) (k : ℕ) (E : List ℕ) → In E ((clear_all l M).own k) → In E (M.own k) × (k ≡ l → ⊥)
all_cleared l M k E h = ⊎_elim (λ e. absurd (clear_all_empty l M E (subst (λ g. In E ((clear_all l M).own g)) e h))) (λ a. (subst (In E) ((clear_all_is l M).apart k a) h, a)) (cases_eq k l)

-- a node that no clause names costs nothing
pub cost_zero : (v : ℕ) (M : Meaning) → Indexed M → Placed M → ((l : ℕ) (C : List ℕ) → In C (M.own l) → In (last C) C) → ((l : ℕ) (C : List ℕ) → In C (M.own l) → Free v C) → cost M v ≡ 0
cost_zero v M I P filled free = omega (arith, own_none (2 * v) (omega arith), own_none (2 * v + 1) (omega arith), uses_none (2 * v) (omega arith), uses_none (2 * v + 1) (omega arith))
  where
    own_none : (p : ℕ) → node p ≡ v → length (M.own p) ≡ 0
    own_none p e = nil_length (M.own p) (λ C i. free p C i (last C) (filled p C i) (ap node (P p C i) ∙ e))

    uses_none : (p : ℕ) → node p ≡ v → length (M.uses p) ≡ 0
    uses_none p e = nil_length (M.uses p) none
      where
        none : (r : Ref) → In r (M.uses p) → ⊥
        none dead i = I.no_dead p i
        none (live l j) i = let (lj, f) = I.named p l j i in free l (get_or (M.own l) j []) (in_at (M.own l) j [] lj) p (front_in (get_or (M.own l) j []) p f) e

-- the clauses that are left are those that do not name v
module _ (v : ℕ) (W : Work) (I : Indexed W.store) (P : Placed W.store) (ne : (l : ℕ) (E : List ℕ) → In E (W.store.own l) → In (last E) E)
    (bound : (l : ℕ) (E : List ℕ) → In E (W.store.own l) → l < 2 * W.top + 2)
  where
    s : Sweeping v (literals_of W) W.store (uses_cleared v W)
    s = sweeping v (literals_of W) W.store I

    left : (k : ℕ) (E : List ℕ) → In E ((taken_out v W).store.own k) → In E (W.store.own k) × Free v E
    unfolding taken_out
    left k E h =
        let (h₁, a) = all_cleared (2 * v + 1) (clear_all (2 * v) (uses_cleared v W)) k E h in
        let (h₂, b) = all_cleared (2 * v) (uses_cleared v W) k E h₁ in
        let o = s.down k E h₂ in (
          o,
          λ x i e. ⊎_elim (λ f. s.unused k E (in_up_to (2 * W.top + 2) k (bound k E o)) h₂ (⊎_elim (λ q. inl (subst (λ g. In g (front E)) q f)) (λ q. inr (subst (λ g. In g (front E)) q f)) (sides x e)))
              (λ f. ⊎_elim (λ q. b (sym (P k E o) ∙ sym f ∙ q)) (λ q. a (sym (P k E o) ∙ sym f ∙ q)) (sides x e)) (front_or_last E x i),
        )
      where
        sides : (x : ℕ) → node x ≡ v → (x ≡ 2 * v) ⊎ (x ≡ 2 * v + 1)
        sides x e = ⊎_elim inl (λ a. inr (omega (arith, a, e))) (cases_eq x (2 * v))

    stay : (k : ℕ) (E : List ℕ) → In E (W.store.own k) → Free v E → In E ((taken_out v W).store.own k)
    unfolding taken_out
    stay k E h f =
        let a : k ≡ 2 * v → ⊥ = λ e. f (last E) (ne k E h) (omega (arith, P k E h, e)) in
        let b : k ≡ 2 * v + 1 → ⊥ = λ e. f (last E) (ne k E h) (omega (arith, P k E h, e)) in
        subst (In E) (sym ((clear_all_is (2 * v + 1) (clear_all (2 * v) (uses_cleared v W))).apart k b))
        (subst (In E) (sym ((clear_all_is (2 * v) (uses_cleared v W)).apart k a))
        (s.stays k E h (⊎_elim (λ j. f (2 * v) (front_in E (2 * v) j) (omega arith)) (λ j. f (2 * v + 1) (front_in E (2 * v + 1) j) (omega arith)))))

    pub out_to : (k : ℕ) (E : List ℕ) → In E (held (taken_out v W).store k) → In E (held W.store k) × Free v E
    out_to k E h = let (l, e, i) = in_held (taken_out v W).store k E h in let (o, f) = left l E i in (subst (λ g. In E (held W.store g)) e (held_in W.store l E o), f)

    pub out_fro : (k : ℕ) (E : List ℕ) → In E (held W.store k) → Free v E → In E (held (taken_out v W).store k)
    out_fro k E h f = let (l, e, i) = in_held W.store k E h in subst (λ g. In E (held (taken_out v W).store g)) e (held_in (taken_out v W).store l E (stay l E i f))

    pub out_placed : Placed (taken_out v W).store
    out_placed l E i = P l E (left l E i).0

    pub out_indexed : Indexed (taken_out v W).store
    unfolding taken_out
    out_indexed = (clear_all_is (2 * v + 1) (clear_all (2 * v) (uses_cleared v W))).index ((clear_all_is (2 * v) (uses_cleared v W)).index s.index)

    -- no use of v is left
    pub swept_none : (x : ℕ) → node x ≡ v → length ((uses_cleared v W).uses x) ≡ 0
    swept_none x e = nil_length ((uses_cleared v W).uses x) none
      where
        none : (r : Ref) → In r ((uses_cleared v W).uses x) → ⊥
        none dead i = s.index.no_dead x i
        none (live l j) i =
            let (lj, f) = s.index.named x l j i in
            let E = get_or ((uses_cleared v W).own l) j [] in
            let iE : In E ((uses_cleared v W).own l) = in_at ((uses_cleared v W).own l) j [] lj in
            s.unused l E (in_up_to (2 * W.top + 2) l (bound l E (s.down l E iE))) iE
            (⊎_elim (λ q. inl (subst (λ g. In g (front E)) q f)) (λ q. inr (subst (λ g. In g (front E)) {x = x} {y = 2 * v + 1} (omega (arith, q, e)) f)) (cases_eq x (2 * v)))
