-- A slot that went from one ring to the end of another, and what its own list has then. Assumes nothing.
use Rattle.std.proofs.Common.{◌≡◌, ℕ, ◌-◌, ◌<◌, ◌≤◌, cond, ltb, List, [], ◌∷◌, ◌++◌, length, get_or, None, Some, sym, refl, ap, ◌∙◌, subst, inl, inr, eqb, length-set, arith}
use Rattle.std.proofs.lemmas.Bool.{cases_eq, cases_lt, cond_both, cond-true, cond-false, lt-ltb, le-ltb}
use Rattle.std.proofs.lemmas.List.{nil_from_length}
use Rattle.std.proofs.lemmas.Option.{none-some}
use Rattle.std.proofs.ByRecursion.{All-from_get_or}
use Rattle.rings.specs.Rings.{at, slot_after, drop_at, linked, next, prev, put_in, shifted, swapped, swapped_out, unlinked, Differ, Held, Place}
use Rattle.rings.proofs.Bounds.{after_head, place_in, put_is, ring_laws, shifted_is, swapped_is}
use Rattle.rings.proofs.Drops.{at_else, at_here}
use Rattle.rings.proofs.Holes.{apart_from}
use Rattle.rings.proofs.Shifts.{moved_length, swaps}
use Rattle.rings.proofs.Words.{ring_differ}
use Rattle.network.proofs.Lists.{has_in}
use Rattle.rules.proofs.Answers.{has_from}
use Rattle.slots.specs.Slots.{filled_by_last}
use Rattle.slots.proofs.Slots.{swap_at, swap_else, swap_length}
use Rattle.owned.specs.Layout.{node_count, rg, Whole}
use Rattle.owned.proofs.Moves.{Out, Rewritten, carried, drop_out, moved_whole}
use Rattle.owned.proofs.Wholes.{has_place, place_of}

-- a place to which the last came
module _ (i : ℕ) (xs : List ℕ) (x : ℕ) (h : i < length xs) (d : Differ xs) (is : get_or xs i 0 ≡ x) where
  abbrev ys : List ℕ
  ys = filled_by_last 0 i xs

  -- no other place has x
  pub other : (j : ℕ) → j < length xs → (j ≡ i → ⊥) → get_or xs j 0 ≡ x → ⊥
  other j l n e = let a = apart_from xs d in elim (cases_lt j i) [ inl lt ↦ a j i lt h (e ∙ sym is) | inr ge ↦ a i j (omega arith) l (is ∙ sym e) ]

  -- where what is there was
  swap_was : (j : ℕ) → j < length xs - 1 → (k : ℕ) × ((k < length xs) × (k ≡ i → ⊥) × (get_or ys j 0 ≡ get_or xs k 0))
  swap_was j l =
      elim (cases_eq j i) [
        | inl e ↦ (length xs - 1, (omega arith, (λ q. omega arith), ap (λ (w : ℕ). get_or ys w 0) e ∙ swap_at 0 i xs h 0 (omega arith)))
        | inr n ↦ (j, (omega arith, n, swap_else 0 i xs h 0 j n l))
      ]

  pub swap_out : Out x xs ys
  swap_out =
      let s = swap_length 0 i xs h in
      record {
        less = omega arith;
        lacks = All-from_get_or (λ y. y ≡ x → ⊥) ys 0 (λ j l e. let q = swap_was j (omega arith) in other q.0 q.1.0 q.1.1 (sym q.1.2 ∙ e));
        back = λ y k.
            let p = place_of y ys (has_from y ys k) in
            let l = p.1.0 in
            let q = swap_was p.0 (omega arith) in
            has_in y xs (has_place y xs q.0 q.1.0 (sym q.1.2 ∙ p.1.1));
        rest = λ y n k.
            let p = place_of y xs (has_from y xs k) in
            let l = p.1.0 in
            let ne : p.0 ≡ i → ⊥ = λ e. n (sym p.1.1 ∙ ap (λ (w : ℕ). get_or xs w 0) e ∙ is) in
            has_in y ys (elim (cases_eq p.0 (length xs - 1)) [
              | inl e ↦ has_place y ys i (omega arith) (swap_at 0 i xs h 0 (omega arith) ∙ ap (λ (w : ℕ). get_or xs w 0) (sym e) ∙ p.1.1)
              | inr m ↦ has_place y ys p.0 (omega arith) (swap_else 0 i xs h 0 p.0 ne (omega arith) ∙ p.1.1)
            ]);
      }

-- the first slot of a ring, if it has one
module _ (room : ℕ) (links : List ℕ) (held : Held 2050 (node_count room) links) (l : ℕ) (h : l < 2050) where
  abbrev Q0 : List ℕ
  Q0 = rg room links l

  first : slot_after 2050 links l ≡ cond (ltb 0 (length Q0)) (Some (get_or Q0 0 0)) None
  first = after_head 2050 (node_count room) links held l h

  pub first_none : None ≡ slot_after 2050 links l → rg room links l ≡ []
  first_none e =
      elim (cases_lt 0 (length Q0)) [
        | inl lt ↦ absurd (none-some (get_or Q0 0 0) (e ∙ first ∙ cond-true (ltb 0 (length Q0)) (Some (get_or Q0 0 0)) None (lt-ltb 0 (length Q0) lt)))
        | inr ge ↦ nil_from_length Q0 (omega arith)
      ]

  pub first_some : (x : ℕ) → Some x ≡ slot_after 2050 links l → Place 2050 (node_count room) links l 0 x
  first_some x e =
      elim (cases_lt 0 (length Q0)) [
        | inl lt ↦ let k = e ∙ first ∙ cond-true (ltb 0 (length Q0)) (Some (get_or Q0 0 0)) None (lt-ltb 0 (length Q0) lt) in record { held = held; head = h; within = lt; is = cc }
        | inr ge ↦ let k = e ∙ first ∙ cond-false (ltb 0 (length Q0)) (Some (get_or Q0 0 0)) None (le-ltb 0 (length Q0) ge) in absurd (none-some x (sym k))
      ]

-- slot x went from place i of ring m, which has `left` now, to the end of ring h
pub record Went (room : ℕ) (old new : List ℕ) (m i x : ℕ) (left : List ℕ) (h : ℕ) : Type 0 where
  pub long : length new ≡ length old
  pub stood : Place 2050 (node_count room) old m i x
  pub head : h < 2050
  pub other : m ≡ h → ⊥
  pub out : Out x (rg room old m) left
  pub held : Held 2050 (node_count room) new
  pub rings : (l : ℕ) → l < 2050 → rg room new l ≡ carried (rg room old) m left h x l

-- what the rings have then
module _ {room : ℕ} {old new : List ℕ} {m i x : ℕ} {left : List ℕ} {h : ℕ} (g : Went room old new m i x left h) where
  abbrev R : ℕ → List ℕ
  R = rg room old

  abbrev F : ℕ → List ℕ
  F = at R m left

  pub went_from : rg room new m ≡ left
  went_from = g.rings m g.stood.head ∙ at_else F h (F h ++ (x ∷ [])) m g.other ∙ at_here R m left m refl

  pub went_to : rg room new h ≡ R h ++ (x ∷ [])
  went_to = g.rings h g.head ∙ at_here F h (F h ++ (x ∷ [])) h refl ∙ ap (λ (ys : List ℕ). ys ++ (x ∷ [])) (at_else R m left h (λ e. g.other (sym e)))

  pub went_else : (l : ℕ) → l < 2050 → (l ≡ m → ⊥) → (l ≡ h → ⊥) → rg room new l ≡ R l
  went_else l k a b = g.rings l k ∙ at_else F h (F h ++ (x ∷ [])) l b ∙ at_else R m left l a

  -- and what holds of them with the slot's words written anew
  pub went_whole : (texts texts' : List ℕ) → Whole room old texts → Rewritten texts texts' x h → Whole room new texts'
  went_whole texts texts' w r = moved_whole room old texts w m i x g.stood.head g.stood.within g.stood.is left g.out h g.head new texts' g.long g.held g.rings r

-- a slot shifted
pub shift_went : (room : ℕ) (links : List ℕ) (m i x h : ℕ) → Place 2050 (node_count room) links m i x → h < 2050 → (m ≡ h → ⊥) → Went room links (shifted links h x) m i x (drop_at i (rg room links m)) h
shift_went room links m i x h p k n = record {
  long = ap length (shifted_is 2050 (node_count room) links m i x h p (omega arith)) ∙ moved_length 2050 (node_count room) links p.held m i p.head p.within h k x p.is;
  stood = p;
  head = k;
  other = n;
  out = drop_out i (rg room links m) x p.within (ring_differ 2050 (node_count room) links p.held m p.head) p.is;
  held = (ring_laws.shifts 2050 (node_count room) links m i x h h p k k).1.0;
  rings = λ l q. (ring_laws.shifts 2050 (node_count room) links m i x h l p k q).0;
}

-- a slot swapped out, and put at the end of another ring
module _ (room : ℕ) (links : List ℕ) (m i x h : ℕ) (p : Place 2050 (node_count room) links m i x) (k : h < 2050) (n : m ≡ h → ⊥) where
  abbrev N : ℕ
  N = node_count room

  abbrev Q : ℕ → List ℕ
  Q = rg room links

  abbrev left : List ℕ
  left = filled_by_last 0 i (Q m)

  abbrev mid : List ℕ
  mid = swapped_out links m x

  slot : (2050 ≤ x) × (x < N)
  slot = place_in 2050 N links m i x p

  mid_is : swapped links m (get_or (Q m) i 0) ≡ mid
  mid_is = ap (swapped links m) p.is ∙ sym (swapped_is 2050 N links m i x p)

  mid_held : Held 2050 N mid
  mid_held = (ring_laws.swaps 2050 N links m i x h p k).1.0

  mid_alone : next mid x ≡ x
  mid_alone = ap (λ (v : List ℕ). next v x) (sym mid_is) ∙ subst (λ (y : ℕ). next (swapped links m (get_or (Q m) i 0)) y ≡ y) p.is (swaps 2050 N links p.held m i p.head p.within).alone'

  mid_ring : (l : ℕ) → l < 2050 → rg room mid l ≡ at Q m left l
  mid_ring l q = (ring_laws.swaps 2050 N links m i x l p q).0

  put : (l : ℕ) → l < 2050 → (rg room (put_in mid h x) l ≡ at (rg room mid) h (rg room mid h ++ (x ∷ [])) l) × Held 2050 N (put_in mid h x)
  put l q = let r = ring_laws.pushes 2050 N mid h x l mid_held k slot.0 slot.1 mid_alone q in (r.0, r.1.0)

  mid_long : length mid ≡ length links
  mid_long =
      ap length (swapped_is 2050 N links m i x p)
      ∙ cond_both (eqb (prev links m) x) (unlinked links x) (unlinked (linked (unlinked links (prev links m)) x (prev links m)) x) (λ (v : List ℕ). length v ≡ length links) (λ _. simp length-set) (λ _. simp length-set)

  pub swap_went : Went room links (put_in mid h x) m i x left h
  swap_went = record {
    long = ap length (put_is 2050 N mid mid_held h x (omega arith) slot.1) ∙ (simp length-set) ∙ mid_long;
    stood = p;
    head = k;
    other = n;
    out = swap_out i (Q m) x p.within (ring_differ 2050 N links p.held m p.head) p.is;
    held = (put h k).1;
    rings = λ l q.
        let F = at Q m left in
        (put l q).0
        ∙ (elim (cases_eq l h) [
          | inl e ↦ at_here (rg room mid) h (rg room mid h ++ (x ∷ [])) l e ∙ ap (λ (ys : List ℕ). ys ++ (x ∷ [])) (mid_ring h k) ∙ sym (at_here F h (F h ++ (x ∷ [])) l e)
          | inr ne ↦ at_else (rg room mid) h (rg room mid h ++ (x ∷ [])) l ne ∙ mid_ring l q ∙ sym (at_else F h (F h ++ (x ∷ [])) l ne)
        ]);
  }
