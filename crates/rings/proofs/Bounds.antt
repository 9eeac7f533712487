-- What the writers read and write lies within the words where rings stand, so that they write what they should. Assumes nothing.
use Rattle.std.proofs.Common.{◌≡◌, ℕ, zero, suc, ◌+◌, ◌-◌, ◌*◌, ◌<◌, ◌≤◌, true, cond, ◌&&◌, eqb, ltb, leb, List, [], ◌∷◌, ◌++◌, length, get_or, drop, set, Some, None, sym, refl, ap, ◌∙◌, subst, inl, inr, arith, length-set}
use Rattle.std.proofs.lemmas.Bool.{cases_eq, cases_lt, cond-true, cond-false, eq-eqb, ne_eqb, lt-ltb, le-ltb, le-leb, lt-leb, and_from, and_right}
use Rattle.std.proofs.lemmas.List.{get_or_at, get_or_append_left, get_or-set_same, get_or-set_other, drop-set-lt}
use Rattle.rings.specs.Rings.{next, prev, ring, inside, knotted, Held, Place, unlinked, linked, swapped, cut_out, put_in, shifted, brought, swapped_out, slot_after, scattered}
use Rattle.rings.specs.Laws.{RingLaws}
use Rattle.rings.proofs.Shifts.{slot_at, out_held, last_slot, h2, cuts, swaps, first_is, next_is, push_ring, push_held, push_drop, moved_ring, moved_held, moved_drop, rings_apart, lone_ring, lone_held}

-- where rings stand, each node is there, and those beside it
module _ (heads nodes : ℕ) (ws : List ℕ) (held : Held heads nodes ws) where
  pub inside_is : (n : ℕ) → n < nodes → inside ws n ≡ true
  inside_is n w = let l = held.0.1 in lt-ltb (2 * n + 1) (length ws) (omega arith)

  pub knotted_is : (n : ℕ) → n < nodes → knotted ws n ≡ true
  knotted_is n w =
      let k = held.1.0 n w in
      and_from (inside ws n) (inside ws (next ws n) && inside ws (prev ws n)) (inside_is n w) (and_from (inside ws (next ws n)) (inside ws (prev ws n)) (inside_is (next ws n) k.0.0) (inside_is (prev ws n) k.0.1))

  pub cut_is : (s : ℕ) → s < nodes → cut_out ws s ≡ unlinked ws s
  unfolding cut_out
  cut_is s w = cond-true (knotted ws s) (unlinked ws s) ws (knotted_is s w)

  pub put_is : (n s : ℕ) → n < nodes → s < nodes → put_in ws n s ≡ linked ws n s
  unfolding put_in
  put_is n s w v = cond-true (inside ws s && knotted ws n) (linked ws n s) ws (and_from (inside ws s) (knotted ws n) (inside_is s v) (knotted_is n w))

pub place_in : (heads nodes : ℕ) (ws : List ℕ) (l i x : ℕ) → Place heads nodes ws l i x → (heads ≤ x) × (x < nodes)
place_in heads nodes ws l i x p = let s = slot_at heads nodes ws p.held l i p.head p.within in let e = p.is in let a = s.0 in let b = s.1 in (omega arith, omega arith)

pub place_out : (heads nodes : ℕ) (ws : List ℕ) (l i x : ℕ) → Place heads nodes ws l i x → Held heads nodes (unlinked ws x)
place_out heads nodes ws l i x p = subst (λ (w : ℕ). Held heads nodes (unlinked ws w)) p.is (out_held heads nodes ws p.held l i p.head p.within)

pub shifted_is : (heads nodes : ℕ) (ws : List ℕ) (l i x h : ℕ) → Place heads nodes ws l i x → h < nodes → shifted ws h x ≡ linked (unlinked ws x) h x
shifted_is heads nodes ws l i x h p k =
    let w = (place_in heads nodes ws l i x p).1 in
    ap (λ (v : List ℕ). put_in v h x) (cut_is heads nodes ws p.held x w) ∙ put_is heads nodes (unlinked ws x) (place_out heads nodes ws l i x p) h x k w

-- the last of the ring comes to the place of x
module _ (heads nodes : ℕ) (ws : List ℕ) (l i x : ℕ) (p : Place heads nodes ws l i x) where
  abbrev e : ℕ
  e = length (ring heads nodes ws l) - 1

  last_place : Place heads nodes ws l e (prev ws l)
  last_place = let w = p.within in record { held = p.held; head = p.head; within = omega arith; is = sym (last_slot heads nodes ws p.held l i p.head p.within) }

  z_in : prev ws l < nodes
  z_in = (place_in heads nodes ws l e (prev ws l) last_place).1

  x_in : x < nodes
  x_in = (place_in heads nodes ws l i x p).1

  z_out : Held heads nodes (unlinked ws (prev ws l))
  z_out = place_out heads nodes ws l e (prev ws l) last_place

  mid_held : (prev ws l ≡ x → ⊥) → Held heads nodes (linked (unlinked ws (prev ws l)) x (prev ws l))
  mid_held n =
      let is = p.is in
      let w = p.within in
      let ls = last_slot heads nodes ws p.held l i p.head p.within in
      let lt : i < e = elim (cases_eq i e) [ inl d ↦ absurd (n (ls ∙ ap (λ (k : ℕ). get_or (ring heads nodes ws l) k 0) (sym d) ∙ is)) | inr d ↦ omega arith ] in
      let h = h2 heads nodes ws p.held l i p.head p.within lt in
      let same : linked (unlinked ws (get_or (ring heads nodes ws l) e 0)) (get_or (ring heads nodes ws l) i 0) (get_or (ring heads nodes ws l) e 0) ≡ linked (unlinked ws (prev ws l)) x (prev ws l) = (let a = ls in cc) in
      subst (Held heads nodes) same h

  pub swapped_is : swapped_out ws l x ≡ swapped ws l x
  swapped_is =
      let hl : l < nodes = (let a = p.head in let b = p.held.0.0 in omega arith) in
      let whole : List ℕ = unlinked (linked (unlinked ws (prev ws l)) x (prev ws l)) x in
      cond-true (inside ws l) (cut_out (brought ws l x) x) ws (inside_is heads nodes ws p.held l hl)
      ∙ elim (cases_eq (prev ws l) x) [
        | inl q ↦
            let t = eq-eqb (prev ws l) x q in
            ap (λ (v : List ℕ). cut_out v x) (cond-true (eqb (prev ws l) x) ws (put_in (cut_out ws (prev ws l)) x (prev ws l)) t)
            ∙ cut_is heads nodes ws p.held x x_in
            ∙ sym (cond-true (eqb (prev ws l) x) (unlinked ws x) whole t)
        | inr n ↦
            let t = ne_eqb (prev ws l) x n in
            ap (λ (v : List ℕ). cut_out v x) (cond-false (eqb (prev ws l) x) ws (put_in (cut_out ws (prev ws l)) x (prev ws l)) t ∙ ap (λ (v : List ℕ). put_in v x (prev ws l)) (cut_is heads nodes ws p.held (prev ws l) z_in) ∙ put_is heads nodes (unlinked ws (prev ws l)) z_out x (prev ws l) x_in z_in)
            ∙ cut_is heads nodes (linked (unlinked ws (prev ws l)) x (prev ws l)) (mid_held n) x x_in
            ∙ sym (cond-false (eqb (prev ws l) x) (unlinked ws x) whole t)
      ]

-- what comes after a node
module _ (heads nodes : ℕ) (ws : List ℕ) (held : Held heads nodes ws) (l : ℕ) (hl : l < heads) where
  abbrev R : List ℕ
  R = ring heads nodes ws l

  pub after_is : (n j : ℕ) → n < nodes → j ≤ length R → next ws n ≡ get_or (R ++ (l ∷ [])) j 0 → slot_after heads ws n ≡ cond (ltb j (length R)) (Some (get_or R j 0)) None
  after_is n j hn le q =
      let t = inside_is heads nodes ws held n hn in
      elim (cases_lt j (length R)) [
        | inl lt ↦
            let a : next ws n ≡ get_or R j 0 = q ∙ get_or_append_left R (l ∷ []) 0 j lt in
            let b = (slot_at heads nodes ws held l j hl lt).0 in
            cond-true (inside ws n && leb heads (next ws n)) (Some (next ws n)) None (and_from (inside ws n) (leb heads (next ws n)) t (le-leb heads (next ws n) (omega arith)))
            ∙ ap (λ (w : ℕ). Some w) a
            ∙ sym (cond-true (ltb j (length R)) (Some (get_or R j 0)) None (lt-ltb j (length R) lt))
        | inr ge ↦
            let a : next ws n ≡ l = q ∙ get_or_at R l [] 0 j (omega arith) in
            cond-false (inside ws n && leb heads (next ws n)) (Some (next ws n)) None (and_right (inside ws n) (leb heads (next ws n)) (lt-leb heads (next ws n) (omega arith)))
            ∙ sym (cond-false (ltb j (length R)) (Some (get_or R j 0)) None (le-ltb j (length R) ge))
      ]

  pub after_head : slot_after heads ws l ≡ cond (ltb 0 (length R)) (Some (get_or R 0 0)) None
  after_head = after_is l 0 (let a = held.0.0 in omega arith) (omega arith) (first_is heads nodes ws held l hl)

  pub after_slot : (i x : ℕ) → i < length R → get_or R i 0 ≡ x → slot_after heads ws x ≡ cond (ltb (suc i) (length R)) (Some (get_or R (suc i) 0)) None
  after_slot i x h e = after_is x (suc i) (let a = (slot_at heads nodes ws held l i hl h).1 in omega arith) (omega arith) (ap (next ws) (sym e) ∙ next_is heads nodes ws held l i hl h)

-- nodes scattered
pub scattered_length : (n : ℕ) (ws : List ℕ) → length (scattered n ws) ≡ length ws
unfolding scattered
scattered_length zero ws = refl
scattered_length (suc n) ws = let e = scattered_length n ws in simp length-set e

pub scattered_drop : (n m : ℕ) (ws : List ℕ) → n ≤ m → drop (2 * m) (scattered n ws) ≡ drop (2 * m) ws
unfolding scattered
scattered_drop zero m ws h = refl
scattered_drop (suc n) m ws h = drop-set-lt (2 * m) (set (scattered n ws) (2 * n) n) (2 * n + 1) n (omega arith) ∙ drop-set-lt (2 * m) (scattered n ws) (2 * n) n (omega arith) ∙ scattered_drop n m ws (omega arith)

pub scattered_alone : (n : ℕ) (ws : List ℕ) → 2 * n ≤ length ws → (k : ℕ) → k < n → (next (scattered n ws) k ≡ k) × (prev (scattered n ws) k ≡ k)
unfolding scattered
scattered_alone zero ws h k l = absurd (omega arith)
scattered_alone (suc n) ws h k l =
    let v = scattered n ws in
    let u = set v (2 * n) n in
    let e = scattered_length n ws in
    let f : length u ≡ length ws = simp length-set e in
    elim (cases_eq k n) [
      | inl q ↦ (
        ap (λ (w : ℕ). get_or (set u (2 * n + 1) n) (2 * w) 0) q ∙ get_or-set_other u (2 * n + 1) (2 * n) n 0 (λ r. omega arith) ∙ get_or-set_same v (2 * n) n 0 (omega arith) ∙ sym q,
        ap (λ (w : ℕ). get_or (set u (2 * n + 1) n) (2 * w + 1) 0) q ∙ get_or-set_same u (2 * n + 1) n 0 (omega arith) ∙ sym q,
      )
      | inr ne ↦
          let ih = scattered_alone n ws (omega arith) k (omega arith) in (
            get_or-set_other u (2 * n + 1) (2 * k) n 0 (λ r. omega arith) ∙ get_or-set_other v (2 * n) (2 * k) n 0 (λ r. ne (omega arith)) ∙ ih.0,
            get_or-set_other u (2 * n + 1) (2 * k + 1) n 0 (λ r. ne (omega arith)) ∙ get_or-set_other v (2 * n) (2 * k + 1) n 0 (λ r. omega arith) ∙ ih.1,
          )
    ]

pub ring_laws : RingLaws
ring_laws = record {
  cuts = λ heads nodes ws s l h a b k. rw (cut_is heads nodes ws h s b) (let c = cuts heads nodes ws h s a b in (c.rings' l k, (c.held', c.drop')));
  pushes = λ heads nodes ws h s l w a b c d k. rw (put_is heads nodes ws w h s (let z = w.0.0 in omega arith) c) (push_ring heads nodes ws w h s a b c d l k, (push_held heads nodes ws w h s a b c d, push_drop heads nodes ws w h s a b c d));
  shifts = λ heads nodes ws m i x h l p a k. rw (shifted_is heads nodes ws m i x h p (let z = p.held.0.0 in omega arith)) (moved_ring heads nodes ws p.held m i p.head p.within h a x p.is l k, (moved_held heads nodes ws p.held m i p.head p.within h a x p.is, moved_drop heads nodes ws p.held m i p.head p.within h a x p.is));
  swaps = λ heads nodes ws m i x l p k. rw (swapped_is heads nodes ws m i x p, ← p.is) (let c = swaps heads nodes ws p.held m i p.head p.within in (c.rings' l k, (c.held', c.drop')));
  first = λ heads nodes ws l h k. after_head heads nodes ws h l k;
  next_one = λ heads nodes ws l i x p. after_slot heads nodes ws p.held l p.head i x p.within p.is;
  scatters = λ heads nodes ws l a b k.
      let e = scattered_length nodes ws in
      let al = scattered_alone nodes ws b in
      (lone_ring heads nodes (scattered nodes ws) a (omega arith) al l k, (lone_held heads nodes (scattered nodes ws) a (omega arith) al, scattered_drop nodes nodes ws (omega arith)));
  apart = λ heads nodes ws l m i j x p q. rings_apart heads nodes ws p.held l m i j p.head q.head p.within q.within (p.is ∙ sym q.is);
}

-- one node more
pub scattered_step : (n : ℕ) (ws vs : List ℕ) → vs ≡ scattered n ws → length vs ≡ length ws → (set (set vs (2 * n) n) (2 * n + 1) n ≡ scattered (n + 1) ws) × (length (set (set vs (2 * n) n) (2 * n + 1) n) ≡ length ws)
unfolding scattered
scattered_step n ws vs e l =
    let s : suc n ≡ n + 1 = omega arith in
    (ap (λ (v : List ℕ). set (set v (2 * n) n) (2 * n + 1) n) e ∙ ap (λ (k : ℕ). scattered k ws) s, simp length-set l)

pub scattered_none : (ws : List ℕ) → ws ≡ scattered 0 ws
unfolding scattered
scattered_none ws = refl
