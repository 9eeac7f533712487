-- Rings in words, and what the two writers do to them. Assumes nothing.
use Rattle.std.proofs.Common.{◌≡◌, ℕ, zero, suc, ◌+◌, ◌*◌, ◌<◌, ◌≤◌, ltb, List, [], ◌∷◌, length, get_or, drop, set, sym, refl, ap, ◌∙◌, inl, inr, arith, length-set}
use Rattle.std.specs.List.{AllByRecursion}
use Rattle.std.proofs.lemmas.Bool.{cases_eq, cond_both}
use Rattle.std.proofs.lemmas.List.{get_or-set_same, get_or-set_other, drop-set-lt}
use Rattle.std.proofs.ByRecursion.{All-get_or, All-from_get_or}
use Rattle.rings.specs.Rings.{Lacks, Differ, next, prev, Path, walk, ring, Knit, Held, unlinked, linked, without, before}
use Rattle.rings.proofs.Paths.{Unlinks, Links, unlink_path, link_path, path_prev, walk_path, walk_slots}
use Rattle.rings.proofs.Holes.{before_all, few, path_differ, without_all, apart_from}

pub walk_within : (nx : ℕ → ℕ) (heads nodes k x : ℕ) → ((n : ℕ) → n < nodes → nx n < nodes) → x < nodes → AllByRecursion (λ y. y < nodes) (walk nx heads k x)
unfolding walk
walk_within nx heads nodes zero x w h = tt
walk_within nx heads nodes (suc k) x w h =
    cond_both (ltb x heads) [] (x ∷ walk nx heads k (nx x)) (λ ys. AllByRecursion (λ y. y < nodes) ys) (λ _. tt) (λ e. (h, walk_within nx heads nodes k (nx x) w (w x h)))

-- the slots of a ring
abbrev pub Slots : ℕ → ℕ → List ℕ → Type 0
Slots heads nodes xs = AllByRecursion (λ x. heads ≤ x) xs × AllByRecursion (λ x. x < nodes) xs

-- a ring's list is known by the links
pub ring_is : (heads nodes : ℕ) (ws : List ℕ) (l : ℕ) (xs : List ℕ) → l < heads → Path (next ws) (prev ws) l xs l → Slots heads nodes xs → ring heads nodes ws l ≡ xs
unfolding ring
ring_is heads nodes ws l xs h p s =
    walk_path (next ws) (prev ws) heads nodes l xs l p s.0 h (few nodes xs (path_differ (next ws) (prev ws) heads l xs p h s.0) s.1)

module _ (heads nodes : ℕ) (ws : List ℕ) (held : Held heads nodes ws) where
  pub ring_slots : (l : ℕ) → l < heads → Slots heads nodes (ring heads nodes ws l)
  unfolding ring
  ring_slots l h =
      (walk_slots (next ws) heads nodes (next ws l), walk_within (next ws) heads nodes nodes (next ws l) (λ n k. (held.1.0 n k).0.0) (held.1.0 l (let a = held.0.0 in omega arith)).0.0)

  pub ring_differ : (l : ℕ) → l < heads → Differ (ring heads nodes ws l)
  ring_differ l h = path_differ (next ws) (prev ws) heads l (ring heads nodes ws l) (held.1.1 l h) h (ring_slots l h).0

  -- a ring has at most as many slots as there are nodes
  pub ring_few : (l : ℕ) → l < heads → length (ring heads nodes ws l) ≤ nodes
  ring_few l h = few nodes (ring heads nodes ws l) (ring_differ l h) (ring_slots l h).1

  -- a slot in a ring does not stand alone
  pub not_alone : (l i : ℕ) → l < heads → i < length (ring heads nodes ws l) → prev ws (get_or (ring heads nodes ws l) i 0) ≡ get_or (ring heads nodes ws l) i 0 → ⊥
  not_alone l zero h k e =
      let xs = ring heads nodes ws l in
      let a : prev ws (get_or xs 0 0) ≡ l = path_prev (next ws) (prev ws) l xs l 0 (held.1.1 l h) k in
      let b : heads ≤ get_or xs 0 0 = All-get_or (λ x. heads ≤ x) xs 0 0 k (ring_slots l h).0 in
      omega arith
  not_alone l (suc i) h k e =
      let xs = ring heads nodes ws l in
      let a : prev ws (get_or xs (suc i) 0) ≡ get_or xs i 0 = path_prev (next ws) (prev ws) l xs l (suc i) (held.1.1 l h) k in
      apart_from xs (ring_differ l h) i (suc i) (omega arith) k (sym a ∙ e)

  -- one that stands alone is in no ring
  pub alone_lacks : (s l : ℕ) → l < heads → s < nodes → next ws s ≡ s → Lacks s (ring heads nodes ws l)
  alone_lacks s l h k e =
      let xs = ring heads nodes ws l in
      let q : prev ws s ≡ s = ap (prev ws) (sym e) ∙ (held.1.0 s k).1.1 in
      All-from_get_or (λ x. x ≡ s → ⊥) xs 0 (λ i j z. not_alone l i h j (ap (prev ws) z ∙ q ∙ sym z))

-- reads of words after the four writes
module _ (ws : List ℕ) (i1 v1 i2 v2 i3 v3 i4 v4 : ℕ) where
  abbrev pub four : List ℕ
  four = set (set (set (set ws i1 v1) i2 v2) i3 v3) i4 v4

  pub four_else : (k : ℕ) → (k ≡ i1 → ⊥) → (k ≡ i2 → ⊥) → (k ≡ i3 → ⊥) → (k ≡ i4 → ⊥) → get_or four k 0 ≡ get_or ws k 0
  four_else k a b c d =
      get_or-set_other (set (set (set ws i1 v1) i2 v2) i3 v3) i4 k v4 0 d
      ∙ get_or-set_other (set (set ws i1 v1) i2 v2) i3 k v3 0 c
      ∙ get_or-set_other (set ws i1 v1) i2 k v2 0 b
      ∙ get_or-set_other ws i1 k v1 0 a

  pub four_4 : (k : ℕ) → i4 < length ws → k ≡ i4 → get_or four k 0 ≡ v4
  four_4 k h e = ap (λ (z : ℕ). get_or four z 0) e ∙ get_or-set_same (set (set (set ws i1 v1) i2 v2) i3 v3) i4 v4 0 (simp length-set (omega arith))

  pub four_3 : (k : ℕ) → i3 < length ws → (k ≡ i4 → ⊥) → k ≡ i3 → get_or four k 0 ≡ v3
  four_3 k h d e =
      get_or-set_other (set (set (set ws i1 v1) i2 v2) i3 v3) i4 k v4 0 d
      ∙ ap (λ (z : ℕ). get_or (set (set (set ws i1 v1) i2 v2) i3 v3) z 0) e
      ∙ get_or-set_same (set (set ws i1 v1) i2 v2) i3 v3 0 (simp length-set (omega arith))

  pub four_2 : (k : ℕ) → i2 < length ws → (k ≡ i3 → ⊥) → (k ≡ i4 → ⊥) → k ≡ i2 → get_or four k 0 ≡ v2
  four_2 k h c d e =
      get_or-set_other (set (set (set ws i1 v1) i2 v2) i3 v3) i4 k v4 0 d
      ∙ get_or-set_other (set (set ws i1 v1) i2 v2) i3 k v3 0 c
      ∙ ap (λ (z : ℕ). get_or (set (set ws i1 v1) i2 v2) z 0) e
      ∙ get_or-set_same (set ws i1 v1) i2 v2 0 (simp length-set (omega arith))

  pub four_1 : (k : ℕ) → i1 < length ws → (k ≡ i2 → ⊥) → (k ≡ i3 → ⊥) → (k ≡ i4 → ⊥) → k ≡ i1 → get_or four k 0 ≡ v1
  four_1 k h b c d e =
      get_or-set_other (set (set (set ws i1 v1) i2 v2) i3 v3) i4 k v4 0 d
      ∙ get_or-set_other (set (set ws i1 v1) i2 v2) i3 k v3 0 c
      ∙ get_or-set_other (set ws i1 v1) i2 k v2 0 b
      ∙ ap (λ (z : ℕ). get_or (set ws i1 v1) z 0) e
      ∙ get_or-set_same ws i1 v1 0 h

  pub four_drop : (n : ℕ) → i1 < n → i2 < n → i3 < n → i4 < n → drop n four ≡ drop n ws
  four_drop n a b c d =
      drop-set-lt n (set (set (set ws i1 v1) i2 v2) i3 v3) i4 v4 d
      ∙ drop-set-lt n (set (set ws i1 v1) i2 v2) i3 v3 c
      ∙ drop-set-lt n (set ws i1 v1) i2 v2 b
      ∙ drop-set-lt n ws i1 v1 a

module _ (heads nodes : ℕ) (ws : List ℕ) (held : Held heads nodes ws) (s : ℕ) (within : s < nodes) (tied : prev ws s ≡ s → ⊥) where
  abbrev pw : ℕ
  pw = prev ws s

  abbrev nw : ℕ
  nw = next ws s

  knit_s : ((nw < nodes) × (pw < nodes)) × ((next ws pw ≡ s) × (prev ws nw ≡ s))
  knit_s = held.1.0 s within

  tied_next : nw ≡ s → ⊥
  tied_next e = tied (ap (prev ws) (sym e) ∙ knit_s.1.1)

  pub unlinked_unlinks : Unlinks (next ws) (prev ws) (next (unlinked ws s)) (prev (unlinked ws s)) s
  unlinked_unlinks =
      let n1 = knit_s.0.0 in
      let n2 = knit_s.0.1 in
      let lw = held.0.1 in
      record {
        next_at = four_1 ws (2 * pw) nw (2 * nw + 1) pw (2 * s) s (2 * s + 1) s (2 * pw) (omega arith) (λ q. omega arith) (λ q. tied (omega arith)) (λ q. omega arith) refl;
        prev_at = four_2 ws (2 * pw) nw (2 * nw + 1) pw (2 * s) s (2 * s + 1) s (2 * nw + 1) (omega arith) (λ q. omega arith) (λ q. tied_next (omega arith)) refl;
        next_else = λ x a b. four_else ws (2 * pw) nw (2 * nw + 1) pw (2 * s) s (2 * s + 1) s (2 * x) (λ q. a (omega arith)) (λ q. omega arith) (λ q. b (omega arith)) (λ q. omega arith);
        prev_else = λ x a b. four_else ws (2 * pw) nw (2 * nw + 1) pw (2 * s) s (2 * s + 1) s (2 * x + 1) (λ q. omega arith) (λ q. a (omega arith)) (λ q. omega arith) (λ q. b (omega arith));
      }

  pub unlinked_alone : (next (unlinked ws s) s ≡ s) × (prev (unlinked ws s) s ≡ s)
  unlinked_alone =
      let lw = held.0.1 in
      (four_3 ws (2 * pw) nw (2 * nw + 1) pw (2 * s) s (2 * s + 1) s (2 * s) (omega arith) (λ q. omega arith) refl, four_4 ws (2 * pw) nw (2 * nw + 1) pw (2 * s) s (2 * s + 1) s (2 * s + 1) (omega arith) refl)

  pub unlinked_length : length (unlinked ws s) ≡ length ws
  unlinked_length = simp length-set

  pub unlinked_drop : drop (2 * nodes) (unlinked ws s) ≡ drop (2 * nodes) ws
  unlinked_drop =
      let n1 = knit_s.0.0 in
      let n2 = knit_s.0.1 in
      four_drop ws (2 * pw) nw (2 * nw + 1) pw (2 * s) s (2 * s + 1) s (2 * nodes) (omega arith) (omega arith) (omega arith) (omega arith)

  unlinked_knit : Knit nodes (unlinked ws s)
  unlinked_knit x h =
      let v = unlinked ws s in
      let u = unlinked_unlinks in
      let al = unlinked_alone in
      let k = held.1.0 x h in
      let n1 = knit_s.0.0 in
      let n2 = knit_s.0.1 in
      elim (cases_eq x s) [
        | inl e ↦ let a : next v x ≡ s = ap (next v) e ∙ al.0 in let b : prev v x ≡ s = ap (prev v) e ∙ al.1 in ((omega arith, omega arith), (ap (next v) b ∙ al.0 ∙ sym e, ap (prev v) a ∙ al.1 ∙ sym e))
        | inr ne ↦
            let nexts : (next v x < nodes) × (prev v (next v x) ≡ x) = elim (cases_eq x pw) [
              | inl e ↦ let a : next v x ≡ nw = ap (next v) e ∙ u.next_at in (omega arith, ap (prev v) a ∙ u.prev_at ∙ sym e)
              | inr np ↦ let a : next v x ≡ next ws x = u.next_else x np ne in (let z = k.0.0 in omega arith, ap (prev v) a ∙ u.prev_else (next ws x) (λ q. ne (sym k.1.1 ∙ ap (prev ws) q ∙ knit_s.1.1)) (λ q. np (sym k.1.1 ∙ ap (prev ws) q)) ∙ k.1.1)
            ] in
            let prevs : (prev v x < nodes) × (next v (prev v x) ≡ x) = elim (cases_eq x nw) [
              | inl e ↦ let a : prev v x ≡ pw = ap (prev v) e ∙ u.prev_at in (omega arith, ap (next v) a ∙ u.next_at ∙ sym e)
              | inr np ↦ let a : prev v x ≡ prev ws x = u.prev_else x np ne in (let z = k.0.1 in omega arith, ap (next v) a ∙ u.next_else (prev ws x) (λ q. ne (sym k.1.0 ∙ ap (next ws) q ∙ knit_s.1.0)) (λ q. np (sym k.1.0 ∙ ap (next ws) q)) ∙ k.1.0)
            ] in
            ((nexts.0, prevs.0), (prevs.1, nexts.1))
      ]

  module _ (slot : heads ≤ s) where
    unlinked_path : (l : ℕ) → l < heads → Path (next (unlinked ws s)) (prev (unlinked ws s)) l (without s (ring heads nodes ws l)) l
    unlinked_path l h = unlink_path s unlinked_unlinks tied knit_s.1.0 knit_s.1.1 l (ring heads nodes ws l) l (λ e. omega arith) (λ e. omega arith) (held.1.1 l h)

    -- s leaves its ring, and the other rings stay
    pub unlinked_ring : (l : ℕ) → l < heads → ring heads nodes (unlinked ws s) l ≡ without s (ring heads nodes ws l)
    unlinked_ring l h =
        let q = ring_slots heads nodes ws held l h in
        ring_is heads nodes (unlinked ws s) l (without s (ring heads nodes ws l)) h (unlinked_path l h) (without_all (λ x. heads ≤ x) s (ring heads nodes ws l) q.0, without_all (λ x. x < nodes) s (ring heads nodes ws l) q.1)

    pub unlinked_held : Held heads nodes (unlinked ws s)
    unlinked_held =
        ((held.0.0, (let a = held.0.1 in let b = unlinked_length in omega arith)), (unlinked_knit, λ l h. rw (unlinked_ring l h) (unlinked_path l h)))

-- s, which stands alone, is put before n
module _ (heads nodes : ℕ) (ws : List ℕ) (held : Held heads nodes ws) (n s : ℕ) (at : n < nodes) (within : s < nodes) (other : n ≡ s → ⊥) (alone : next ws s ≡ s) where
  abbrev pn : ℕ
  pn = prev ws n

  knit_n : ((next ws n < nodes) × (pn < nodes)) × ((next ws pn ≡ n) × (prev ws (next ws n) ≡ n))
  knit_n = held.1.0 n at

  alone_prev : prev ws s ≡ s
  alone_prev = ap (prev ws) (sym alone) ∙ (held.1.0 s within).1.1

  pn_other : pn ≡ s → ⊥
  pn_other e = other (sym knit_n.1.0 ∙ ap (next ws) e ∙ alone)

  pub linked_links : Links (next ws) (prev ws) (next (linked ws n s)) (prev (linked ws n s)) n s
  linked_links =
      let n2 = knit_n.0.1 in
      let lw = held.0.1 in
      record {
        next_s = four_2 ws (2 * pn) s (2 * s) n (2 * s + 1) pn (2 * n + 1) s (2 * s) (omega arith) (λ q. omega arith) (λ q. omega arith) refl;
        prev_s = four_3 ws (2 * pn) s (2 * s) n (2 * s + 1) pn (2 * n + 1) s (2 * s + 1) (omega arith) (λ q. other (omega arith)) refl;
        next_at = four_1 ws (2 * pn) s (2 * s) n (2 * s + 1) pn (2 * n + 1) s (2 * pn) (omega arith) (λ q. pn_other (omega arith)) (λ q. omega arith) (λ q. omega arith) refl;
        prev_at = four_4 ws (2 * pn) s (2 * s) n (2 * s + 1) pn (2 * n + 1) s (2 * n + 1) (omega arith) refl;
        next_else = λ x a b. four_else ws (2 * pn) s (2 * s) n (2 * s + 1) pn (2 * n + 1) s (2 * x) (λ q. a (omega arith)) (λ q. b (omega arith)) (λ q. omega arith) (λ q. omega arith);
        prev_else = λ x a b. four_else ws (2 * pn) s (2 * s) n (2 * s + 1) pn (2 * n + 1) s (2 * x + 1) (λ q. omega arith) (λ q. omega arith) (λ q. b (omega arith)) (λ q. a (omega arith));
      }

  pub linked_length : length (linked ws n s) ≡ length ws
  linked_length = simp length-set

  pub linked_drop : drop (2 * nodes) (linked ws n s) ≡ drop (2 * nodes) ws
  linked_drop =
      let n2 = knit_n.0.1 in
      four_drop ws (2 * pn) s (2 * s) n (2 * s + 1) pn (2 * n + 1) s (2 * nodes) (omega arith) (omega arith) (omega arith) (omega arith)

  linked_knit : Knit nodes (linked ws n s)
  linked_knit x h =
      let v = linked ws n s in
      let u = linked_links in
      let k = held.1.0 x h in
      let n2 = knit_n.0.1 in
      elim (cases_eq x s) [
        | inl e ↦ let a : next v x ≡ n = ap (next v) e ∙ u.next_s in let b : prev v x ≡ pn = ap (prev v) e ∙ u.prev_s in ((omega arith, omega arith), (ap (next v) b ∙ u.next_at ∙ sym e, ap (prev v) a ∙ u.prev_at ∙ sym e))
        | inr ne ↦
            let nexts : (next v x < nodes) × (prev v (next v x) ≡ x) = elim (cases_eq x pn) [
              | inl e ↦ let a : next v x ≡ s = ap (next v) e ∙ u.next_at in (omega arith, ap (prev v) a ∙ u.prev_s ∙ sym e)
              | inr np ↦ let a : next v x ≡ next ws x = u.next_else x np ne in (let z = k.0.0 in omega arith, ap (prev v) a ∙ u.prev_else (next ws x) (λ q. np (sym k.1.1 ∙ ap (prev ws) q)) (λ q. ne (sym k.1.1 ∙ ap (prev ws) q ∙ alone_prev)) ∙ k.1.1)
            ] in
            let prevs : (prev v x < nodes) × (next v (prev v x) ≡ x) = elim (cases_eq x n) [
              | inl e ↦ let a : prev v x ≡ s = ap (prev v) e ∙ u.prev_at in (omega arith, ap (next v) a ∙ u.next_s ∙ sym e)
              | inr np ↦ let a : prev v x ≡ prev ws x = u.prev_else x np ne in (let z = k.0.1 in omega arith, ap (next v) a ∙ u.next_else (prev ws x) (λ q. np (sym k.1.0 ∙ ap (next ws) q ∙ knit_n.1.0)) (λ q. ne (sym k.1.0 ∙ ap (next ws) q ∙ alone)) ∙ k.1.0)
            ] in
            ((nexts.0, prevs.0), (prevs.1, nexts.1))
      ]

  module _ (slot : heads ≤ s) where
    linked_path : (l : ℕ) → l < heads → Path (next (linked ws n s)) (prev (linked ws n s)) l (before n s (ring heads nodes ws l) l) l
    linked_path l h = link_path n s linked_links knit_n.1.0 alone l (ring heads nodes ws l) l (alone_lacks heads nodes ws held s l h within alone) (λ e. omega arith) (held.1.1 l h)

    -- s stands before n, and the other rings stay
    pub linked_ring : (l : ℕ) → l < heads → ring heads nodes (linked ws n s) l ≡ before n s (ring heads nodes ws l) l
    linked_ring l h =
        let q = ring_slots heads nodes ws held l h in
        ring_is heads nodes (linked ws n s) l (before n s (ring heads nodes ws l) l) h (linked_path l h) (before_all (λ x. heads ≤ x) n s (ring heads nodes ws l) l slot q.0, before_all (λ x. x < nodes) n s (ring heads nodes ws l) l within q.1)

    pub linked_held : Held heads nodes (linked ws n s)
    linked_held =
        ((held.0.0, (let a = held.0.1 in let b = linked_length in omega arith)), (linked_knit, λ l h. rw (linked_ring l h) (linked_path l h)))
