-- Nodes moved from ring to ring. Assumes nothing.
use Rattle.std.proofs.Common.{◌≡◌, ℕ, zero, suc, ◌+◌, ◌-◌, ◌*◌, ◌<◌, ◌≤◌, eqb, List, [], ◌∷◌, ◌++◌, length, get_or, take, drop, set, sym, refl, ap, ◌∙◌, subst, inl, inr, arith, length-set}
use Rattle.std.specs.List.{AllByRecursion}
use Rattle.std.proofs.lemmas.Bool.{cases_eq, cond-true, cond-false, eq-eqb, ne_eqb}
use Rattle.std.proofs.lemmas.List.{set_past, set-get_or, length-take-le, get_or-take}
use Rattle.std.proofs.ByRecursion.{All-get_or, All-from_get_or, All-weaker}
use Rattle.rings.specs.Rings.{Lacks, Differ, next, prev, Path, ring, Held, unlinked, linked, without, before, drop_at, at, swapped}
use Rattle.rings.proofs.Paths.{path_prev, path_next}
use Rattle.rings.proofs.Holes.{before_end, before_none, without_lacks, apart_from}
use Rattle.rings.proofs.Drops.{at_here, at_else, without_at, drop_at_last, drop_at_differ, instead}
use Rattle.rings.proofs.Words.{ring_is, ring_slots, ring_differ, not_alone, alone_lacks, unlinked_alone, unlinked_drop, unlinked_ring, unlinked_held, linked_drop, linked_ring, linked_held, unlinked_unlinks, linked_links}

-- the one before the end of a path
pub path_last : (nx pv : ℕ → ℕ) (a : ℕ) (xs : List ℕ) (b : ℕ) → Path nx pv a xs b → pv b ≡ get_or (a ∷ xs) (length xs) 0
unfolding Path
path_last nx pv a [] b p = p.1
path_last nx pv a (x ∷ xs) b p = path_last nx pv x xs b p.1

module _ (heads nodes : ℕ) (ws : List ℕ) (held : Held heads nodes ws) where
  abbrev R : ℕ → List ℕ
  R l = ring heads nodes ws l

  pub before_first : (l : ℕ) → l < heads → 0 < length (R l) → prev ws (get_or (R l) 0 0) ≡ l
  before_first l h k = path_prev (next ws) (prev ws) l (R l) l 0 (held.1.1 l h) k

  pub before_next : (l i : ℕ) → l < heads → suc i < length (R l) → prev ws (get_or (R l) (suc i) 0) ≡ get_or (R l) i 0
  before_next l i h k = path_prev (next ws) (prev ws) l (R l) l (suc i) (held.1.1 l h) k

  pub slot_at : (l i : ℕ) → l < heads → i < length (R l) → (heads ≤ get_or (R l) i 0) × (get_or (R l) i 0 < nodes)
  slot_at l i h k =
      let s = ring_slots heads nodes ws held l h in
      (All-get_or (λ x. heads ≤ x) (R l) i 0 k s.0, All-get_or (λ x. x < nodes) (R l) i 0 k s.1)

  -- no node is in two rings
  pub rings_apart : (l m i j : ℕ) → l < heads → m < heads → i < length (R l) → j < length (R m) → get_or (R l) i 0 ≡ get_or (R m) j 0 → (l ≡ m) × (i ≡ j)
  rings_apart l m zero zero hl hm il jm e = (sym (before_first l hl il) ∙ ap (prev ws) e ∙ before_first m hm jm, refl)
  rings_apart l m zero (suc j) hl hm il jm e =
      let a : l ≡ get_or (R m) j 0 = sym (before_first l hl il) ∙ ap (prev ws) e ∙ before_next m j hm jm in
      let b = (slot_at m j hm (omega arith)).0 in
      absurd (omega arith)
  rings_apart l m (suc i) zero hl hm il jm e =
      let a : get_or (R l) i 0 ≡ m = sym (before_next l i hl il) ∙ ap (prev ws) e ∙ before_first m hm jm in
      let b = (slot_at l i hl (omega arith)).0 in
      absurd (omega arith)
  rings_apart l m (suc i) (suc j) hl hm il jm e =
      let r = rings_apart l m i j hl hm (omega arith) (omega arith) (sym (before_next l i hl il) ∙ ap (prev ws) e ∙ before_next m j hm jm) in
      (r.0, ap suc r.1)

  pub lacks_other : (m i l : ℕ) → m < heads → l < heads → i < length (R m) → (l ≡ m → ⊥) → Lacks (get_or (R m) i 0) (R l)
  lacks_other m i l hm hl im ne = All-from_get_or (λ y. y ≡ get_or (R m) i 0 → ⊥) (R l) 0 (λ j jl e. ne (rings_apart l m j i hl hm jl im e).0)

  pub first_is : (l : ℕ) → l < heads → next ws l ≡ get_or (R l ++ (l ∷ [])) 0 0
  first_is l h = path_next (next ws) (prev ws) l (R l) l 0 (held.1.1 l h) (omega arith)

  pub next_is : (l i : ℕ) → l < heads → i < length (R l) → next ws (get_or (R l) i 0) ≡ get_or (R l ++ (l ∷ [])) (suc i) 0
  next_is l i h k = path_next (next ws) (prev ws) l (R l) l (suc i) (held.1.1 l h) (omega arith)

  pub last_is : (l : ℕ) → l < heads → prev ws l ≡ get_or (l ∷ R l) (length (R l)) 0
  last_is l h = path_last (next ws) (prev ws) l (R l) l (held.1.1 l h)

  -- what taking the slot at place i of ring m out leaves
  module _ (m i : ℕ) (hm : m < heads) (im : i < length (R m)) where
    abbrev it : ℕ
    it = get_or (R m) i 0

    abbrev out : List ℕ
    out = unlinked ws it

    it_tied : prev ws it ≡ it → ⊥
    it_tied = not_alone heads nodes ws held m i hm im

    pub out_held : Held heads nodes out
    out_held = unlinked_held heads nodes ws held it (slot_at m i hm im).1 it_tied (slot_at m i hm im).0

    pub out_alone : next out it ≡ it
    out_alone = (unlinked_alone heads nodes ws held it (slot_at m i hm im).1 it_tied).0

    pub out_drop : drop (2 * nodes) out ≡ drop (2 * nodes) ws
    out_drop = unlinked_drop heads nodes ws held it (slot_at m i hm im).1 it_tied

    pub out_ring : (l : ℕ) → l < heads → ring heads nodes out l ≡ at R m (drop_at i (R m)) l
    out_ring l hl =
        let e = unlinked_ring heads nodes ws held it (slot_at m i hm im).1 it_tied (slot_at m i hm im).0 l hl in
        elim (cases_eq l m) [
          | inl q ↦ e ∙ ap (λ (z : ℕ). without it (R z)) q ∙ without_at i (R m) im (ring_differ heads nodes ws held m hm) ∙ sym (at_here R m (drop_at i (R m)) l q)
          | inr n ↦ e ∙ without_lacks it (R l) (lacks_other m i l hm hl im n) ∙ sym (at_else R m (drop_at i (R m)) l n)
        ]

    -- nodes that stand alone stay so
    pub out_still : (y : ℕ) → y < nodes → next ws y ≡ y → next out y ≡ y
    out_still y hy e =
        let u = unlinked_unlinks heads nodes ws held it (slot_at m i hm im).1 it_tied in
        let kn = held.1.0 it (slot_at m i hm im).1 in
        elim (cases_eq y it) [
          | inl q ↦ ap (next out) q ∙ out_alone ∙ sym q
          | inr n ↦ u.next_else y (λ q. n (sym e ∙ ap (next ws) q ∙ kn.1.0)) n ∙ e
        ]

-- a node that stands alone goes to the end of a ring
module _ (heads nodes : ℕ) (ws : List ℕ) (held : Held heads nodes ws) (h s : ℕ) (hh : h < heads) (slot : heads ≤ s) (within : s < nodes) (alone : next ws s ≡ s) where
  abbrev Q : ℕ → List ℕ
  Q l = ring heads nodes ws l

  h_other : h ≡ s → ⊥
  h_other e = omega arith

  h_node : h < nodes
  h_node = omega arith

  pub push_held : Held heads nodes (linked ws h s)
  push_held = linked_held heads nodes ws held h s h_node within h_other alone slot

  pub push_drop : drop (2 * nodes) (linked ws h s) ≡ drop (2 * nodes) ws
  push_drop = linked_drop heads nodes ws held h s h_node within h_other alone

  lacks_head : (l : ℕ) → l < heads → Lacks h (Q l)
  lacks_head l hl = All-weaker (λ x. heads ≤ x) (λ x. x ≡ h → ⊥) (λ x a e. omega arith) (Q l) (ring_slots heads nodes ws held l hl).0

  pub push_ring : (l : ℕ) → l < heads → ring heads nodes (linked ws h s) l ≡ at Q h (Q h ++ (s ∷ [])) l
  push_ring l hl =
      let e = linked_ring heads nodes ws held h s h_node within h_other alone slot l hl in
      elim (cases_eq l h) [
        | inl q ↦ e ∙ before_end h s (Q l) l (lacks_head l hl) q ∙ ap (λ (z : ℕ). Q z ++ (s ∷ [])) q ∙ sym (at_here Q h (Q h ++ (s ∷ [])) l q)
        | inr n ↦ e ∙ before_none h s (Q l) l (lacks_head l hl) n ∙ sym (at_else Q h (Q h ++ (s ∷ [])) l n)
      ]

  pub push_still : (y : ℕ) → y < nodes → (y ≡ s → ⊥) → next ws y ≡ y → (y ≡ h → ⊥) → next (linked ws h s) y ≡ y
  push_still y hy n e nh =
      let u = linked_links heads nodes ws held h s h_node within h_other alone in
      let kn = held.1.0 h h_node in
      u.next_else y (λ q. nh (sym e ∙ ap (next ws) q ∙ kn.1.0)) n ∙ e

-- words with the same links
same_path : (nx pv nx' pv' : ℕ → ℕ) (nodes : ℕ) → ((n : ℕ) → n < nodes → (nx' n ≡ nx n) × (pv' n ≡ pv n)) → (a : ℕ) (xs : List ℕ) (b : ℕ) → a < nodes → AllByRecursion (λ x. x < nodes) xs → b < nodes → Path nx pv a xs b → Path nx' pv' a xs b
unfolding Path
same_path nx pv nx' pv' nodes s a [] b ha al hb p = ((s a ha).0 ∙ p.0, (s b hb).1 ∙ p.1)
same_path nx pv nx' pv' nodes s a (x ∷ xs) b ha al hb p = (((s a ha).0 ∙ p.0.0, (s x al.0).1 ∙ p.0.1), same_path nx pv nx' pv' nodes s x xs b al.0 al.1 hb p.1)

module _ (heads nodes : ℕ) (ws vs : List ℕ) (held : Held heads nodes ws) (long : 2 * nodes ≤ length vs) (same : (n : ℕ) → n < nodes → (next vs n ≡ next ws n) × (prev vs n ≡ prev ws n)) where
  kept_path : (l : ℕ) → l < heads → Path (next vs) (prev vs) l (ring heads nodes ws l) l
  kept_path l h =
      let b = held.0.0 in
      same_path (next ws) (prev ws) (next vs) (prev vs) nodes same l (ring heads nodes ws l) l (omega arith) (ring_slots heads nodes ws held l h).1 (omega arith) (held.1.1 l h)

  pub same_ring : (l : ℕ) → l < heads → ring heads nodes vs l ≡ ring heads nodes ws l
  same_ring l h = ring_is heads nodes vs l (ring heads nodes ws l) h (kept_path l h) (ring_slots heads nodes ws held l h)

  pub same_held : Held heads nodes vs
  same_held = (
    (held.0.0, long),
    (
      λ n h.
          let k = held.1.0 n h in
          let a = same n h in
          let b : next vs (prev ws n) ≡ n = (same (prev ws n) k.0.1).0 ∙ k.1.0 in
          let c : prev vs (next ws n) ≡ n = (same (next ws n) k.0.0).1 ∙ k.1.1 in
          (((let z = k.0.0 in let y = a.0 in omega arith), (let z = k.0.1 in let y = a.1 in omega arith)), (ap (next vs) a.1 ∙ b, ap (prev vs) a.0 ∙ c)),
      λ l h. rw (same_ring l h) (kept_path l h),
    ),
  )

-- words whose nodes all stand alone
module _ (heads nodes : ℕ) (ws : List ℕ) (le : heads ≤ nodes) (long : 2 * nodes ≤ length ws) (alone : (n : ℕ) → n < nodes → (next ws n ≡ n) × (prev ws n ≡ n)) where
  lone_path : (l : ℕ) → l < heads → Path (next ws) (prev ws) l [] l
  unfolding Path
  lone_path l h = ((alone l (omega arith)).0, (alone l (omega arith)).1)

  pub lone_ring : (l : ℕ) → l < heads → ring heads nodes ws l ≡ []
  lone_ring l h = ring_is heads nodes ws l [] h (lone_path l h) (tt, tt)

  pub lone_held : Held heads nodes ws
  lone_held = (
    (le, long),
    (
      λ n h.
          let a = alone n h in
          (((let z = a.0 in omega arith), (let z = a.1 in omega arith)), (ap (next ws) a.1 ∙ a.0, ap (prev ws) a.0 ∙ a.1)),
      λ l h. rw (lone_ring l h) (lone_path l h),
    ),
  )

-- a slot taken out, and the last of its ring put in its place
module _ (heads nodes : ℕ) (ws : List ℕ) (held : Held heads nodes ws) (m i : ℕ) (hm : m < heads) (im : i < length (ring heads nodes ws m)) where
  abbrev pub S : ℕ → List ℕ
  S l = ring heads nodes ws l

  abbrev pub x : ℕ
  x = get_or (S m) i 0

  abbrev pub end : ℕ
  end = length (S m) - 1

  abbrev pub z : ℕ
  z = get_or (S m) end 0

  abbrev pub swap_list : List ℕ
  swap_list = set (take end (S m)) i z

  pub last_slot : prev ws m ≡ z
  last_slot =
      let e : length (S m) ≡ suc end = omega arith in
      last_is heads nodes ws held m hm ∙ ap (λ (k : ℕ). get_or (m ∷ S m) k 0) e

  pub record Swaps (vs : List ℕ) : Type 0 where
    pub held' : Held heads nodes vs
    pub rings' : (l : ℕ) → l < heads → ring heads nodes vs l ≡ at S m swap_list l
    pub alone' : next vs x ≡ x
    pub still' : (y : ℕ) → y < nodes → next ws y ≡ y → next vs y ≡ y
    pub drop' : drop (2 * nodes) vs ≡ drop (2 * nodes) ws

  -- the slot is the last
  swaps_last : i ≡ end → Swaps (unlinked ws x)
  swaps_last e =
      let q : drop_at i (S m) ≡ swap_list = drop_at_last i (S m) (omega arith) ∙ ap (λ (k : ℕ). take k (S m)) e ∙ sym (set_past (take end (S m)) i z (let w = length-take-le end (S m) (omega arith) in omega arith)) in
      record {
        held' = out_held heads nodes ws held m i hm im;
        rings' = λ l hl. out_ring heads nodes ws held m i hm im l hl ∙ ap (λ (ys : List ℕ). at S m ys l) q;
        alone' = out_alone heads nodes ws held m i hm im;
        still' = out_still heads nodes ws held m i hm im;
        drop' = out_drop heads nodes ws held m i hm im;
      }

  module _ (before-end' : i < end) where
    in_end : end < length (S m)
    in_end = omega arith

    x_z : x ≡ z → ⊥
    x_z e = apart_from (S m) (ring_differ heads nodes ws held m hm) i end before-end' in_end e

    abbrev pub v1 : List ℕ
    v1 = unlinked ws z

    pub h1 : Held heads nodes v1
    h1 = out_held heads nodes ws held m end hm in_end

    r1 : (l : ℕ) → l < heads → ring heads nodes v1 l ≡ at S m (drop_at end (S m)) l
    r1 = out_ring heads nodes ws held m end hm in_end

    a1 : next v1 z ≡ z
    a1 = out_alone heads nodes ws held m end hm in_end

    pub xw : (heads ≤ x) × (x < nodes)
    xw = slot_at heads nodes ws held m i hm im

    pub zw : (heads ≤ z) × (z < nodes)
    zw = slot_at heads nodes ws held m end hm in_end

    abbrev pub v2 : List ℕ
    v2 = linked v1 x z

    pub h2 : Held heads nodes v2
    h2 = linked_held heads nodes v1 h1 x z xw.1 zw.1 x_z a1 zw.0

    r2 : (l : ℕ) → l < heads → ring heads nodes v2 l ≡ before x z (ring heads nodes v1 l) l
    r2 = linked_ring heads nodes v1 h1 x z xw.1 zw.1 x_z a1 zw.0

    t2 : prev v2 x ≡ x → ⊥
    t2 e = x_z (sym e ∙ (linked_links heads nodes v1 h1 x z xw.1 zw.1 x_z a1).prev_at)

    abbrev v3 : List ℕ
    v3 = unlinked v2 x

    front_is : drop_at end (S m) ≡ take end (S m)
    front_is = drop_at_last end (S m) (omega arith)

    r3 : (l : ℕ) → l < heads → ring heads nodes v3 l ≡ at S m swap_list l
    r3 l hl =
        let e = unlinked_ring heads nodes v2 h2 x xw.1 t2 xw.0 l hl ∙ ap (without x) (r2 l hl) in
        let nl : l ≡ x → ⊥ = (let w = xw.0 in λ q. omega arith) in
        elim (cases_eq l m) [
          | inl q ↦
              let f : ring heads nodes v1 l ≡ take end (S m) = r1 l hl ∙ at_here S m (drop_at end (S m)) l q ∙ front_is in
              e ∙ ap (λ (ys : List ℕ). without x (before x z ys l)) f ∙ instead x z (take end (S m)) l i (λ w. x_z (sym w)) nl (let w = length-take-le end (S m) (omega arith) in omega arith) (subst Differ front_is (drop_at_differ end (S m) (ring_differ heads nodes ws held m hm))) (get_or-take end (S m) i 0 before-end') ∙ sym (at_here S m swap_list l q)
          | inr n ↦
              let f : ring heads nodes v1 l ≡ S l = r1 l hl ∙ at_else S m (drop_at end (S m)) l n in
              let la = lacks_other heads nodes ws held m i l hm hl im n in
              e ∙ ap (λ (ys : List ℕ). without x (before x z ys l)) f ∙ ap (without x) (before_none x z (S l) l la nl) ∙ without_lacks x (S l) la ∙ sym (at_else S m swap_list l n)
        ]

    still3 : (y : ℕ) → y < nodes → next ws y ≡ y → next v3 y ≡ y
    still3 y hy e =
        let e1 : next v1 y ≡ y = out_still heads nodes ws held m end hm in_end y hy e in
        let kx = h1.1.0 x xw.1 in
        let ne : (w j : ℕ) → j < length (S m) → get_or (S m) j 0 ≡ w → y ≡ w → ⊥ = λ w j jl ew q. not_alone heads nodes ws held m j hm jl (ap (prev ws) (ew ∙ sym q) ∙ (ap (prev ws) (sym e) ∙ (held.1.0 y hy).1.1) ∙ q ∙ sym ew) in
        let nz = ne z end in_end refl in
        let nx' = ne x i im refl in
        let u2 = linked_links heads nodes v1 h1 x z xw.1 zw.1 x_z a1 in
        let e2 : next v2 y ≡ y = u2.next_else y (λ q. nx' (sym e1 ∙ ap (next v1) q ∙ kx.1.0)) nz ∙ e1 in
        let u3 = unlinked_unlinks heads nodes v2 h2 x xw.1 t2 in
        let k2 = h2.1.0 x xw.1 in
        u3.next_else y (λ q. nx' (sym e2 ∙ ap (next v2) q ∙ k2.1.0)) nx' ∙ e2

    swaps_else : Swaps v3
    swaps_else = record {
      held' = unlinked_held heads nodes v2 h2 x xw.1 t2 xw.0;
      rings' = r3;
      alone' = (unlinked_alone heads nodes v2 h2 x xw.1 t2).0;
      still' = still3;
      drop' = unlinked_drop heads nodes v2 h2 x xw.1 t2 ∙ linked_drop heads nodes v1 h1 x z xw.1 zw.1 x_z a1 ∙ out_drop heads nodes ws held m end hm in_end;
    }

  pub swaps : Swaps (swapped ws m x)
  swaps =
      let ze = last_slot in
      elim (cases_eq i end) [
        | inl e ↦ subst Swaps (sym (cond-true (eqb (prev ws m) x) (unlinked ws x) (unlinked (linked (unlinked ws (prev ws m)) x (prev ws m)) x) (eq-eqb (prev ws m) x (ze ∙ ap (λ (k : ℕ). get_or (S m) k 0) (sym e))))) (swaps_last e)
        | inr n ↦
            let lt : i < end = omega arith in
            subst Swaps (ap (λ (w : ℕ). unlinked (linked (unlinked ws w) x w) x) (sym ze) ∙ sym (cond-false (eqb (prev ws m) x) (unlinked ws x) (unlinked (linked (unlinked ws (prev ws m)) x (prev ws m)) x) (ne_eqb (prev ws m) x (λ q. x_z lt (sym (sym ze ∙ q)))))) (swaps_else lt)
      ]

-- the slot at place i of ring m goes to the end of ring h
module _ (heads nodes : ℕ) (ws : List ℕ) (held : Held heads nodes ws) (m i : ℕ) (hm : m < heads) (im : i < length (ring heads nodes ws m)) (h : ℕ) (hh : h < heads) (s : ℕ) (is : get_or (ring heads nodes ws m) i 0 ≡ s) where
  abbrev pub moved : List ℕ
  moved = linked (unlinked ws s) h s

  abbrev pub left : ℕ → List ℕ
  left = at (ring heads nodes ws) m (drop_at i (ring heads nodes ws m))

  mid_held : Held heads nodes (unlinked ws s)
  mid_held = subst (λ (x : ℕ). Held heads nodes (unlinked ws x)) is (out_held heads nodes ws held m i hm im)

  mid_alone : next (unlinked ws s) s ≡ s
  mid_alone = subst (λ (x : ℕ). next (unlinked ws x) x ≡ x) is (out_alone heads nodes ws held m i hm im)

  s_slot : (heads ≤ s) × (s < nodes)
  s_slot = let a = slot_at heads nodes ws held m i hm im in let b = a.0 in let c = a.1 in (omega arith, omega arith)

  pub moved_held : Held heads nodes moved
  moved_held = push_held heads nodes (unlinked ws s) mid_held h s hh s_slot.0 s_slot.1 mid_alone

  mid_ring : (l : ℕ) → l < heads → ring heads nodes (unlinked ws s) l ≡ left l
  mid_ring l hl = ap (λ (x : ℕ). ring heads nodes (unlinked ws x) l) (sym is) ∙ out_ring heads nodes ws held m i hm im l hl

  pub moved_ring : (l : ℕ) → l < heads → ring heads nodes moved l ≡ at left h (left h ++ (s ∷ [])) l
  moved_ring l hl =
      let e = push_ring heads nodes (unlinked ws s) mid_held h s hh s_slot.0 s_slot.1 mid_alone l hl in
      let Q = ring heads nodes (unlinked ws s) in
      elim (cases_eq l h) [
        | inl q ↦ e ∙ at_here Q h (Q h ++ (s ∷ [])) l q ∙ ap (λ (ys : List ℕ). ys ++ (s ∷ [])) (mid_ring h hh) ∙ sym (at_here left h (left h ++ (s ∷ [])) l q)
        | inr n ↦ e ∙ at_else Q h (Q h ++ (s ∷ [])) l n ∙ mid_ring l hl ∙ sym (at_else left h (left h ++ (s ∷ [])) l n)
      ]

  pub moved_drop : drop (2 * nodes) moved ≡ drop (2 * nodes) ws
  moved_drop =
      push_drop heads nodes (unlinked ws s) mid_held h s hh s_slot.0 s_slot.1 mid_alone
      ∙ ap (λ (x : ℕ). drop (2 * nodes) (unlinked ws x)) (sym is)
      ∙ out_drop heads nodes ws held m i hm im

  -- slots that stand alone stay so
  pub moved_still : (y : ℕ) → heads ≤ y → y < nodes → next ws y ≡ y → next moved y ≡ y
  moved_still y hy yn e =
      let e1 : next (unlinked ws s) y ≡ y = subst (λ (x : ℕ). next (unlinked ws x) y ≡ y) is (out_still heads nodes ws held m i hm im y yn e) in
      let ne : y ≡ s → ⊥ = λ q. not_alone heads nodes ws held m i hm im (ap (prev ws) (is ∙ sym q) ∙ (ap (prev ws) (sym e) ∙ (held.1.0 y yn).1.1) ∙ q ∙ sym is) in
      push_still heads nodes (unlinked ws s) mid_held h s hh s_slot.0 s_slot.1 mid_alone y yn ne e1 (λ q. omega arith)

  pub moved_length : length moved ≡ length ws
  moved_length = simp length-set

-- a slot cut out of its ring, if it is in one
module _ (heads nodes : ℕ) (ws : List ℕ) (held : Held heads nodes ws) (n : ℕ) (slot : heads ≤ n) (within : n < nodes) where
  pub record Cuts (vs : List ℕ) : Type 0 where
    pub held' : Held heads nodes vs
    pub rings' : (l : ℕ) → l < heads → ring heads nodes vs l ≡ without n (ring heads nodes ws l)
    pub alone' : next vs n ≡ n
    pub still' : (y : ℕ) → y < nodes → next ws y ≡ y → next vs y ≡ y
    pub drop' : drop (2 * nodes) vs ≡ drop (2 * nodes) ws

  -- one that stands alone
  module _ (e : prev ws n ≡ n) where
    next_self : next ws n ≡ n
    next_self = ap (next ws) (sym e) ∙ (held.1.0 n within).1.0

    cut_same : unlinked ws n ≡ ws
    cut_same =
        ap (λ (p : ℕ). set (set (set (set ws (2 * p) (next ws n)) (2 * next ws n + 1) p) (2 * n) n) (2 * n + 1) n) e
        ∙ ap (λ (q : ℕ). set (set (set (set ws (2 * n) q) (2 * q + 1) n) (2 * n) n) (2 * n + 1) n) next_self
        ∙ ap (λ (v : List ℕ). set (set (set v (2 * n + 1) n) (2 * n) n) (2 * n + 1) n) s0
        ∙ ap (λ (v : List ℕ). set (set v (2 * n) n) (2 * n + 1) n) s1
        ∙ ap (λ (v : List ℕ). set v (2 * n + 1) n) s0
        ∙ s1
      where
        s0 : set ws (2 * n) n ≡ ws
        s0 = ap (set ws (2 * n)) (sym next_self) ∙ set-get_or ws (2 * n) 0

        s1 : set ws (2 * n + 1) n ≡ ws
        s1 = ap (set ws (2 * n + 1)) (sym e) ∙ set-get_or ws (2 * n + 1) 0

    cuts_alone : Cuts ws
    cuts_alone = record { held' = held; rings' = λ l h. sym (without_lacks n (ring heads nodes ws l) (alone_lacks heads nodes ws held n l h within next_self)); alone' = next_self; still' = λ y h q. q; drop' = refl }

  cuts_tied : (prev ws n ≡ n → ⊥) → Cuts (unlinked ws n)
  cuts_tied t =
      let u = unlinked_unlinks heads nodes ws held n within t in
      let al = (unlinked_alone heads nodes ws held n within t).0 in
      record {
        held' = unlinked_held heads nodes ws held n within t slot;
        rings' = unlinked_ring heads nodes ws held n within t slot;
        alone' = al;
        still' = λ y h q. elim (cases_eq y n) [
          | inl e ↦ ap (next (unlinked ws n)) e ∙ al ∙ sym e
          | inr ne ↦ u.next_else y (λ r. ne (sym q ∙ ap (next ws) r ∙ (held.1.0 n within).1.0)) ne ∙ q
        ];
        drop' = unlinked_drop heads nodes ws held n within t;
      }

  pub cuts : Cuts (unlinked ws n)
  cuts = elim (cases_eq (prev ws n) n) [ inl e ↦ subst Cuts (sym (cut_same e)) (cuts_alone e) | inr t ↦ cuts_tied t ]
