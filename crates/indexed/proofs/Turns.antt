-- The nodes of a slot put into rings one after another, and taken out. Assumes nothing.
use Rattle.std.proofs.Common.{◌≡◌, ℕ, zero, suc, ◌+◌, ◌-◌, ◌*◌, ◌/◌, ◌%◌, ◌<◌, ◌≤◌, Bool, true, false, cond, not, ◌&&◌, leb, ltb, List, [], ◌∷◌, ◌++◌, map, length, get_or, take, filter, Some, None, sym, refl, ap, ◌∙◌, subst, inl, inr, arith}
use Rattle.std.specs.Bool.{◌==◌}
use Rattle.std.proofs.lemmas.Bool.Decides.{nat_tests}
use Rattle.std.proofs.lemmas.Bool.{cases_Bool, cases_eq, cases_lt, cond-true, cond-false, eq-eqb, ne_eqb, both_ways, and_left, and_right, le-ltb, lt-ltb}
use Rattle.network.specs.Assignments.{node}
use Rattle.network.specs.Clauses.{has, in_order, in_order_from, without}
use Rattle.std.proofs.lemmas.List.{nil_from_length}
use Rattle.std.proofs.lemmas.Option.{cond_some, none-some}
use Rattle.rings.specs.Rings.{Differ, Lacks, at, cut_out, drop_at, next, put_in, ring, slot_after}
use Rattle.rings.specs.Tidy.{Tidy}
use Rattle.rings.proofs.Bounds.{ring_laws}
use Rattle.rings.proofs.Drops.{at_here, at_else, drop_at_length, without_at}
use Rattle.rings.proofs.Shifts.{lacks_other, slot_at}
use Rattle.rings.proofs.Words.{ring_differ}
use Rattle.rings.proofs.Holes.{differ_from, apart_from, without_lacks, without_gone}
use Rattle.rings.proofs.Paths.{without_here, without_other}
use Rattle.rings.proofs.Tidies.{cut_alone_back, cut_out_alone, cut_out_rings, cut_out_still, cut_out_tidy, put_alone_back, put_in_rings, put_in_still, put_in_tidy, put_in_tied}
use Rattle.slots.proofs.Members.{filter_differ, has_else, has_push, lacks_has}
use Rattle.indexed.specs.Facts.{all_alone, lacks_by_nodes, node_in, node_slot, slot_node}
use Rattle.indexed.specs.Links.{Whole, first_node, in_range, node_count, slot_of}
use Rattle.indexed.specs.Turns.{AloneAlike, Joining, Leaving, Fair}

map_push : (ns : List ℕ) (n : ℕ) → map slot_of (ns ++ (n ∷ [])) ≡ map slot_of ns ++ (slot_of n ∷ [])
map_push [] n = refl
map_push (m ∷ ns) n = ap (λ (ys : List ℕ). slot_of m ∷ ys) (map_push ns n)

-- a slot of range
pub range_is : (room x : ℕ) → in_range room x ≡ true → (2050 ≤ x) × (x < 2050 + room)
range_is room x e = (grind (arith, nat_tests), grind (arith, nat_tests))

-- a node that keeps standing alone or in a ring
alike_then : (ws vs us : List ℕ) (n : ℕ) → AloneAlike ws vs n → AloneAlike vs us n → AloneAlike ws us n
alike_then ws vs us n a b = ((λ e. b.0 (a.0 e)), (λ e. a.1 (b.1 e)))

lacks_push : (x y : ℕ) (ys : List ℕ) → Lacks y ys → (x ≡ y → ⊥) → Lacks y (ys ++ (x ∷ []))
lacks_push x y [] h n = (n, tt)
lacks_push x y (z ∷ zs) h n = (h.0, lacks_push x y zs h.1 n)

-- one more that was not there
differ_push : (ys : List ℕ) (x : ℕ) → Differ ys → Lacks x ys → Differ (ys ++ (x ∷ []))
unfolding Differ
differ_push [] x d l = (tt, tt)
differ_push (y ∷ ys) x d l = (lacks_push x y ys d.0 (λ e. l.0 (sym e)), differ_push ys x d.1 l.1)

-- ## Joining

module _ (room : ℕ) (ws : List ℕ) (x : ℕ) (literals : List ℕ) (w : Whole room ws) (a : 2050 ≤ x) (b : x < 2050 + room) where
  abbrev N : ℕ
  N = node_count room

  pub join_none : next ws (first_node x) ≡ first_node x → Joining room ws x literals 0 ws
  join_none e = record {
    tidy = w.tidy;
    uses = λ k h. refl;
    done = λ j h. absurd (omega arith);
    left = λ j h g. all_alone room ws w x a b e j g;
    others = λ n h g ne. ((λ q. q), (λ q. q));
  }

  -- one literal more
  module _ (i k : ℕ) (vs us : List ℕ) (J : Joining room ws x literals i vs) (few : i < 31) (low : k < 2048) (fresh : has k (take i literals) ≡ false) (more : take (suc i) literals ≡ take i literals ++ (k ∷ [])) (q : us ≡ put_in vs k (first_node x + i)) where
    abbrev n : ℕ
    n = first_node x + i

    inode : (2048 ≤ n) × (n < N)
    inode = node_in room x i a b few

    al : next vs n ≡ n
    al = J.left i (omega arith) few

    uses_now : (l : ℕ) → l < 2048 → map slot_of (ring 2048 N (put_in vs k n) l) ≡ cond (has l (take i literals ++ (k ∷ []))) (map slot_of (ring 2048 N ws l) ++ (x ∷ [])) (map slot_of (ring 2048 N ws l))
    uses_now l h =
        let R = ring 2048 N vs in
        let U = map slot_of (ring 2048 N ws l) in
        let r = put_in_rings 2048 N vs J.tidy k n low inode.0 inode.1 al l h in
        let hp = has_push l k (take i literals) in
        elim (cases_eq l k) [
          | inl e ↦
              let old : map slot_of (R k) ≡ U = J.uses k low ∙ cond-false (has k (take i literals)) (map slot_of (ring 2048 N ws k) ++ (x ∷ [])) (map slot_of (ring 2048 N ws k)) fresh ∙ ap (λ (m : ℕ). map slot_of (ring 2048 N ws m)) (sym e) in
              let now : map slot_of (R k ++ (n ∷ [])) ≡ U ++ (x ∷ []) = map_push (R k) n ∙ ap (λ (ys : List ℕ). ys ++ (slot_of n ∷ [])) old ∙ ap (λ (y : ℕ). U ++ (y ∷ [])) (node_slot x i a few) in
              ap (map slot_of) (r ∙ at_here R k (R k ++ (n ∷ [])) l e) ∙ now ∙ sym (cond-true (has l (take i literals ++ (k ∷ []))) (U ++ (x ∷ [])) U (hp ∙ cond-true (l == k) true (has l (take i literals)) (eq-eqb l k e)))
          | inr ne ↦
              ap (map slot_of) (r ∙ at_else R k (R k ++ (n ∷ [])) l ne) ∙ J.uses l h ∙ ap (λ (c : Bool). cond c (U ++ (x ∷ [])) U) (sym (hp ∙ cond-false (l == k) true (has l (take i literals)) (ne_eqb l k ne)))
        ]

    still : (m : ℕ) → 2048 ≤ m → m < N → (m ≡ n → ⊥) → AloneAlike vs (put_in vs k n) m
    still m c d ne = ((λ e. put_in_still 2048 N vs J.tidy k n low inode.0 inode.1 al m c d ne e), (λ e. put_alone_back 2048 N vs J.tidy n m inode.0 inode.1 c d ne k low al e))

    made : Joining room ws x literals (suc i) (put_in vs k n)
    made = record {
      tidy = put_in_tidy 2048 N vs J.tidy k n low inode.0 inode.1 al;
      uses = λ l h. rw more (uses_now l h);
      done = λ j h e. elim (cases_eq j i) [
        | inl s ↦ put_in_tied 2048 N vs J.tidy k n low inode.0 inode.1 al (subst (λ (m : ℕ). next (put_in vs k n) (first_node x + m) ≡ first_node x + m) s e)
        | inr ne ↦ let g = node_in room x j a b (omega arith) in J.done j (omega arith) ((still (first_node x + j) g.0 g.1 (λ s. ne (omega arith))).1 e)
      ];
      left = λ j h g. let p = node_in room x j a b g in (still (first_node x + j) p.0 p.1 (λ s. omega arith)).0 (J.left j (omega arith) g);
      others = λ m c d ne. alike_then ws vs (put_in vs k n) m (J.others m c d ne) (still m c d (λ s. ne (ap slot_of s ∙ node_slot x i a few)));
    }

    pub join_one : Joining room ws x literals (suc i) us
    join_one = rw q made

  -- all of them
  module _ (alone : next ws (first_node x) ≡ first_node x) (few : length literals ≤ 31) (us : List ℕ) (J : Joining room ws x literals (length literals) us) (whole : take (length literals) literals ≡ literals) where
    pub joined_uses : (k : ℕ) → k < 2048 → map slot_of (ring 2048 N us k) ≡ cond (has k literals) (map slot_of (ring 2048 N ws k) ++ (x ∷ [])) (map slot_of (ring 2048 N ws k))
    joined_uses k h = J.uses k h ∙ ap (λ (ls : List ℕ). cond (has k ls) (map slot_of (ring 2048 N ws k) ++ (x ∷ [])) (map slot_of (ring 2048 N ws k))) whole

    packed_now : (y j : ℕ) → 2050 ≤ y → y < 2050 + room → j + 1 < 31 → next us (first_node y + j) ≡ first_node y + j → next us (first_node y + (j + 1)) ≡ first_node y + (j + 1)
    packed_now y j c d l e = elim (cases_eq y x) [
      | inl s ↦
          let e' = subst (λ (z : ℕ). next us (first_node z + j) ≡ first_node z + j) s e in
          subst (λ (z : ℕ). next us (first_node z + (j + 1)) ≡ first_node z + (j + 1)) (sym s) (elim (cases_lt j (length literals)) [
            | inl h ↦ absurd (J.done j h e')
            | inr g ↦ J.left (j + 1) (omega arith) l
          ])
      | inr ne ↦
          let p = node_in room y j c d (omega arith) in
          let p' = node_in room y (j + 1) c d l in
          let o = J.others (first_node y + j) p.0 p.1 (λ s. ne (sym (node_slot y j c (omega arith)) ∙ s)) in
          let o' = J.others (first_node y + (j + 1)) p'.0 p'.1 (λ s. ne (sym (node_slot y (j + 1) c l) ∙ s)) in
          o'.0 (w.packed y j c d l (o.1 e))
    ]

    once_now : (k : ℕ) → k < 2048 → Differ (map slot_of (ring 2048 N us k))
    once_now k h =
        let U = map slot_of (ring 2048 N ws k) in
        subst Differ (sym (joined_uses k h)) (elim (cases_Bool (has k literals)) [
          | inl t ↦ subst Differ (sym (cond-true (has k literals) (U ++ (x ∷ [])) U t)) (differ_push U x (w.once k h) (lacks_by_nodes room ws w.tidy x a b (all_alone room ws w x a b alone) k h))
          | inr f ↦ subst Differ (sym (cond-false (has k literals) (U ++ (x ∷ [])) U f)) (w.once k h)
        ])

    pub joined_whole : Whole room us
    joined_whole = record { tidy = J.tidy; packed = packed_now; once = once_now }

-- ## Fair literals

and_first : (a b : Bool) → (a && b) ≡ true → a ≡ true
and_first true b e = refl
and_first false b e = e

and_second : (a b : Bool) → (a && b) ≡ true → b ≡ true
and_second true b e = e
and_second false b e = absurd (both_ways false refl e)

-- in literals in order, none is met before its place
fresh_from : (p : ℕ) (ks : List ℕ) → in_order_from p ks ≡ true → (i : ℕ) → i < length ks → (p < node (get_or ks i 0)) × (has (get_or ks i 0) (take i ks) ≡ false)
fresh_from p [] e i h = absurd (omega arith)
fresh_from p (k ∷ ks) e zero h = let t = and_first (ltb p (node k)) (in_order_from (node k) ks) e in (grind (arith, nat_tests), refl)
fresh_from p (k ∷ ks) e (suc i) h =
    let t = and_first (ltb p (node k)) (in_order_from (node k) ks) e in
    let r = fresh_from (node k) ks (and_second (ltb p (node k)) (in_order_from (node k) ks) e) i (omega arith) in
    let q : p < node k = grind (arith, nat_tests) in
    let a = r.0 in
    (omega arith, has_else (get_or ks i 0) k (take i ks) (λ s. lt_not (node k) (node (get_or ks i 0)) a (ap node (sym s))) ∙ r.1)
  where
    lt_not : (m n : ℕ) → m < n → m ≡ n → ⊥
    lt_not m n h e = omega arith

fresh_at : (ks : List ℕ) → in_order ks ≡ true → (i : ℕ) → i < length ks → has (get_or ks i 0) (take i ks) ≡ false
fresh_at [] e i h = absurd (omega arith)
fresh_at (k ∷ ks) e zero h = refl
fresh_at (k ∷ ks) e (suc i) h =
    let r = fresh_from (node k) ks e i (omega arith) in
    let a = r.0 in
    has_else (get_or ks i 0) k (take i ks) (λ s. lt_not (node k) (node (get_or ks i 0)) a (ap node (sym s))) ∙ r.1
  where
    lt_not : (m n : ℕ) → m < n → m ≡ n → ⊥
    lt_not m n h e = omega arith

pub take_whole : (ks : List ℕ) → take (length ks) ks ≡ ks
take_whole [] = refl
take_whole (k ∷ ks) = ap (λ (zs : List ℕ). k ∷ zs) (take_whole ks)

module _ (literals : List ℕ) (f : Fair literals) where
  pub fair_low : (i : ℕ) → i < length literals → get_or literals i 0 < 2048
  fair_low i h = f.2 i h

  pub fair_fresh : (i : ℕ) → i < length literals → has (get_or literals i 0) (take i literals) ≡ false
  fair_fresh i h = fresh_at literals f.1 i h

-- ## Leaving

-- a node of x taken out leaves the others of a ring
without_slot : (x n : ℕ) (ns : List ℕ) → slot_of n ≡ x → without x (map slot_of (without n ns)) ≡ without x (map slot_of ns)
without_slot x n [] e = refl
without_slot x n (m ∷ ns) e = elim (cases_eq m n) [
  | inl q ↦ ap (λ (ys : List ℕ). without x (map slot_of ys)) (without_here n m ns q) ∙ without_slot x n ns e ∙ sym (without_here x (slot_of m) (map slot_of ns) (ap slot_of q ∙ e))
  | inr ne ↦ ap (λ (ys : List ℕ). without x (map slot_of ys)) (without_other n m ns ne) ∙ elim (cases_eq (slot_of m) x) [
    | inl s ↦ without_here x (slot_of m) (map slot_of (without n ns)) s ∙ without_slot x n ns e ∙ sym (without_here x (slot_of m) (map slot_of ns) s)
    | inr t ↦ without_other x (slot_of m) (map slot_of (without n ns)) t ∙ ap (λ (ys : List ℕ). slot_of m ∷ ys) (without_slot x n ns e) ∙ sym (without_other x (slot_of m) (map slot_of ns) t)
  ]
]

module _ (room : ℕ) (ws : List ℕ) (x : ℕ) (w : Whole room ws) (a : 2050 ≤ x) (b : x < 2050 + room) where
  abbrev M : ℕ
  M = node_count room

  pub leave_none : Leaving room ws x 0 ws
  leave_none = record {
    tidy = w.tidy;
    uses = λ k h. refl;
    gone = λ j h. absurd (omega arith);
    others = λ n h g ne. ((λ q. q), (λ q. q));
  }

  -- one node more
  module _ (i : ℕ) (vs us : List ℕ) (L : Leaving room ws x i vs) (few : i < 31) (q : us ≡ cut_out vs (first_node x + i)) where
    abbrev o : ℕ
    o = first_node x + i

    onode : (2048 ≤ o) × (o < M)
    onode = node_in room x i a b few

    kept : (m : ℕ) → 2048 ≤ m → m < M → (m ≡ o → ⊥) → AloneAlike vs (cut_out vs o) m
    kept m c d ne = ((λ e. cut_out_still 2048 M vs L.tidy o onode.0 onode.1 m d e), (λ e. cut_alone_back 2048 M vs L.tidy o m onode.0 onode.1 c d ne e))

    cut : Leaving room ws x (suc i) (cut_out vs o)
    cut = record {
      tidy = cut_out_tidy 2048 M vs L.tidy o onode.0 onode.1;
      uses = λ k h. ap (λ (ys : List ℕ). without x (map slot_of ys)) (cut_out_rings 2048 M vs L.tidy o onode.0 onode.1 k h) ∙ without_slot x o (ring 2048 M vs k) (node_slot x i a few) ∙ L.uses k h;
      gone = λ j h. elim (cases_eq j i) [
        | inl s ↦ subst (λ (m : ℕ). next (cut_out vs o) (first_node x + m) ≡ first_node x + m) (sym s) (cut_out_alone 2048 M vs L.tidy o onode.0 onode.1)
        | inr ne ↦ let p = node_in room x j a b (omega arith) in cut_out_still 2048 M vs L.tidy o onode.0 onode.1 (first_node x + j) p.1 (L.gone j (omega arith))
      ];
      others = λ m c d ne. alike_then ws vs (cut_out vs o) m (L.others m c d (λ j h. ne j (omega arith))) (kept m c d (ne i (omega arith)));
    }

    pub leave_one : Leaving room ws x (suc i) us
    leave_one = rw q cut

  -- the first that stands alone: all behind it do
  module _ (i : ℕ) (vs : List ℕ) (L : Leaving room ws x i vs) (few : i < 31) (e : next vs (first_node x + i) ≡ first_node x + i) where
    untouched : (j : ℕ) → i ≤ j → j < 31 → AloneAlike ws vs (first_node x + j)
    untouched j h g = let p = node_in room x j a b g in L.others (first_node x + j) p.0 p.1 (λ k l s. omega arith)

    -- in the words at first
    behind : (k : ℕ) → i + k < 31 → next ws (first_node x + (i + k)) ≡ first_node x + (i + k)
    behind zero h = let s : i + 0 ≡ i = omega arith in subst (λ (m : ℕ). next ws (first_node x + m) ≡ first_node x + m) (sym s) ((untouched i (omega arith) few).1 e)
    behind (suc k) h =
        let s : (i + k) + 1 ≡ i + suc k = omega arith in
        subst (λ (m : ℕ). next ws (first_node x + m) ≡ first_node x + m) s (w.packed x (i + k) a b (omega arith) (behind k (omega arith)))

    pub leave_rest : Leaving room ws x 31 vs
    leave_rest = record {
      tidy = L.tidy;
      uses = L.uses;
      gone = λ j h. elim (cases_lt j i) [
        | inl g ↦ L.gone j g
        | inr g ↦ let s : i + (j - i) ≡ j = omega arith in (untouched j g h).0 (subst (λ (m : ℕ). next ws (first_node x + m) ≡ first_node x + m) s (behind (j - i) (omega arith)))
      ];
      others = λ m c d ne. L.others m c d (λ j h. ne j (omega arith));
    }

  -- all of them
  module _ (us : List ℕ) (L : Leaving room ws x 31 us) where
    others_now : (y j : ℕ) → 2050 ≤ y → y < 2050 + room → j < 31 → (y ≡ x → ⊥) → AloneAlike ws us (first_node y + j)
    others_now y j c d l ne = let p = node_in room y j c d l in L.others (first_node y + j) p.0 p.1 (λ k g s. ne (sym (node_slot y j c l) ∙ ap slot_of s ∙ node_slot x k a g))

    left_packed : (y j : ℕ) → 2050 ≤ y → y < 2050 + room → j + 1 < 31 → next us (first_node y + j) ≡ first_node y + j → next us (first_node y + (j + 1)) ≡ first_node y + (j + 1)
    left_packed y j c d l e = elim (cases_eq y x) [
      | inl s ↦ subst (λ (z : ℕ). next us (first_node z + (j + 1)) ≡ first_node z + (j + 1)) (sym s) (L.gone (j + 1) l)
      | inr ne ↦ (others_now y (j + 1) c d l ne).0 (w.packed y j c d l ((others_now y j c d (omega arith) ne).1 e))
    ]

    pub left_uses : (k : ℕ) → k < 2048 → map slot_of (ring 2048 M us k) ≡ without x (map slot_of (ring 2048 M ws k))
    left_uses k h =
        let l = lacks_by_nodes room us L.tidy x a b L.gone k h in
        sym (without_lacks x (map slot_of (ring 2048 M us k)) l) ∙ L.uses k h

    pub left_whole : Whole room us
    left_whole = record {
      tidy = L.tidy;
      packed = left_packed;
      once = λ k h. subst Differ (sym (left_uses k h)) (filter_differ (λ y. not (y == x)) (map slot_of (ring 2048 M ws k)) (w.once k h));
    }

-- ## The first node of a ring taken out, again and again

module _ (room : ℕ) (ws : List ℕ) (t : Tidy 2048 (node_count room) ws) (k : ℕ) (h : k < 2048) where
  abbrev K : ℕ
  K = node_count room

  abbrev R : List ℕ
  R = ring 2048 K ws k

  first_is : slot_after 2048 ws k ≡ cond (ltb 0 (length R)) (Some (get_or R 0 0)) None
  first_is = ring_laws.first 2048 K ws k t.held h

  -- where nothing comes after the head, the ring is empty
  pub no_node : None ≡ slot_after 2048 ws k → R ≡ []
  no_node e = elim (cases_lt 0 (length R)) [
    | inl g ↦ absurd (none-some (get_or R 0 0) (e ∙ first_is ∙ cond-true (ltb 0 (length R)) (Some (get_or R 0 0)) None (lt-ltb 0 (length R) g)))
    | inr z ↦ nil_from_length R (omega arith)
  ]

  module _ (n : ℕ) (e : Some n ≡ slot_after 2048 ws k) (vs : List ℕ) (q : vs ≡ cut_out ws n) where
    at_first : (0 < length R) × (get_or R 0 0 ≡ n)
    at_first = elim (cases_lt 0 (length R)) [
      | inl g ↦ (g, sym (cond_some true n (get_or R 0 0) (e ∙ first_is ∙ cond-true (ltb 0 (length R)) (Some (get_or R 0 0)) None (lt-ltb 0 (length R) g))).1)
      | inr z ↦ absurd (none-some n (sym (e ∙ first_is ∙ cond-false (ltb 0 (length R)) (Some (get_or R 0 0)) None (le-ltb 0 (length R) z))))
    ]

    in_nodes : (2048 ≤ n) × (n < K)
    in_nodes = let s = slot_at 2048 K ws t.held k 0 h at_first.0 in (subst (λ (m : ℕ). 2048 ≤ m) at_first.1 s.0, subst (λ (m : ℕ). m < K) at_first.1 s.1)

    pub first_cut_tidy : Tidy 2048 K vs
    first_cut_tidy = rw q (cut_out_tidy 2048 K ws t n in_nodes.0 in_nodes.1)

    rings_now : (l : ℕ) → l < 2048 → ring 2048 K vs l ≡ without n (ring 2048 K ws l)
    rings_now l g = rw q (cut_out_rings 2048 K ws t n in_nodes.0 in_nodes.1 l g)

    pub first_cut_others : (l : ℕ) → l < 2048 → (l ≡ k → ⊥) → ring 2048 K vs l ≡ ring 2048 K ws l
    first_cut_others l g ne =
        let lacks = subst (λ (m : ℕ). Lacks m (ring 2048 K ws l)) at_first.1 (lacks_other 2048 K ws t.held k 0 l h g at_first.0 ne) in
        rings_now l g ∙ without_lacks n (ring 2048 K ws l) lacks

    pub first_cut_shorter : length (ring 2048 K vs k) < length R
    first_cut_shorter =
        let a : ring 2048 K vs k ≡ drop_at 0 R = rings_now k h ∙ ap (λ (m : ℕ). without m R) (sym at_first.1) ∙ without_at 0 R at_first.0 (ring_differ 2048 K ws t.held k h) in
        let b = ap length a ∙ drop_at_length 0 R at_first.0 in
        let g = at_first.0 in
        omega arith
