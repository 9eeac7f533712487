-- Questions of the uses in rings, and what the changes make of them. Assumes nothing.
use Rattle.std.proofs.Common.{◌≡◌, ℕ, zero, suc, ◌+◌, ◌-◌, ◌*◌, ◌<◌, ◌≤◌, Bool, true, false, cond, not, ltb, List, [], ◌∷◌, ◌++◌, map, length, get_or, Some, None, Option, sym, refl, ap, ◌∙◌, subst, inl, inr, arith}
use Rattle.std.specs.Bool.{◌==◌}
use Rattle.std.proofs.lemmas.Bool.Decides.{nat_tests}
use Rattle.std.proofs.lemmas.Bool.{cases_Bool, cases_eq, cases_lt, cond-true, cond-false, eq-eqb, ne_eqb, both_ways, lt-ltb, le-ltb}
use Rattle.std.proofs.lemmas.Option.{cond_some, none-some}
use Rattle.network.specs.Clauses.{has, in_order, without}
use Rattle.rings.specs.Rings.{Differ, Lacks, next, ring, scattered, slot_after}
use Rattle.rings.specs.Tidy.{Tidy}
use Rattle.rings.proofs.Bounds.{ring_laws, scattered_alone, scattered_length}
use Rattle.rings.proofs.Holes.{few, without_lacks}
use Rattle.rings.proofs.Shifts.{lone_ring}
use Rattle.rings.proofs.Tidies.{scattered_tidy}
use Rattle.rings.proofs.Words.{ring_differ, ring_slots}
use Rattle.slots.proofs.Members.{not_has_lacks}
use Rattle.indexed.specs.Facts.{all_alone, lacks_by_nodes, map_length, node_in, node_slot, nodes_by, nodes_high, nodes_is, nodes_none, slot_node}
use Rattle.indexed.specs.Links.{Bare, Sound, Stands, Whole, first_node, in_range, joined_in, node_count, nodes_of, slot_of, used_in}
use Rattle.indexed.specs.Turns.{AloneAlike, Joining, Leaving}
use Rattle.indexed.proofs.Turns.{joined_uses, joined_whole, left_uses, left_whole, range_is, take_whole}

-- literals of the nodes up to 1,023
high_has : (ks : List ℕ) (k : ℕ) → ((i : ℕ) → i < length ks → get_or ks i 0 < 2048) → 2048 ≤ k → has k ks ≡ false
high_has [] k low h = refl
high_has (j ∷ ks) k low h =
    let a = low 0 (omega arith) in
    rw (ne_eqb k j (λ q. omega arith)) (high_has ks k (λ i l. low (suc i) (omega arith)) h)

-- ## New words

scattered_rings : (room : ℕ) (ws : List ℕ) → 2 * node_count room ≤ length ws → (k : ℕ) → k < 2048 → ring 2048 (node_count room) (scattered (node_count room) ws) k ≡ []
scattered_rings room ws long k h =
    let vs = scattered (node_count room) ws in
    lone_ring 2048 (node_count room) vs (omega arith) (let e = scattered_length (node_count room) ws in omega arith) (scattered_alone (node_count room) ws long) k h

scattered_bare : (room : ℕ) (ws : List ℕ) → 2 * node_count room ≤ length ws → Bare room (scattered (node_count room) ws)
scattered_bare room ws long = record { tidy = scattered_tidy 2048 (node_count room) ws (omega arith) long; none = scattered_rings room ws long }

differ_none : Differ []
unfolding Differ
differ_none = tt

-- rings with no node
pub bare_whole : (room : ℕ) (ws : List ℕ) → Bare room ws → Whole room ws
bare_whole room ws b = record {
  tidy = b.tidy;
  packed = λ x j a c l q. let p = node_in room x (j + 1) a c l in b.tidy.alone (first_node x + (j + 1)) p.0 p.1 (λ k h. rw (b.none k h) tt);
  once = λ k h. rw (b.none k h) differ_none;
}

-- no uses
pub bare_used : (room : ℕ) (ws : List ℕ) → (0 < room → Bare room ws) → (k : ℕ) → used_in room ws k ≡ []
bare_used room ws b k = ap (map slot_of) (elim (cases_lt 0 room) [
  | inr z ↦ nodes_none room ws k z
  | inl r ↦ elim (cases_lt k 2048) [ inl h ↦ nodes_is room ws k r h ∙ (b r).none k h | inr g ↦ nodes_high room ws k g ]
])

pub fresh_whole : (room : ℕ) (ws vs : List ℕ) → 2 * node_count room ≤ length ws → vs ≡ scattered (node_count room) ws → Whole room vs
fresh_whole room ws vs long q = rw q (bare_whole room (scattered (node_count room) ws) (scattered_bare room ws long))

pub fresh_used : (room : ℕ) (ws vs : List ℕ) → 2 * node_count room ≤ length ws → vs ≡ scattered (node_count room) ws → (k : ℕ) → used_in room vs k ≡ []
fresh_used room ws vs long q k = rw q (bare_used room (scattered (node_count room) ws) (λ _. scattered_bare room ws long) k)

-- ## Joined slots

-- of words that have another slot's first node alone alike
joined_same : (room y : ℕ) (ws vs : List ℕ) → (in_range room y ≡ true → AloneAlike ws vs (first_node y)) → joined_in room vs y ≡ joined_in room ws y
unfolding joined_in
joined_same room y ws vs alike = elim (cases_Bool (in_range room y)) [
  | inr f ↦ rw f refl
  | inl t ↦ rw t (ap not (elim (cases_eq (next ws (first_node y)) (first_node y)) [
    | inl e ↦ eq-eqb (next vs (first_node y)) (first_node y) ((alike t).0 e) ∙ sym (eq-eqb (next ws (first_node y)) (first_node y) e)
    | inr ne ↦ ne_eqb (next vs (first_node y)) (first_node y) (λ e. ne ((alike t).1 e)) ∙ sym (ne_eqb (next ws (first_node y)) (first_node y) ne)
  ]))
]

pub joined_tied : (room x : ℕ) (ws : List ℕ) → in_range room x ≡ true → (next ws (first_node x) ≡ first_node x → ⊥) → joined_in room ws x ≡ true
unfolding joined_in
joined_tied room x ws e ne = rw e (ap not (ne_eqb (next ws (first_node x)) (first_node x) ne))

joined_alone : (room x : ℕ) (ws : List ℕ) → next ws (first_node x) ≡ first_node x → joined_in room ws x ≡ false
unfolding joined_in
joined_alone room x ws e = elim (cases_Bool (in_range room x)) [
  | inl t ↦ rw t (ap not (eq-eqb (next ws (first_node x)) (first_node x) e))
  | inr f ↦ rw f refl
]

pub joined_out : (room x : ℕ) (ws : List ℕ) → in_range room x ≡ false → joined_in room ws x ≡ false
unfolding joined_in
joined_out room x ws e = rw e refl

-- the first node with nothing added
first_more : (x : ℕ) (ws : List ℕ) → next ws (first_node x + 0) ≡ first_node x + 0 → next ws (first_node x) ≡ first_node x
first_more x ws e = let q : first_node x + 0 ≡ first_node x = omega arith in subst (λ (n : ℕ). next ws n ≡ n) q e

more_first : (x : ℕ) (ws : List ℕ) → next ws (first_node x) ≡ first_node x → next ws (first_node x + 0) ≡ first_node x + 0
more_first x ws e = let q : first_node x ≡ first_node x + 0 = omega arith in subst (λ (n : ℕ). next ws n ≡ n) q e

first_slot : (y : ℕ) → 2050 ≤ y → slot_of (first_node y) ≡ y
first_slot y a = let e = node_slot y 0 a (omega arith) in omega arith

-- ## A slot joins

module _ (room : ℕ) (ws : List ℕ) (x : ℕ) (literals : List ℕ) (w : Whole room ws) (e : in_range room x ≡ true) (alone : next ws (first_node x) ≡ first_node x) (few' : length literals ≤ 31) (us : List ℕ) (J : Joining room ws x literals (length literals) us) where
  r : (2050 ≤ x) × (x < 2050 + room)
  r = range_is room x e

  some : 0 < room
  some = let a = r.0 in let b = r.1 in omega arith

  pub come_whole : Whole room us
  come_whole = joined_whole room ws x literals w r.0 r.1 alone few' us J (take_whole literals)

  pub come_used : ((i : ℕ) → i < length literals → get_or literals i 0 < 2048) → (k : ℕ) → used_in room us k ≡ cond (has k literals) (used_in room ws k ++ (x ∷ [])) (used_in room ws k)
  come_used low k = elim (cases_lt k 2048) [
    | inl h ↦
        let U = nodes_is room ws k some h in
        ap (map slot_of) (nodes_is room us k some h) ∙ joined_uses room ws x literals w r.0 r.1 alone few' us J (take_whole literals) k h ∙ ap (λ (ns : List ℕ). cond (has k literals) (map slot_of ns ++ (x ∷ [])) (map slot_of ns)) (sym U)
    | inr g ↦ ap (map slot_of) (nodes_high room us k g) ∙ sym (cond-false (has k literals) (used_in room ws k ++ (x ∷ [])) (used_in room ws k) (high_has literals k low g) ∙ ap (map slot_of) (nodes_high room ws k g))
  ]

  pub come_joined : (y : ℕ) → joined_in room us y ≡ cond (y == x) (ltb 0 (length literals)) (joined_in room ws y)
  come_joined y = elim (cases_eq y x) [
    | inl q ↦ ap (joined_in room us) q ∙ elim (cases_lt 0 (length literals)) [
      | inl h ↦ joined_tied room x us e (λ s. J.done 0 h (more_first x us s)) ∙ sym (lt-ltb 0 (length literals) h)
      | inr z ↦ joined_alone room x us (first_more x us (J.left 0 (omega arith) (omega arith))) ∙ sym (le-ltb 0 (length literals) z)
    ] ∙ sym (cond-true (y == x) (ltb 0 (length literals)) (joined_in room ws y) (eq-eqb y x q))
    | inr ne ↦
        joined_same room y ws us (λ t. let p = range_is room y t in let p0 = p.0 in let p1 = p.1 in J.others (first_node y) (omega arith) (omega arith) (λ s. ne (sym (first_slot y p.0) ∙ s)))
        ∙ sym (cond-false (y == x) (ltb 0 (length literals)) (joined_in room ws y) (ne_eqb y x ne))
  ]

-- ## A slot leaves

module _ (room : ℕ) (ws : List ℕ) (x : ℕ) (w : Whole room ws) (e : in_range room x ≡ true) (us : List ℕ) (L : Leaving room ws x 31 us) where
  r' : (2050 ≤ x) × (x < 2050 + room)
  r' = range_is room x e

  some' : 0 < room
  some' = let a = r'.0 in let b = r'.1 in omega arith

  pub gone_whole : Whole room us
  gone_whole = left_whole room ws x w r'.0 r'.1 us L

  pub gone_used : (k : ℕ) → used_in room us k ≡ without x (used_in room ws k)
  gone_used k = elim (cases_lt k 2048) [
    | inl h ↦ ap (map slot_of) (nodes_is room us k some' h) ∙ left_uses room ws x w r'.0 r'.1 us L k h ∙ ap (λ (ns : List ℕ). without x (map slot_of ns)) (sym (nodes_is room ws k some' h))
    | inr g ↦ ap (map slot_of) (nodes_high room us k g) ∙ ap (λ (ns : List ℕ). without x (map slot_of ns)) (sym (nodes_high room ws k g))
  ]

  pub gone_joined : (y : ℕ) → joined_in room us y ≡ cond (y == x) false (joined_in room ws y)
  gone_joined y = elim (cases_eq y x) [
    | inl q ↦ ap (joined_in room us) q ∙ joined_alone room x us (first_more x us (L.gone 0 (omega arith))) ∙ sym (cond-true (y == x) false (joined_in room ws y) (eq-eqb y x q))
    | inr ne ↦
        joined_same room y ws us (λ t. let p = range_is room y t in let p0 = p.0 in let p1 = p.1 in L.others (first_node y) (omega arith) (omega arith) (λ j h s. ne (sym (first_slot y p.0) ∙ ap slot_of s ∙ node_slot x j r'.0 h)))
        ∙ sym (cond-false (y == x) false (joined_in room ws y) (ne_eqb y x ne))
  ]

-- one past the range
module _ (room : ℕ) (ws : List ℕ) (x : ℕ) (used : (k : ℕ) → has x (used_in room ws k) ≡ true → joined_in room ws x ≡ true) (e : in_range room x ≡ false) where
  pub stranger_used : (k : ℕ) → used_in room ws k ≡ without x (used_in room ws k)
  stranger_used k = sym (without_lacks x (used_in room ws k) (not_has_lacks x (used_in room ws k) (elim (cases_Bool (has x (used_in room ws k))) [
    | inr f ↦ f
    | inl t ↦ absurd (both_ways (joined_in room ws x) (joined_out room x ws e) (used k t))
  ])))

  pub stranger_joined : (y : ℕ) → joined_in room ws y ≡ cond (y == x) false (joined_in room ws y)
  stranger_joined y = elim (cases_eq y x) [
    | inl q ↦ ap (joined_in room ws) q ∙ joined_out room x ws e ∙ sym (cond-true (y == x) false (joined_in room ws y) (eq-eqb y x q))
    | inr ne ↦ sym (cond-false (y == x) false (joined_in room ws y) (ne_eqb y x ne))
  ]

-- ## Emptied

pub bare_joined : (room : ℕ) (ws : List ℕ) → (0 < room → Bare room ws) → (y : ℕ) → joined_in room ws y ≡ false
bare_joined room ws b y = elim (cases_Bool (in_range room y)) [
  | inr f ↦ joined_out room y ws f
  | inl t ↦
      let p = range_is room y t in
      let p0 = p.0 in
      let p1 = p.1 in
      let bare = b (omega arith) in
      joined_alone room y ws (bare.tidy.alone (first_node y) (omega arith) (omega arith) (λ k h. rw (bare.none k h) tt))
]

-- ## Questions

pub used_few : (room : ℕ) (ws : List ℕ) → Sound room ws → (k : ℕ) → length (nodes_of room ws k) ≤ node_count room
used_few room ws s k = nodes_by (λ ns. length ns ≤ node_count room) room ws k (omega arith) (λ r h. few (node_count room) (ring 2048 (node_count room) ws k) (ring_differ 2048 (node_count room) ws (s r).tidy.held k h) (ring_slots 2048 (node_count room) ws (s r).tidy.held k h).1)

module _ (room : ℕ) (ws : List ℕ) (s : Sound room ws) (n k j : ℕ) (st : Stands room ws n k j) where
  there : (0 < room) × (k < 2048)
  there = elim (cases_lt 0 room) [
    | inr z ↦ absurd (let h = subst (λ (ns : List ℕ). j < length ns) (nodes_none room ws k z) st.0 in omega arith)
    | inl r ↦ elim (cases_lt k 2048) [
      | inl h ↦ (r, h)
      | inr g ↦ absurd (let h = subst (λ (ns : List ℕ). j < length ns) (nodes_high room ws k g) st.0 in omega arith)
    ]
  ]

  abbrev R : List ℕ
  R = ring 2048 (node_count room) ws k

  is : nodes_of room ws k ≡ R
  is = nodes_is room ws k there.0 there.1

  after_is : slot_after 2048 ws n ≡ cond (ltb (suc j) (length R)) (Some (get_or R (suc j) 0)) None
  after_is = ring_laws.next_one 2048 (node_count room) ws k j n (record { held = (s there.0).tidy.held; head = there.1; within = subst (λ (ns : List ℕ). j < length ns) is st.0; is = ap (λ (ns : List ℕ). get_or ns j 0) (sym is) ∙ st.1 })

  pub no_next : None ≡ slot_after 2048 ws n → length (used_in room ws k) ≡ j + 1
  no_next e =
      let a = subst (λ (ns : List ℕ). j < length ns) is st.0 in
      let b = ap length is in
      let c = map_length (nodes_of room ws k) in
      elim (cases_lt (suc j) (length R)) [
        | inl h ↦ absurd (none-some (get_or R (suc j) 0) (e ∙ after_is ∙ cond-true (ltb (suc j) (length R)) (Some (get_or R (suc j) 0)) None (lt-ltb (suc j) (length R) h)))
        | inr g ↦ omega arith
      ]

  pub next_use : (m : ℕ) → Some m ≡ slot_after 2048 ws n → Stands room ws m k (j + 1)
  next_use m e = elim (cases_lt (suc j) (length R)) [
    | inl h ↦
        let q = (cond_some true m (get_or R (suc j) 0) (e ∙ after_is ∙ cond-true (ltb (suc j) (length R)) (Some (get_or R (suc j) 0)) None (lt-ltb (suc j) (length R) h))).1 in
        let i : suc j ≡ j + 1 = omega arith in
        subst (λ (ns : List ℕ). (j + 1 < length ns) × (get_or ns (j + 1) 0 ≡ m)) (sym is) (subst (λ (p : ℕ). (p < length R) × (get_or R p 0 ≡ m)) i (h, sym q))
    | inr g ↦ absurd (none-some m (sym (e ∙ after_is ∙ cond-false (ltb (suc j) (length R)) (Some (get_or R (suc j) 0)) None (le-ltb (suc j) (length R) g))))
  ]
