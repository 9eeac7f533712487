-- What holds of all uses in rings. Assumes nothing.
-- The proofs stand here, since the laws of the code's `impl` cite them.
use Rattle.std.proofs.Common.{◌≡◌, ℕ, zero, suc, ◌+◌, ◌-◌, ◌*◌, ◌/◌, ◌%◌, ◌<◌, ◌≤◌, Bool, true, false, not, ◌&&◌, ltb, List, [], ◌∷◌, map, length, get_or, sym, refl, ap, ◌∙◌, subst, inl, inr, arith}
use mathlib.Core.Logic.{∥∥₁_elim}
use mathlib.Core.HLevel.{Π_prop}
use denote.Struct.Props.{≡_prop}
use base.Stored.{coded_ℕ}
use Rattle.std.specs.Bool.{◌==◌}
use Rattle.std.specs.List.{AllByRecursion}
use Rattle.std.proofs.lemmas.Bool.Decides.{nat_tests}
use Rattle.std.proofs.lemmas.Bool.{cases_Bool, cases_eq, cases_lt, and_from, and_left, and_right, cond-true, cond-false, lt-ltb, le-ltb, eq-eqb, ne_eqb, both_ways}
use Rattle.network.specs.Clauses.{has}
use Rattle.rings.specs.Rings.{Differ, Lacks, next, ring}
use Rattle.rings.specs.Tidy.{Tidy}
use Rattle.rings.proofs.Tidies.{tidy_prop}
use Rattle.rings.proofs.Words.{alone_lacks, ring_slots}
use Rattle.slots.proofs.Members.{all_has, all_map, has_else, has_here, has_not_lacks, lacks_has, not_has_lacks}
use Rattle.slotted.specs.Indexes.{Listing, Sensible}
use Rattle.indexed.specs.Links.{Sound, Stands, Whole, first_node, in_range, joined_in, node_count, nodes_of, slot_of, used_in}

lacks_prop : (y : ℕ) (ys : List ℕ) → IsProp (Lacks y ys)
lacks_prop y [] p q = refl
lacks_prop y (z ∷ zs) p q = λ i. (Π_prop (λ (e : z ≡ y). λ (a b : ⊥). absurd a) p.0 q.0 i, lacks_prop y zs p.1 q.1 i)

differ_prop : (xs : List ℕ) → IsProp (Differ xs)
unfolding Differ
differ_prop [] p q = refl
differ_prop (x ∷ xs) p q = λ i. (lacks_prop x xs p.0 q.0 i, differ_prop xs p.1 q.1 i)

whole_prop : (room : ℕ) (ws : List ℕ) → IsProp (Whole room ws)
whole_prop room ws p q = λ i. record {
  tidy = tidy_prop 2048 (node_count room) ws p.tidy q.tidy i;
  packed = λ x j a b l e. ≡_prop coded_ℕ (next ws (first_node x + (j + 1))) (first_node x + (j + 1)) (p.packed x j a b l e) (q.packed x j a b l e) i;
  once = λ k h. differ_prop (map slot_of (ring 2048 (node_count room) ws k)) (p.once k h) (q.once k h) i;
}

pub sound : {room : ℕ} {ws : List ℕ} → ∥ Sound room ws ∥₁ → Sound room ws
sound {room} {ws} h = ∥∥₁_elim h (Π_prop (λ _. whole_prop room ws)) (λ s. s)

-- ## Nodes and slots

-- a node of slot x is one of the nodes, and its slot is x
pub node_in : (room x j : ℕ) → 2050 ≤ x → x < 2050 + room → j < 31 → (2048 ≤ first_node x + j) × (first_node x + j < node_count room)
node_in room x j a b c = (omega arith, omega arith)

pub node_slot : (x j : ℕ) → 2050 ≤ x → j < 31 → slot_of (first_node x + j) ≡ x
node_slot x j a b = omega arith

-- a node of slot x is its first and some more
pub slot_node : (n x : ℕ) → 2048 ≤ n → slot_of n ≡ x → ((n - 2048) % 31 < 31) × (n ≡ first_node x + (n - 2048) % 31)
slot_node n x a e = (omega arith, omega arith)

slot_in : (room n : ℕ) → 2048 ≤ n → n < node_count room → (2050 ≤ slot_of n) × (slot_of n < 2050 + room)
slot_in room n a b = (omega arith, omega arith)

-- ## Rings

pub nodes_is : (room : ℕ) (ws : List ℕ) (k : ℕ) → 0 < room → k < 2048 → nodes_of room ws k ≡ ring 2048 (node_count room) ws k
unfolding nodes_of
nodes_is room ws k r h = cond-true (ltb 0 room && ltb k 2048) (ring 2048 (node_count room) ws k) [] (and_from (ltb 0 room) (ltb k 2048) (lt-ltb 0 room r) (lt-ltb k 2048 h))

pub nodes_none : (room : ℕ) (ws : List ℕ) (k : ℕ) → room ≤ 0 → nodes_of room ws k ≡ []
unfolding nodes_of
nodes_none room ws k z = cond-false (ltb 0 room && ltb k 2048) (ring 2048 (node_count room) ws k) [] (and_left (ltb 0 room) (ltb k 2048) (le-ltb 0 room z))

pub nodes_high : (room : ℕ) (ws : List ℕ) (k : ℕ) → 2048 ≤ k → nodes_of room ws k ≡ []
unfolding nodes_of
nodes_high room ws k h = cond-false (ltb 0 room && ltb k 2048) (ring 2048 (node_count room) ws k) [] (and_right (ltb 0 room) (ltb k 2048) (le-ltb k 2048 h))

-- what holds of the nodes of a literal, if it holds of its ring and of none
pub nodes_by : (P : List ℕ → Type 0) (room : ℕ) (ws : List ℕ) (k : ℕ) → P [] → (0 < room → k < 2048 → P (ring 2048 (node_count room) ws k)) → P (nodes_of room ws k)
nodes_by P room ws k n s = elim (cases_lt 0 room) [
  | inr z ↦ subst P (sym (nodes_none room ws k z)) n
  | inl r ↦ elim (cases_lt k 2048) [ inl h ↦ subst P (sym (nodes_is room ws k r h)) (s r h) | inr g ↦ subst P (sym (nodes_high room ws k g)) n ]
]

-- the slots of nodes that have not x
lacks_slots : (x : ℕ) (ns : List ℕ) → ((n : ℕ) → has n ns ≡ true → slot_of n ≡ x → ⊥) → Lacks x (map slot_of ns)
lacks_slots x [] h = tt
lacks_slots x (n ∷ ns) h = (h n (has_here n n ns refl), lacks_slots x ns (λ m g. elim (cases_eq m n) [ inl e ↦ h m (has_here m n ns e) | inr ne ↦ h m (has_else m n ns ne ∙ g) ]))

-- what all have, one of them has
all_at : (P : ℕ → Type 0) (n : ℕ) (ns : List ℕ) → AllByRecursion P ns → has n ns ≡ true → P n
all_at P n [] a h = absurd (both_ways false refl h)
all_at P n (m ∷ ns) a h = elim (cases_eq n m) [ inl e ↦ subst P (sym e) a.0 | inr ne ↦ all_at P n ns a.1 (sym (has_else n m ns ne) ∙ h) ]

-- a slot all of whose nodes stand alone is in no ring
pub lacks_by_nodes : (room : ℕ) (ws : List ℕ) → Tidy 2048 (node_count room) ws → (x : ℕ) → 2050 ≤ x → x < 2050 + room → ((j : ℕ) → j < 31 → next ws (first_node x + j) ≡ first_node x + j) → (k : ℕ) → k < 2048 → Lacks x (map slot_of (ring 2048 (node_count room) ws k))
lacks_by_nodes room ws t x a b all k h =
    let N = node_count room in
    let R = ring 2048 N ws k in
    let slots = ring_slots 2048 N ws t.held k h in
    lacks_slots x R (λ n g e.
    let low = all_at (λ m. 2048 ≤ m) n R slots.0 g in
    let sn = slot_node n x low e in
    let al = all ((n - 2048) % 31) sn.0 in
    let here : next ws n ≡ n = ap (next ws) sn.1 ∙ al ∙ sym sn.1 in
    has_not_lacks n R g (alone_lacks 2048 N ws t.held n k h (all_at (λ m. m < N) n R slots.1 g) here))

differ_none : Differ []
unfolding Differ
differ_none = tt

module _ (room : ℕ) (ws : List ℕ) (w : Whole room ws) where
  abbrev N : ℕ
  N = node_count room

  -- a slot whose first node stands alone has all its nodes alone
  pub all_alone : (x : ℕ) → 2050 ≤ x → x < 2050 + room → next ws (first_node x) ≡ first_node x → (j : ℕ) → j < 31 → next ws (first_node x + j) ≡ first_node x + j
  all_alone x a b e zero h = let q : first_node x ≡ first_node x + 0 = omega arith in ap (next ws) (sym q) ∙ e ∙ q
  all_alone x a b e (suc j) h =
      let ih = all_alone x a b e j (omega arith) in
      let q : first_node x + (j + 1) ≡ first_node x + suc j = omega arith in
      ap (next ws) (sym q) ∙ w.packed x j a b (omega arith) ih ∙ q

module _ (room : ℕ) (ws : List ℕ) (s : Sound room ws) where
  -- a used slot has joined
  pub used_joined : (k x : ℕ) → has x (used_in room ws k) ≡ true → joined_in room ws x ≡ true
  unfolding joined_in
  used_joined k x h = elim (cases_lt 0 room) [
    | inr z ↦ absurd (both_ways (has x (used_in room ws k)) (ap (λ (ns : List ℕ). has x (map slot_of ns)) (nodes_none room ws k z)) h)
    | inl r ↦ elim (cases_lt k 2048) [
      | inr g ↦ absurd (both_ways (has x (used_in room ws k)) (ap (λ (ns : List ℕ). has x (map slot_of ns)) (nodes_high room ws k g)) h)
      | inl g ↦
          let R = ring 2048 (node_count room) ws k in
          let w = s r in
          let h' : has x (map slot_of R) ≡ true = ap (λ (ns : List ℕ). has x (map slot_of ns)) (sym (nodes_is room ws k r g)) ∙ h in
          let slots = ring_slots 2048 (node_count room) ws w.tidy.held k g in
          let inside : AllByRecursion (λ n. (2050 ≤ slot_of n) × (slot_of n < 2050 + room)) R = both_all R slots.0 slots.1 in
          let xs = map_all R inside x h' in
          let x0 = xs.0 in
          let x1 = xs.1 in
          let range : in_range room x ≡ true = grind (arith, nat_tests) in
          elim (cases_eq (next ws (first_node x)) (first_node x)) [
            | inr ne ↦ rw range (ap not (ne_eqb (next ws (first_node x)) (first_node x) ne))
            | inl e ↦ absurd (has_not_lacks x (map slot_of R) h' (lacks_by_nodes room ws w.tidy x xs.0 xs.1 (all_alone room ws w x xs.0 xs.1 e) k g))
          ]
    ]
  ]
    where
      both_all : (ns : List ℕ) → AllByRecursion (λ n. 2048 ≤ n) ns → AllByRecursion (λ n. n < node_count room) ns → AllByRecursion (λ n. (2050 ≤ slot_of n) × (slot_of n < 2050 + room)) ns
      both_all [] a b = tt
      both_all (n ∷ ns) a b = (slot_in room n a.0 b.0, both_all ns a.1 b.1)

      map_all : (ns : List ℕ) → AllByRecursion (λ n. (2050 ≤ slot_of n) × (slot_of n < 2050 + room)) ns → (y : ℕ) → has y (map slot_of ns) ≡ true → (2050 ≤ y) × (y < 2050 + room)
      map_all [] a y q = absurd (both_ways false refl q)
      map_all (n ∷ ns) a y q = elim (cases_eq y (slot_of n)) [
        | inl e ↦ subst (λ (z : ℕ). (2050 ≤ z) × (z < 2050 + room)) (sym e) a.0
        | inr ne ↦ map_all ns a.1 y (sym (has_else y (slot_of n) (map slot_of ns) ne) ∙ q)
      ]

  pub sensible_is : Sensible (joined_in room ws) (λ L. used_in room ws)
  sensible_is = record {
    users = λ L k. all_map (λ x. has x (used_in room ws k) ≡ true) (λ x. joined_in room ws x ≡ true) (λ x. used_joined k x) (used_in room ws k) (all_has (used_in room ws k) (used_in room ws k) (λ x h. h));
    once = λ L k. nodes_by (λ ns. Differ (map slot_of ns)) room ws k differ_none (λ r h. (s r).once k h);
    depends = λ L M alike k. refl;
    low = λ L low k high. ap (map slot_of) (nodes_high room ws k high);
  }

-- as many uses as nodes
pub map_length : (ns : List ℕ) → length (map slot_of ns) ≡ length ns
map_length [] = refl
map_length (n ∷ ns) = ap suc (map_length ns)

pub within_is : (room : ℕ) (ws : List ℕ) (n k j : ℕ) → Stands room ws n k j → j < length (used_in room ws k)
within_is room ws n k j st = let a = st.0 in let b = map_length (nodes_of room ws k) in omega arith
