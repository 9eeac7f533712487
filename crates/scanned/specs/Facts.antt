-- What holds of every sequence and of its uses. Assumes nothing.
-- The proofs stand here, since the laws of the code's `impl` cite them.
use Rattle.std.proofs.Common.{◌≡◌, ℕ, zero, suc, ◌+◌, ◌-◌, ◌*◌, ◌<◌, ◌≤◌, Bool, true, false, not, ◌&&◌, ◌==◌, ltb, leb, List, [], ◌∷◌, ◌++◌, map, length, get_or, drop, filter, sym, refl, ap, ◌∙◌, subst, inl, inr, arith}
use mathlib.Core.Logic.{∥∥₁_elim}
use mathlib.Core.HLevel.{Π_prop}
use Rattle.std.specs.List.{AllByRecursion, list_any}
use Rattle.std.proofs.lemmas.Bool.Decides.{nat_tests}
use Rattle.std.proofs.lemmas.Bool.{cases_Bool, cases_eq, cases_lt, cond-true, cond-false, lt-ltb, le-ltb, eq-eqb, ne_eqb, both_ways}
use Rattle.network.specs.Clauses.{has}
use Rattle.rings.specs.Rings.{Differ, Lacks, next, ring}
use Rattle.rings.specs.Tidy.{Tidy}
use Rattle.rings.proofs.Holes.{few}
use Rattle.rings.proofs.Tidies.{tidy_prop}
use Rattle.rings.proofs.Words.{alone_lacks, ring_differ, ring_slots}
use Rattle.slots.proofs.Members.{all_has, all_map, filter_differ, filter_has, filter_length, filter_none, filter_same, has_else, has_here, lacks_has, not_has_lacks}
use Rattle.slotted.specs.Indexes.{Alike, Listing, Low, Sensible}
use Rattle.scanned.specs.Sequence.{Sound, Stands, in_range, joined_in, listed_at, nodes_behind, sequence, slot_of, used_in}

-- ## Lists

-- the slots of nodes
pub map_has : (x : ℕ) (ns : List ℕ) → has (slot_of x) (map slot_of ns) ≡ has x ns
map_has x [] = refl
map_has x (n ∷ ns) = elim (cases_eq x n) [
  | inl e ↦ has_here (slot_of x) (slot_of n) (map slot_of ns) (ap slot_of e) ∙ sym (has_here x n ns e)
  | inr ne ↦ has_else (slot_of x) (slot_of n) (map slot_of ns) (λ q. ne (omega arith)) ∙ map_has x ns ∙ sym (has_else x n ns ne)
]

lacks_map : (x : ℕ) (ns : List ℕ) → Lacks x ns → Lacks (slot_of x) (map slot_of ns)
lacks_map x [] h = tt
lacks_map x (n ∷ ns) h = ((λ q. h.0 (omega arith)), lacks_map x ns h.1)

map_differ : (ns : List ℕ) → Differ ns → Differ (map slot_of ns)
unfolding Differ
map_differ [] d = tt
map_differ (n ∷ ns) d = (lacks_map n ns d.0, map_differ ns d.1)

map_low : (x : ℕ) (ns : List ℕ) → x < 2050 → AllByRecursion (λ n. 1 ≤ n) ns → has x (map slot_of ns) ≡ false
map_low x [] h a = refl
map_low x (n ∷ ns) h a = let b = a.0 in has_else x (slot_of n) (map slot_of ns) (λ q. omega arith) ∙ map_low x ns h a.1

map_high : (x m : ℕ) (ns : List ℕ) → m + 2049 ≤ x → AllByRecursion (λ n. n < m) ns → has x (map slot_of ns) ≡ false
map_high x m [] h a = refl
map_high x m (n ∷ ns) h a = let b = a.0 in has_else x (slot_of n) (map slot_of ns) (λ q. omega arith) ∙ map_high x m ns h a.1

map_length : (ns : List ℕ) → length (map slot_of ns) ≡ length ns
map_length [] = refl
map_length (n ∷ ns) = ap suc (map_length ns)

-- ## Sequences

pub sound : {room : ℕ} {ws : List ℕ} → ∥ Sound room ws ∥₁ → Sound room ws
sound {room} {ws} h = ∥∥₁_elim h (Π_prop (λ _. tidy_prop 1 (room + 1) ws)) (λ s. s)

pub behind_is : (room : ℕ) (ws : List ℕ) (n : ℕ) → 0 < room → nodes_behind room ws n ≡ ring 1 (room + 1) ws n
unfolding nodes_behind
behind_is room ws n h = cond-true (ltb 0 room) (ring 1 (room + 1) ws n) [] (lt-ltb 0 room h)

pub behind_none : (room : ℕ) (ws : List ℕ) (n : ℕ) → room ≤ 0 → nodes_behind room ws n ≡ []
unfolding nodes_behind
behind_none room ws n h = cond-false (ltb 0 room) (ring 1 (room + 1) ws n) [] (le-ltb 0 room h)

-- what holds of the nodes behind the head, if it holds of the ring and of no nodes
behind_by : (P : List ℕ → Type 0) (room : ℕ) (ws : List ℕ) → P [] → (0 < room → P (ring 1 (room + 1) ws 0)) → P (nodes_behind room ws 0)
behind_by P room ws n s = elim (cases_lt 0 room) [ inl r ↦ subst P (sym (behind_is room ws 0 r)) (s r) | inr z ↦ subst P (sym (behind_none room ws 0 z)) n ]

module _ (room : ℕ) (ws : List ℕ) (s : Sound room ws) where
  pub sequence_differ : Differ (sequence room ws)
  unfolding Differ
  sequence_differ = map_differ (nodes_behind room ws 0) (behind_by Differ room ws tt (λ r. ring_differ 1 (room + 1) ws (s r).held 0 (omega arith)))

  nodes_in : AllByRecursion (λ n. 1 ≤ n) (nodes_behind room ws 0) × AllByRecursion (λ n. n < room + 1) (nodes_behind room ws 0)
  nodes_in = behind_by (λ ns. AllByRecursion (λ n. 1 ≤ n) ns × AllByRecursion (λ n. n < room + 1) ns) room ws (tt, tt) (λ r. ring_slots 1 (room + 1) ws (s r).held 0 (omega arith))

  -- a slot past the range is not in the sequence
  outside : (x : ℕ) → in_range room x ≡ false → has x (sequence room ws) ≡ false
  outside x e = elim (cases_lt x 2050) [
    | inl h ↦ map_low x (nodes_behind room ws 0) h nodes_in.0
    | inr g ↦ map_high x (room + 1) (nodes_behind room ws 0) (grind (arith, nat_tests)) nodes_in.1
  ]

  -- a slot of the range is in the sequence unless its node stands alone
  inside : (n : ℕ) → 1 ≤ n → n < room + 1 → not (next ws n == n) ≡ has (slot_of n) (sequence room ws)
  inside n a b =
      let r : 0 < room = omega arith in
      let t = s r in
      let ns = ring 1 (room + 1) ws 0 in
      let m = map_has n (nodes_behind room ws 0) ∙ ap (has n) (behind_is room ws 0 r) in
      elim (cases_eq (next ws n) n) [
        | inl e ↦ ap not (eq-eqb (next ws n) n e) ∙ sym (m ∙ lacks_has n ns (alone_lacks 1 (room + 1) ws t.held n 0 (omega arith) b e))
        | inr ne ↦ ap not (ne_eqb (next ws n) n ne) ∙ sym (m ∙ elim (cases_Bool (has n ns)) [
          | inl h ↦ h
          | inr f ↦ absurd (ne (t.alone n a b (λ l k. subst (λ (j : ℕ). Lacks n (ring 1 (room + 1) ws j)) (omega arith) (not_has_lacks n ns f))))
        ])
      ]

  -- the slots that have joined are those of the sequence
  pub joined_has : (x : ℕ) → joined_in room ws x ≡ has x (sequence room ws)
  unfolding joined_in
  joined_has x = elim (cases_Bool (in_range room x)) [
    | inr f ↦ rw f (sym (outside x f))
    | inl t ↦
        let a : 2050 ≤ x = grind (arith, nat_tests) in
        let b : x < 2050 + room = grind (arith, nat_tests) in
        let e : slot_of (x - 2049) ≡ x = omega arith in
        rw t (inside (x - 2049) (omega arith) (omega arith) ∙ ap (λ (y : ℕ). has y (sequence room ws)) e)
  ]

  pub sensible_is : Sensible (joined_in room ws) (used_in room ws)
  sensible_is = record {
    users = λ L k. all_map (λ x. has x (sequence room ws) ≡ true) (λ x. joined_in room ws x ≡ true) (λ x h. joined_has x ∙ h) (used_in room ws L k) (all_has (used_in room ws L k) (sequence room ws) (λ x. filter_has (λ y. has k (L y)) x (sequence room ws)));
    once = λ L k. filter_differ (λ x. has k (L x)) (sequence room ws) sequence_differ;
    depends = λ L M alike k. filter_same (λ x. has k (L x)) (λ x. has k (M x)) (sequence room ws) (λ x h. alike x k (joined_has x ∙ h));
    low = λ L low k high. filter_none (λ x. has k (L x)) (sequence room ws) (λ x h. low x k (joined_has x ∙ h) high);
  }

  -- no more than there is room for
  pub used_few : (L : Listing) (k : ℕ) → length (used_in room ws L k) ≤ room + 1
  used_few L k =
      let a = filter_length (λ x. has k (L x)) (sequence room ws) in
      let b = map_length (nodes_behind room ws 0) in
      let c = behind_by (λ ns. length ns ≤ room + 1) room ws (omega arith) (λ r. few (room + 1) (ring 1 (room + 1) ws 0) (ring_differ 1 (room + 1) ws (s r).held 0 (omega arith)) (ring_slots 1 (room + 1) ws (s r).held 0 (omega arith)).1) in
      omega arith

  pub stays_is : (L M : Listing) → Alike (joined_in room ws) L M → (x k j : ℕ) → Stands room ws L x k j → Stands room ws M x k j
  stays_is L M alike x k j st = subst (λ (ys : List ℕ). (j < length ys) × (get_or ys j 0 ≡ x)) (sensible_is.depends L M alike k) st
