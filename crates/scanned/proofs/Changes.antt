-- What joining and leaving make of the sequence. Assumes nothing.
use Rattle.std.proofs.Common.{◌≡◌, ℕ, zero, suc, ◌+◌, ◌-◌, ◌*◌, ◌<◌, ◌≤◌, Bool, true, false, cond, not, ltb, List, [], ◌∷◌, ◌++◌, map, length, get_or, drop, filter, Some, None, Option, sym, refl, ap, ◌∙◌, subst, inl, inr, arith}
use Rattle.std.specs.Bool.{◌==◌}
use Rattle.std.proofs.lemmas.Bool.{cases_Bool, cases_eq, cases_lt, cond-true, cond-false, eq-eqb, ne_eqb, both_ways, lt-ltb}
use Rattle.std.proofs.lemmas.Bool.Decides.{nat_tests}
use Rattle.network.specs.Clauses.{has, without}
use Rattle.rings.specs.Rings.{Lacks, cut_out, next, put_in, ring}
use Rattle.rings.specs.Tidy.{Tidy}
use Rattle.rings.proofs.Holes.{without_lacks}
use Rattle.rings.proofs.Paths.{without_here, without_other}
use Rattle.rings.proofs.Tidies.{cut_out_rings, cut_out_tidy, put_in_rings, put_in_tidy}
use Rattle.slots.proofs.Members.{filter_push, filter_without, has_push, has_without, not_has_lacks}
use Rattle.scanned.specs.Facts.{behind_is, joined_has}
use Rattle.slotted.specs.Indexes.{Listing, MayJoin}
use Rattle.scanned.specs.Sequence.{Sound, in_range, joined_in, listed_at, nodes_behind, sequence, slot_of, used_in}

map_without : (n : ℕ) (ns : List ℕ) → map slot_of (without n ns) ≡ without (slot_of n) (map slot_of ns)
map_without n [] = refl
map_without n (m ∷ ns) = elim (cases_eq m n) [
  | inl e ↦ ap (map slot_of) (without_here n m ns e) ∙ map_without n ns ∙ sym (without_here (slot_of n) (slot_of m) (map slot_of ns) (ap slot_of e))
  | inr ne ↦ ap (map slot_of) (without_other n m ns ne) ∙ ap (λ (ys : List ℕ). slot_of m ∷ ys) (map_without n ns) ∙ sym (without_other (slot_of n) (slot_of m) (map slot_of ns) (λ q. ne (omega arith)))
]

map_push : (ns : List ℕ) (n : ℕ) → map slot_of (ns ++ (n ∷ [])) ≡ map slot_of ns ++ (slot_of n ∷ [])
map_push [] n = refl
map_push (m ∷ ns) n = ap (λ (ys : List ℕ). slot_of m ∷ ys) (map_push ns n)

module _ (room : ℕ) (ws : List ℕ) (s : Sound room ws) (x : ℕ) where
  abbrev S : List ℕ
  S = sequence room ws

  -- ## Slots past the range

  module _ (e : in_range room x ≡ false) where
    not_joined : joined_in room ws x ≡ false
    unfolding joined_in
    not_joined = rw e refl

    pub stranger_used : (L : Listing) (k : ℕ) → used_in room ws L k ≡ without x (used_in room ws L k)
    stranger_used L k =
        let l = not_has_lacks x S (sym (joined_has room ws s x) ∙ not_joined) in
        ap (filter (λ y. has k (L y))) (sym (without_lacks x S l)) ∙ filter_without (λ y. has k (L y)) x S

    pub stranger_joined : (y : ℕ) → joined_in room ws y ≡ cond (y == x) false (joined_in room ws y)
    stranger_joined y = elim (cases_eq y x) [
      | inl q ↦ ap (joined_in room ws) q ∙ not_joined ∙ sym (cond-true (y == x) false (joined_in room ws y) (eq-eqb y x q))
      | inr n ↦ sym (cond-false (y == x) false (joined_in room ws y) (ne_eqb y x n))
    ]

  -- ## Slots in it

  module _ (e : in_range room x ≡ true) where
    abbrev n : ℕ
    n = x - 2049

    some : 0 < room
    some = let a : 2050 ≤ x = grind (arith, nat_tests) in let b : x < 2050 + room = grind (arith, nat_tests) in omega arith

    here : (1 ≤ n) × (n < room + 1)
    here = let a : 2050 ≤ x = grind (arith, nat_tests) in let b : x < 2050 + room = grind (arith, nat_tests) in (omega arith, omega arith)

    back : slot_of n ≡ x
    back = let a = here.0 in omega arith

    R : List ℕ
    R = ring 1 (room + 1) ws 0

    -- x leaves
    module _ (vs : List ℕ) (q : vs ≡ cut_out ws n) where
      pub left_sound : Sound room vs
      left_sound r = subst (Tidy 1 (room + 1)) (sym q) (cut_out_tidy 1 (room + 1) ws (s r) n here.0 here.1)

      left_is : sequence room vs ≡ without x S
      left_is =
          ap (map slot_of) (behind_is room vs 0 some ∙ ap (λ (us : List ℕ). ring 1 (room + 1) us 0) q ∙ cut_out_rings 1 (room + 1) ws (s some) n here.0 here.1 0 (omega arith) ∙ ap (without n) (sym (behind_is room ws 0 some)))
          ∙ map_without n (nodes_behind room ws 0)
          ∙ ap (λ (y : ℕ). without y S) back

      pub left_used : (L : Listing) (k : ℕ) → used_in room vs L k ≡ without x (used_in room ws L k)
      left_used L k = ap (filter (λ y. has k (L y))) left_is ∙ filter_without (λ y. has k (L y)) x S

      pub left_joined : (y : ℕ) → joined_in room vs y ≡ cond (y == x) false (joined_in room ws y)
      left_joined y = joined_has room vs left_sound y ∙ ap (has y) left_is ∙ has_without y x S ∙ ap (cond (y == x) false) (sym (joined_has room ws s y))

    -- x comes last
    module _ (vs : List ℕ) (alone : next ws n ≡ n) (q : vs ≡ put_in ws 0 n) where
      pub come_sound : Sound room vs
      come_sound r = subst (Tidy 1 (room + 1)) (sym q) (put_in_tidy 1 (room + 1) ws (s r) 0 n (omega arith) here.0 here.1 alone)

      come_is : sequence room vs ≡ S ++ (x ∷ [])
      come_is =
          ap (map slot_of) (behind_is room vs 0 some ∙ ap (λ (us : List ℕ). ring 1 (room + 1) us 0) q ∙ put_in_rings 1 (room + 1) ws (s some) 0 n (omega arith) here.0 here.1 alone 0 (omega arith) ∙ ap (λ (ys : List ℕ). ys ++ (n ∷ [])) (sym (behind_is room ws 0 some)))
          ∙ map_push (nodes_behind room ws 0) n
          ∙ ap (λ (y : ℕ). S ++ (y ∷ [])) back

      pub come_used : (literals : List ℕ) (L : Listing) → L x ≡ literals → (k : ℕ) → used_in room vs L k ≡ cond (has k literals) (used_in room ws L k ++ (x ∷ [])) (used_in room ws L k)
      come_used literals L e k = ap (filter (λ y. has k (L y))) come_is ∙ filter_push (λ y. has k (L y)) S x ∙ ap (λ (ys : List ℕ). cond (has k ys) (used_in room ws L k ++ (x ∷ [])) (used_in room ws L k)) e

      pub come_joined : (literals : List ℕ) → 0 < length literals → (y : ℕ) → joined_in room vs y ≡ cond (y == x) (ltb 0 (length literals)) (joined_in room ws y)
      come_joined literals h y = joined_has room vs come_sound y ∙ ap (has y) come_is ∙ has_push y x S ∙ ap (λ (b : Bool). cond (y == x) b (has y S)) (sym (lt-ltb 0 (length literals) h)) ∙ ap (cond (y == x) (ltb 0 (length literals))) (sym (joined_has room ws s y))

    -- a slot that has joined does not stand alone
    pub apart_joined : (next ws n ≡ n → ⊥) → joined_in room ws x ≡ true
    unfolding joined_in
    apart_joined a = rw e (ap not (ne_eqb (next ws n) n a))

  -- no literals
  module _ (literals : List ℕ) (none : literals ≡ []) where
    pub none_used : (L : Listing) (k : ℕ) → used_in room ws L k ≡ cond (has k literals) (used_in room ws L k ++ (x ∷ [])) (used_in room ws L k)
    none_used L k = rw none refl

    pub none_joined : joined_in room ws x ≡ false → (y : ℕ) → joined_in room ws y ≡ cond (y == x) (ltb 0 (length literals)) (joined_in room ws y)
    none_joined f y = elim (cases_eq y x) [
      | inl q ↦ ap (joined_in room ws) q ∙ f ∙ ap (λ (ys : List ℕ). ltb 0 (length ys)) (sym none) ∙ sym (cond-true (y == x) (ltb 0 (length literals)) (joined_in room ws y) (eq-eqb y x q))
      | inr n ↦ sym (cond-false (y == x) (ltb 0 (length literals)) (joined_in room ws y) (ne_eqb y x n))
    ]
