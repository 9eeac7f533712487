-- Walks along the sequence. Assumes nothing.
use Rattle.std.proofs.Common.{◌≡◌, ℕ, zero, suc, ◌+◌, ◌-◌, ◌*◌, ◌<◌, ◌≤◌, Bool, true, false, cond, ltb, List, [], ◌∷◌, map, length, get_or, drop, filter, Some, None, Option, sym, refl, ap, ◌∙◌, subst, inl, inr, arith}
use Rattle.std.specs.List.{AllByRecursion}
use Rattle.std.proofs.lemmas.Bool.{cases_Bool, cases_lt, cond-true, cond-false, le-ltb, lt-ltb}
use Rattle.std.proofs.lemmas.Option.{cond_some, none-some}
use Rattle.std.proofs.lemmas.Bool.Decides.{nat_tests}
use Rattle.std.proofs.lemmas.List.{length-drop, nil_from_length}
use Rattle.std.proofs.ByRecursion.{All-get_or}
use Rattle.network.specs.Clauses.{has}
use Rattle.rings.specs.Rings.{cut_out, drop_at, ring, scattered, slot_after, without}
use Rattle.rings.proofs.Bounds.{ring_laws, scattered_alone, scattered_length}
use Rattle.rings.proofs.Drops.{drop_at_length, without_at}
use Rattle.rings.proofs.Words.{ring_differ, ring_slots}
use Rattle.rings.proofs.Shifts.{lone_ring}
use Rattle.rings.proofs.Tidies.{cut_out_rings, cut_out_tidy, ring_rest, ring_within}
use Rattle.scanned.specs.Facts.{behind_is, behind_none, sensible_is}
use Rattle.scanned.specs.Firsts.{first_of}
use Rattle.slotted.specs.Indexes.{Listing}
use Rattle.scanned.specs.Sequence.{Sound, Stands, in_range, joined_in, listed_at, nodes_behind, sequence, slot_of, used_in}

-- the nodes behind one are nodes
pub behind_low : (room : ℕ) (ws : List ℕ) → Sound room ws → (n : ℕ) → n ≤ room → AllByRecursion (λ m. m < room + 1) (nodes_behind room ws n)
behind_low room ws s n h = elim (cases_lt 0 room) [
  | inl r ↦ rw (behind_is room ws n r) (ring_within 1 (room + 1) ws (s r).held n (omega arith))
  | inr z ↦ rw (behind_none room ws n z) tt
]

-- a step of a walk in search of slots that are listed at k
module _ (L : Listing) (k n : ℕ) (ms ns : List ℕ) (e : ms ≡ n ∷ ns) where
  pub first_here : has k (L (slot_of n)) ≡ true → first_of (listed_at L k (map slot_of ms)) ≡ Some (slot_of n)
  first_here t = rw (e, t) refl

  pub listed_on : has k (L (slot_of n)) ≡ false → listed_at L k (map slot_of ms) ≡ listed_at L k (map slot_of ns)
  listed_on f = rw (e, f) refl

  pub listed_one : has k (L (slot_of n)) ≡ true → length (listed_at L k (map slot_of ms)) ≡ suc (length (listed_at L k (map slot_of ns)))
  listed_one t = rw (e, t) refl

-- a place among those that pass a test is a place in the whole; and what comes behind it
record Found (p : ℕ → Bool) (xs : List ℕ) (j : ℕ) : Type 0 where
  place : ℕ
  within : place < length xs
  is : get_or xs place 0 ≡ get_or (filter p xs) j 0
  behind : drop (suc j) (filter p xs) ≡ filter p (drop (suc place) xs)

found_on : (p : ℕ → Bool) (y : ℕ) (ys : List ℕ) (j : ℕ) → filter p (y ∷ ys) ≡ filter p ys → Found p ys j → Found p (y ∷ ys) j
found_on p y ys j q f = record {
  place = suc f.place;
  within = let a = f.within in omega arith;
  is = f.is ∙ ap (λ (zs : List ℕ). get_or zs j 0) (sym q);
  behind = ap (drop (suc j)) q ∙ f.behind;
}

found_next : (p : ℕ → Bool) (y : ℕ) (ys : List ℕ) (j : ℕ) → filter p (y ∷ ys) ≡ y ∷ filter p ys → Found p ys j → Found p (y ∷ ys) (suc j)
found_next p y ys j q f = record {
  place = suc f.place;
  within = let a = f.within in omega arith;
  is = f.is ∙ ap (λ (zs : List ℕ). get_or zs (suc j) 0) (sym q);
  behind = ap (drop (suc (suc j))) q ∙ f.behind;
}

found_first : (p : ℕ → Bool) (y : ℕ) (ys : List ℕ) → filter p (y ∷ ys) ≡ y ∷ filter p ys → Found p (y ∷ ys) 0
found_first p y ys q = record {
  place = 0;
  within = omega arith;
  is = ap (λ (zs : List ℕ). get_or zs 0 0) (sym q);
  behind = ap (drop 1) q;
}

find_place : (p : ℕ → Bool) (xs : List ℕ) (j : ℕ) → j < length (filter p xs) → Found p xs j
find_place p [] j h = absurd (omega arith)
find_place p (y ∷ ys) zero h = elim (cases_Bool (p y)) [
  | inr f ↦ let q = cond-false (p y) (y ∷ filter p ys) (filter p ys) f in found_on p y ys 0 q (find_place p ys 0 (subst (λ (zs : List ℕ). 0 < length zs) q h))
  | inl t ↦ found_first p y ys (cond-true (p y) (y ∷ filter p ys) (filter p ys) t)
]
find_place p (y ∷ ys) (suc j) h = elim (cases_Bool (p y)) [
  | inr f ↦ let q = cond-false (p y) (y ∷ filter p ys) (filter p ys) f in found_on p y ys (suc j) q (find_place p ys (suc j) (subst (λ (zs : List ℕ). suc j < length zs) q h))
  | inl t ↦ let q = cond-true (p y) (y ∷ filter p ys) (filter p ys) t in found_next p y ys j q (find_place p ys j (let g = subst (λ (zs : List ℕ). suc j < length zs) q h in omega arith))
]

map_place : (ns : List ℕ) (i : ℕ) → i < length (map slot_of ns) → (i < length ns) × (get_or (map slot_of ns) i 0 ≡ slot_of (get_or ns i 0)) × (drop (suc i) (map slot_of ns) ≡ map slot_of (drop (suc i) ns))
map_place [] i h = absurd (omega arith)
map_place (n ∷ ns) zero h = (omega arith, refl, refl)
map_place (n ∷ ns) (suc i) h = let r = map_place ns i (omega arith) in let a = r.0 in (omega arith, r.1, r.2)

none_length : {X : Type 0} (xs : List X) → first_of xs ≡ None → length xs ≡ 0
none_length [] e = refl
none_length (x ∷ xs) e = absurd (none-some x (sym e))

some_first : (xs : List ℕ) (x : ℕ) → first_of xs ≡ Some x → (0 < length xs) × (get_or xs 0 0 ≡ x)
some_first [] x e = absurd (none-some x e)
some_first (y ∷ ys) x e = (omega arith, (cond_some true y x e).1)

get_or_drop : (n : ℕ) (xs : List ℕ) → get_or (drop n xs) 0 0 ≡ get_or xs n 0
get_or_drop zero [] = refl
get_or_drop zero (x ∷ xs) = refl
get_or_drop (suc n) [] = refl
get_or_drop (suc n) (x ∷ xs) = get_or_drop n xs

module _ (room : ℕ) (ws : List ℕ) (s : Sound room ws) (L : Listing) (k : ℕ) where
  abbrev U : List ℕ
  U = used_in room ws L k

  -- the uses behind the one at place j are those listed behind its node
  pub rest_is : (x j n : ℕ) → Stands room ws L x k j → x ≡ slot_of n → listed_at L k (map slot_of (nodes_behind room ws n)) ≡ drop (suc j) U
  rest_is x j n st e =
      let f = find_place (λ y. has k (L y)) (sequence room ws) j st.0 in
      let g = map_place (nodes_behind room ws 0) f.place f.within in
      let r : 0 < room = elim (cases_lt 0 room) [ inl r ↦ r | inr z ↦ absurd (let h = subst (λ (ns : List ℕ). f.place < length ns) (behind_none room ws 0 z) g.0 in omega arith) ] in
      let ring_is = behind_is room ws 0 r in
      let q : get_or (ring 1 (room + 1) ws 0) f.place 0 ≡ n = (let a = sym g.1 ∙ f.is ∙ st.1 ∙ e in ap (λ (ns : List ℕ). get_or ns f.place 0) (sym ring_is) ∙ omega arith) in
      let back = ring_rest 1 (room + 1) ws (s r).held 0 f.place (omega arith) (subst (λ (ns : List ℕ). f.place < length ns) ring_is g.0) in
      ap (λ (ns : List ℕ). listed_at L k (map slot_of ns)) (behind_is room ws n r ∙ ap (ring 1 (room + 1) ws) (sym q) ∙ back ∙ ap (drop (suc f.place)) (sym ring_is))
      ∙ ap (listed_at L k) (sym g.2)
      ∙ sym f.behind

-- no slot is in the sequence of scattered words
pub scattered_none : (room : ℕ) (ws : List ℕ) → 2 * (room + 1) ≤ length ws → sequence room (scattered (room + 1) ws) ≡ []
scattered_none room ws long =
    let vs = scattered (room + 1) ws in
    ap (map slot_of) (elim (cases_lt 0 room) [
      | inl r ↦ behind_is room vs 0 r ∙ lone_ring 1 (room + 1) vs (omega arith) (let e = scattered_length (room + 1) ws in omega arith) (scattered_alone (room + 1) ws long) 0 (omega arith)
      | inr z ↦ behind_none room vs 0 z
    ])

-- an iterator's step: the nodes that are left begin with the one that it gives
pub walk_low : (room m : ℕ) (ms ns : List ℕ) → ms ≡ m ∷ ns → AllByRecursion (λ n. n < room + 1) ms → (m < room + 1) × AllByRecursion (λ n. n < room + 1) ns
walk_low room m ms ns e a = subst (AllByRecursion (λ n. n < room + 1)) e a

-- ## What the questions answer

module _ (room : ℕ) (ws : List ℕ) (s : Sound room ws) (L : Listing) (k : ℕ) (x j : ℕ) (st : Stands room ws L x k j) where
  abbrev Us : List ℕ
  Us = used_in room ws L k

  -- a use is of a slot in range
  pub use_in_range : in_range room x ≡ true
  unfolding joined_in
  use_in_range =
      let a = subst (λ (y : ℕ). joined_in room ws y ≡ true) st.1 (All-get_or (λ y. joined_in room ws y ≡ true) Us j 0 st.0 ((sensible_is room ws s).users L k)) in
      grind (arith, nat_tests)

  rest : (n : ℕ) → n ≡ x - 2049 → listed_at L k (map slot_of (nodes_behind room ws n)) ≡ drop (suc j) Us
  rest n e =
      let a = use_in_range in
      let b : 2050 ≤ x = grind (arith, nat_tests) in
      rest_is room ws s L k x j n st (omega arith)

  -- the last
  pub no_next : (n : ℕ) → n ≡ x - 2049 → None ≡ first_of (listed_at L k (map slot_of (nodes_behind room ws n))) → length Us ≡ j + 1
  no_next n e q =
      let z = none_length (listed_at L k (map slot_of (nodes_behind room ws n))) (sym q) in
      let d = length-drop (suc j) Us in
      let b = ap length (rest n e) in
      let a = st.0 in
      omega arith

  -- the one after it
  pub next_use : (n y : ℕ) → n ≡ x - 2049 → Some y ≡ first_of (listed_at L k (map slot_of (nodes_behind room ws n))) → Stands room ws L y k (j + 1)
  next_use n y e q =
      let f = some_first (listed_at L k (map slot_of (nodes_behind room ws n))) y (sym q) in
      let d = length-drop (suc j) Us in
      let b = ap length (rest n e) in
      let a = f.0 in
      let g : get_or Us (suc j) 0 ≡ y = sym (get_or_drop (suc j) Us) ∙ ap (λ (zs : List ℕ). get_or zs 0 0) (sym (rest n e)) ∙ f.1 in
      let i : j + 1 ≡ suc j = omega arith in
      (omega arith, ap (λ (m : ℕ). get_or Us m 0) i ∙ g)

-- ## The first node taken out, again and again

module _ (room : ℕ) (ws : List ℕ) (s : Sound room ws) (r : 0 < room) where
  abbrev R : List ℕ
  R = ring 1 (room + 1) ws 0

  first_is : slot_after 1 ws 0 ≡ cond (ltb 0 (length R)) (Some (get_or R 0 0)) None
  first_is = ring_laws.first 1 (room + 1) ws 0 (s r).held (omega arith)

  -- where nothing comes after the head, the sequence is empty
  pub no_node : None ≡ slot_after 1 ws 0 → sequence room ws ≡ []
  no_node e =
      let none : R ≡ [] = elim (cases_lt 0 (length R)) [
        | inl h ↦ absurd (none-some (get_or R 0 0) (e ∙ first_is ∙ cond-true (ltb 0 (length R)) (Some (get_or R 0 0)) None (lt-ltb 0 (length R) h)))
        | inr z ↦ nil_from_length R (omega arith)
      ] in
      ap (map slot_of) (behind_is room ws 0 r ∙ none)

  module _ (n : ℕ) (e : Some n ≡ slot_after 1 ws 0) (vs : List ℕ) (q : vs ≡ cut_out ws n) where
    at_first : (0 < length R) × (get_or R 0 0 ≡ n)
    at_first = elim (cases_lt 0 (length R)) [
      | inl h ↦ (h, sym (cond_some true n (get_or R 0 0) (e ∙ first_is ∙ cond-true (ltb 0 (length R)) (Some (get_or R 0 0)) None (lt-ltb 0 (length R) h))).1)
      | inr z ↦ absurd (none-some n (sym (e ∙ first_is ∙ cond-false (ltb 0 (length R)) (Some (get_or R 0 0)) None (le-ltb 0 (length R) z))))
    ]

    in_nodes : (1 ≤ n) × (n < room + 1)
    in_nodes =
        let a = ring_slots 1 (room + 1) ws (s r).held 0 (omega arith) in
        (subst (λ (m : ℕ). 1 ≤ m) at_first.1 (All-get_or (λ m. 1 ≤ m) R 0 0 at_first.0 a.0), subst (λ (m : ℕ). m < room + 1) at_first.1 (All-get_or (λ m. m < room + 1) R 0 0 at_first.0 a.1))

    pub cut_first_sound : Sound room vs
    cut_first_sound k = rw q (cut_out_tidy 1 (room + 1) ws (s r) n in_nodes.0 in_nodes.1)

    pub cut_first_shorter : length (nodes_behind room vs 0) < length (nodes_behind room ws 0)
    cut_first_shorter =
        let d = ring_differ 1 (room + 1) ws (s r).held 0 (omega arith) in
        let a : nodes_behind room vs 0 ≡ drop_at 0 R = behind_is room vs 0 r ∙ ap (λ (us : List ℕ). ring 1 (room + 1) us 0) q ∙ cut_out_rings 1 (room + 1) ws (s r) n in_nodes.0 in_nodes.1 0 (omega arith) ∙ ap (λ (m : ℕ). without m R) (sym at_first.1) ∙ without_at 0 R at_first.0 d in
        let b = ap length a ∙ drop_at_length 0 R at_first.0 in
        let c = ap length (behind_is room ws 0 r) in
        let h = at_first.0 in
        omega arith
