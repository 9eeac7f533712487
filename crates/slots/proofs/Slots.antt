-- Each change of the slots is the change of the meaning. Assumes nothing.
use Rattle.std.proofs.Common.{◌≡◌, ℕ, zero, suc, ◌+◌, ◌-◌, ◌<◌, Bool, true, false, cond, not, ◌&&◌, eqb, ◌⊎◌, List, [], ◌∷◌, ◌++◌, map, length, get_or, take, set, filter, sym, refl, ap, ◌∙◌, inl, inr, arith}
use mathlib.Core.Path.{fun_ext}
use Rattle.std.specs.List.{AllByRecursion, swap_remove, remove}
use Rattle.std.proofs.lemmas.Bool.{cases_eq, cases_Bool, not_from_true, not_from_false, cond-true, cond-false, eq-eqb, ne_eqb}
use Rattle.std.proofs.lemmas.List.{map_push, length-map, length-set, get_or-map, get_or-take, get_or-set_same, get_or-set_other, length-take-le, map-set, take-map}
use Rattle.std.proofs.ByRecursion.{All-get_or, All-from_get_or}
use Rattle.rings.specs.Rings.{Lacks, Differ, without, Apart, at, drop_at}
use Rattle.rings.proofs.Paths.{without_here, without_other}
use Rattle.rings.proofs.Drops.{at_here, at_else}
use Rattle.rings.proofs.Holes.{apart_from, differ_from}
use Rattle.network.specs.Clauses.{last, front, has}
use Rattle.rules.specs.Store.{Meaning, Ref, live, dead, entered, removed, changed, moved_ref, is_at}
use Rattle.slots.specs.Slots.{seek, ref, meant, Kept, filled_by_last}

-- a write and a cut
pub take_set : {X : Type 0} (n i : ℕ) (xs : List X) (z : X) → set (take n xs) i z ≡ take n (set xs i z)
take_set zero i xs z = refl
take_set (suc n) i [] z = refl
take_set (suc n) zero (x ∷ xs) z = refl
take_set (suc n) (suc i) (x ∷ xs) z = ap (λ ys. x ∷ ys) (take_set n i xs z)

pub swap_same : {X : Type 0} (d : X) (i : ℕ) (xs : List X) → filled_by_last d i xs ≡ swap_remove xs i d
swap_same d i xs = take_set (length xs - 1) i xs (get_or xs (length xs - 1) d)

pub close_same : {X : Type 0} (i : ℕ) (xs : List X) → drop_at i xs ≡ remove xs i
unfolding drop_at
close_same zero [] = refl
close_same (suc i) [] = refl
close_same zero (x ∷ xs) = refl
close_same (suc i) (x ∷ xs) = ap (λ ys. x ∷ ys) (close_same i xs)

-- a family with another value at l
pub changed_here : {X : Type 0} (f : ℕ → X) (l : ℕ) (x : X) (k : ℕ) → k ≡ l → changed f l x k ≡ x
unfolding changed
changed_here f l x k e = cond-true (eqb k l) x (f k) (eq-eqb k l e)

pub changed_else : {X : Type 0} (f : ℕ → X) (l : ℕ) (x : X) (k : ℕ) → (k ≡ l → ⊥) → changed f l x k ≡ f k
unfolding changed
changed_else f l x k e = cond-false (eqb k l) x (f k) (ne_eqb k l e)

-- equal fields make equal meanings
pub same_meaning : (r : ℕ) (i : Bool) (o o' : ℕ → List (List ℕ)) (u u' : ℕ → List Ref) (d d' : ℕ) → ((l : ℕ) → o l ≡ o' l) → ((k : ℕ) → u k ≡ u' k) → d ≡ d' → ◌≡◌ {A = Meaning} (record { room = r; indexed = i; own = o; uses = u; dead_clauses = d }) (record { room = r; indexed = i; own = o'; uses = u'; dead_clauses = d' })
same_meaning r i o o' u u' d d' p q e = let a = fun_ext p in let b = fun_ext q in cc

pub map_same : {X Y : Type 0} (f g : X → Y) (xs : List X) → AllByRecursion (λ x. f x ≡ g x) xs → map f xs ≡ map g xs
map_same f g [] h = refl
map_same f g (x ∷ xs) h = let a = h.0 in let b = map_same f g xs h.1 in cc

-- seek
pub seek_here : (l x k y : ℕ) (ys : List ℕ) → y ≡ x → seek l x k (y ∷ ys) ≡ live l k
unfolding seek
seek_here l x k y ys e = cond-true (eqb y x) (live l k) (seek l x (suc k) ys) (eq-eqb y x e)

pub seek_next : (l x k y : ℕ) (ys : List ℕ) → (y ≡ x → ⊥) → seek l x k (y ∷ ys) ≡ seek l x (suc k) ys
unfolding seek
seek_next l x k y ys e = cond-false (eqb y x) (live l k) (seek l x (suc k) ys) (ne_eqb y x e)

pub seek_lacks : (l x k : ℕ) (ys : List ℕ) → Lacks x ys → seek l x k ys ≡ dead
unfolding seek
seek_lacks l x k [] h = refl
seek_lacks l x k (y ∷ ys) h = seek_next l x k y ys h.0 ∙ seek_lacks l x (suc k) ys h.1

-- the slot at place i is found there
pub seek_at : (l x k : ℕ) (ys : List ℕ) (i : ℕ) → Differ ys → i < length ys → get_or ys i 0 ≡ x → seek l x k ys ≡ live l (k + i)
unfolding seek Differ
seek_at l x k [] i d h e = absurd (omega arith)
seek_at l x k (y ∷ ys) zero d h e = seek_here l x k y ys e ∙ ap (live l) (omega arith)
seek_at l x k (y ∷ ys) (suc i) d h e =
    seek_next l x k y ys (λ q. All-get_or (λ z. z ≡ y → ⊥) ys i 0 (omega arith) d.0 (e ∙ sym q))
    ∙ seek_at l x (suc k) ys i d.1 (omega arith) e
    ∙ ap (live l) (omega arith)

pub seek_push : (l x k : ℕ) (ys : List ℕ) (y : ℕ) → (y ≡ x → ⊥) → seek l x k (ys ++ (y ∷ [])) ≡ seek l x k ys
unfolding seek
seek_push l x k [] y ne = seek_next l x k y [] ne
seek_push l x k (z ∷ ys) y ne =
    elim (cases_eq z x) [
      | inl e ↦ seek_here l x k z (ys ++ (y ∷ [])) e ∙ sym (seek_here l x k z ys e)
      | inr n ↦ seek_next l x k z (ys ++ (y ∷ [])) n ∙ seek_push l x (suc k) ys y ne ∙ sym (seek_next l x k z ys n)
    ]

pub seek_last : (l x k : ℕ) (ys : List ℕ) → Lacks x ys → seek l x k (ys ++ (x ∷ [])) ≡ live l (k + length ys)
unfolding seek
seek_last l x k [] h = seek_here l x k x [] refl ∙ ap (live l) (omega arith)
seek_last l x k (y ∷ ys) h = seek_next l x k y (ys ++ (x ∷ [])) h.0 ∙ seek_last l x (suc k) ys h.1 ∙ ap (live l) (omega arith)

-- a slot is at a place of a list or not in it
pub member : (x : ℕ) (ys : List ℕ) → ((i : ℕ) × (i < length ys) × (get_or ys i 0 ≡ x)) ⊎ Lacks x ys
member x [] = inr tt
member x (y ∷ ys) =
    elim (cases_eq y x) [
      | inl e ↦ inl (0, omega arith, e)
      | inr n ↦ elim (member x ys) [ inl h ↦ inl (suc h.0, (let z = h.1 in omega arith), h.2) | inr h ↦ inr (n, h) ]
    ]

-- where a slot stands is told by its place
pub ref_at : (own text : ℕ → List ℕ) (l i : ℕ) → Kept own text → i < length (own l) → ref own text (get_or (own l) i 0) ≡ live l i
ref_at own text l i k h =
    let x = get_or (own l) i 0 in
    let e : last (text x) ≡ l = All-get_or (λ y. last (text y) ≡ l) (own l) i 0 h (k.ends l) in
    ap (λ (z : ℕ). seek z x 0 (own z)) e ∙ seek_at l x 0 (own l) i (k.differ l) h refl ∙ ap (live l) (omega arith)

-- ---- a clause more
module _ (room : ℕ) (ix : Bool) (own used text own' used' text' : ℕ → List ℕ) (lost : ℕ) (x : ℕ) (c : List ℕ)
    (free : (l : ℕ) → Lacks x (own l)) (unused : (k : ℕ) → Lacks x (used k))
    (owns : (l : ℕ) → own' l ≡ at own (last c) (own (last c) ++ (x ∷ [])) l)
    (useds : (k : ℕ) → used' k ≡ cond (ix && has k (front c)) (used k ++ (x ∷ [])) (used k))
    (here : text' x ≡ c) (same : (l : ℕ) → AllByRecursion (λ y. text' y ≡ text y) (own l)) (sameu : (k : ℕ) → AllByRecursion (λ y. text' y ≡ text y) (used k)) where
  entered_ref : (y : ℕ) → (y ≡ x → ⊥) → text' y ≡ text y → ref own' text' y ≡ ref own text y
  entered_ref y ne e =
      let l = last (text y) in
      let a : ref own' text' y ≡ seek l y 0 (own' l) = ap (λ (t : List ℕ). seek (last t) y 0 (own' (last t))) e in
      elim (cases_eq l (last c)) [
        | inl q ↦ a ∙ ap (seek l y 0) (owns l ∙ at_here own (last c) (own (last c) ++ (x ∷ [])) l q ∙ ap (λ (z : ℕ). own z ++ (x ∷ [])) (sym q)) ∙ seek_push l y 0 (own l) x (λ z. ne (sym z))
        | inr n ↦ a ∙ ap (seek l y 0) (owns l ∙ at_else own (last c) (own (last c) ++ (x ∷ [])) l n)
      ]

  entered_refs : (ys : List ℕ) → Lacks x ys → AllByRecursion (λ y. text' y ≡ text y) ys → map (ref own' text') ys ≡ map (ref own text) ys
  entered_refs [] n h = refl
  entered_refs (y ∷ ys) n h = let a = entered_ref y n.0 h.0 in let b = entered_refs ys n.1 h.1 in cc

  entered_last : ref own' text' x ≡ live (last c) (length (map text (own (last c))))
  entered_last =
      let l = last c in
      ap (λ (t : List ℕ). seek (last t) x 0 (own' (last t))) here
      ∙ ap (seek l x 0) (owns l ∙ at_here own (last c) (own (last c) ++ (x ∷ [])) l refl)
      ∙ seek_last l x 0 (own l) (free l)
      ∙ ap (live l) (let q = length-map (own l) text in omega arith)

  pub entered_is : meant room ix own' used' text' lost ≡ entered c (meant room ix own used text lost)
  unfolding entered
  entered_is =
      same_meaning room ix _ _ _ _ lost lost
      (λ l.
      elim (cases_eq l (last c)) [
        | inl q ↦ ap (map text') (owns l ∙ at_here own (last c) (own (last c) ++ (x ∷ [])) l q) ∙ map_push text' (own (last c)) x ∙ (let a = map_same text' text (own (last c)) (same (last c)) in cc) ∙ sym (changed_here (λ (k : ℕ). map text (own k)) (last c) (map text (own (last c)) ++ (c ∷ [])) l q)
        | inr n ↦ ap (map text') (owns l ∙ at_else own (last c) (own (last c) ++ (x ∷ [])) l n) ∙ map_same text' text (own l) (same l) ∙ sym (changed_else (λ (k : ℕ). map text (own k)) (last c) (map text (own (last c)) ++ (c ∷ [])) l n)
      ])
      (λ k.
      let old = entered_refs (used k) (unused k) (sameu k) in
      let t = ix && has k (front c) in
      let u = map (ref own text) (used k) in
      let more = u ++ (live (last c) (length (map text (own (last c)))) ∷ []) in
      elim (cases_Bool t) [
        | inl q ↦ ap (map (ref own' text')) (useds k ∙ cond-true t (used k ++ (x ∷ [])) (used k) q) ∙ map_push (ref own' text') (used k) x ∙ (let a = entered_last in cc) ∙ sym (cond-true t more u q)
        | inr q ↦ ap (map (ref own' text')) (useds k ∙ cond-false t (used k ++ (x ∷ [])) (used k) q) ∙ old ∙ sym (cond-false t more u q)
      ])
      refl

-- ---- the last moves to place i
module _ {X : Type 0} (d : X) (i : ℕ) (xs : List X) (h : i < length xs) where
  pub swap_length : length (filled_by_last d i xs) ≡ length xs - 1
  swap_length = let a = length-take-le (length xs - 1) xs (omega arith) in simp length-set (omega arith)

  pub swap_at : (e : X) → i < length xs - 1 → get_or (filled_by_last d i xs) i e ≡ get_or xs (length xs - 1) d
  swap_at e k = get_or-set_same (take (length xs - 1) xs) i (get_or xs (length xs - 1) d) e (let a = length-take-le (length xs - 1) xs (omega arith) in omega arith)

  pub swap_else : (e : X) (j : ℕ) → (j ≡ i → ⊥) → j < length xs - 1 → get_or (filled_by_last d i xs) j e ≡ get_or xs j e
  swap_else e j n k = get_or-set_other (take (length xs - 1) xs) i j (get_or xs (length xs - 1) d) e n ∙ get_or-take (length xs - 1) xs j e k

swap_map : (text : ℕ → List ℕ) (i : ℕ) (xs : List ℕ) → i < length xs → map text (filled_by_last 0 i xs) ≡ filled_by_last [] i (map text xs)
swap_map text i xs h =
    let z = length xs - 1 in
    let n : length (map text xs) - 1 ≡ z = (let q = length-map xs text in omega arith) in
    let a = map-set text (take z xs) i (get_or xs z 0) in
    let b = take-map text z xs in
    let e : text (get_or xs z 0) ≡ get_or (map text xs) z [] = sym (get_or-map text xs z 0 [] (omega arith)) in
    a ∙ (ap (λ (ys : List (List ℕ)). set ys i (text (get_or xs z 0))) (sym b)) ∙ ap (λ (t : List ℕ). set (take z (map text xs)) i t) e ∙ ap (λ (w : ℕ). set (take w (map text xs)) i (get_or (map text xs) w [])) (sym n)

-- a place of the new list is a place of the old one
swap_from : (i : ℕ) (xs : List ℕ) → i < length xs → (j : ℕ) → j < length xs - 1 → (m : ℕ) × (m < length xs) × (get_or (filled_by_last 0 i xs) j 0 ≡ get_or xs m 0) × ((m ≡ j) ⊎ ((m ≡ length xs - 1) × (j ≡ i)))
swap_from i xs h j k =
    elim (cases_eq j i) [
      | inl e ↦ (length xs - 1, omega arith, ap (λ (w : ℕ). get_or (filled_by_last 0 i xs) w 0) e ∙ swap_at 0 i xs h 0 (omega arith), inr (refl, e))
      | inr n ↦ (j, omega arith, swap_else 0 i xs h 0 j n k, inl refl)
    ]

swap_apart : (i : ℕ) (xs : List ℕ) → i < length xs → Apart xs → Apart (filled_by_last 0 i xs)
swap_apart i xs h ap' a b l m e =
    let n = swap_length 0 i xs h in
    let p = swap_from i xs h a (omega arith) in
    let q = swap_from i xs h b (omega arith) in
    let same : get_or xs p.0 0 ≡ get_or xs q.0 0 = sym p.2 ∙ e ∙ q.2 in
    let pl = p.1 in
    let ql = q.1 in
    elim p.3 [
      | inl u ↦ elim q.3 [ inl v ↦ ap' p.0 q.0 (omega arith) ql same | inr v ↦ let v0 = v.0 in ap' p.0 q.0 (omega arith) ql same ]
      | inr u ↦ elim q.3 [ inl v ↦ let u0 = u.0 in ap' q.0 p.0 (omega arith) pl (sym same) | inr v ↦ let u1 = u.1 in let v1 = v.1 in omega arith ]
    ]

pub swap_lacks : (x i : ℕ) (xs : List ℕ) → i < length xs → Lacks x xs → Lacks x (filled_by_last 0 i xs)
swap_lacks x i xs h n =
    All-from_get_or (λ y. y ≡ x → ⊥) (filled_by_last 0 i xs) 0 (λ j k e.
    let l = swap_length 0 i xs h in
    let p = swap_from i xs h j (omega arith) in
    All-get_or (λ y. y ≡ x → ⊥) xs p.0 0 p.1 n (sym p.2 ∙ e))

-- what seek finds
pub seek_kind : (l x k : ℕ) (ys : List ℕ) → (seek l x k ys ≡ dead) ⊎ ((j : ℕ) × (seek l x k ys ≡ live l j))
unfolding seek
seek_kind l x k [] = inl refl
seek_kind l x k (y ∷ ys) =
    elim (cases_eq y x) [
      | inl e ↦ inr (k, seek_here l x k y ys e)
      | inr n ↦ elim (seek_kind l x (suc k) ys) [ inl q ↦ inl (seek_next l x k y ys n ∙ q) | inr q ↦ inr (q.0, seek_next l x k y ys n ∙ q.1) ]
    ]

pub ref_is_other : (l i m x : ℕ) (ys : List ℕ) → (m ≡ l → ⊥) → is_at l i (seek m x 0 ys) ≡ false
ref_is_other l i m x ys n =
    elim (seek_kind m x 0 ys) [ inl q ↦ ap (is_at l i) q | inr q ↦ ap (is_at l i) q.1 ∙ (let e = ne_eqb m l n in rw e refl) ]

pub ref_is_at : (l i j : ℕ) → (j ≡ i → ⊥) → is_at l i (live l j) ≡ false
ref_is_at l i j n = let e = eq-eqb l l refl in let f = ne_eqb j i n in rw (e, f) refl

pub ref_is_here : (l i : ℕ) → is_at l i (live l i) ≡ true
ref_is_here l i = let e = eq-eqb l l refl in let f = eq-eqb i i refl in rw (e, f) refl

pub moved_not : (l z i : ℕ) (r : Ref) → is_at l z r ≡ false → moved_ref l z i r ≡ r
moved_not l z i r e = cond-false (is_at l z r) (live l i) r e

module _ (own own' text : ℕ → List ℕ) (k : Kept own text) (l i : ℕ) (h : i < length (own l)) (owns : (m : ℕ) → own' m ≡ at own l (filled_by_last 0 i (own l)) m) where
  -- the slot that goes
  abbrev pub out : ℕ
  out = get_or (own l) i 0

  pub removed_ref : (y : ℕ) → (y ≡ out → ⊥) → (is_at l i (ref own text y) ≡ false) × (ref own' text y ≡ moved_ref l (length (own l) - 1) i (ref own text y))
  removed_ref y n =
      let m = last (text y) in
      let z = length (own l) - 1 in
      elim (cases_eq m l) [
        | inr q ↦ (ref_is_other l i m y (own m) q, ap (seek m y 0) (owns m ∙ at_else own l (filled_by_last 0 i (own l)) m q) ∙ sym (moved_not l z i (ref own text y) (ref_is_other l z m y (own m) q)))
        | inl q ↦
            let old : ref own text y ≡ seek l y 0 (own l) = ap (λ (w : ℕ). seek w y 0 (own w)) q in
            let new : ref own' text y ≡ seek l y 0 (filled_by_last 0 i (own l)) = ap (λ (w : ℕ). seek w y 0 (own' w)) q ∙ ap (seek l y 0) (owns l ∙ at_here own l (filled_by_last 0 i (own l)) l refl) in
            let len = swap_length 0 i (own l) h in
            let dif : Differ (filled_by_last 0 i (own l)) = differ_from (filled_by_last 0 i (own l)) (swap_apart i (own l) h (apart_from (own l) (k.differ l))) in
            elim (member y (own l)) [
              | inr lack ↦
                  let g : ref own text y ≡ dead = old ∙ seek_lacks l y 0 (own l) lack in
                  (ap (is_at l i) g, new ∙ seek_lacks l y 0 (filled_by_last 0 i (own l)) (swap_lacks y i (own l) h lack) ∙ sym (ap (moved_ref l z i) g))
              | inl w ↦
                  let j = w.0 in
                  let jl = w.1 in
                  let ji : j ≡ i → ⊥ = λ e. n (sym w.2 ∙ ap (λ (v : ℕ). get_or (own l) v 0) e) in
                  let g : ref own text y ≡ live l j = old ∙ seek_at l y 0 (own l) j (k.differ l) jl w.2 ∙ ap (live l) (omega arith) in (
                    ap (is_at l i) g ∙ ref_is_at l i j ji,
                    elim (cases_eq j z) [
                      | inl e ↦ new ∙ seek_at l y 0 (filled_by_last 0 i (own l)) i dif (omega arith) (swap_at 0 i (own l) h 0 (omega arith) ∙ ap (λ (v : ℕ). get_or (own l) v 0) (sym e) ∙ w.2) ∙ ap (live l) (omega arith) ∙ sym (ap (moved_ref l z i) (g ∙ ap (live l) e) ∙ cond-true (is_at l z (live l z)) (live l i) (live l z) (ref_is_here l z))
                      | inr e ↦ new ∙ seek_at l y 0 (filled_by_last 0 i (own l)) j dif (omega arith) (swap_else 0 i (own l) h 0 j ji (omega arith) ∙ w.2) ∙ ap (live l) (omega arith) ∙ sym (ap (moved_ref l z i) g ∙ moved_not l z i (live l j) (ref_is_at l z j e))
                    ],
                  )
            ]
      ]

  removed_refs : (ys : List ℕ) → map (ref own' text) (without out ys) ≡ map (moved_ref l (length (own l) - 1) i) (filter (λ r. not (is_at l i r)) (map (ref own text) ys))
  removed_refs [] = refl
  removed_refs (y ∷ ys) =
      let ih = removed_refs ys in
      let r = ref own text y in
      let rest = filter (λ r. not (is_at l i r)) (map (ref own text) ys) in
      elim (cases_eq y out) [
        | inl e ↦
            let g : is_at l i r ≡ true = ap (is_at l i) (ap (ref own text) e ∙ ref_at own text l i k h) ∙ ref_is_here l i in
            ap (map (ref own' text)) (without_here out y ys e) ∙ ih ∙ ap (map (moved_ref l (length (own l) - 1) i)) (sym (cond-false (not (is_at l i r)) (r ∷ rest) rest (not_from_true (is_at l i r) g)))
        | inr n ↦
            let p = removed_ref y n in
            let a = p.1 in
            let c = without_other out y ys n in
            let b = cond-true (not (is_at l i r)) (r ∷ rest) rest (not_from_false (is_at l i r) p.0) in
            ap (map (ref own' text)) c ∙ (cc) ∙ ap (map (moved_ref l (length (own l) - 1) i)) (sym b)
      ]

  pub removed_is : (room : ℕ) (ix : Bool) (used used' : ℕ → List ℕ) (lost : ℕ) → ((m : ℕ) → used' m ≡ without out (used m)) → meant room ix own' used' text lost ≡ removed l i (meant room ix own used text lost)
  unfolding removed
  removed_is room ix used used' lost useds =
      same_meaning room ix _ _ _ _ lost lost
      (λ m.
      elim (cases_eq m l) [
        | inl q ↦ ap (map text) (owns m ∙ at_here own l (filled_by_last 0 i (own l)) m q) ∙ swap_map text i (own l) h ∙ swap_same [] i (map text (own l)) ∙ sym (changed_here (λ (w : ℕ). map text (own w)) l (swap_remove (map text (own l)) i []) m q)
        | inr n ↦ ap (map text) (owns m ∙ at_else own l (filled_by_last 0 i (own l)) m n) ∙ sym (changed_else (λ (w : ℕ). map text (own w)) l (swap_remove (map text (own l)) i []) m n)
      ])
      (λ m. ap (map (ref own' text)) (useds m) ∙ removed_refs (used m) ∙ ap (λ (w : ℕ). map (moved_ref l (w - 1) i) (filter (λ r. not (is_at l i r)) (map (ref own text) (used m)))) (sym (length-map (own l) text)))
      refl
