-- Retiring, shortening and the index, by slots and by the meaning. Assumes nothing.
use Rattle.std.proofs.Common.{◌≡◌, ℕ, zero, suc, ◌+◌, ◌-◌, ◌<◌, Bool, true, false, cond, eqb, List, [], ◌∷◌, map, length, get_or, set, filter, sym, refl, ap, ◌∙◌, subst, inl, inr, arith, flat_map}
use mathlib.Core.Path.{fun_ext}
use Rattle.std.specs.List.{AllByRecursion, list_any, remove}
use Rattle.std.proofs.lemmas.Bool.{cases_eq, cases_lt, cases_Bool, cond-true, cond-false, eq-eqb, ne_eqb, lt-ltb, le-ltb}
use Rattle.std.proofs.lemmas.List.{map-append, get_or-map}
use Rattle.std.proofs.ByRecursion.{All-get_or}
use Rattle.rings.specs.Rings.{Lacks, Differ, without, drop_at, at}
use Rattle.rings.proofs.Drops.{at_here, at_else, drop_at_all, drop_at_differ, drop_at_length, drop_at_low, drop_at_high, drop_at_out, drop_at_map}
use Rattle.network.specs.Clauses.{last, front, has}
use Rattle.rules.specs.Store.{live, dead, retired, shortened, index_on, after_retired, is_at, places, literals}
use Rattle.slots.specs.Slots.{seek, ref, meant, Kept, filled_by_last}
use Rattle.slots.proofs.Slots.{same_meaning, map_same, close_same, changed_here, changed_else, seek_lacks, seek_at, seek_kind, member, ref_at, ref_is_here, removed_ref}

-- what falls
fallen_other : (l i m j : ℕ) → (m ≡ l → ⊥) → after_retired l i (live m j) ≡ live m j
fallen_other l i m j n = let e = ne_eqb m l n in rw e refl

fallen_here : (l i : ℕ) → after_retired l i (live l i) ≡ dead
fallen_here l i = let e = eq-eqb l l refl in let f = eq-eqb i i refl in rw (e, f) refl

fallen_low : (l i j : ℕ) → j < i → after_retired l i (live l j) ≡ live l j
fallen_low l i j h =
    let e = eq-eqb l l refl in
    let f = ne_eqb j i (λ q. omega arith) in
    let g = le-ltb i j (omega arith) in
    rw (e, f, g) refl

fallen_high : (l i j : ℕ) → i < j → after_retired l i (live l j) ≡ live l (j - 1)
fallen_high l i j h =
    let e = eq-eqb l l refl in
    let f = ne_eqb j i (λ q. omega arith) in
    let g = lt-ltb i j (omega arith) in
    rw (e, f, g) refl

module _ (own text : ℕ → List ℕ) (k : Kept own text) (l i : ℕ) (h : i < length (own l)) where
  -- a ref to the place is a ref to the slot there
  at_is : (ys : List ℕ) → list_any (is_at l i) (map (ref own text) ys) ≡ has (get_or (own l) i 0) ys
  at_is [] = refl
  at_is (y ∷ ys) =
      let ih = at_is ys in
      let t : is_at l i (ref own text y) ≡ eqb (get_or (own l) i 0) y = elim (cases_eq y (get_or (own l) i 0)) [
        | inl e ↦ ap (is_at l i) (ap (ref own text) e ∙ ref_at own text l i k h) ∙ ref_is_here l i ∙ sym (eq-eqb (get_or (own l) i 0) y (sym e))
        | inr n ↦ (removed_ref own (at own l (filled_by_last 0 i (own l))) text k l i h (λ m. refl) y n).0 ∙ sym (ne_eqb (get_or (own l) i 0) y (λ q. n (sym q)))
      ] in
      cc

  any_same : (f g : ℕ → Bool) (ls : List ℕ) → ((x : ℕ) → f x ≡ g x) → list_any f ls ≡ list_any g ls
  any_same f g ls e = ap (λ (p : ℕ → Bool). list_any p ls) (fun_ext e)

  module _ (own' : ℕ → List ℕ) (owns : (m : ℕ) → own' m ≡ at own l (drop_at i (own l)) m) where
    pub retired_ref : (y : ℕ) → ref own' text y ≡ after_retired l i (ref own text y)
    retired_ref y =
        let m = last (text y) in
        let xs = own l in
        elim (cases_eq m l) [
          | inr q ↦
              let new : ref own' text y ≡ ref own text y = ap (seek m y 0) (owns m ∙ at_else own l (drop_at i xs) m q) in
              elim (seek_kind m y 0 (own m)) [ inl g ↦ new ∙ g ∙ sym (ap (after_retired l i) g) | inr g ↦ new ∙ g.1 ∙ sym (ap (after_retired l i) g.1 ∙ fallen_other l i m g.0 q) ]
          | inl q ↦
              let old : ref own text y ≡ seek l y 0 xs = ap (λ (w : ℕ). seek w y 0 (own w)) q in
              let new : ref own' text y ≡ seek l y 0 (drop_at i xs) = ap (λ (w : ℕ). seek w y 0 (own' w)) q ∙ ap (seek l y 0) (owns l ∙ at_here own l (drop_at i xs) l refl) in
              let len = drop_at_length i xs h in
              let dif = drop_at_differ i xs (k.differ l) in
              elim (member y xs) [
                | inr lack ↦ new ∙ seek_lacks l y 0 (drop_at i xs) (drop_at_all (λ z. z ≡ y → ⊥) i xs lack) ∙ sym (ap (after_retired l i) (old ∙ seek_lacks l y 0 xs lack))
                | inl w ↦
                    let j = w.0 in
                    let jl = w.1 in
                    let g : ref own text y ≡ live l j = old ∙ seek_at l y 0 xs j (k.differ l) jl w.2 ∙ ap (live l) (omega arith) in
                    elim (cases_lt j i) [
                      | inl low ↦ new ∙ seek_at l y 0 (drop_at i xs) j dif (omega arith) (drop_at_low i j xs 0 low ∙ w.2) ∙ ap (live l) (omega arith) ∙ sym (ap (after_retired l i) g ∙ fallen_low l i j low)
                      | inr ge ↦ elim (cases_eq j i) [
                        | inl e ↦ new ∙ seek_lacks l y 0 (drop_at i xs) (subst (λ (z : ℕ). Lacks z (drop_at i xs)) (ap (λ (v : ℕ). get_or xs v 0) (sym e) ∙ w.2) (drop_at_out i xs h (k.differ l))) ∙ sym (ap (after_retired l i) (g ∙ ap (live l) e) ∙ fallen_here l i)
                        | inr n ↦
                            let s : suc (j - 1) ≡ j = omega arith in
                            new ∙ seek_at l y 0 (drop_at i xs) (j - 1) dif (omega arith) (drop_at_high i (j - 1) xs 0 (omega arith) ∙ ap (λ (v : ℕ). get_or xs v 0) s ∙ w.2) ∙ ap (live l) (omega arith) ∙ sym (ap (after_retired l i) g ∙ fallen_high l i j (omega arith))
                      ]
                    ]
              ]
        ]

    retired_refs : (ys : List ℕ) → map (ref own' text) ys ≡ map (after_retired l i) (map (ref own text) ys)
    retired_refs [] = refl
    retired_refs (y ∷ ys) = let a = retired_ref y in let b = retired_refs ys in cc

    pub retired_is : (room : ℕ) (ix : Bool) (used : ℕ → List ℕ) (lost lost' : ℕ) → lost' ≡ cond (list_any (λ m. has (get_or (own l) i 0) (used m)) literals) (suc lost) lost → meant room ix own' used text lost' ≡ retired l i (meant room ix own used text lost)
    unfolding retired
    retired_is room ix used lost lost' e =
        same_meaning room ix _ _ _ _ lost' _
        (λ m.
        elim (cases_eq m l) [
          | inl q ↦ ap (map text) (owns m ∙ at_here own l (drop_at i (own l)) m q) ∙ drop_at_map text i (own l) ∙ close_same i (map text (own l)) ∙ sym (changed_here (λ (w : ℕ). map text (own w)) l (remove (map text (own l)) i) m q)
          | inr n ↦ ap (map text) (owns m ∙ at_else own l (drop_at i (own l)) m n) ∙ sym (changed_else (λ (w : ℕ). map text (own w)) l (remove (map text (own l)) i) m n)
        ])
        (λ m. retired_refs (used m))
        (e ∙ ap (λ (b : Bool). cond b (suc lost) lost) (any_same (λ m. has (get_or (own l) i 0) (used m)) (λ m. list_any (is_at l i) (map (ref own text) (used m))) literals (λ m. sym (at_is (used m)))))

  -- ---- a shorter clause in the same slot
  module _ (text' : ℕ → List ℕ) (v : ℕ) (short : text' (get_or (own l) i 0) ≡ without v (text (get_or (own l) i 0))) (ends : last (text' (get_or (own l) i 0)) ≡ l) where
    abbrev Same : List ℕ → Type 0
    Same ys = AllByRecursion (λ y. (y ≡ get_or (own l) i 0 → ⊥) → text' y ≡ text y) ys

    ends_was : last (text (get_or (own l) i 0)) ≡ l
    ends_was = All-get_or (λ y. last (text y) ≡ l) (own l) i 0 h (k.ends l)

    shortened_refs : (ys : List ℕ) → Same ys → map (ref own text') ys ≡ map (ref own text) ys
    shortened_refs [] s = refl
    shortened_refs (y ∷ ys) s =
        let e : last (text' y) ≡ last (text y) = elim (cases_eq y (get_or (own l) i 0)) [ inl q ↦ ap (λ (w : ℕ). last (text' w)) q ∙ ends ∙ sym ends_was ∙ sym (ap (λ (w : ℕ). last (text w)) q) | inr n ↦ ap last (s.0 n) ] in
        let a : ref own text' y ≡ ref own text y = ap (λ (w : ℕ). seek w y 0 (own w)) e in
        let b = shortened_refs ys s.1 in
        cc

    put_map : (xs : List ℕ) (j : ℕ) → j < length xs → Differ xs → get_or xs j 0 ≡ get_or (own l) i 0 → Same xs → map text' xs ≡ set (map text xs) j (text' (get_or xs j 0))
    unfolding Differ
    put_map [] j jl d e s = absurd (omega arith)
    put_map (x ∷ xs) zero jl d e s = ap (λ (ys : List (List ℕ)). text' x ∷ ys) (map_same text' text xs (apply xs (subst (λ (z : ℕ). Lacks z xs) e d.0) s.1))
      where
        apply : (ys : List ℕ) → Lacks (get_or (own l) i 0) ys → Same ys → AllByRecursion (λ y. text' y ≡ text y) ys
        apply [] n s = tt
        apply (y ∷ ys) n s = (s.0 n.0, apply ys n.1 s.1)
    put_map (x ∷ xs) (suc j) jl d e s =
        let a : text' x ≡ text x = s.0 (λ q. All-get_or (λ y. y ≡ x → ⊥) xs j 0 (omega arith) d.0 (e ∙ sym q)) in
        let b = put_map xs j (omega arith) d.1 e s.1 in
        cc

    others : (m : ℕ) → (m ≡ l → ⊥) → (ys : List ℕ) → AllByRecursion (λ y. last (text y) ≡ m) ys → Same ys → map text' ys ≡ map text ys
    others m n [] es s = refl
    others m n (y ∷ ys) es s =
        let a : text' y ≡ text y = s.0 (λ q. n (sym es.0 ∙ ap (λ (w : ℕ). last (text w)) q ∙ ends_was)) in
        let b = others m n ys es.1 s.1 in
        cc

    pub shortened_is : (room : ℕ) (ix : Bool) (used : ℕ → List ℕ) (lost : ℕ) → ((m : ℕ) → Same (own m)) → ((m : ℕ) → Same (used m)) → meant room ix own used text' lost ≡ shortened l i v (meant room ix own used text lost)
    unfolding shortened
    shortened_is room ix used lost so su =
        let x = get_or (own l) i 0 in
        let t : get_or (map text (own l)) i [] ≡ text x = get_or-map text (own l) i 0 [] h in
        let here : map text' (own l) ≡ set (map text (own l)) i (without v (get_or (map text (own l)) i [])) = put_map (own l) i h (k.differ l) refl (so l) ∙ ap (set (map text (own l)) i) (short ∙ ap (without v) (sym t)) in
        same_meaning room ix _ _ _ _ lost lost
        (λ m.
        elim (cases_eq m l) [
          | inl q ↦ ap (λ (w : ℕ). map text' (own w)) q ∙ here ∙ sym (changed_here (λ (w : ℕ). map text (own w)) l (set (map text (own l)) i (without v (get_or (map text (own l)) i []))) m q)
          | inr n ↦ others m n (own m) (k.ends m) (so m) ∙ sym (changed_else (λ (w : ℕ). map text (own w)) l (set (map text (own l)) i (without v (get_or (map text (own l)) i []))) m n)
        ])
        (λ m. shortened_refs (used m) (su m))
        refl

-- ---- the index
refs_of : (own text : ℕ → List ℕ) (n l j : ℕ) (ys : List ℕ) → ((i : ℕ) → i < length ys → ref own text (get_or ys i 0) ≡ live l (j + i)) → map (ref own text) (filter (λ x. has n (front (text x))) ys) ≡ places n l j (map text ys)
unfolding places
refs_of own text n l j [] h = refl
refs_of own text n l j (y ∷ ys) h =
    let t = has n (front (text y)) in
    let here : ref own text y ≡ live l j = h 0 (omega arith) ∙ ap (live l) (omega arith) in
    let ih = refs_of own text n l (suc j) ys (λ i q. h (suc i) (omega arith) ∙ ap (live l) (omega arith)) in
    let rest = filter (λ x. has n (front (text x))) ys in
    elim (cases_Bool t) [
      | inl e ↦ ap (map (ref own text)) (cond-true t (y ∷ rest) rest e) ∙ (cc) ∙ sym (cond-true t (live l j ∷ places n l (suc j) (map text ys)) (places n l (suc j) (map text ys)) e)
      | inr e ↦ ap (map (ref own text)) (cond-false t (y ∷ rest) rest e) ∙ ih ∙ sym (cond-false t (live l j ∷ places n l (suc j) (map text ys)) (places n l (suc j) (map text ys)) e)
    ]

map_flat_map : {X Y : Type 0} (f : X → Y) (ls : List ℕ) (g : ℕ → List X) (h : ℕ → List Y) → ((l : ℕ) → map f (g l) ≡ h l) → map f (flat_map g ls) ≡ flat_map h ls
map_flat_map f [] g h e = refl
map_flat_map f (l ∷ ls) g h e = map-append f (g l) (flat_map g ls) ∙ (let a = map_flat_map f ls g h e in let b = e l in cc)

pub indexed_is : (room : ℕ) (own used used' text : ℕ → List ℕ) (lost : ℕ) → Kept own text → ((m : ℕ) → used' m ≡ flat_map (λ l. filter (λ x. has m (front (text x))) (own l)) literals) → meant room true own used' text 0 ≡ index_on (meant room false own used text lost)
unfolding index_on
indexed_is room own used used' text lost k useds =
    same_meaning room true _ _ _ _ 0 0 (λ l. refl)
    (λ m. ap (map (ref own text)) (useds m) ∙ map_flat_map (ref own text) literals (λ l. filter (λ x. has m (front (text x))) (own l)) (λ l. places m l 0 (map text (own l))) (λ l. refs_of own text m l 0 (own l) (λ i h. ref_at own text l i k h ∙ ap (live l) (omega arith))))
    refl
