-- The steps of a copy without one literal, and of the merge of two such copies. Assumes nothing.
use Rattle.std.proofs.Common.{◌≡◌, ℕ, ◌+◌, ◌-◌, ◌<◌, ◌≤◌, Bool, true, false, cond, not, ◌||◌, eqb, List, [], ◌∷◌, ◌++◌, length, get_or, take, drop, set, Some, None, Option, sym, refl, ap, ◌∙◌, subst, ⊎_elim, arith, length-set}
use Rattle.std.proofs.lemmas.List.{at_drop_more, at_drop_all, take_more, take_more_set, take_rest}
use Rattle.std.proofs.lemmas.Bool.{cases_eq, cond-true, cond-false, eq-eqb, ne_eqb, lt-ltb, le-ltb}
use Rattle.network.specs.Assignments.{node, opposite}
use Rattle.network.specs.Clauses.{without}
use Rattle.network.specs.Resolution.{merge, twice, unless_twice, resolve}
use Rattle.clause.specs.Written.{before, after_node, after, last_node, Gives}
use Rattle.clause.specs.declared.resolvents.Merged.{Merged}
use Rattle.clause.proofs.Rests.{behind}
use Rattle.clause.proofs.Fronts.{Sofar, sofar_more, sofar_fails, sofar_ends, sofar_copied}

-- ---- a copy

module _ (x : ℕ) (C : List ℕ) (i : ℕ) where
  pub without_kept : i < length C → (get_or C i 0 ≡ x → ⊥) → without x (drop i C) ≡ get_or C i 0 ∷ without x (drop (i + 1) C)
  without_kept h n = at_drop_more (without x) C i 0 h ∙ cond-true _ _ _ (ap not (ne_eqb _ _ n))

  pub without_lost : i < length C → get_or C i 0 ≡ x → without x (drop i C) ≡ without x (drop (i + 1) C)
  without_lost h e = at_drop_more (without x) C i 0 h ∙ cond-false _ _ _ (ap not (eq-eqb _ _ e))

  pub without_end : length C ≤ i → without x (drop i C) ≡ []
  without_end h = at_drop_all (without x) C i h

-- ---- the last literal

last_node_append : (xs : List ℕ) (l : ℕ) → last_node (xs ++ (l ∷ [])) ≡ Some (node l)
last_node_append [] l = refl
last_node_append (x ∷ []) l = refl
last_node_append (x ∷ y ∷ ys) l = last_node_append (y ∷ ys) l

pub last_node_front : (xs : List ℕ) (n : ℕ) → 0 < n → n ≤ length xs → last_node (take n xs) ≡ Some (node (get_or xs (n - 1) 0))
last_node_front xs n h k =
    let e : n - 1 + 1 ≡ n = omega arith in
    ap (λ m. last_node (take m xs)) (sym e) ∙ ap last_node (take_more xs (n - 1) 0 (omega arith)) ∙ last_node_append (take (n - 1) xs) (get_or xs (n - 1) 0)

pub last_node_none : (xs : List ℕ) (n : ℕ) → n ≤ 0 → last_node (take n xs) ≡ None
last_node_none xs n h = let e : n ≡ 0 = omega arith in ap (λ m. last_node (take m xs)) e

-- ---- the list, unless a node stands twice in a row

eqb_swap : (m n : ℕ) → eqb m n ≡ eqb n m
eqb_swap m n = ⊎_elim (λ e. eq-eqb m n e ∙ sym (eq-eqb n m (sym e))) (λ a. ne_eqb m n a ∙ sym (ne_eqb n m (λ e. a (sym e)))) (cases_eq m n)

once_first : (l : ℕ) (R : List ℕ) → unless_twice (l ∷ R) ≡ before (l ∷ []) (after_node (node l) R)
once_first l [] = refl
once_first l (y ∷ R) =
    pick (eqb (node l) (node y)) (twice (y ∷ R)) ∙ (λ i. before (l ∷ []) (cond (eqb_swap (node l) (node y) i) None (once_first y R i)))
  where
    pick : (s t : Bool) → cond (s || t) None (Some (l ∷ y ∷ R)) ≡ before (l ∷ []) (cond s None (cond t None (Some (y ∷ R))))
    pick true t = refl
    pick false true = refl
    pick false false = refl

pub after_none : (p : Option ℕ) → after p [] ≡ Some []
after_none None = refl
after_none (Some p) = refl

pub after_kept : (p : Option ℕ) (l : ℕ) (R : List ℕ) → (p ≡ Some (node l) → ⊥) → after p (l ∷ R) ≡ before (l ∷ []) (after (Some (node l)) R)
after_kept None l R n = once_first l R
after_kept (Some p) l R n = cond-false _ _ _ (ne_eqb (node l) p (λ e. n (ap Some (sym e))))

pub after_twice : (p : Option ℕ) (l : ℕ) (R : List ℕ) → p ≡ Some (node l) → after p (l ∷ R) ≡ None
after_twice p l R e = ap (λ q. after q (l ∷ R)) e ∙ cond-true _ _ _ (eq-eqb (node l) (node l) refl)

-- ---- a resolvent as far as it is written

-- what is written and `rest` are `all`, unless a node stands twice in a row, and past what is written `out` is as `old` was
pub record Merging (all : Option (List ℕ)) (rest old : List ℕ) (m : Merged) : Type 0 where
  pub same_length : length m.out.now ≡ length old
  pub so_far : Sofar all (after (last_node (take m.len m.out.now)) rest) old m.out.now m.len

pub merging_of : {all : Option (List ℕ)} {rest old : List ℕ} {m : Merged} (rest' : List ℕ) → rest ≡ rest' → Merging all rest old m → Merging all rest' old m
merging_of {all} {rest} {old} {m} rest' e s = subst (λ r. Merging all r old m) e s

module _ {all : Option (List ℕ)} {old : List ℕ} {m : Merged} (l : ℕ) (rest : List ℕ) (s : Merging all (l ∷ rest) old m) where
  -- after `push`
  pub merging_more : (m' : Merged) → m.len < length m.out.now → (last_node (take m.len m.out.now) ≡ Some (node l) → ⊥) × (m'.len ≡ m.len + 1) × (m'.out.now ≡ set m.out.now m.len l)
      → Merging all rest old m'
  merging_more m' h (other, longer, written) = record {
    same_length = omega (arith, ap length written, length-set m.out.now m.len l, s.same_length);
    so_far = rw (written, longer)
        (sofar_more s.so_far (after (last_node (take (m.len + 1) (set m.out.now m.len l))) rest) l h
        (after_kept (last_node (take m.len m.out.now)) l rest other
        ∙ ap (λ p. before (l ∷ []) (after p rest)) (sym (ap last_node (take_more_set m.out.now m.len l h) ∙ last_node_append (take m.len m.out.now) l))));
  }

  pub merging_fails : (most : ℕ) (out : List ℕ) → m.len ≤ most → (last_node (take m.len m.out.now) ≡ Some (node l)) × (out ≡ m.out.now) → Gives most None all old out
  merging_fails most out h (twice, same) = rw same (sofar_fails s.so_far most h (after_twice (last_node (take m.len m.out.now)) l rest twice))

pub merging_ends : {all : Option (List ℕ)} {old : List ℕ} {m : Merged} (most : ℕ) → Merging all [] old m → Gives most (Some m.len) all old m.out.now
merging_ends {m = m} most s = sofar_ends s.so_far most (after_none (last_node (take m.len m.out.now)))

-- after `finish`
pub merging_finished : {all : Option (List ℕ)} {rest old : List ℕ} {m : Merged} (r : Option ℕ) (out : List ℕ) (most part : ℕ) → m.len ≤ part → part ≤ most → Merging all rest old m
    → Gives part r (before (take m.len m.out.now) (after (last_node (take m.len m.out.now)) rest)) m.out.now out → Gives most r all old out
merging_finished {rest = rest} {m = m} r out most part h k s g = sofar_copied s.so_far most part (after (last_node (take m.len m.out.now)) rest) out r h k refl g

-- ---- the merge

-- the resolvent, where y is the opposite of x
pub resolve_merge : (x y : ℕ) (a b : List ℕ) → y ≡ opposite x → resolve x a b ≡ unless_twice (merge (without x a) (without y b))
unfolding resolve
resolve_merge x y a b e = ap (λ z. unless_twice (merge (without x a) (without z b))) (sym e)

merge_right : (C : List ℕ) → merge C [] ≡ C
unfolding merge
merge_right [] = refl
merge_right (c ∷ C) = refl

pub merge_nothing : (y : ℕ) (D : List ℕ) → merge [] (without y D) ≡ without y D
unfolding merge
merge_nothing y D = refl

-- nothing is left to merge in
pub merge_alone : (y : ℕ) (C D : List ℕ) → length D ≤ 0 → merge C (without y D) ≡ C
merge_alone y C [] h = merge_right C
merge_alone y C (d ∷ D) h = absurd (omega arith)

-- the words D but for y are merged into the literal c and the literals C
module _ (y c : ℕ) (C : List ℕ) where
  pub take_right : (D : List ℕ) → 0 < length D → (get_or D 0 0 ≡ y → ⊥) → get_or D 0 0 < c → merge (c ∷ C) (without y D) ≡ get_or D 0 0 ∷ merge (c ∷ C) (without y (behind D))
  unfolding merge
  take_right [] k ny h = absurd (omega arith)
  take_right (d ∷ D) k ny h =
      ap (merge (c ∷ C)) (without_kept y (d ∷ D) 0 (omega arith) ny) ∙ cond-false _ _ _ (le-ltb c d (omega arith)) ∙ cond-true _ _ _ (lt-ltb _ _ h)
      ∙ ap (λ R. d ∷ merge (c ∷ C) (without y R)) (sym (take_rest (d ∷ D) 1))

  pub take_left : (D : List ℕ) → (0 < length D → (get_or D 0 0 ≡ y → ⊥) × (c < get_or D 0 0)) → merge (c ∷ C) (without y D) ≡ c ∷ merge C (without y D)
  unfolding merge
  take_left [] h = ap (λ R. c ∷ R) (sym (merge_right C))
  take_left (d ∷ D) h =
      let k = h (omega arith) in
      let e = without_kept y (d ∷ D) 0 (omega arith) k.0 in
      ap (merge (c ∷ C)) e ∙ cond-true _ _ _ (lt-ltb c d k.1) ∙ ap (λ R. c ∷ merge C R) (sym e)

  pub take_both : (D : List ℕ) → 0 < length D → (c ≡ y → ⊥) → get_or D 0 0 ≡ c → merge (c ∷ C) (without y D) ≡ c ∷ merge C (without y (behind D))
  unfolding merge
  take_both [] k ny e = absurd (omega arith)
  take_both (d ∷ D) k ny e =
      ap (merge (c ∷ C)) (without_kept y (d ∷ D) 0 (omega arith) (λ q. ny (sym e ∙ q))) ∙ cond-false _ _ _ (le-ltb c d (omega arith)) ∙ cond-false _ _ _ (le-ltb d c (omega arith))
      ∙ ap (λ R. c ∷ merge C (without y R)) (sym (take_rest (d ∷ D) 1))
