-- Where a clause has a node that another's mark lacks, it does not fit the other; and the marks that stand. Assumes nothing.
use Rattle.std.proofs.Common.{◌≡◌, ℕ, ◌%◌, ◌^◌, ◌<◌, ◌≤◌, max, Bool, true, false, cond, ◌||◌, eqb, ltb, List, [], ◌∷◌, ◌++◌, length, get_or, take, drop, set, Some, None, Option, sym, refl, ap, ◌∙◌, subst, inl, inr, ⊎_elim, arith, length-append, length-set, fold}
use Rattle.std.specs.List.{list_any}
use native.Mathlib.Nat.{div-eq_of_lt}
use lib.Bits.{bit_and}
use Rattle.std.proofs.lemmas.Nat.{pow_pos}
use Rattle.std.proofs.lemmas.List.{length-take-le, length-drop, get_or-set_same, get_or-set_other}
use Rattle.std.proofs.lemmas.Bool.{both_ways, cond_both, cases_eq, eqb-true}
use Rattle.network.specs.Assignments.{node}
use Rattle.network.specs.Lists.{In}
use Rattle.network.specs.Lemmas.{met}
use Rattle.network.specs.Signature.{bit}
use Rattle.network.specs.Subsumption.{opposite_noted, fits_from, fits_but_one, fits}
use Rattle.network.proofs.Lists.{any_from, any_some}
use Rattle.network.proofs.Fits.{refused}
use Rattle.network.proofs.Signature.{bit_of_or, bit_pow, and_from_bits}
use Rattle.lemmas.specs.declared.words.Clauses.{Clauses}
use Rattle.lemmas.specs.declared.words.Meeting.TheVariants.{Stays}
use Rattle.lemmas.specs.Words.{lemma_at, Stands, Wrote}
use Rattle.lemmas.specs.Turns.{Meets}
use Rattle.lemmas.specs.Lines.{From}
use Rattle.lemmas.specs.Marks.{noding, mark, Marked, Numbered, MarksSpare}
use Rattle.lemmas.proofs.Writes.{wrote_other}

-- ---- the nodes of a clause that fits

-- D has a literal of the node of l
abbrev Names : ℕ → List ℕ → Type 0
Names l D = (m : ℕ) × In m D × (node m ≡ node l)

both_name : (c d : ℕ) (C D : List ℕ) → node c ≡ node d → ((l : ℕ) → In l C → Names l D) → (l : ℕ) → In l (c ∷ C) → Names l (d ∷ D)
both_name c d C D q h l i = ⊎_elim (λ e. (d, inl refl, sym q ∙ ap node (sym e))) (λ j. let (m, k, e) = h l j in (m, inr k, e)) i

-- each node of a clause that fits another, but for one sign, is a node of the other
fits_names : (D C : List ℕ) (o : Option ℕ) → (fits_from o C D).0 ≡ true → (l : ℕ) → In l C → Names l D
unfolding fits_from
fits_names [] [] o = λ e l i. absurd i
fits_names [] (c ∷ C) o = λ e. absurd (both_ways false refl e)
fits_names (d ∷ D) [] o = λ e l i. absurd i
fits_names (d ∷ D) (c ∷ C) o =
    cond_both (eqb c d) (fits_from o C D) _ (λ r. r.0 ≡ true → (l : ℕ) → In l (c ∷ C) → Names l (d ∷ D)) (λ q e. both_name c d C D (ap node (eqb-true c d q)) (fits_names D C o e))
    (λ _. cond_both (eqb (node c) (node d)) (opposite_noted c o (λ p. fits_from p C D)) _ (λ r. r.0 ≡ true → (l : ℕ) → In l (c ∷ C) → Names l (d ∷ D)) (λ q e. note o (eqb-true (node c) (node d) q) (fits_names D C) e)
    (λ _. cond_both (ltb d c) (fits_from o (c ∷ C) D) (false, o) (λ r. r.0 ≡ true → (l : ℕ) → In l (c ∷ C) → Names l (d ∷ D)) (λ _ e l i. let (m, k, f) = fits_names D (c ∷ C) o e l i in (m, inr k, f)) (λ _ e. absurd (both_ways false refl e))))
  where
    note : (o : Option ℕ) → node c ≡ node d → ((p : Option ℕ) → (fits_from p C D).0 ≡ true → (l : ℕ) → In l C → Names l D) → (opposite_noted c o (λ p. fits_from p C D)).0 ≡ true → (l : ℕ) → In l (c ∷ C) → Names l (d ∷ D)
    note None q h e = both_name c d C D q (h (Some c) e)
    note (Some p) q h e = absurd (both_ways false refl e)

-- ---- their bits

-- whether the bit j is that of the node of l
abbrev has_bit : ℕ → ℕ → Bool
has_bit j l = eqb (node l % 32) j

or_max : (x y : Bool) → max (cond x 1 0) (cond y 1 0) ≡ cond (x || y) 1 0
or_max true true = refl
or_max true false = refl
or_max false true = refl
or_max false false = refl

mark_from : (n : ℕ) (C : List ℕ) (j : ℕ) → bit (fold noding n C) j ≡ max (bit n j) (cond (list_any (has_bit j) C) 1 0)
mark_from n [] j = omega arith
mark_from n (l ∷ C) j =
    mark_from (noding n l) C j ∙ ap (λ b. max b (cond (list_any (has_bit j) C) 1 0)) (bit_of_or n (2 ^ (node l % 32)) j ∙ ap (max (bit n j)) (bit_pow (node l % 32) j))
    ∙ omega (arith, or_max (has_bit j l) (list_any (has_bit j) C))

mark_bit : (C : List ℕ) (j : ℕ) → bit (mark C) j ≡ cond (list_any (has_bit j) C) 1 0
mark_bit C j = mark_from 0 C j ∙ ap (λ b. max b (cond (list_any (has_bit j) C) 1 0)) (ap (λ n. n % 2) (div-eq_of_lt (pow_pos j))) ∙ omega arith

mark_below : (C D : List ℕ) → ((l : ℕ) → In l C → Names l D) → (j : ℕ) → bit (mark C) j ≤ bit (mark D) j
mark_below C D h j = go (list_any (has_bit j) C) refl
  where
    go : (b : Bool) → list_any (has_bit j) C ≡ b → bit (mark C) j ≤ bit (mark D) j
    go false e = let z : bit (mark C) j ≡ 0 = mark_bit C j ∙ ap (λ b. cond b 1 0) e in omega arith
    go true e =
        let (l, i, t) = any_some (has_bit j) C e in
        let (m, k, f) = h l i in
        let there = any_from (has_bit j) D m k (ap (λ n. eqb (n % 32) j) f ∙ t) in
        let x : bit (mark C) j ≡ 1 = mark_bit C j ∙ ap (λ b. cond b 1 0) e in
        let y : bit (mark D) j ≡ 1 = mark_bit D j ∙ ap (λ b. cond b 1 0) there in
        omega arith

-- a bit of C's is missing in D's, so C does not fit D
pub mark_spares : MarksSpare
unfolding fits
mark_spares C D h = refused (fits_but_one C D) (λ e. h (and_from_bits (mark C) (mark D) (mark_below C D (fits_names D C None e))))

-- ---- in the words

-- two clauses of which the first has a node that the later one's mark lacks
pub marks_spare : (C : Clauses) (S : List ℕ) (a b : ℕ) → Marked C S → Stands C a → Stands C b → a < length S → b < length S → (bit_and (get_or S a 0) (get_or S b 0) ≡ get_or S a 0 → ⊥) → Meets C C a b Stays
marks_spare C S a b w sa sb ha hb lacks go =
    let A = lemma_at C a in
    let B = lemma_at C b in
    ap (λ f. met A B f go) (mark_spares A B (λ e. lacks ((λ i. bit_and (w a ha sa i) (w b hb sb i)) ∙ e ∙ sym (w a ha sa))))

-- a clause that has changed has its mark anew
pub marked_anew : {C C₁ : Clauses} {x : ℕ} (S : List ℕ) (m : ℕ) → Wrote (λ k. k ≡ x) C C₁ → Marked C S → x < length S → m ≡ mark (lemma_at C₁ x) → Marked C₁ (set S x m)
marked_anew {C} {C₁} {x} S m w old h is k hk s =
    ⊎_elim
    (λ e. ap (λ i. get_or (set S x m) i 0) e ∙ get_or-set_same S x m 0 h ∙ is ∙ ap (λ i. mark (lemma_at C₁ i)) (sym e))
    (λ ne.
    let s₀ : Stands C k = record { counted = omega (arith, s.counted, w.lengths.1); room = omega (arith, s.room, w.literals.1); short = omega (arith, s.short, w.counts k ne) } in
    get_or-set_other S x k m 0 ne ∙ old k (omega (arith, length-set S x m, hk)) s₀ ∙ ap mark (sym (wrote_other w k s₀ ne)))
    (cases_eq k x)

pub numbered_from : (O O₁ : List ℕ) (n m b : ℕ) → From O n O₁ m → Numbered O n b → Numbered O₁ m b
numbered_from O O₁ n m b f h p hp = let (q, qn, e) = f p hp in subst (λ k. k < b) (sym e) (h q qn)

-- a slice is as long as before with its first n words written back
pub marks_within : (S M : List ℕ) (n : ℕ) → n ≤ length S → length M ≡ length (take n S) → length (M ++ drop n S) ≡ length S
marks_within S M n h e = length-append M (drop n S) ∙ omega (arith, e, length-take-le n S h, length-drop n S)
