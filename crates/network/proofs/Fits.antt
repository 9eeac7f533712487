-- The walks of `fits` and `part_of` on any lists, and what their answers say of clauses in order. Assumes nothing.
use Rattle.std.proofs.Common.{◌≡◌, ℕ, ◌<◌, ◌≤◌, Bool, true, false, eqb, ltb, ◌⊎◌, ◌↔◌, List, [], ◌∷◌, length, Some, None, Option, refl, ap, subst, inl, inr, arith}
use Rattle.std.proofs.lemmas.Bool.{false_from_ne_true, both_ways, cond_both, eqb-true, eqb-false, ltb-true, ltb-false}
use Rattle.network.specs.Assignments.{node}
use Rattle.network.specs.Lists.{In}
use Rattle.network.specs.Clauses.{Rising, Ordered, Subsumes}
use Rattle.network.specs.Subsumption.{Strengthens, part_of, opposite_noted, fits_from, fits_but_one, Fitted, test_answer, fits}
use Rattle.network.proofs.Subsumption.{first, second, fitted, sub_not_but, but_one}

-- what holds of each step of the walk holds of its answer
pub record Steps (P : Option ℕ → List ℕ → List ℕ → Bool × Option ℕ → Type 0) : Type 0 where
  pub ended : (o : Option ℕ) (D : List ℕ) → P o [] D (true, o)
  pub missed : (o : Option ℕ) (c : ℕ) (C D : List ℕ) → P o (c ∷ C) D (false, o)
  pub same : (o : Option ℕ) (c d : ℕ) (C D : List ℕ) (r : Bool × Option ℕ) → c ≡ d → P o C D r → P o (c ∷ C) (d ∷ D) r
  pub noted : (c d : ℕ) (C D : List ℕ) (r : Bool × Option ℕ) → P (Some c) C D r → P None (c ∷ C) (d ∷ D) r
  pub past : (o : Option ℕ) (c d : ℕ) (C D : List ℕ) (r : Bool × Option ℕ) → P o (c ∷ C) D r → P o (c ∷ C) (d ∷ D) r

pub fits_ind : (P : Option ℕ → List ℕ → List ℕ → Bool × Option ℕ → Type 0) → Steps P → (D C : List ℕ) (o : Option ℕ) → P o C D (fits_from o C D)
unfolding fits_from
fits_ind P s [] [] o = s.ended o []
fits_ind P s [] (c ∷ C) o = s.missed o c C []
fits_ind P s (d ∷ D) [] o = s.ended o (d ∷ D)
fits_ind P s (d ∷ D) (c ∷ C) o =
    cond_both (eqb c d) (fits_from o C D) _ (P o (c ∷ C) (d ∷ D)) (λ e. s.same o c d C D (fits_from o C D) (eqb-true c d e) (fits_ind P s D C o))
    (λ _. cond_both (eqb (node c) (node d)) (opposite_noted c o (λ p. fits_from p C D)) _ (P o (c ∷ C) (d ∷ D)) (λ _. note o (fits_ind P s D C))
    (λ _. cond_both (ltb d c) (fits_from o (c ∷ C) D) _ (P o (c ∷ C) (d ∷ D)) (λ _. s.past o c d C D (fits_from o (c ∷ C) D) (fits_ind P s D (c ∷ C) o)) (λ _. s.missed o c C (d ∷ D))))
  where
    note : (o : Option ℕ) → ((p : Option ℕ) → P p C D (fits_from p C D)) → P o (c ∷ C) (d ∷ D) (opposite_noted c o (λ p. fits_from p C D))
    note None h = s.noted c d C D (fits_from (Some c) C D) (h (Some c))
    note (Some p) h = s.missed (Some p) c C (d ∷ D)

-- a clause that fits is no longer than the other
no_longer : (D C : List ℕ) (o : Option ℕ) → first (fits_from o C D) ≡ true → length C ≤ length D
no_longer = fits_ind (λ _ C D r. first r ≡ true → length C ≤ length D) record {
  ended = λ o D e. omega arith;
  missed = λ o c C D e. absurd (both_ways false refl e);
  same = λ o c d C D r q h e. omega (arith, h e);
  noted = λ c d C D r h e. omega (arith, h e);
  past = λ o c d C D r h e. omega (arith, h e);
}

-- of two literals of a clause that fits, one stands in the other clause, and both where the opposite is noted already
abbrev Found : Option ℕ → List ℕ → List ℕ → Type 0
Found None C D = (l m : ℕ) → In l C → In m C → (l ≡ m → ⊥) → In l D ⊎ In m D
Found (Some p) C D = Subsumes C D

found_nil : (o : Option ℕ) (D : List ℕ) → Found o [] D
found_nil None D = λ l m i. absurd i
found_nil (Some p) D = λ l i. absurd i

found_same : (o : Option ℕ) (c d : ℕ) (C D : List ℕ) → c ≡ d → Found o C D → Found o (c ∷ C) (d ∷ D)
found_same None c d C D e h = λ l m i j a. grind (arith, h l m)
found_same (Some p) c d C D e h = λ l i. grind (arith, h l)

found_noted : (c d : ℕ) (C D : List ℕ) → Found (Some c) C D → Found None (c ∷ C) (d ∷ D)
found_noted c d C D h l m i j a = grind (arith, h l, h m)

found_past : (o : Option ℕ) (c d : ℕ) (C D : List ℕ) → Found o (c ∷ C) D → Found o (c ∷ C) (d ∷ D)
found_past None c d C D h = λ l m i j a. grind (arith, h l m i j a)
found_past (Some p) c d C D h = λ l i. inr (h l i)

found : (D C : List ℕ) (o : Option ℕ) → first (fits_from o C D) ≡ true → Found o C D
found = fits_ind (λ o C D r. first r ≡ true → Found o C D) record {
  ended = λ o D e. found_nil o D;
  missed = λ o c C D e. absurd (both_ways false refl e);
  same = λ o c d C D r q h e. found_same o c d C D q (h e);
  noted = λ c d C D r h e. found_noted c d C D (h e);
  past = λ o c d C D r h e. found_past o c d C D (h e);
}

pub refused : (r : Bool × Option ℕ) → (first r ≡ true → ⊥) → test_answer r ≡ (false, None)
refused (true, o) h = absurd (h refl)
refused (false, o) h = refl

pub found_two : (C D : List ℕ) → (fits_but_one C D).0 ≡ true → (l m : ℕ) → In l C → In m C → (l ≡ m → ⊥) → In l D ⊎ In m D
found_two C D = found D C None

-- a longer clause does not fit
pub longer_unfit : (C D : List ℕ) → length D < length C → fits C D ≡ (false, None)
unfolding fits
longer_unfit C D h = refused (fits_but_one C D) (λ e. omega (arith, no_longer D C None e))

-- the answers of the test, for clauses in order
module _ (C D : List ℕ) (oC : Ordered C) (oD : Ordered D) where
  test_sub : (r : Bool × Option ℕ) → Fitted None C D r → (test_answer r ≡ (true, None)) ↔ Subsumes C D
  test_sub (true, None) h = ((λ e. h), λ s. refl)
  test_sub (true, Some l) h = ((λ e. grind (arith, ap first e)), λ s. absurd (sub_not_but C D l oD s h))
  test_sub (false, o) h = ((λ e. grind (arith, ap first e)), λ s. absurd (h.0 s))

  test_but : (l : ℕ) (r : Bool × Option ℕ) → Fitted None C D r → (test_answer r ≡ (false, Some l)) ↔ Strengthens l C D
  test_but l (true, None) h = ((λ e. grind (arith, ap second e)), λ b. absurd (sub_not_but C D l oD h b))
  test_but l (true, Some m) h = ((λ e. let g = ap second e in let q : m ≡ l = cc in subst (λ k. Strengthens k C D) q h), λ b. ap (λ k. (false, Some k)) (but_one C D m l oD h b))
  test_but l (false, o) h = ((λ e. grind (arith, ap second e)), λ b. absurd (h.1 l b))

  test_none : (r : Bool × Option ℕ) → Fitted None C D r → (test_answer r ≡ (false, None)) ↔ ((Subsumes C D → ⊥) × ((l : ℕ) → Strengthens l C D → ⊥))
  test_none (true, None) h = ((λ e. grind (arith, ap first e)), λ (n, m). absurd (n h))
  test_none (true, Some l) h = ((λ e. grind (arith, ap second e)), λ (n, m). absurd (m l h))
  test_none (false, o) h = ((λ e. h), λ n. refl)

  pub fits_sub : (fits C D ≡ (true, None)) ↔ Subsumes C D
  unfolding fits
  fits_sub = test_sub (fits_but_one C D) (fitted D C None oC oD)

  pub fits_but : (l : ℕ) → (fits C D ≡ (false, Some l)) ↔ Strengthens l C D
  unfolding fits
  fits_but l = test_but l (fits_but_one C D) (fitted D C None oC oD)

  pub fits_none : (fits C D ≡ (false, None)) ↔ ((Subsumes C D → ⊥) × ((l : ℕ) → Strengthens l C D → ⊥))
  unfolding fits
  fits_none = test_none (fits_but_one C D) (fitted D C None oC oD)

-- what `part_of` finds is there, and in rising lists it finds what is there
pub part_found : (D C : List ℕ) → part_of C D ≡ true → Subsumes C D
unfolding part_of
part_found [] [] = λ e. λ l h. h
part_found [] (c ∷ C) = λ e. absurd (both_ways false refl e)
part_found (d ∷ D) [] = λ e. λ l h. absurd h
part_found (d ∷ D) (c ∷ C) =
    cond_both (eqb c d) (part_of C D) _ (λ b. b ≡ true → Subsumes (c ∷ C) (d ∷ D)) (λ q e. let s = part_found D C e in let q' = eqb-true c d q in λ l i. grind (arith, s l))
    (λ _. cond_both (ltb d c) (part_of (c ∷ C) D) false (λ b. b ≡ true → Subsumes (c ∷ C) (d ∷ D)) (λ _ e l i. inr (part_found D (c ∷ C) e l i)) (λ _ e. absurd (both_ways false refl e)))

pub found_part : (D C : List ℕ) → Rising C → Rising D → Subsumes C D → part_of C D ≡ true
unfolding part_of
found_part [] [] rC rD s = refl
found_part [] (c ∷ C) rC rD s = absurd (s c (inl refl))
found_part (d ∷ D) [] rC rD s = refl
found_part (d ∷ D) (c ∷ C) (lc, rC) (ld, rD) s =
    cond_both (eqb c d) (part_of C D) _ (λ b. b ≡ true) (λ q. let q' = eqb-true c d q in found_part D C rC rD (λ l i. grind (arith, s l, lc l i)))
    (λ q. let n = eqb-false c d q in cond_both (ltb d c) (part_of (c ∷ C) D) false (λ b. b ≡ true)
    (λ p. let lt = ltb-true d c p in found_part D (c ∷ C) (lc, rC) rD (λ l i. grind (arith, s l, lc l)))
    (λ p. let le = ltb-false d c p in absurd (grind (arith, s c (inl refl), ld c))))

-- a longer clause is no part
part_length : (D C : List ℕ) → part_of C D ≡ true → length C ≤ length D
unfolding part_of
part_length [] [] = λ e. omega arith
part_length [] (c ∷ C) = λ e. absurd (both_ways false refl e)
part_length (d ∷ D) [] = λ e. omega arith
part_length (d ∷ D) (c ∷ C) =
    cond_both (eqb c d) (part_of C D) _ (λ b. b ≡ true → length (c ∷ C) ≤ length (d ∷ D)) (λ _ e. omega (arith, part_length D C e))
    (λ _. cond_both (ltb d c) (part_of (c ∷ C) D) false (λ b. b ≡ true → length (c ∷ C) ≤ length (d ∷ D)) (λ _ e. omega (arith, part_length D (c ∷ C) e)) (λ _ e. absurd (both_ways false refl e)))

pub longer_no_part : (C D : List ℕ) → length D < length C → part_of C D ≡ false
longer_no_part C D h = false_from_ne_true (part_of C D) (λ e. omega (arith, part_length D C e))
