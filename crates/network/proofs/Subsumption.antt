-- `fits_but_one` answers whether a clause is part of another, but for one opposite literal. Assumes nothing.
use Rattle.std.proofs.Common.{◌≡◌, ℕ, ◌<◌, ◌≤◌, Bool, true, false, eqb, ltb, ◌↔◌, List, [], ◌∷◌, Some, None, Option, refl, ap, subst, inl, arith}
use Rattle.std.proofs.lemmas.Bool.{cond_both, cases_eq, eqb-true, eqb-false}
use Rattle.std.proofs.lemmas.Bool.Decides.{nat_tests}
use Rattle.network.specs.Assignments.{node, opposite}
use Rattle.network.specs.Lists.{In}
use Rattle.network.specs.Clauses.{Ordered, Subsumes}
use Rattle.network.specs.Subsumption.{opposite_noted, fits_from, fits_but_one, Strengthens, Fitted}
use Rattle.network.proofs.Literals.{signs}
use Rattle.network.proofs.Ordered.{ordered_once}

fitted_map : (o : Option ℕ) (C D C' D' : List ℕ) (r : Bool × Option ℕ) → (Subsumes C D → Subsumes C' D') → (Subsumes C' D' → Subsumes C D)
    → ((l : ℕ) → Strengthens l C D → Strengthens l C' D') → ((l : ℕ) → Strengthens l C' D' → Strengthens l C D) → Fitted o C D r → Fitted o C' D' r
fitted_map None C D C' D' (true, None) s t f g h = s h
fitted_map None C D C' D' (true, Some l) s t f g h = f l h
fitted_map None C D C' D' (false, o) s t f g h = ((λ x. h.0 (t x)), λ l b. h.1 l (g l b))
fitted_map (Some p) C D C' D' (true, o) s t f g h = (h.0, s h.1)
fitted_map (Some p) C D C' D' (false, o) s t f g h = λ x. h (t x)

module _ (c d : ℕ) (C D : List ℕ) (lc : (y : ℕ) → In y C → node c < node y) (ld : (y : ℕ) → In y D → node d < node y) where
  -- c stands in both
  same : (o : Option ℕ) (r : Bool × Option ℕ) → c ≡ d → Fitted o C D r → Fitted o (c ∷ C) (d ∷ D) r
  same o r e = fitted_map o C D (c ∷ C) (d ∷ D) r (λ s. grind arith) (λ s. grind arith) (λ l b. grind arith) (λ l b. grind (arith, signs))

  -- d is passed over
  past : (o : Option ℕ) (r : Bool × Option ℕ) → node d < node c → Fitted o (c ∷ C) D r → Fitted o (c ∷ C) (d ∷ D) r
  past o r m = fitted_map o (c ∷ C) D (c ∷ C) (d ∷ D) r (λ s. grind arith) (λ s. grind arith) (λ l b. grind arith) (λ l b. grind (arith, signs))

  -- c does not stand in d ∷ D
  not_sub : (c ≡ d → ⊥) → node c ≤ node d → Subsumes (c ∷ C) (d ∷ D) → ⊥
  not_sub a m s = grind (arith, s c)

  miss : (o : Option ℕ) → node c < node d → Fitted o (c ∷ C) (d ∷ D) (false, o)
  miss None m = (not_sub (λ e. grind arith) (omega arith), λ l b. grind (arith, signs, b.rest c))
  miss (Some p) m = not_sub (λ e. grind arith) (omega arith)

  -- c stands in D with the opposite sign
  module _ (a : c ≡ d → ⊥) (n : node c ≡ node d) where
    but_here : Subsumes C D → Strengthens c (c ∷ C) (d ∷ D)
    but_here s = grind (arith, signs)

    first_note : (r : Bool × Option ℕ) → Fitted (Some c) C D r → Fitted None (c ∷ C) (d ∷ D) r
    first_note (true, None) (e, s) = grind arith
    first_note (true, Some l) (e, s) = let q : c ≡ l = cc in subst (λ k. Strengthens k (c ∷ C) (d ∷ D)) q (but_here s)
    first_note (false, o) h = (not_sub a (omega arith), λ l b. grind (arith, signs, h))

    note : (o : Option ℕ) → ((p : Option ℕ) → Fitted p C D (fits_from p C D)) → Fitted o (c ∷ C) (d ∷ D) (opposite_noted c o (λ p. fits_from p C D))
    note None h = first_note (fits_from (Some c) C D) (h (Some c))
    note (Some p) h = not_sub a (omega arith)

pub fitted : (D C : List ℕ) (o : Option ℕ) → Ordered C → Ordered D → Fitted o C D (fits_from o C D)
unfolding fits_from
fitted [] [] None oC oD = λ l h. h
fitted [] [] (Some p) oC oD = (refl, λ l h. h)
fitted [] (c ∷ C) None oC oD = ((λ s. s c (inl refl)), λ l b. b.there)
fitted [] (c ∷ C) (Some p) oC oD = λ s. s c (inl refl)
fitted (d ∷ D) [] None oC oD = λ l h. absurd h
fitted (d ∷ D) [] (Some p) oC oD = (refl, λ l h. absurd h)
fitted (d ∷ D) (c ∷ C) o (lc, oC) (ld, oD) =
    cond_both (eqb c d) (fits_from o C D) _ (Fitted o (c ∷ C) (d ∷ D)) (λ e. same c d C D lc ld o (fits_from o C D) (eqb-true c d e) (fitted D C o oC oD))
    (λ e. cond_both (eqb (node c) (node d)) (opposite_noted c o (λ p. fits_from p C D)) _ (Fitted o (c ∷ C) (d ∷ D))
    (λ f. note c d C D lc ld (eqb-false c d e) (eqb-true (node c) (node d) f) o (λ p. fitted D C p oC oD))
    (λ f. cond_both (ltb d c) (fits_from o (c ∷ C) D) _ (Fitted o (c ∷ C) (d ∷ D))
    (λ g. past c d C D lc ld o (fits_from o (c ∷ C) D) (grind (arith, nat_tests)) (fitted D (c ∷ C) o (lc, oC) oD))
    (λ g. miss c d C D lc ld o (grind (arith, nat_tests)))))

-- the two answers exclude one another, and there is one literal at most
pub sub_not_but : (C D : List ℕ) (l : ℕ) → Ordered D → Subsumes C D → Strengthens l C D → ⊥
sub_not_but C D l o s b = grind (arith, signs, ordered_once D o (opposite l) l)

pub but_one : (C D : List ℕ) (l m : ℕ) → Ordered D → Strengthens l C D → Strengthens m C D → l ≡ m
but_one C D l m o b c = grind (arith, signs, cases_eq l m, ordered_once D o (opposite l) l)

abbrev pub first : Bool × Option ℕ → Bool
first r = r.0

abbrev pub second : Bool × Option ℕ → Option ℕ
second r = r.1

-- what `fits_but_one` answers of clauses in order, exactly
module _ (C D : List ℕ) (oC : Ordered C) (oD : Ordered D) where
  answer_sub : (r : Bool × Option ℕ) → Fitted None C D r → (r ≡ (true, None)) ↔ Subsumes C D
  answer_sub (true, None) h = ((λ e. h), λ s. refl)
  answer_sub (true, Some l) h = ((λ e. grind (arith, ap second e)), λ s. absurd (sub_not_but C D l oD s h))
  answer_sub (false, o) h = ((λ e. grind (arith, ap first e)), λ s. absurd (h.0 s))

  answer_but : (l : ℕ) (r : Bool × Option ℕ) → Fitted None C D r → (r ≡ (true, Some l)) ↔ Strengthens l C D
  answer_but l (true, None) h = ((λ e. grind (arith, ap second e)), λ b. absurd (sub_not_but C D l oD h b))
  answer_but l (true, Some m) h = ((λ e. let g = ap second e in let q : m ≡ l = cc in subst (λ k. Strengthens k C D) q h), λ b. ap (λ k. (true, Some k)) (but_one C D m l oD h b))
  answer_but l (false, o) h = ((λ e. grind (arith, ap first e)), λ b. absurd (h.1 l b))

  pub fits_exactly : ((fits_but_one C D ≡ (true, None)) ↔ Subsumes C D) × ((l : ℕ) → (fits_but_one C D ≡ (true, Some l)) ↔ Strengthens l C D)
  fits_exactly = (answer_sub (fits_but_one C D) (fitted D C None oC oD), λ l. answer_but l (fits_but_one C D) (fitted D C None oC oD))
