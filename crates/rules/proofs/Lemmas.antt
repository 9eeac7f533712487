-- The simplification of a list of clauses says the same. Assumes nothing.
use Rattle.std.proofs.Common.{◌≡◌, ℕ, zero, suc, Bool, true, false, not, eqb, List, [], ◌∷◌, length, Some, None, Option, sym, refl, ap, ◌∙◌, subst, inl, inr, ⊎_elim, arith}
use Rattle.std.proofs.lemmas.Bool.{cond_both, eqb-true}
use Rattle.network.specs.Assignments.{Assignment, opposite, holds}
use Rattle.network.specs.Lists.{In}
use Rattle.network.specs.Clauses.{Ordered, without, Subsumes}
use Rattle.network.specs.Subsumption.{Strengthens, Fitted, fits_but_one, test_answer, fits}
use Rattle.network.proofs.Holding.{holds_more}
use Rattle.network.proofs.Resolution.{without_in}
use Rattle.network.proofs.Subsumption.{fitted}
use Rattle.network.proofs.Sound.{strengthened}
use Rattle.network.proofs.Ordered.{ordered_kept}
use Rattle.network.specs.Lemmas.{placed, by_length, Swept, met, swept, turned, lemmas_from, lemmas}
use Rattle.rules.proofs.Verdicts.{equal_rest}

abbrev pub OrderedAll : List (List ℕ) → Type 0
OrderedAll Cs = (C : List ℕ) → In C Cs → Ordered C

-- the clauses Ls say what the clauses Rs say
pub record SaysSame (Rs Ls : List (List ℕ)) : Type 0 where
  pub covers : (R : List ℕ) → In R Rs → (L : List ℕ) × In L Ls × Subsumes L R
  pub follows : (σ : Assignment) → ((R : List ℕ) → In R Rs → holds σ R ≡ true) → (L : List ℕ) → In L Ls → holds σ L ≡ true
  pub literals : (L : List ℕ) (l : ℕ) → In L Ls → In l L → (R : List ℕ) × In R Rs × In l R
  pub ordered : OrderedAll Ls

simp_same : (A B : List (List ℕ)) → OrderedAll A → ((E : List ℕ) → In E A → In E B) → ((E : List ℕ) → In E B → In E A) → SaysSame A B
simp_same A B o f g = record {
  covers = λ R i. (R, f R i, λ l h. h);
  follows = λ σ h L i. h L (g L i);
  literals = λ L l i j. (L, g L i, j);
  ordered = λ L i. o L (g L i);
}

simp_trans : (A B C : List (List ℕ)) → SaysSame A B → SaysSame B C → SaysSame A C
simp_trans A B C p q = record {
  covers = λ R i. let (L, j, s) = p.covers R i in let (N, k, t) = q.covers L j in (N, k, λ l h. s l (t l h));
  follows = λ σ h. q.follows σ (p.follows σ h);
  literals = λ L l i j. let (R, k, m) = q.literals L l i j in p.literals R l k m;
  ordered = q.ordered;
}

simp_cons : (D : List ℕ) (A B : List (List ℕ)) → Ordered D → SaysSame A B → SaysSame (D ∷ A) (D ∷ B)
simp_cons D A B o p = record {
  covers = λ R i. ⊎_elim (λ e. (D, inl refl, λ l h. subst (In l) (sym e) h)) (λ j. let (L, k, s) = p.covers R j in (L, inr k, s)) i;
  follows = λ σ h L i. ⊎_elim (λ e. ap (holds σ) e ∙ h D (inl refl)) (λ j. p.follows σ (λ R k. h R (inr k)) L j) i;
  literals = λ L l i j. ⊎_elim (λ e. (D, inl refl, subst (In l) e j)) (λ k. let (R, m, q) = p.literals L l k j in (R, inr m, q)) i;
  ordered = λ L i. ⊎_elim (λ e. subst Ordered (sym e) o) (p.ordered L) i;
}

swap : (C D : List ℕ) (Cs : List (List ℕ)) (E : List ℕ) → In E (C ∷ D ∷ Cs) → In E (D ∷ C ∷ Cs)
swap C D Cs E i = grind arith

-- the second place kept
simp_second : (C D F : List ℕ) (A B : List (List ℕ)) → OrderedAll (C ∷ D ∷ A) → SaysSame (C ∷ A) (F ∷ B) → SaysSame (C ∷ D ∷ A) (F ∷ D ∷ B)
simp_second C D F A B o p =
    simp_trans (C ∷ D ∷ A) (D ∷ C ∷ A) (F ∷ D ∷ B) (simp_same (C ∷ D ∷ A) (D ∷ C ∷ A) o (swap C D A) (swap D C A))
    (simp_trans (D ∷ C ∷ A) (D ∷ F ∷ B) (F ∷ D ∷ B) (simp_cons D (C ∷ A) (F ∷ B) (o D (inr (inl refl))) p)
    (simp_same (D ∷ F ∷ B) (F ∷ D ∷ B) (simp_cons D (C ∷ A) (F ∷ B) (o D (inr (inl refl))) p).ordered (swap D F B) (swap F D B)))

module _ (C D : List ℕ) (A : List (List ℕ)) (o : OrderedAll (C ∷ D ∷ A)) where
  oC : Ordered C
  oC = o C (inl refl)

  oD : Ordered D
  oD = o D (inr (inl refl))

  -- D goes, since C is part of it
  drop_second : Subsumes C D → SaysSame (C ∷ D ∷ A) (C ∷ A)
  drop_second s = record {
    covers = λ R i. ⊎_elim (λ e. (C, inl refl, λ l h. subst (In l) (sym e) h)) (⊎_elim (λ e. (C, inl refl, λ l h. subst (In l) (sym e) (s l h))) (λ j. (R, inr j, λ l h. h))) i;
    follows = λ σ h L i. ⊎_elim (λ e. h L (inl e)) (λ j. h L (inr (inr j))) i;
    literals = λ L l i j. ⊎_elim (λ e. (L, inl e, j)) (λ k. (L, inr (inr k), j)) i;
    ordered = λ L i. ⊎_elim (λ e. o L (inl e)) (λ j. o L (inr (inr j))) i;
  }

  module _ (x : ℕ) (b : Strengthens x C D) where
    -- both become one
    merge_second : length C ≡ length D → SaysSame (C ∷ D ∷ A) (without x C ∷ A)
    merge_second e = record {
      covers = λ R i. ⊎_elim (λ q. (without x C, inl refl, λ l h. subst (In l) (sym q) (without_in x l C h).0))
          (⊎_elim (λ q. (without x C, inl refl, λ l h. subst (In l) (sym q) (let (u, a) = without_in x l C h in (b.rest l u a).0))) (λ j. (R, inr j, λ l h. h))) i;
      follows = λ σ h L i. ⊎_elim (λ q. ap (holds σ) q ∙ holds_more σ (without (opposite x) D) (without x C) (equal_rest x C D oC oD b e) (strengthened σ x C D b (h C (inl refl)) (h D (inr (inl refl))))) (λ j. h L (inr (inr j))) i;
      literals = λ L l i j. ⊎_elim (λ q. (C, inl refl, (without_in x l C (subst (In l) q j)).0)) (λ k. (L, inr (inr k), j)) i;
      ordered = λ L i. ⊎_elim (λ q. subst Ordered (sym q) (ordered_kept (λ l. not (eqb l x)) C oC)) (λ j. o L (inr (inr j))) i;
    }

    -- D loses the literal
    cut_second : SaysSame (C ∷ D ∷ A) (C ∷ without (opposite x) D ∷ A)
    cut_second = record {
      covers = λ R i. ⊎_elim (λ q. (C, inl refl, λ l h. subst (In l) (sym q) h)) (⊎_elim (λ q. (without (opposite x) D, inr (inl refl), λ l h. subst (In l) (sym q) (without_in (opposite x) l D h).0)) (λ j. (R, inr (inr j), λ l h. h))) i;
      follows = λ σ h L i. ⊎_elim (λ q. h L (inl q)) (⊎_elim (λ q. ap (holds σ) q ∙ strengthened σ x C D b (h C (inl refl)) (h D (inr (inl refl)))) (λ j. h L (inr (inr j)))) i;
      literals = λ L l i j. ⊎_elim (λ q. (L, inl q, j)) (⊎_elim (λ q. (D, inr (inl refl), (without_in (opposite x) l D (subst (In l) q j)).0)) (λ k. (L, inr (inr k), j))) i;
      ordered = λ L i. ⊎_elim (λ q. o L (inl q)) (⊎_elim (λ q. subst Ordered (sym q) (ordered_kept (λ l. not (eqb l (opposite x))) D oD)) (λ j. o L (inr (inr j)))) i;
    }

abbrev SimpSwept : List (List ℕ) → Swept → Type 0
SimpSwept A s = SaysSame A (s.first ∷ s.rest)

met_is : (C D : List ℕ) (Ds : List (List ℕ)) → OrderedAll (C ∷ D ∷ Ds) → ((B : List ℕ) → OrderedAll (B ∷ Ds) → SimpSwept (B ∷ Ds) (swept Ds B))
    → (r : Bool × Option ℕ) → Fitted None C D r → SimpSwept (C ∷ D ∷ Ds) (met C D (test_answer r) (λ B. swept Ds B))
met_is C D Ds o ih (true, None) h =
    simp_trans (C ∷ D ∷ Ds) (C ∷ Ds) ((swept Ds C).first ∷ (swept Ds C).rest) (drop_second C D Ds o h) (ih C (drop_second C D Ds o h).ordered)
met_is C D Ds o ih (false, p) h =
    simp_second C D (swept Ds C).first Ds (swept Ds C).rest o (ih C (λ E i. ⊎_elim (λ e. o E (inl e)) (λ j. o E (inr (inr j))) i))
met_is C D Ds o ih (true, Some x) h =
    cond_both (eqb (length C) (length D)) _ _ (SimpSwept (C ∷ D ∷ Ds))
    (λ e. let s = merge_second C D Ds o x h (eqb-true (length C) (length D) e) in
    simp_trans (C ∷ D ∷ Ds) (without x C ∷ Ds) ((swept Ds (without x C)).first ∷ (swept Ds (without x C)).rest) s (ih (without x C) s.ordered))
    (λ e. let s = cut_second C D Ds o x h in
    simp_trans (C ∷ D ∷ Ds) (C ∷ without (opposite x) D ∷ Ds) ((swept Ds C).first ∷ without (opposite x) D ∷ (swept Ds C).rest) s
    (simp_second C (without (opposite x) D) (swept Ds C).first Ds (swept Ds C).rest s.ordered (ih C (λ E i. ⊎_elim (λ q. o E (inl q)) (λ j. o E (inr (inr j))) i))))

swept_is : (Ds : List (List ℕ)) (C : List ℕ) → OrderedAll (C ∷ Ds) → SimpSwept (C ∷ Ds) (swept Ds C)
unfolding swept fits
swept_is [] C o = simp_same (C ∷ []) (C ∷ []) o (λ E i. i) (λ E i. i)
swept_is (D ∷ Ds) C o = met_is C D Ds o (λ B ob. swept_is Ds B ob) (fits_but_one C D) (fitted D C None (o C (inl refl)) (o D (inr (inl refl))))

placed_in : (C : List ℕ) (Ds : List (List ℕ)) (E : List ℕ) → In E (placed C Ds) → In E (C ∷ Ds)
unfolding placed
placed_in C [] E i = i
placed_in C (D ∷ Ds) E i = grind (arith, placed_in C Ds E)

in_placed : (C : List ℕ) (Ds : List (List ℕ)) (E : List ℕ) → In E (C ∷ Ds) → In E (placed C Ds)
unfolding placed
in_placed C [] E i = i
in_placed C (D ∷ Ds) E i = grind (arith, in_placed C Ds E)

sorted_in : (Cs : List (List ℕ)) (E : List ℕ) → In E (by_length Cs) → In E Cs
unfolding by_length
sorted_in [] E i = i
sorted_in (C ∷ Cs) E i = grind (arith, sorted_in Cs E, placed_in C (by_length Cs) E)

in_sorted : (Cs : List (List ℕ)) (E : List ℕ) → In E Cs → In E (by_length Cs)
unfolding by_length
in_sorted [] E i = i
in_sorted (C ∷ Cs) E i = grind (arith, in_sorted Cs E, in_placed C (by_length Cs) E)

from_is : (f : ℕ) (Cs : List (List ℕ)) → OrderedAll Cs → SaysSame Cs (lemmas_from f Cs)
unfolding lemmas_from
from_is zero Cs o = simp_same Cs Cs o (λ E i. i) (λ E i. i)
from_is (suc f) [] o = simp_same [] [] o (λ E i. i) (λ E i. i)
from_is (suc f) (C ∷ Cs) o =
    let s = swept_is Cs C o in
    simp_trans (C ∷ Cs) ((swept Cs C).first ∷ (swept Cs C).rest) (turned (swept Cs C) (lemmas_from f)) s
    (cond_both (swept Cs C).again (lemmas_from f ((swept Cs C).first ∷ (swept Cs C).rest)) ((swept Cs C).first ∷ lemmas_from f (swept Cs C).rest) (SaysSame ((swept Cs C).first ∷ (swept Cs C).rest))
    (λ e. from_is f ((swept Cs C).first ∷ (swept Cs C).rest) s.ordered)
    (λ e. simp_cons (swept Cs C).first (swept Cs C).rest (lemmas_from f (swept Cs C).rest) (s.ordered (swept Cs C).first (inl refl)) (from_is f (swept Cs C).rest (λ E i. s.ordered E (inr i)))))

pub lemmas_is : (Cs : List (List ℕ)) → OrderedAll Cs → SaysSame Cs (lemmas Cs)
unfolding lemmas
lemmas_is Cs o = grind (arith, simp_same Cs (by_length Cs) o (in_sorted Cs) (sorted_in Cs), in_sorted Cs, sorted_in Cs, simp_trans Cs (by_length Cs) (lemmas_from (length Cs) (by_length Cs)), from_is (length Cs) (by_length Cs))
