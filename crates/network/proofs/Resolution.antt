-- `resolve` is the resolvent. Assumes nothing.
use Rattle.std.proofs.Common.{◌≡◌, ℕ, Bool, true, false, cond, not, eqb, ltb, ◌⊎◌, ◌↔◌, List, [], ◌∷◌, Some, None, filter, Option, refl, ap, subst, inl, inr, ⊎_elim, arith}
use Rattle.std.proofs.lemmas.Bool.{both_ways, cond_both, or_cases, or_parts, or_from, ne_eqb}
use Rattle.std.proofs.lemmas.Bool.Decides.{nat_tests}
use Rattle.network.specs.Assignments.{node, opposite}
use Rattle.network.specs.Lists.{In}
use Rattle.network.specs.Clauses.{Rising, Ordered, without}
use Rattle.network.specs.Resolution.{merge, twice, resolve, EitherOf, Resolvent, Tautology, Resolved}
use Rattle.network.specs.Subsumption.{Strengthens}
use Rattle.network.proofs.Literals.{node_neg, neg_apart, node_cases}
use Rattle.network.proofs.Lists.{in_kept, kept_in}
use Rattle.network.proofs.Ordered.{ordered_rising, ordered_once, ordered_kept}

pub merge_ind : (P : List ℕ → List ℕ → Type 0) → ((D : List ℕ) → P [] D) → ((c : ℕ) (C : List ℕ) → P (c ∷ C) [])
    → ((c : ℕ) (C : List ℕ) (d : ℕ) (D : List ℕ) → P C (d ∷ D) → P (c ∷ C) D → P C D → P (c ∷ C) (d ∷ D)) → (C D : List ℕ) → P C D
merge_ind P base end step [] = base
merge_ind P base end step (c ∷ C) = inner (merge_ind P base end step C)
  where
    inner : ((D : List ℕ) → P C D) → (D : List ℕ) → P (c ∷ C) D
    inner ih [] = end c C
    inner ih (d ∷ D) = step c C d D (ih (d ∷ D)) (inner ih D) (ih D)

abbrev Merged : List ℕ → List ℕ → List ℕ → Type 0
Merged C D M = ((l : ℕ) → In l M → In l C ⊎ In l D) × ((l : ℕ) → In l C ⊎ In l D → In l M)

merged_left : (c : ℕ) (C D M : List ℕ) → Merged C D M → Merged (c ∷ C) D (c ∷ M)
merged_left c C D M h = grind arith

merged_right : (d : ℕ) (C D M : List ℕ) → Merged C D M → Merged C (d ∷ D) (d ∷ M)
merged_right d C D M h = grind arith

merged_both : (c d : ℕ) (C D M : List ℕ) → c ≡ d → Merged C D M → Merged (c ∷ C) (d ∷ D) (c ∷ M)
merged_both c d C D M e h = grind arith

pub merge_in : (C D : List ℕ) → Merged C D (merge C D)
unfolding merge
merge_in = merge_ind (λ C D. Merged C D (merge C D))
    (λ D. ((λ l h. inr h), λ l h. ⊎_elim absurd (λ i. i) h))
    (λ c C. ((λ l h. inl h), λ l h. ⊎_elim (λ i. i) absurd h))
    (λ c C d D p q r. cond_both (ltb c d) (c ∷ merge C (d ∷ D)) (cond (ltb d c) (d ∷ merge (c ∷ C) D) (c ∷ merge C D)) (Merged (c ∷ C) (d ∷ D))
    (λ e. merged_left c C (d ∷ D) (merge C (d ∷ D)) p)
    (λ e. cond_both (ltb d c) (d ∷ merge (c ∷ C) D) (c ∷ merge C D) (Merged (c ∷ C) (d ∷ D)) (λ f. merged_right d (c ∷ C) D (merge (c ∷ C) D) q) (λ f. merged_both c d C D (merge C D) (grind (arith, nat_tests)) r)))

pub rising_merge : (C D : List ℕ) → Rising C → Rising D → Rising (merge C D)
unfolding merge
rising_merge = merge_ind (λ C D. Rising C → Rising D → Rising (merge C D)) (λ D rC rD. rD) (λ c C rC rD. rC) step
  where
    step : (c : ℕ) (C : List ℕ) (d : ℕ) (D : List ℕ) → (Rising C → Rising (d ∷ D) → Rising (merge C (d ∷ D)))
        → (Rising (c ∷ C) → Rising D → Rising (merge (c ∷ C) D)) → (Rising C → Rising D → Rising (merge C D))
        → Rising (c ∷ C) → Rising (d ∷ D) → Rising (merge (c ∷ C) (d ∷ D))
    step c C d D p q r (lc, rC) (ld, rD) =
        cond_both (ltb c d) (c ∷ merge C (d ∷ D)) (cond (ltb d c) (d ∷ merge (c ∷ C) D) (c ∷ merge C D)) Rising
        (λ e. ((λ y i. let h = (merge_in C (d ∷ D)).0 y i in grind (arith, nat_tests, lc y, ld y)), p rC (ld, rD)))
        (λ e. cond_both (ltb d c) (d ∷ merge (c ∷ C) D) (c ∷ merge C D) Rising
        (λ f. ((λ y i. let h = (merge_in (c ∷ C) D).0 y i in grind (arith, nat_tests, lc y, ld y)), q (lc, rC) rD))
        (λ f. ((λ y i. let h = (merge_in C D).0 y i in grind (arith, nat_tests, lc y, ld y)), r rC rD)))

pub rising_kept : (p : ℕ → Bool) (C : List ℕ) → Rising C → Rising (filter p C)
rising_kept p [] r = tt
rising_kept p (c ∷ C) (l, r) = cond_both (p c) (c ∷ filter p C) (filter p C) Rising (λ e. ((λ y i. l y (kept_in p y C i).0), rising_kept p C r)) (λ e. rising_kept p C r)

pub in_without : (x l : ℕ) (C : List ℕ) → In l C → (l ≡ x → ⊥) → In l (without x C)
in_without x l C i a = in_kept (λ k. not (eqb k x)) l C i (grind (arith, nat_tests))

pub without_in : (x l : ℕ) (C : List ℕ) → In l (without x C) → In l C × (l ≡ x → ⊥)
without_in x l C i = let k = kept_in (λ k. not (eqb k x)) l C i in (k.0, λ e. grind (arith, nat_tests, k.1))

-- a list that rises, and has no node twice, is in order
pub ordered : (R : List ℕ) → Rising R → twice R ≡ false → Ordered R
ordered [] r t = tt
ordered (x ∷ []) r t = ((λ y i. absurd i), tt)
ordered (x ∷ y ∷ R) (l, (m, r)) t = grind (arith, nat_tests, or_parts (eqb (node x) (node y)) (twice (y ∷ R)) t, ordered (y ∷ R) (m, r))

pub clash_of : (R : List ℕ) → Rising R → twice R ≡ true → (l : ℕ) × In l R × In (opposite l) R
clash_of [] r t = absurd (both_ways false refl t)
clash_of (x ∷ []) r t = absurd (both_ways false refl t)
clash_of (x ∷ y ∷ R) (l, (m, r)) t =
    ⊎_elim (λ e. (x, inl refl, inr (inl (grind (arith, nat_tests, node_cases y x, l y (inl refl))))))
    (λ e. let k = clash_of (y ∷ R) (m, r) e in (k.0, inr k.1, inr k.2))
    (or_cases (eqb (node x) (node y)) (twice (y ∷ R)) t)

-- two rising lists with the same elements are one
pub rising_same : (C D : List ℕ) → Rising C → Rising D → ((l : ℕ) → In l C → In l D) → ((l : ℕ) → In l D → In l C) → C ≡ D
rising_same [] [] rC rD f g = refl
rising_same [] (d ∷ D) rC rD f g = absurd (g d (inl refl))
rising_same (c ∷ C) [] rC rD f g = absurd (f c (inl refl))
rising_same (c ∷ C) (d ∷ D) (lc, rC) (ld, rD) f g =
    let e : c ≡ d = grind (arith, f c, g d) in
    let r = rising_same C D rC rD (λ l i. grind (arith, f l)) (λ l i. grind (arith, g l)) in
    cc

module _ (x : ℕ) (C D : List ℕ) (rC : Rising C) (rD : Rising D) where
  union_rising : Rising (merge (without x C) (without (opposite x) D))
  union_rising = rising_merge (without x C) (without (opposite x) D) (rising_kept (λ l. not (eqb l x)) C rC) (rising_kept (λ l. not (eqb l (opposite x))) D rD)

  union_all : (l : ℕ) → EitherOf x C D l → In l (merge (without x C) (without (opposite x) D))
  union_all l (inl (i, a)) = (merge_in (without x C) (without (opposite x) D)).1 l (inl (in_without x l C i a))
  union_all l (inr (i, a)) = (merge_in (without x C) (without (opposite x) D)).1 l (inr (in_without (opposite x) l D i a))

  union_only : (l : ℕ) → In l (merge (without x C) (without (opposite x) D)) → EitherOf x C D l
  union_only l i = ⊎_elim (λ j. inl (without_in x l C j)) (λ j. inr (without_in (opposite x) l D j)) ((merge_in (without x C) (without (opposite x) D)).0 l i)

  -- `resolve` answers the resolvent, or None where it would be a tautology
  pub resolve_is : Resolved x C D (resolve x C D)
  unfolding resolve
  resolve_is = go (twice (merge (without x C) (without (opposite x) D))) refl
    where
      go : (b : Bool) → twice (merge (without x C) (without (opposite x) D)) ≡ b → Resolved x C D (cond b None (Some (merge (without x C) (without (opposite x) D))))
      go true e =
          let k = clash_of (merge (without x C) (without (opposite x) D)) union_rising e in
          record { at = k.0; one = union_only k.0 k.1; two = union_only (opposite k.0) k.2 }
      go false e = record { rising = ordered (merge (without x C) (without (opposite x) D)) union_rising e; all = union_all; only = union_only }

-- an ordered list has no node twice in a row
pub ordered_untwice : (R : List ℕ) → Ordered R → twice R ≡ false
ordered_untwice [] o = refl
ordered_untwice (x ∷ []) o = refl
ordered_untwice (x ∷ y ∷ R) (h, o) = or_from (eqb (node x) (node y)) (twice (y ∷ R)) (ne_eqb (node x) (node y) (λ e. omega (arith, h y (inl refl)))) (ordered_untwice (y ∷ R) o)

-- there is one resolvent, and none where there is a tautology
resolvent_once : (x : ℕ) (C D R S : List ℕ) → Resolvent x C D R → Resolvent x C D S → R ≡ S
resolvent_once x C D R S p q = grind (arith, nat_tests, rising_same R S (ordered_rising R p.rising) (ordered_rising S q.rising), ordered_rising R p.rising, p.rising, ordered_rising S q.rising, q.rising, q.all, p.only, p.all, q.only)

resolvent_tautology : (x : ℕ) (C D R : List ℕ) → Resolvent x C D R → Tautology x C D → ⊥
resolvent_tautology x C D R p t =
    neg_apart t.at (ordered_once R p.rising (opposite t.at) t.at (p.all (opposite t.at) t.two) (p.all t.at t.one) (node_neg t.at))

module _ (x : ℕ) (C D : List ℕ) (oC : Ordered C) (oD : Ordered D) where
  pub resolvent_exactly : (R : List ℕ) → (resolve x C D ≡ Some R) ↔ Resolvent x C D R
  resolvent_exactly R = go (resolve x C D) (resolve_is x C D (ordered_rising C oC) (ordered_rising D oD))
    where
      go : (r : Option (List ℕ)) → Resolved x C D r → (r ≡ Some R) ↔ Resolvent x C D R
      go None t = ((λ e. cc), λ p. absurd (resolvent_tautology x C D R p t))
      go (Some S) p = ((λ e. let q : S ≡ R = cc in subst (Resolvent x C D) q p), λ q. ap Some (resolvent_once x C D S R p q))

  pub tautology_exactly : (resolve x C D ≡ None) ↔ Tautology x C D
  tautology_exactly = go (resolve x C D) (resolve_is x C D (ordered_rising C oC) (ordered_rising D oD))
    where
      go : (r : Option (List ℕ)) → Resolved x C D r → (r ≡ None) ↔ Tautology x C D
      go None t = ((λ e. t), λ q. refl)
      go (Some S) p = ((λ e. cc), λ t. absurd (resolvent_tautology x C D S p t))

module _ (C D : List ℕ) (oC : Ordered C) (oD : Ordered D) where
  -- where C strengthens D, the resolvent is D without the opposite literal
  pub strengthened_resolvent : (l : ℕ) → Strengthens l C D → resolve l C D ≡ Some (without (opposite l) D)
  strengthened_resolvent l s = go (resolve l C D) (resolve_is l C D (ordered_rising C oC) (ordered_rising D oD))
    where
      is : Resolvent l C D (without (opposite l) D)
      is = record {
        rising = ordered_kept (λ k. not (eqb k (opposite l))) D oD;
        all = λ k h. ⊎_elim (λ (i, a). let (j, b) = s.rest k i a in in_without (opposite l) k D j b) (λ (i, a). in_without (opposite l) k D i a) h;
        only = λ k i. inr (without_in (opposite l) k D i);
      }

      go : (r : Option (List ℕ)) → Resolved l C D r → r ≡ Some (without (opposite l) D)
      go None t = absurd (resolvent_tautology l C D (without (opposite l) D) is t)
      go (Some S) p = ap Some (resolvent_once l C D S (without (opposite l) D) p is)
