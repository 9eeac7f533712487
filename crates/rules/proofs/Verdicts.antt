-- What the verdict of one clause on another says. Assumes nothing.
use Rattle.std.proofs.Common.{◌≡◌, ℕ, suc, ◌≤◌, Bool, true, false, not, eqb, List, [], ◌∷◌, length, Some, None, Option, sym, refl, ap, ◌∙◌, subst, inl, inr, ⊎_elim, arith}
use Rattle.std.proofs.lemmas.Bool.{cases_eq}
use Rattle.std.proofs.lemmas.Bool.Decides.{nat_tests}
use Rattle.network.specs.Assignments.{node, opposite}
use Rattle.network.specs.Lists.{In}
use Rattle.network.specs.Clauses.{Rising, Ordered, without, Subsumes, owner, last}
use Rattle.network.specs.Subsumption.{Strengthens, Fitted, fits_but_one, test_answer, fits}
use Rattle.network.proofs.Ordered.{ordered_within, owner_below, ordered_rising, ordered_once, ordered_kept}
use Rattle.network.proofs.Resolution.{in_without, without_in}
use Rattle.network.proofs.Subsumption.{fitted}
use Rattle.rules.specs.Subsume.{Verdict, apart, subsumed, merged, both_lost, long_lost, strengthened, verdict_of, verdict}

pub owner_last : (C : List ℕ) → owner C ≡ node (last C)
owner_last [] = refl
owner_last (x ∷ []) = refl
owner_last (x ∷ y ∷ C) = owner_last (y ∷ C)

-- the owner is named
pub owner_in : (C : List ℕ) → (C ≡ [] → ⊥) → (y : ℕ) × In y C × (node y ≡ owner C)
owner_in [] h = absurd (h refl)
owner_in (x ∷ []) h = (x, inl refl, refl)
owner_in (x ∷ y ∷ C) h = let (z, i, e) = owner_in (y ∷ C) (λ q. grind (arith, q)) in (z, inr i, e)

pub in_not_nil : (x : ℕ) (C : List ℕ) → In x C → C ≡ [] → ⊥
in_not_nil x C i e = subst (In x) e i

abbrev pub Judged : List ℕ → List ℕ → Verdict → Type 0
Judged C D apart = Unit {0}
Judged C D subsumed = Subsumes C D
Judged C D (merged x) = Strengthens x C D × (length C ≡ length D) × (node x ≡ owner C → ⊥)
Judged C D both_lost = (x : ℕ) × Strengthens x C D × (length C ≡ length D) × (node x ≡ owner C)
Judged C D long_lost = (x : ℕ) × Strengthens x C D × (node x ≡ owner D)
Judged C D (strengthened z) = (x : ℕ) × (z ≡ opposite x) × Strengthens x C D × (node x ≡ owner D → ⊥)

judged_but : (C D : List ℕ) (x : ℕ) → Strengthens x C D → Judged C D (verdict_of C D (false, Some x))
judged_but C D x b = grind (arith, nat_tests, owner_last C, owner_last D)

judged_answer : (C D : List ℕ) (r : Bool × Option ℕ) → Fitted None C D r → Judged C D (verdict_of C D (test_answer r))
judged_answer C D (true, None) h = h
judged_answer C D (true, Some x) h = judged_but C D x h
judged_answer C D (false, o) h = tt

pub verdict_is : (C D : List ℕ) → Ordered C → Ordered D → Judged C D (verdict C D)
unfolding fits
verdict_is C D oC oD = judged_answer C D (fits_but_one C D) (fitted D C None oC oD)

-- part of a list that is no longer is all of it
pub sub_length : (D C : List ℕ) → Rising C → Rising D → Subsumes C D → length C ≤ length D
sub_length D [] rC rD s = omega arith
sub_length [] (c ∷ C) rC rD s = absurd (s c (inl refl))
sub_length (d ∷ D) (c ∷ C) (lc, rC) (ld, rD) s = ⊎_elim
    (λ e. let h : length C ≤ length D = sub_length D C rC rD (λ l i. grind (arith, s l (inr i), lc l i)) in omega arith)
    (λ a. let h : length (c ∷ C) ≤ length D = sub_length D (c ∷ C) (lc, rC) rD (λ l i. grind (arith, s l i, s c (inl refl), lc l, ld c)) in omega arith)
    (cases_eq c d)

sub_full : (D C : List ℕ) → Rising C → Rising D → Subsumes C D → length C ≡ length D → Subsumes D C
sub_full [] C rC rD s e l i = absurd i
sub_full (d ∷ D) [] rC rD s e l i = absurd (omega (arith, e))
sub_full (d ∷ D) (c ∷ C) (lc, rC) (ld, rD) s e l i = ⊎_elim
    (λ q. let h : In l D → In l C = sub_full D C rC rD (λ k j. grind (arith, s k (inr j), lc k j)) (omega (arith, e)) l in grind (arith, h))
    (λ a. let h : length (c ∷ C) ≤ length D = sub_length D (c ∷ C) (lc, rC) rD (λ k j. grind (arith, s k j, s c (inl refl), lc k, ld c)) in absurd (omega (arith, e)))
    (cases_eq c d)

pub without_none : (x : ℕ) (C : List ℕ) → ((l : ℕ) → In l C → l ≡ x → ⊥) → length (without x C) ≡ length C
without_none x [] h = refl
without_none x (c ∷ C) h = grind (arith, nat_tests, h c (inl refl), without_none x C (λ l i. h l (inr i)))

pub without_length : (x : ℕ) (C : List ℕ) → Ordered C → In x C → suc (length (without x C)) ≡ length C
without_length x [] o i = absurd i
without_length x (c ∷ C) (lc, o) (inl e) = grind (arith, nat_tests, without_none x C (λ l i q. grind (arith, lc l i)))
without_length x (c ∷ C) (lc, o) (inr i) = grind (arith, nat_tests, without_length x C o i, lc x i)

-- where one clause fits another of its length but for x, the rest of the other is the rest of the one
pub equal_rest : (x : ℕ) (C D : List ℕ) → Ordered C → Ordered D → Strengthens x C D → length C ≡ length D → Subsumes (without (opposite x) D) (without x C)
equal_rest x C D oC oD b e =
    sub_full (without (opposite x) D) (without x C)
    (ordered_rising (without x C) (ordered_kept (λ l. not (eqb l x)) C oC)) (ordered_rising (without (opposite x) D) (ordered_kept (λ l. not (eqb l (opposite x))) D oD))
    (λ l i. let (j, a) = without_in x l C i in let (k, n) = b.rest l j a in in_without (opposite x) l D k n)
    (omega (arith, without_length x C oC b.here, without_length (opposite x) D oD b.there, e))

-- a clause without another literal than the last has the same owner
pub owner_without : (x : ℕ) (C : List ℕ) → Ordered C → (C ≡ [] → ⊥) → (node x ≡ owner C → ⊥) → owner (without x C) ≡ owner C
owner_without x C o ne a =
    let (y, i, e) = owner_in C ne in
    let i' : In y (without x C) = in_without x y C i (λ q. a (ap node (sym q) ∙ e)) in
    omega (arith, ordered_within (without x C) (ordered_kept (λ l. not (eqb l x)) C o) y i', owner_below (without x C) (owner C) (λ l j. ordered_within C o l (without_in x l C j).0), e)

-- without its owner's literal a clause does not name its owner
pub free_without : (x : ℕ) (C : List ℕ) → Ordered C → In x C → (l : ℕ) → In l (without x C) → node l ≡ node x → ⊥
free_without x C o i l j e = let (k, a) = without_in x l C j in a (ordered_once C o l x k i e)

-- a clause with the node x whose others are part of an ordered clause's others
pub owner_of : (x k : ℕ) (C : List ℕ) → Ordered C → (y : ℕ) → In y C → node y ≡ k → ((l : ℕ) → In l C → node l ≤ k) → owner C ≡ k
owner_of x k C o y i e w = omega (arith, ordered_within C o y i, owner_below C k w, e)

pub last_in : (C : List ℕ) → (C ≡ [] → ⊥) → In (last C) C
last_in [] h = absurd (h refl)
last_in (x ∷ []) h = inl refl
last_in (x ∷ y ∷ C) h = inr (last_in (y ∷ C) (λ q. grind (arith, q)))

-- and the same last literal
pub last_without : (x : ℕ) (C : List ℕ) → Ordered C → (C ≡ [] → ⊥) → (node x ≡ owner C → ⊥) → last (without x C) ≡ last C
last_without x C o ne a =
    let i : In (last C) (without x C) = in_without x (last C) C (last_in C ne) (λ q. a (ap node (sym q) ∙ sym (owner_last C))) in
    ordered_once C o (last (without x C)) (last C) (without_in x (last (without x C)) C (last_in (without x C) (in_not_nil (last C) (without x C) i))).0 (last_in C ne)
    (sym (owner_last (without x C)) ∙ owner_without x C o ne a ∙ owner_last C)
