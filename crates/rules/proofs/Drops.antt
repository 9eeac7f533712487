-- Clauses dropped and shortened keep what is kept. Assumes nothing.
use Rattle.std.proofs.Common.{◌≡◌, ℕ, suc, ◌+◌, ◌≤◌, Bool, true, false, ◌⊎◌, List, [], ◌∷◌, Some, sym, refl, ap, ◌∙◌, subst, inl, inr, ⊎_elim, arith}
use Rattle.std.proofs.lemmas.Bool.{both_ways}
use Rattle.network.specs.Assignments.{Assignment, node, opposite, lit, holds}
use Rattle.network.specs.Lists.{In}
use Rattle.network.specs.Levels.{Below, Same}
use Rattle.network.specs.Networks.{Network, level, Within, Free, WellPlaced}
use Rattle.network.specs.Clauses.{Ordered, Subsumes, owner}
use Rattle.network.proofs.Levels.{extend}
use Rattle.network.proofs.Networks.{refined, locals, clause_at}
use Rattle.network.proofs.Ordered.{ordered_within, owner_below}
use Rattle.network.proofs.Sound.{resolution, pair_lost}
use Rattle.network.proofs.Lists.{any_from}
use Rattle.network.specs.Values.{Values, unit_of}
use Rattle.rules.specs.Kept.{Known, Kept}
use Rattle.rules.proofs.Kept.{well, refine_kept}
use Rattle.rules.proofs.Enter.{Implied}
use Rattle.rules.proofs.Verdicts.{owner_in}

abbrev Single : List ℕ → Type 0
Single U = (y : ℕ) × (U ≡ y ∷ [])

unit_single : (k : ℕ) (b : Bool) → (y : ℕ) × (unit_of k b ≡ y ∷ []) × (node y ≡ k)
unfolding unit_of
unit_single k true = (_, refl, omega arith)
unit_single k false = (_, refl, omega arith)

-- an ordered clause with no other literal than y is that, or empty
single_of : (y : ℕ) (B : List ℕ) → Ordered B → Subsumes B (y ∷ []) → (B ≡ []) ⊎ (B ≡ y ∷ [])
single_of y [] o s = inl refl
single_of y (b ∷ []) o s = inr (grind (arith, s b (inl refl)))
single_of y (b ∷ c ∷ B) (lb, o) s = absurd (grind (arith, s b (inl refl), s c (inr (inl refl)), lb c (inl refl)))

-- E is part of a clause of the node k, in order and k's own, and follows
pub record PartAt (own : Network) (k : ℕ) (E : List ℕ) : Type 0 where
  pub whole : List ℕ
  pub at : In whole (own k)
  pub part : Subsumes E whole
  pub order : Ordered E
  pub owned : owner E ≡ k
  pub implied : Implied own E

module _ (first own : Network) (n : ℕ) (V : Values) (gone frozen : Assignment) (K : Kept first own n V gone frozen) where
  -- no clause is empty
  pub no_nil : (k : ℕ) → In [] (own k) → ⊥
  no_nil k i =
      let e = extend (level own) (locals own (well first own n V gone frozen K)) K.total (suc k) 0 (λ _. false) (λ j l. absurd (omega arith)) in
      both_ways false refl (clause_at own (suc k + 0) k [] e.0 e.2 (omega arith) i)

  pub not_nil : (k : ℕ) (C : List ℕ) → In C (own k) → C ≡ [] → ⊥
  not_nil k C i e = no_nil k (subst (λ B. In B (own k)) e i)

  -- what follows from the levels below some k is not empty
  implied_nil : (k : ℕ) → ((σ : Assignment) → Below (level own) k σ → holds σ [] ≡ true) → ⊥
  implied_nil k h =
      let e = extend (level own) (locals own (well first own n V gone frozen K)) K.total k 0 (λ _. false) (λ j l. absurd (omega arith)) in
      both_ways false refl (h e.0 (λ j l. e.2 j (omega arith)))

  -- each new clause is part of one of its node and follows; and each that goes has all of one that is there
  module _ (new : Network)
      (added : (k : ℕ) (E : List ℕ) → In E (new k) → In E (own k) ⊎ PartAt own k E)
      (lost : (k : ℕ) (E : List ℕ) → In E (own k) → In E (new k) ⊎ ((B : List ℕ) × In B (new (owner B)) × Subsumes B E))
    where
      added_clauses : WellPlaced new n
      added_clauses = record {
        order = λ k E i. ⊎_elim (K.clauses.order k E) (λ p. p.order) (added k E i);
        owned = λ k E i. ⊎_elim (K.clauses.owned k E) (λ p. p.owned) (added k E i);
        small = λ k E i. ⊎_elim (K.clauses.small k E) (λ p. K.clauses.small k p.whole p.at) (added k E i);
      }

      sub_lower : (k : ℕ) (E B : List ℕ) → In E (own k) → Subsumes B E → owner B ≤ k
      sub_lower k E B i s = owner_below B k (λ l j. well first own n V gone frozen K k E i l (s l j))

      same_swap : Same (level own) (level new)
      same_swap = refined own new (well first own n V gone frozen K) K.total
          (λ k E i. ⊎_elim inl (λ p. inr (subst (λ j. Within j E) p.owned (ordered_within E p.order), p.implied.0, p.implied.1)) (added k E i))
          (λ k E i. ⊎_elim inl (λ (B, b, s). inr (owner B, B, sub_lower k E B i s, b, s)) (lost k E i))

      units : (k : ℕ) (b : Bool) → V k ≡ Some b → Known own k b → Known new k b
      units k b v i = ⊎_elim (λ j. j) swapped (lost k (unit_of k b) i)
        where
          swapped : (B : List ℕ) × In B (new (owner B)) × Subsumes B (unit_of k b) → In (unit_of k b) (new k)
          swapped (B, j, s) =
              let (y, e, q) = unit_single k b in
              ⊎_elim (λ z. absurd (nil (owner B) B j z)) (λ z. subst (λ T. In T (new k)) (z ∙ sym e) (subst (λ h. In B (new h)) (ap owner z ∙ q) j))
              (single_of y B (added_clauses.order (owner B) B j) (λ l m. subst (In l) e (s l m)))
            where
              nil : (h : ℕ) (B : List ℕ) → In B (new h) → B ≡ [] → ⊥
              nil h B j z = ⊎_elim (λ m. not_nil h B m z) (λ p. implied_nil p.implied.0 (λ σ w. sym (ap (holds σ) z) ∙ p.implied.1 σ w)) (added h B j)

      pub swap_kept : Kept first new n V gone frozen
      swap_kept = refine_kept first own n V gone frozen K new same_swap added_clauses
          (λ k C l i j. inl (⊎_elim (λ m. (C, m, j)) (λ p. (p.whole, p.at, p.part l j)) (added k C i))) units

  -- a pair with opposite literals of their node k, and the rest A: what has all of A may go from k
  module _ (new : Network) (k x : ℕ) (A C D : List ℕ) (nx : node x ≡ k) (free : Free k A) (in_c : In C (own k)) (in_d : In D (own k))
      (partC : Subsumes C (x ∷ A)) (partD : Subsumes D (opposite x ∷ A))
      (part : (j : ℕ) (E : List ℕ) → In E (new j) → In E (own j))
      (lost : (j : ℕ) (E : List ℕ) → In E (own j) → In E (new j) ⊎ ((j ≡ k) × Subsumes A E))
    where
      a_not_nil : A ≡ [] → ⊥
      a_not_nil e = implied_nil (suc k) (λ σ s. sym (ap (holds σ) e) ∙ pick σ (resolution σ x C D (clause_at own (suc k) k C σ s (omega arith) in_c) (clause_at own (suc k) k D σ s (omega arith) in_d)))
        where
          pick : (σ : Assignment) → (l : ℕ) × ((In l C × (l ≡ x → ⊥)) ⊎ (In l D × (l ≡ opposite x → ⊥))) × (lit σ l ≡ true) → holds σ A ≡ true
          pick σ (l, h, t) = grind (arith, any_from (lit σ) A l, partC l, partD l)

      pub pair_kept : Kept first new n V gone frozen
      pair_kept = refine_kept first own n V gone frozen K new (pair_lost own k x A C D nx free in_c in_d partC partD (K.total k) new part lost)
          (record { order = λ j E i. K.clauses.order j E (part j E i); owned = λ j E i. K.clauses.owned j E (part j E i); small = λ j E i. K.clauses.small j E (part j E i) })
          (λ j E l i m. inl (E, part j E i, m))
          (λ j b v i. ⊎_elim (λ h. h) (λ (q, s). absurd (gone_unit j b q s)) (lost j (unit_of j b) i))
        where
          gone_unit : (j : ℕ) (b : Bool) → j ≡ k → Subsumes A (unit_of j b) → ⊥
          gone_unit j b q s = grind (arith, unit_single j b, owner_in A a_not_nil, a_not_nil)
