-- A clause that follows may be entered, as it is under the known values. Assumes nothing.
use Rattle.std.proofs.Common.{◌≡◌, ℕ, ◌<◌, true, ◌⊎◌, List, [], ◌∷◌, Some, sym, refl, ap, ◌∙◌, subst, inl, inr, ⊎_elim, arith}
use Rattle.network.specs.Assignments.{Assignment, node, holds}
use Rattle.network.specs.Lists.{In}
use Rattle.network.specs.Levels.{Below, Same}
use Rattle.network.specs.Networks.{Network, level, Within, WellPlaced}
use Rattle.network.specs.Clauses.{Ordered, owner}
use Rattle.network.proofs.Networks.{refined}
use Rattle.network.proofs.Ordered.{ordered_within}
use Rattle.network.specs.Values.{Values, with_value, sign, unit_of, simplified}
use Rattle.rules.specs.Kept.{obey, Kept, Traced}
use Rattle.rules.specs.Work.{known_by}
use Rattle.rules.proofs.Kept.{well, refine_kept, value_kept}
use Rattle.rules.proofs.Simplified.{Short, simplified_some, short_holds, unit_is}
use Rattle.network.proofs.Values.{simplified_ordered}

-- the network with one more clause, at its owner
pub record Plus (own new : Network) (S : List ℕ) : Type 0 where
  pub old : (k : ℕ) (E : List ℕ) → In E (own k) → In E (new k)
  pub here : In S (new (owner S))
  pub cases : (k : ℕ) (E : List ℕ) → In E (new k) → In E (own k) ⊎ ((E ≡ S) × (owner S ≡ k))

-- each literal of C stands in some clause
abbrev pub Occurs : Network → List ℕ → Type 0
Occurs own C = (l : ℕ) → In l C → (j : ℕ) × (D : List ℕ) × In D (own j) × In l D

-- C holds where the levels below some m do
abbrev pub Implied : Network → List ℕ → Type 0
Implied own C = (m : ℕ) × ((σ : Assignment) → Below (level own) m σ → holds σ C ≡ true)

module _ (first own new : Network) (n : ℕ) (V : Values) (gone frozen : Assignment) (K : Kept first own n V gone frozen) (pos : 0 < n)
    (C S : List ℕ) (e : simplified V C ≡ Some S) (oC : Ordered C) (occurs : Occurs own C) (implied : Implied own C) (p : Plus own new S)
  where
    sh : Short V C S
    sh = simplified_some V C S e

    oS : Ordered S
    oS = simplified_ordered V C S oC e

    literal_small : (l : ℕ) → In l S → node l < n
    literal_small l i =
        let (j, D, d, m) = occurs l (sh.0 l i).0 in
        omega (arith, K.clauses.small j D d, well first own n V gone frozen K j D d l m)

    owner_small : (T : List ℕ) → ((l : ℕ) → In l T → node l < n) → owner T < n
    owner_small [] h = pos
    owner_small (x ∷ []) h = h x (inl refl)
    owner_small (x ∷ y ∷ T) h = owner_small (y ∷ T) (λ l i. h l (inr i))

    new_clauses : WellPlaced new n
    new_clauses = record {
      order = λ k E i. ⊎_elim (K.clauses.order k E) (λ (q, o). subst Ordered (sym q) oS) (p.cases k E i);
      owned = λ k E i. ⊎_elim (K.clauses.owned k E) (λ (q, o). ap owner q ∙ o) (p.cases k E i);
      small = λ k E i. ⊎_elim (K.clauses.small k E) (λ (q, o). subst (λ j. j < n) o (owner_small S literal_small)) (p.cases k E i);
    }

    within_at : (k : ℕ) (E : List ℕ) → E ≡ S → owner S ≡ k → Within k E
    within_at k E q o = subst (λ T. Within k T) (sym q) (subst (λ j. Within j S) o (ordered_within S oS))

    same_new : Same (level own) (level new)
    same_new = refined own new (well first own n V gone frozen K) K.total
        (λ k E i. ⊎_elim inl (λ (q, o). inr (within_at k E q o, implied.0, λ σ s. ap (holds σ) q ∙ short_holds V σ C S sh (implied.1 (obey V σ) (K.obeyed implied.0 σ s)))) (p.cases k E i))
        (λ k E i. inl (p.old k E i))

    traced : Traced own new V
    traced k E l i j = ⊎_elim (λ h. inl (E, h, j)) (λ (q, o). let m = sh.0 l (subst (In l) q j) in inr (m.1, occurs l m.0)) (p.cases k E i)

    entered_kept : Kept first new n V gone frozen
    entered_kept = refine_kept first own n V gone frozen K new same_new new_clauses traced (λ k b v i. p.old k (unit_of k b) i)

    pub enter_kept : Kept first new n (known_by S V) gone frozen
    enter_kept = go S refl
      where
        single : (l : ℕ) → S ≡ l ∷ [] → Kept first new n (with_value V (node l) (sign l)) gone frozen
        single l q =
            let i : In l S = subst (In l) (sym q) (inl refl) in
            value_kept first new n V gone frozen entered_kept (node l) (sign l) (literal_small l i) (sh.0 l i).1
            (subst (λ T. In T (new (node l))) (q ∙ sym (unit_is l)) (subst (λ T. In S (new (owner T))) q p.here))

        go : (T : List ℕ) → S ≡ T → Kept first new n (known_by T V) gone frozen
        go [] q = entered_kept
        go (l ∷ []) q = single l q
        go (l ∷ k ∷ T) q = entered_kept
