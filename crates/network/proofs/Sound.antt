-- Resolution, strengthening and lost pairs are sound. Assumes nothing.
use Rattle.std.proofs.Common.{◌≡◌, ℕ, Bool, true, false, not, ◌⊎◌, ◌↔◌, List, [], ◌∷◌, sym, ◌∙◌, inl, inr, ⊎_elim, arith}
use Rattle.std.proofs.lemmas.Bool.{cases_eq, cases_Bool}
use Rattle.network.specs.Assignments.{Assignment, node, opposite, lit, put, holds, sat}
use Rattle.network.specs.Lists.{In}
use Rattle.network.specs.Levels.{Below, Total, Same}
use Rattle.network.specs.Networks.{Network, level, Free}
use Rattle.network.specs.Clauses.{without, Ordered, Subsumes}
use Rattle.network.specs.Resolution.{Resolvent, Tautology, Resolves, ResolvedAway}
use Rattle.network.specs.Subsumption.{Strengthens}
use Rattle.network.proofs.Literals.{lit_neg, node_neg}
use Rattle.network.proofs.Lists.{any_from, any_some, all_at, all_from, all_not}
use Rattle.network.proofs.Holding.{holds_put, holds_more}
use Rattle.network.proofs.Ordered.{ordered_once}
use Rattle.network.proofs.Resolution.{in_without, without_in}
use Rattle.network.proofs.Without.{lit_apart, pivot_in, resolved_use}

-- where two clauses hold, their resolvent does
pub resolution : (σ : Assignment) (x : ℕ) (C D : List ℕ) → holds σ C ≡ true → holds σ D ≡ true → Resolves x C D σ
resolution σ x C D c d =
    let (l, i, t) = any_some (lit σ) C c in
    let (m, j, u) = any_some (lit σ) D d in
    grind (arith, cases_eq l x, lit_neg σ x)

pub resolvent_holds : (σ : Assignment) (x : ℕ) (C D R : List ℕ) → Resolvent x C D R → Resolves x C D σ → holds σ R ≡ true
resolvent_holds σ x C D R r (l, i, t) = any_from (lit σ) R l (r.all l i) t

pub holds_resolvent : (σ : Assignment) (x : ℕ) (C D R : List ℕ) → Resolvent x C D R → holds σ R ≡ true → Resolves x C D σ
holds_resolvent σ x C D R r t = let k = any_some (lit σ) R t in (k.0, r.only k.0 k.1, k.2)

pub tautology_holds : (σ : Assignment) (x : ℕ) (C D : List ℕ) → Tautology x C D → Resolves x C D σ
tautology_holds σ x C D t = grind (arith, t.at, t.one, t.two, lit_neg σ t.at, cases_Bool (lit σ t.at))

-- C names v, or does not
pub named : (v : ℕ) (C : List ℕ) → Free v C ⊎ ((x : ℕ) × In x C × (node x ≡ v))
named v [] = inl (λ l i e. i)
named v (c ∷ C) = grind (arith, cases_eq (node c) v, named v C)

-- v by its definition: of the values of v, its clauses cs allow b alone, and the resolvents with its uses say what the uses say at b
module _ (cs us : List (List ℕ)) (v : ℕ) (σ : Assignment) (b : Bool) (oc : (D : List ℕ) → In D cs → Ordered D) (ou : (C : List ℕ) → In C us → Ordered C)
    (yes' : sat (put σ v b) cs ≡ true) (no' : sat (put σ v (not b)) cs ≡ false)
  where
    uses_gone : sat (put σ v b) us ≡ true → ResolvedAway v cs us σ
    uses_gone s C i = (
      (λ f. sym (holds_put σ v b C f) ∙ all_at (holds (put σ v b)) us s C i),
      λ x D xC nx j nD. pick x D xC nx j nD (resolution (put σ v b) x C D (all_at (holds (put σ v b)) us s C i) (all_at (holds (put σ v b)) cs yes' D j)),
    )
      where
        pick : (x : ℕ) (D : List ℕ) → In x C → node x ≡ v → In D cs → In (opposite x) D → Resolves x C D (put σ v b) → Resolves x C D σ
        pick x D xC nx j nD (l, inl (k, a), t) = (l, inl (k, a), sym (lit_apart σ v b l (λ e. a (ordered_once C (ou C i) l x k xC (e ∙ sym nx)))) ∙ t)
        pick x D xC nx j nD (l, inr (k, a), t) = (l, inr (k, a), sym (lit_apart σ v b l (λ e. a (ordered_once D (oc D j) l (opposite x) k nD (e ∙ sym nx ∙ sym (node_neg x))))) ∙ t)

    uses_back : ResolvedAway v cs us σ → sat (put σ v b) us ≡ true
    uses_back r = all_from (holds (put σ v b)) us each
      where
        at_use : (C : List ℕ) → In C us → (x : ℕ) → In x C → node x ≡ v → lit (put σ v b) x ≡ false → holds (put σ v b) C ≡ true
        at_use C i x xC nx f =
            let (D, j, d) = all_not (holds (put σ v (not b))) cs no' in
            resolved_use σ v b x C D nx f d ((r C i).1 x D xC nx j (pivot_in σ v b x D nx f (all_at (holds (put σ v b)) cs yes' D j) d))

        each : (C : List ℕ) → In C us → holds (put σ v b) C ≡ true
        each C i = ⊎_elim (λ f. holds_put σ v b C f ∙ (r C i).0 f)
            (λ (x, xC, nx). ⊎_elim (any_from (lit (put σ v b)) C x xC) (at_use C i x xC nx) (cases_Bool (lit (put σ v b) x))) (named v C)

    pub definition_out : (sat (put σ v b) us ≡ true) ↔ ResolvedAway v cs us σ
    definition_out = (uses_gone, uses_back)

-- C takes the opposite of its literal l out of D
pub strengthened : (σ : Assignment) (l : ℕ) (C D : List ℕ) → Strengthens l C D → holds σ C ≡ true → holds σ D ≡ true → holds σ (without (opposite l) D) ≡ true
strengthened σ l C D b c d = grind (arith, resolution σ l C D c d, in_without (opposite l), any_from (lit σ) (without (opposite l) D))

pub weaker : (σ : Assignment) (m : ℕ) (D : List ℕ) → holds σ (without m D) ≡ true → holds σ D ≡ true
weaker σ m D = holds_more σ (without m D) D (λ l i. (without_in m l D i).0)

-- C and D are A with a literal of the node k and its opposite: where k has a value, A holds
module _ (own : Network) (k x : ℕ) (A C D : List ℕ) (nx : node x ≡ k) (free : Free k A)
    (in_c : In C (own k)) (in_d : In D (own k)) (partC : Subsumes C (x ∷ A)) (partD : Subsumes D (opposite x ∷ A)) (total : Total (level own) k)
  where
    pub pair_gives : (σ : Assignment) → Below (level own) k σ → holds σ A ≡ true
    pair_gives σ s = go (total σ s)
      where
        go : (b : Bool) × level own k (put σ k b) → holds σ A ≡ true
        go (b, h) = sym (holds_put σ k b A free) ∙ pick (resolution (put σ k b) x C D (all_at (holds (put σ k b)) (own k) h C in_c) (all_at (holds (put σ k b)) (own k) h D in_d))
          where
            pick : Resolves x C D (put σ k b) → holds (put σ k b) A ≡ true
            pick (l, h, t) = grind (arith, any_from (lit (put σ k b)) A l, partC l, partD l)

    -- so a network without them, and without other clauses of k that have all of A, has the same models
    pub pair_lost : (new : Network) → ((j : ℕ) (E : List ℕ) → In E (new j) → In E (own j))
        → ((j : ℕ) (E : List ℕ) → In E (own j) → In E (new j) ⊎ ((j ≡ k) × Subsumes A E)) → Same (level own) (level new)
    pair_lost new part gone j σ s = (
      (λ h. all_from (holds σ) (new j) (λ E i. all_at (holds σ) (own j) h E (part j E i))),
      λ h. all_from (holds σ) (own j) (λ E i.
          ⊎_elim (all_at (holds σ) (new j) h E) (λ g. holds_more σ A E g.1 (pair_gives σ (rw g.0 at s))) (gone j E i)),
    )
