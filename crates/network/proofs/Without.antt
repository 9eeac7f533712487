-- Without a node: a network from which the clauses that name the node v are gone, where each node of the rest has a
-- value, v has one alone, and the resolvents upon v hold. Assumes nothing.
use Rattle.std.proofs.Common.{◌≡◌, ℕ, suc, ◌<◌, ◌≤◌, Bool, true, false, not, ◌⊎◌, List, sym, refl, ◌∙◌, inl, inr, ⊎_elim, arith}
use Rattle.std.proofs.lemmas.Bool.{cases_eq, cases_lt, cases_order, cases_Bool}
use Rattle.std.proofs.lemmas.Bool.Decides.{nat_tests}
use Rattle.network.specs.Assignments.{Assignment, node, opposite, lit, put, holds, sat}
use Rattle.network.specs.Lists.{In}
use Rattle.network.specs.Levels.{Below, Total, Unique, Locals}
use Rattle.network.specs.Networks.{Network, level, Owned, Free}
use Rattle.network.specs.Resolution.{Resolves}
use Rattle.network.proofs.Literals.{lit_neg, lit_agree, put_apart, node_cases}
use Rattle.network.proofs.Lists.{all_at, all_from, all_not, any_from, any_some, any_none}
use Rattle.network.proofs.Holding.{holds_agree, holds_put}
use Rattle.network.proofs.Levels.{below_more, below_put, below_agree}
use Rattle.network.proofs.Networks.{locals, clause_at}

pub lit_apart : (σ : Assignment) (v : ℕ) (b : Bool) (l : ℕ) → (node l ≡ v → ⊥) → lit (put σ v b) l ≡ lit σ l
lit_apart σ v b l h = lit_agree (put σ v b) σ l (put_apart σ v b (node l) h)

lit_other : (σ : Assignment) (v : ℕ) (b : Bool) (l : ℕ) → node l ≡ v → lit (put σ v (not b)) l ≡ not (lit (put σ v b) l)
unfolding lit put
lit_other σ v b l h = grind (arith, nat_tests)

pub put_swap : (σ : Assignment) (v k : ℕ) (b c : Bool) (n : ℕ) → (k ≡ v → ⊥) → put (put σ v b) k c n ≡ put (put σ k c) v b n
unfolding put
put_swap σ v k b c n h = grind (arith, nat_tests)

pub put_under : (σ : Assignment) (v k : ℕ) (b c : Bool) (n : ℕ) → (n ≡ v → ⊥) → put (put σ v b) k c n ≡ put σ k c n
unfolding put
put_under σ v k b c n h = grind (arith, nat_tests)

-- a clause that v's other value breaks has the literal of v that is true
pub pivot_in : (σ : Assignment) (v : ℕ) (b : Bool) (x : ℕ) (D : List ℕ) → node x ≡ v → lit (put σ v b) x ≡ false
    → holds (put σ v b) D ≡ true → holds (put σ v (not b)) D ≡ false → In (opposite x) D
pivot_in σ v b x D nx xf t f =
    let (y, i, yt) = any_some (lit (put σ v b)) D t in
    let yf = any_none (lit (put σ v (not b))) D f y i in
    grind (arith, cases_eq (node y) v, node_cases y x, lit_apart σ v b y, lit_apart σ v (not b) y)

-- where v's other value breaks D, and the resolvent of C and D holds, C holds
pub resolved_use : (σ : Assignment) (v : ℕ) (b : Bool) (x : ℕ) (C D : List ℕ) → node x ≡ v → lit (put σ v b) x ≡ false
    → holds (put σ v (not b)) D ≡ false → Resolves x C D σ → holds (put σ v b) C ≡ true
resolved_use σ v b x C D nx xf f (l, h, t) =
    grind (
      arith,
      any_from (lit (put σ v b)) C l,
      any_none (lit (put σ v (not b))) D f l,
      cases_eq (node l) v,
      node_cases l x,
      lit_neg (put σ v b) x,
      lit_other σ v b x,
      lit_apart σ v b l,
      lit_apart σ v (not b) l,
    )

module _ (own new : Network) (v : ℕ) (wf : Owned own)
    (total : (k : ℕ) → Total (level own) k) (unique : Unique (level own) v)
    (part : (k : ℕ) (C : List ℕ) → In C (new k) → In C (own k))
    (free : (k : ℕ) (C : List ℕ) → In C (new k) → Free v C)
    (split : (k : ℕ) (C : List ℕ) → In C (own k) → In C (new k) ⊎ ((x : ℕ) × In x C × (node x ≡ v)))
    (resolved : (k x : ℕ) (C D : List ℕ) → v < k → In C (own k) → In x C → node x ≡ v → In D (own v) → In (opposite x) D
    → (σ : Assignment) → Below (level new) (suc k) σ → Resolves x C D σ)
  where
    wfn : Locals (level new)
    wfn = locals new (λ k C i. wf k C (part k C i))

    pub lower : (k : ℕ) (σ : Assignment) → k ≤ v → Below (level new) k σ → Below (level own) k σ
    lower k σ h s j l =
        all_from (holds σ) (own j)
        (λ C i. ⊎_elim (clause_at new k j C σ s l) (λ x. absurd (omega (arith, wf j C i x.0 x.1, x.2))) (split j C i))

    -- the other value of v breaks a clause of v
    other : (σ : Assignment) (b : Bool) → Below (level own) v σ → level own v (put σ v b) → sat (put σ v (not b)) (own v) ≡ false
    other σ true s h = ⊎_elim (λ t. absurd (unique σ s h t)) (λ f. f) (cases_Bool (sat (put σ v false) (own v)))
    other σ false s h = ⊎_elim (λ t. absurd (unique σ s t h)) (λ f. f) (cases_Bool (sat (put σ v true) (own v)))

    -- a use of v holds at its value
    use_holds : (k x : ℕ) (C : List ℕ) (σ : Assignment) (b : Bool) → v < k → In C (own k) → In x C → node x ≡ v
        → Below (level new) (suc k) σ → level own v (put σ v b) → lit (put σ v b) x ≡ false → holds (put σ v b) C ≡ true
    use_holds k x C σ b l i xC nx s h xf = go (all_not (holds (put σ v (not b))) (own v) (other σ b (lower v σ (omega arith) (λ j m. s j (omega arith))) h))
      where
        go : (D : List ℕ) × In D (own v) × (holds (put σ v (not b)) D ≡ false) → holds (put σ v b) C ≡ true
        go (D, dv, f) =
            resolved_use σ v b x C D nx xf f (resolved k x C D l i xC nx dv (pivot_in σ v b x D nx xf (all_at (holds (put σ v b)) (own v) h D dv) f) σ s)

    -- at a value of v that its clauses allow, the old network holds as far as the new one does
    pub restored : (k : ℕ) (σ : Assignment) (b : Bool) → Below (level new) k σ → level own v (put σ v b) → Below (level own) k (put σ v b)
    restored k σ b s h j l = all_from (holds (put σ v b)) (own j) each
      where
        each : (C : List ℕ) → In C (own j) → holds (put σ v b) C ≡ true
        each C i = ⊎_elim (λ n. holds_put σ v b C (free j C n) ∙ clause_at new k j C σ s l n) named (split j C i)
          where
            named : (x : ℕ) × In x C × (node x ≡ v) → holds (put σ v b) C ≡ true
            named (x, xC, nx) = elim (cases_order j v) [
              | inl e ↦ all_at (holds (put σ v b)) (own v) h C (rw e at i)
              | inr (inl m) ↦ absurd (omega (arith, wf j C i x xC))
              | inr (inr m) ↦ ⊎_elim (any_from (lit (put σ v b)) C x xC) (use_holds j x C σ b m i xC nx (λ n p. s n (omega arith)) h) (cases_Bool (lit (put σ v b) x))
            ]

    -- a model of the old network is one of the new, which has fewer clauses
    pub models_kept : (k : ℕ) (σ : Assignment) → Below (level own) k σ → Below (level new) k σ
    models_kept k σ s j l = all_from (holds σ) (new j) (λ C i. clause_at own k j C σ s l (part j C i))

    -- a model of the new network has a value of v that makes it a model of the old one, and not two
    pub has_value : (k : ℕ) (σ : Assignment) → v ≤ k → Below (level new) k σ → (b : Bool) × level own v (put σ v b) × Below (level own) k (put σ v b)
    has_value k σ l s = grind (arith, nat_tests, lower v σ, restored k σ)

    pub one_value : (k : ℕ) (σ : Assignment) → v < k → Below (level own) k (put σ v true) → Below (level own) k (put σ v false) → ⊥
    one_value k σ l p q =
        unique σ (below_agree (level own) (locals own wf) v (put σ v true) σ (λ n m. put_apart σ v true n (λ e. omega arith)) (λ j m. p j (omega arith))) (p v l) (q v l)

    -- each node of the new network has a value
    pub total_new : (k : ℕ) → Total (level new) k
    total_new k σ s = ⊎_elim (λ l. above (has_value k σ (omega arith) s)) (λ l. let c = total k σ (lower k σ l s) in (c.0, fit σ c.0 (λ n a. refl) c.1)) (cases_lt v k)
      where
        fit : (τ : Assignment) (c : Bool) → ((n : ℕ) → (n ≡ v → ⊥) → put τ k c n ≡ put σ k c n) → level own k (put τ k c) → level new k (put σ k c)
        fit τ c e t =
            all_from (holds (put σ k c)) (new k)
            (λ C i. holds_agree (put σ k c) (put τ k c) C (λ x j. sym (e (node x) (free k C i x j))) ∙ all_at (holds (put τ k c)) (own k) t C (part k C i))

        above : (b : Bool) × level own v (put σ v b) × Below (level own) k (put σ v b) → (c : Bool) × level new k (put σ k c)
        above (b, h, o) = let c = total k (put σ v b) o in (c.0, fit (put σ v b) c.0 (put_under σ v k b c.0) c.1)

    pub unique_new : (k : ℕ) → (k ≡ v → ⊥) → Unique (level own) k → Unique (level new) k
    unique_new k a u σ s p q = elim (cases_order v k) [
      | inl e ↦ a (sym e)
      | inr (inl l) ↦ above l (has_value k σ (omega arith) s)
      | inr (inr l) ↦ u σ (lower k σ (omega arith) s) (old l true p) (old l false q)
    ]
      where
        old : k < v → (c : Bool) → level new k (put σ k c) → level own k (put σ k c)
        old l c t = lower (suc k) (put σ k c) l (below_more (level new) k (put σ k c) (below_put (level new) wfn k σ k c (omega arith) s) t) k (omega arith)

        above : v < k → (b : Bool) × level own v (put σ v b) × Below (level own) k (put σ v b) → ⊥
        above l (b, h, o) = u (put σ v b) o (at true p) (at false q)
          where
            at : (c : Bool) → level new k (put σ k c) → level own k (put (put σ v b) k c)
            at c t =
                locals own wf k (put (put σ k c) v b) (put (put σ v b) k c) (λ n m. sym (put_swap σ v k b c n a))
                (restored (suc k) (put σ k c) b (below_more (level new) k (put σ k c) (below_put (level new) wfn k σ k c (omega arith) s) t)
                (locals own wf v (put σ v b) (put (put σ k c) v b) (λ n m. sym (put_apart (put σ v b) k c n (λ e. omega arith)) ∙ put_swap σ v k b c n a) h) k (omega arith))
