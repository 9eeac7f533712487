-- Networks of clauses: what may be added and removed. Assumes nothing.
use Rattle.std.proofs.Common.{◌≡◌, ℕ, suc, ◌<◌, ◌≤◌, true, ◌⊎◌, List, sym, ◌∙◌, ⊎_elim, arith}
use Rattle.network.specs.Assignments.{Assignment, node, holds, Agree}
use Rattle.network.specs.Lists.{In}
use Rattle.network.specs.Levels.{Below, Total, Locals, Same}
use Rattle.network.specs.Networks.{Network, level, Within, Owned, Follows}
use Rattle.network.specs.Clauses.{Subsumes}
use Rattle.network.proofs.Lists.{all_at, all_from}
use Rattle.network.proofs.Holding.{holds_agree, holds_more}
use Rattle.network.proofs.Levels.{below_more, conservative}

pub within_agree : (k : ℕ) (C : List ℕ) → Within k C → (σ τ : Assignment) → Agree (suc k) σ τ → holds σ C ≡ holds τ C
within_agree k C w σ τ a = holds_agree σ τ C (λ l i. a (node l) (omega (arith, w l i)))

pub locals : (own : Network) → Owned own → Locals (level own)
locals own wf k σ τ a s = all_from (holds τ) (own k) (λ C i. sym (within_agree k C (wf k C i) σ τ a) ∙ all_at (holds σ) (own k) s C i)

-- a clause of a level holds where the level does
pub clause_at : (own : Network) (k j : ℕ) (C : List ℕ) (σ : Assignment) → Below (level own) k σ → j < k → In C (own j) → holds σ C ≡ true
clause_at own k j C σ s l i = all_at (holds σ) (own j) (s j l) C i

-- where each node has a value, a clause that follows from some levels follows from those of the nodes that it names
pub follows_down : (own : Network) → Owned own → ((i : ℕ) → Total (level own) i) → (k m : ℕ) (C : List ℕ) → Within k C
    → ((σ : Assignment) → Below (level own) m σ → holds σ C ≡ true) → Follows own k C
follows_down own wf t k m C w h =
    conservative (level own) (locals own wf) t (suc k) m (λ σ. holds σ C ≡ true) (λ σ τ a e. sym (within_agree k C w σ τ a) ∙ e) h

module _ (own new : Network)
    (sound : (k : ℕ) (C : List ℕ) → In C (new k) → Follows own k C)
    (complete : (k : ℕ) (C : List ℕ) → In C (own k) → Follows new k C) where
  to_new : (k : ℕ) (σ : Assignment) → Below (level own) k σ → Below (level new) k σ
  to_new k σ s j l = all_from (holds σ) (new j) (λ C i. sound j C i σ (λ n m. s n (omega arith)))

  pub same_from_follows : Same (level own) (level new)
  same_from_follows k σ s = grind (arith, to_new (suc k) σ, below_more (level own) k σ s, all_from (holds σ) (own k), below_more (level new) k σ (to_new k σ s), to_new k σ s)

-- a network changed so that each clause added follows from the old clauses, and each clause taken away has all of a clause
-- that is left, at its node or below: it says the same at each level
pub refined : (own new : Network) → Owned own → ((i : ℕ) → Total (level own) i)
    → ((k : ℕ) (C : List ℕ) → In C (new k) → In C (own k) ⊎ (Within k C × (m : ℕ) × ((σ : Assignment) → Below (level own) m σ → holds σ C ≡ true)))
    → ((k : ℕ) (C : List ℕ) → In C (own k) → In C (new k) ⊎ ((j : ℕ) × (B : List ℕ) × (j ≤ k) × In B (new j) × Subsumes B C))
    → Same (level own) (level new)
refined own new wf t added gone = same_from_follows own new
    (λ k C i. ⊎_elim (λ j σ s. clause_at own (suc k) k C σ s (omega arith) j) (λ (w, m, f). follows_down own wf t k m C w f) (added k C i))
    (λ k C i σ s. ⊎_elim (clause_at new (suc k) k C σ s (omega arith))
    (λ (j, B, l, h, b). holds_more σ B C b (clause_at new (suc k) j B σ s (omega arith) h)) (gone k C i))
