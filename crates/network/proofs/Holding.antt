-- What a clause says of an assignment. Assumes nothing.
use Rattle.std.proofs.Common.{◌≡◌, ℕ, Bool, true, List}
use Rattle.network.specs.Assignments.{Assignment, node, lit, put, holds, AgreeOn}
use Rattle.network.specs.Lists.{In}
use Rattle.network.proofs.Lists.{any_from, any_some, any_same}
use Rattle.network.proofs.Literals.{lit_agree, put_apart}

-- a clause's value depends only on the nodes that it names
pub holds_agree : (σ τ : Assignment) (C : List ℕ) → AgreeOn C σ τ → holds σ C ≡ holds τ C
holds_agree σ τ C h = any_same (lit σ) (lit τ) C (λ l i. lit_agree σ τ l (h l i))

pub holds_put : (σ : Assignment) (n : ℕ) (b : Bool) (C : List ℕ) → ((l : ℕ) → In l C → node l ≡ n → ⊥) → holds (put σ n b) C ≡ holds σ C
holds_put σ n b C h = holds_agree (put σ n b) σ C (λ l i. put_apart σ n b (node l) (h l i))

-- a clause that has another's literals holds where that does
pub holds_more : (σ : Assignment) (C D : List ℕ) → ((l : ℕ) → In l C → In l D) → holds σ C ≡ true → holds σ D ≡ true
holds_more σ C D h t = let (l, i, e) = any_some (lit σ) C t in any_from (lit σ) D l (h l i) e
