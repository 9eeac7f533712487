-- Networks of clauses by their owners, and the settings that a network admits.
-- Assumes nothing.
use Rattle.std.specs.Prelude.{◌≡◌, ℕ, suc, ◌<◌, ◌≤◌, Bool, true, false, List, ◌≢◌}
use Rattle.network.specs.Assignments.{Assignment, node, holds, sat}
use Rattle.network.specs.Lists.{In}
use Rattle.network.specs.Clauses.{Ordered, owner}
use Rattle.network.specs.Levels.{Below, Total, Unique}

-- a network gives each node the clauses that it owns
abbrev pub Network : Type 0
Network = ℕ → List (List ℕ)

-- level k of a network: the clauses of node k hold
abbrev pub level : Network → ℕ → Assignment → Type 0
level own k σ = sat σ (own k) ≡ true

-- C names no node past k
abbrev pub Within : ℕ → List ℕ → Type 0
Within k C = (l : ℕ) → In l C → node l ≤ k

-- the clauses of a node name no node past it
abbrev pub Owned : Network → Type 0
Owned own = (k : ℕ) (C : List ℕ) → In C (own k) → Within k C

-- C does not name v
abbrev pub Free : ℕ → List ℕ → Type 0
Free v C = (l : ℕ) → In l C → node l ≢ v

-- C holds wherever the levels up to k do
abbrev pub Follows : Network → ℕ → List ℕ → Type 0
Follows own k C = (σ : Assignment) → Below (level own) (suc k) σ → holds σ C ≡ true

-- each clause is in order and stands at its owner, and the nodes are those below n
pub record WellPlaced (own : Network) (n : ℕ) : Type 0 where
  pub order : (k : ℕ) (C : List ℕ) → In C (own k) → Ordered C
  pub owned : (k : ℕ) (C : List ℕ) → In C (own k) → owner C ≡ k
  pub small : (k : ℕ) (C : List ℕ) → In C (own k) → k < n

-- a network of gates: each node has a value wherever the nodes below it are right, and only one unless it is frozen
pub record Gates (own : Network) (n : ℕ) (frozen : ℕ → Bool) : Type 0 where
  pub placed : WellPlaced own n
  pub total : (k : ℕ) → Total (level own) k
  pub unique : (k : ℕ) → k < n → frozen k ≡ false → Unique (level own) k

-- clauses admit a setting of the frozen nodes if the other nodes can take values that satisfy every clause
abbrev pub Admits : List (List ℕ) → (ℕ → Bool) → Assignment → Type 0
Admits Cs frozen setting = (σ : Assignment) × (sat σ Cs ≡ true) × ((k : ℕ) → frozen k ≡ true → σ k ≡ setting k)
