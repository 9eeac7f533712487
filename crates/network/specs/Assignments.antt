-- Literals, and what clauses say of an assignment. Literal 2n says that node n is true, 2n + 1 that it is false.
-- Assumes nothing.
use Rattle.std.specs.Prelude.{◌≡◌, ℕ, ◌+◌, ◌-◌, ◌/◌, ◌%◌, ◌<◌, Bool, cond, not, List, ◌==◌}
use Rattle.std.specs.List.{list_any, list_all}
use Rattle.network.specs.Lists.{In}

-- an assignment gives each node a value
abbrev pub Assignment : Type 0
Assignment = ℕ → Bool

-- the node that a literal names
abbrev pub node : ℕ → ℕ
node l = l / 2

-- the literal of the same node with the other sign
unfoldable pub opposite : ℕ → ℕ
opposite l = cond (l % 2 == 0) (l + 1) (l - 1)

-- the value of a literal
unfoldable pub lit : Assignment → ℕ → Bool
lit σ l = cond (l % 2 == 0) (σ (l / 2)) (not (σ (l / 2)))

-- the assignment with the value b for node n
unfoldable pub put : Assignment → ℕ → Bool → Assignment
put σ n b k = cond (k == n) b (σ k)

-- a clause holds if one of its literals is true
abbrev pub holds : Assignment → List ℕ → Bool
holds σ C = list_any (lit σ) C

-- clauses are satisfied if each of them holds
abbrev pub sat : Assignment → List (List ℕ) → Bool
sat σ Cs = list_all (holds σ) Cs

-- two assignments agree on the nodes below k
abbrev pub Agree : ℕ → Assignment → Assignment → Type 0
Agree k σ τ = (n : ℕ) → n < k → σ n ≡ τ n

-- two assignments agree on the nodes that a clause names
abbrev pub AgreeOn : List ℕ → Assignment → Assignment → Type 0
AgreeOn C σ τ = (l : ℕ) → In l C → σ (node l) ≡ τ (node l)
