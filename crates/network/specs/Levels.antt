-- A network by levels: level k is what the clauses of node k say of an assignment.
-- Assumes nothing.
use Rattle.std.specs.Prelude.{ℕ, suc, ◌<◌, Bool, true, false, ◌↔◌}
use Rattle.network.specs.Assignments.{Assignment, put, Agree}

-- the levels below k hold
abbrev pub Below : (ℕ → Assignment → Type 0) → ℕ → Assignment → Type 0
Below L k σ = (j : ℕ) → j < k → L j σ

-- node k has a value, wherever the levels below hold
abbrev pub Total : (ℕ → Assignment → Type 0) → ℕ → Type 0
Total L k = (σ : Assignment) → Below L k σ → (b : Bool) × L k (put σ k b)

-- node k has not two values, wherever the levels below hold
abbrev pub Unique : (ℕ → Assignment → Type 0) → ℕ → Type 0
Unique L k = (σ : Assignment) → Below L k σ → L k (put σ k true) → L k (put σ k false) → ⊥

-- what level k says depends on the nodes up to k alone
abbrev pub Local : ℕ → (Assignment → Type 0) → Type 0
Local k P = (σ τ : Assignment) → Agree (suc k) σ τ → P σ → P τ

-- each level depends on the nodes up to its own alone
abbrev pub Locals : (ℕ → Assignment → Type 0) → Type 0
Locals L = (k : ℕ) → Local k (L k)

-- two networks say the same at each level, where the levels below hold
abbrev pub Same : (ℕ → Assignment → Type 0) → (ℕ → Assignment → Type 0) → Type 0
Same L M = (k : ℕ) (σ : Assignment) → Below L k σ → L k σ ↔ M k σ
