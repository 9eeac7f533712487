-- What a network under simplification keeps of the network that it began as, with the values known: level by level.
-- Assumes nothing.
use Rattle.std.specs.Prelude.{◌≡◌, ℕ, ◌<◌, Bool, true, false, ◌⊎◌, List, Some, None, Option, ◌≢◌}
use Rattle.network.specs.Assignments.{Assignment, node, lit}
use Rattle.network.specs.Lists.{In}
use Rattle.network.specs.Levels.{Below, Total, Unique}
use Rattle.network.specs.Networks.{Network, level, Free, WellPlaced}
use Rattle.network.specs.Values.{Values, unit_of, Obeys}

-- the known value, or else another
abbrev pub or_else : Option Bool → Bool → Bool
or_else None c = c
or_else (Some b) c = b

-- the assignment with the known values put in
unfoldable pub obey : Values → Assignment → Assignment
obey V σ k = or_else (V k) (σ k)

-- node k has the clause that gives it the value b
abbrev pub Known : Network → ℕ → Bool → Type 0
Known own k b = In (unit_of k b) (own k)

-- node k has no clause, and where it is named the value b makes its literal false
abbrev pub Idle : Network → ℕ → Bool → Type 0
Idle own k b = (j : ℕ) (C : List ℕ) (l : ℕ) → In C (own j) → In l C → node l ≡ k → (j ≢ k) × (lit (λ _. b) l ≡ false)

-- every node has a value wherever the levels below hold
abbrev pub AllTotal : Network → Type 0
AllTotal own = (k : ℕ) → Total (level own) k

-- and only one, unless it is frozen, taken out, or has a known value
abbrev pub OthersUnique : Network → ℕ → Values → Assignment → Assignment → Type 0
OthersUnique own n V gone frozen = (k : ℕ) → k < n → frozen k ≡ false → gone k ≡ false → V k ≡ None → Unique (level own) k

-- no clause names a node that is taken out
abbrev pub GoneAbsent : Network → Assignment → Type 0
GoneAbsent own gone = (v : ℕ) → gone v ≡ true → (k : ℕ) (C : List ℕ) → In C (own k) → Free v C

-- the levels that hold still hold if the known values are put in
abbrev pub ValuesObeyed : Network → Values → Type 0
ValuesObeyed own V = (k : ℕ) (σ : Assignment) → Below (level own) k σ → Below (level own) k (obey V σ)

-- a node with a known value has its clause, or is a harmless stray
abbrev pub ValuesSettled : Network → Values → Type 0
ValuesSettled own V = (k : ℕ) (b : Bool) → V k ≡ Some b → Known own k b ⊎ Idle own k b

-- a model of the first network is one, with the known values
abbrev pub ModelsKept : Network → Network → ℕ → Values → Type 0
ModelsKept first own n V = (σ : Assignment) → Below (level first) n σ → Below (level own) n σ × Obeys σ V

-- a model with the known values is one of the first network, but for the nodes taken out
abbrev pub ModelsBack : Network → Network → ℕ → Values → Assignment → Type 0
ModelsBack first own n V gone = (σ : Assignment) → Below (level own) n σ → Obeys σ V → (τ : Assignment) × Below (level first) n τ × ((k : ℕ) → gone k ≡ false → τ k ≡ σ k)

-- first: the network taken in; n: how many nodes; gone: the nodes taken out
pub record Kept (first own : Network) (n : ℕ) (V : Values) (gone frozen : Assignment) : Type 0 where
  pub clauses : WellPlaced own n
  pub total : AllTotal own
  pub unique : OthersUnique own n V gone frozen
  pub absent : GoneAbsent own gone
  -- a frozen node is never taken out; node 0 is frozen, and keeps the clause of its value
  pub there : (k : ℕ) → frozen k ≡ true → gone k ≡ false
  pub base : frozen 0 ≡ true
  pub zero : (b : Bool) → V 0 ≡ Some b → Known own 0 b
  pub obeyed : ValuesObeyed own V
  pub settled : ValuesSettled own V
  pub valued : (k : ℕ) (b : Bool) → V k ≡ Some b → k < n
  pub kept : ModelsKept first own n V
  pub back : ModelsBack first own n V gone

-- each literal of the new network stands in a clause of the same node, or in some clause and has no known value
abbrev pub Traced : Network → Network → Values → Type 0
Traced own new V = (k : ℕ) (C : List ℕ) (l : ℕ) → In C (new k) → In l C
    → ((D : List ℕ) × In D (own k) × In l D) ⊎ ((V (node l) ≡ None) × ((j : ℕ) × (D : List ℕ) × In D (own j) × In l D))
