-- The network that a store holds, by nodes.
-- Assumes nothing.
use Rattle.std.specs.Prelude.{◌≡◌, ℕ, ◌+◌, ◌*◌, List, ◌++◌}
use Rattle.network.specs.Lists.{In}
use Rattle.network.specs.Clauses.{last}
use Rattle.network.specs.Networks.{Network}
use Rattle.rules.specs.Store.{Meaning}

-- the clauses of both literals of a node
unfoldable pub held : Meaning → Network
held M k = M.own (2 * k) ++ M.own (2 * k + 1)

-- each clause stands in the list of its last literal
abbrev pub Placed : Meaning → Type 0
Placed M = (l : ℕ) (C : List ℕ) → In C (M.own l) → last C ≡ l
