-- Clauses as lists of literals: their order, their owner, and one as part of another.
-- Assumes nothing.
use Rattle.std.specs.Prelude.{ℕ, ◌<◌, Bool, true, not, ◌&&◌, List, [], ◌∷◌, length, filter, ◌==◌, nat_eq, nat_le, nat_lt}
use Rattle.std.specs.List.{list_any}
use Rattle.network.specs.Assignments.{node}
use Rattle.network.specs.Lists.{In}

-- literals rise strictly
abbrev pub Rising : List ℕ → Type 0
Rising [] = Unit {0}
Rising (x ∷ xs) = ((y : ℕ) → In y xs → x < y) × Rising xs

-- the nodes rise strictly: the literals rise, and no node is named twice
abbrev pub Ordered : List ℕ → Type 0
Ordered [] = Unit {0}
Ordered (x ∷ xs) = ((y : ℕ) → In y xs → node x < node y) × Ordered xs

-- the test of that order, from a node on
abbrev pub in_order_from : ℕ → List ℕ → Bool
in_order_from p [] = true
in_order_from p (y ∷ C) = nat_lt p (node y) && in_order_from (node y) C

-- the test of that order
abbrev pub in_order : List ℕ → Bool
in_order [] = true
in_order (x ∷ C) = in_order_from (node x) C

-- the last literal, 0 where there is none
abbrev pub last : List ℕ → ℕ
last [] = 0
last (x ∷ []) = x
last (x ∷ y ∷ C) = last (y ∷ C)

-- the literals but the last
abbrev pub front : List ℕ → List ℕ
front [] = []
front (x ∷ []) = []
front (x ∷ y ∷ C) = x ∷ front (y ∷ C)

-- a clause belongs to the node of its last literal, the empty one to node 0
abbrev pub owner : List ℕ → ℕ
owner [] = 0
owner (x ∷ []) = node x
owner (x ∷ y ∷ C) = owner (y ∷ C)

-- the test that a clause belongs to node n
abbrev pub owned : ℕ → List ℕ → Bool
owned n C = owner C == n

-- the test that l stands in a clause
abbrev pub has : ℕ → List ℕ → Bool
has l C = list_any (nat_eq l) C

-- the clause without the literal x
abbrev pub without : ℕ → List ℕ → List ℕ
without x C = filter (λ l. not (l == x)) C

-- C subsumes D: each literal of C stands in D
abbrev pub Subsumes : List ℕ → List ℕ → Type 0
Subsumes C D = (l : ℕ) → In l C → In l D

-- what a store takes: 1 to 32 literals in order, of the nodes up to 1,023
abbrev pub well_formed : List ℕ → Bool
well_formed C = nat_lt 0 (length C) && nat_le (length C) 32 && in_order C && nat_lt (last C) 2048
