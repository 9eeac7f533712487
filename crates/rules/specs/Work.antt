-- A work: a network under simplification; and its two ways of changing, by entering clauses and by clearing them.
-- Assumes nothing.
use Rattle.std.specs.Prelude.{ℕ, zero, suc, ◌+◌, ◌-◌, ◌*◌, Bool, true, false, cond, List, [], ◌∷◌, ◌++◌, map, length, replicate, Some, None, Option, nat_lt, slice_index_or}
use Rattle.std.specs.List.{swap_remove}
use Rattle.network.specs.Assignments.{node}
use Rattle.network.specs.Values.{Values, with_value, sign, simplified}
use Rattle.rules.specs.Store.{Meaning, up_to, enter, removed}

-- the nodes are 0 to top; out: the nodes taken out, the last first
pub record Work : Type 0 where
  pub top : ℕ
  pub frozen : ℕ → Bool
  pub store : Meaning
  pub values : Values
  pub out : List ℕ

-- the work with the store M
abbrev pub storing : Work → Meaning → Work
storing W M = record { top = W.top; frozen = W.frozen; store = M; values = W.values; out = W.out }

-- the work with the known values V
abbrev pub valuing : Work → Values → Work
valuing W V = record { top = W.top; frozen = W.frozen; store = W.store; values = V; out = W.out }

-- the work with n among the nodes taken out
abbrev pub taking_out : Work → ℕ → Work
taking_out W n = record { top = W.top; frozen = W.frozen; store = W.store; values = W.values; out = n ∷ W.out }

-- the clauses whose last literal is l
abbrev pub own_of : Work → ℕ → List (List ℕ)
own_of W l = W.store.own l

-- f at each of a list in turn
abbrev pub each : {X Y : Type 0} → (X → Y → Y) → List X → Y → Y
each f [] y = y
each f (x ∷ xs) y = each f xs (f x y)

-- the nodes 1 to top
abbrev pub nodes_of : Work → List ℕ
nodes_of W = map suc (up_to W.top)

-- the literals of the nodes 0 to top
abbrev pub literals_of : Work → List ℕ
literals_of W = up_to (2 * W.top + 2)

-- ## Entering

-- the known values with what a one-literal clause says of its node
abbrev pub known_by : List ℕ → Values → Values
known_by [] V = V
known_by (l ∷ []) V = with_value V (node l) (sign l)
known_by (l ∷ k ∷ C) V = V

-- the values after an entry: a refused clause says nothing
abbrev pub known_if : Bool → List ℕ → Values → Values
known_if b C V = cond b (known_by C V) V

-- what a simplified clause makes of a work; None: a literal of it was true
abbrev pub add_simplified : Option (List ℕ) → Work → Work
add_simplified None W = W
add_simplified (Some C) W = valuing (storing W (enter C W.store).0) (known_if (enter C W.store).1 C W.values)

-- a clause is entered as it is under the known values
unfoldable pub add : List ℕ → Work → Work
add C W = add_simplified (simplified W.values C) W

-- ## Clearing

-- the marked clauses of own l go, from place i on; what moves into a place is looked at next
unfoldable pub cleared : ℕ → ℕ → ℕ → List Bool → Meaning → Meaning
cleared zero l i marks M = M
cleared (suc f) l i marks M =
    cond (nat_lt i (length (M.own l)))
    (cond (slice_index_or marks i false) (cleared f l i (swap_remove marks i false) (removed l i M)) (cleared f l (suc i) marks M))
    M

-- the marked clauses of own l go; those past the marks are not marked
unfoldable pub clear : ℕ → List Bool → Meaning → Meaning
clear l marks M = cleared (length (M.own l)) l 0 (marks ++ replicate (length (M.own l) - length marks) false) M

-- every clause of own l goes
unfoldable pub clear_all : ℕ → Meaning → Meaning
clear_all l M = clear l (replicate (length (M.own l)) true) M
