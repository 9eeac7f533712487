-- const_simplify: the clauses of each node under the known values, and no clause for a node with a value.
-- Assumes nothing.
use Rattle.std.specs.Prelude.{ℕ, ◌+◌, ◌*◌, Bool, true, false, cond, List, [], ◌∷◌, length, Some, None, Option, ◌==◌, nat_lt}
use Rattle.network.specs.Clauses.{last}
use Rattle.network.specs.Values.{Values, simplified}
use Rattle.rules.specs.Store.{index_off}
use Rattle.rules.specs.Work.{Work, storing, own_of, each, nodes_of, add, clear, clear_all}

-- a clause under the values: it goes (a literal is true, or its own literal false), has a shorter form, or stays as it is
pub data Fate : Type 0 where
  goes : Fate
  shrinks : List ℕ → Fate
  stays : Fate

-- the fate of C whose simplified form is given
abbrev pub fate_of : List ℕ → Option (List ℕ) → Fate
fate_of C None = goes
fate_of C (Some S) = cond (last S == last C) (cond (nat_lt (length S) (length C)) (shrinks S) stays) goes

-- the fate of C under the values
abbrev pub fate : Values → List ℕ → Fate
fate V C = fate_of C (simplified V C)

-- one more mark in front
abbrev pub marking : Bool → List Bool × Work → List Bool × Work
marking b r = (b ∷ r.0, r.1)

-- a clause with its fate, and then the others: one that goes is marked, and a shorter form is entered beside the long one
abbrev pub judged_by : Fate → Work → (Work → List Bool × Work) → List Bool × Work
judged_by goes W go = marking true (go W)
judged_by (shrinks S) W go = marking false (go (add S W))
judged_by stays W go = marking false (go W)

-- the clauses in turn: whether each goes, and the work with the shorter forms entered
unfoldable pub judged : List (List ℕ) → Work → List Bool × Work
judged [] W = ([], W)
judged (C ∷ Cs) W = judged_by (fate W.values C) W (λ w. judged Cs w)

-- the marked clauses of both literals of n go
abbrev pub both_cleared : ℕ → List Bool → List Bool × Work → Work
both_cleared n marks r = storing r.1 (clear (2 * n + 1) r.0 (clear (2 * n) marks r.1.store))

-- the clauses Cs of the negative literal, after the positive one's
abbrev pub then_negative : ℕ → List (List ℕ) → List Bool × Work → Work
then_negative n Cs r = both_cleared n r.0 (judged Cs r.1)

-- the turn of node n: its clauses as they stand now are judged, and those that go leave at its end
unfoldable pub const_node : ℕ → Work → Work
const_node n W = then_negative n (own_of W (2 * n + 1)) (judged (own_of W (2 * n)) W)

-- x where a value is known, and else y
abbrev pub if_known : {X : Type 0} → Option Bool → X → X → X
if_known None x y = y
if_known (Some b) x y = x

-- a node with a value loses its clauses
unfoldable pub const_drop : ℕ → Work → Work
const_drop n W = if_known (W.values n) (storing W (clear_all (2 * n + 1) (clear_all (2 * n) W.store))) W

-- the pass: the index goes, the nodes from 1 have their turns, and then the valued ones lose their clauses
unfoldable pub const_simplify : Work → Work
const_simplify W = each const_drop (nodes_of W) (each const_node (nodes_of W) (storing W (index_off W.store)))
