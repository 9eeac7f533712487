-- A node taken out by what clauses name: in each own list those that name it go. Assumes nothing.
use Rattle.std.specs.Prelude.{ℕ, ◌+◌, ◌-◌, ◌*◌, Bool, false, cond, ◌||◌, List, map, ◌==◌}
use Rattle.std.specs.List.{list_any}
use Rattle.network.specs.Assignments.{node}
use Rattle.rules.specs.Store.{Ref, live, dead, Meaning, from}
use Rattle.rules.specs.Work.{Work, storing, taking_out, each, clear}

-- the clause names the node n
abbrev pub names : ℕ → List ℕ → Bool
names n C = list_any (λ l. node l == n) C

-- the store without the clauses of own l that name n
unfoldable pub without_named : ℕ → ℕ → Meaning → Meaning
without_named n l M = clear l (map (names n) (M.own l)) M

-- the literals of the nodes after n, up to top
abbrev pub literals_after : ℕ → ℕ → List ℕ
literals_after n top = from (2 * n + 2) (2 * (top - n))

-- the ref is to a clause of own l
abbrev pub is_of : ℕ → Ref → Bool
is_of l (live k j) = k == l
is_of l dead = false

-- some use of n is a clause of own l
abbrev pub used_in : Meaning → ℕ → ℕ → Bool
used_in M n l = list_any (is_of l) (M.uses (2 * n)) || list_any (is_of l) (M.uses (2 * n + 1))

-- the store without the clauses of own l that name n, if some use of n was there in the store M
abbrev pub gone_if_used : Meaning → ℕ → ℕ → Meaning → Meaning
gone_if_used M n l N = cond (used_in M n l) (without_named n l N) N

-- the store without the clauses of later nodes, up to top, that name n
abbrev pub uses_gone : ℕ → ℕ → Meaning → Meaning
uses_gone n top M = each (gone_if_used M n) (literals_after n top) M

-- the work without n
unfoldable pub named_out : ℕ → Work → Work
named_out n W = storing (taking_out W n) (without_named n (2 * n + 1) (without_named n (2 * n) (uses_gone n W.top W.store)))
