-- What take-in, `froze` and the search for loose nodes answer. Assumes nothing.
use Rattle.std.specs.Prelude.{ℕ, zero, suc, ◌+◌, ◌^◌, Bool, true, false, cond, not, ◌&&◌, List, [], ◌∷◌, ◌++◌, length, replicate, Some, None, Ok, Err, Option, Result, ◌==◌, nat_le, slice_index_or, slice_set}
use Rattle.std.specs.List.{list_all}
use Rattle.network.specs.Clauses.{in_order, owned}
use Rattle.network.specs.Rows.{lower, no_value, two_values, some_row}
use Rattle.image.specs.Faults.{fault, tested, ◌then◌}
use Rattle.image.specs.Headers.{top, stated_count, headed, run}
use Rattle.image.specs.Runs.{whole, clauses}
use Rattle.image.specs.declared.fault.Fault.{Fault}

-- what the search through the rows of the nodes xs tells: a clash, or whether a row leaves node n both values
unfoldable pub searched : List ℕ → ℕ → List (List ℕ) → Result Bool Fault
searched xs n Cs = cond (some_row (no_value xs n Cs) (2 ^ length xs)) (Err (fault 6 n)) (Ok (some_row (two_values xs n Cs) (2 ^ length xs)))

-- whether a row of a node's run allows both values, where the lower nodes are few enough and each row allows one
unfoldable pub rows_answer : ℕ → List ℕ → Result Bool Fault
rows_answer n ws = tested (nat_le (length (lower n (clauses ws))) 8) (fault 5 n) then (λ _. searched (lower n (clauses ws)) n (clauses ws))

-- the number of a node's clauses, or the first of its faults: cut, order, owner, wide, clash
unfoldable pub node_answer : ℕ → List ℕ → Result ℕ Fault
node_answer n ws =
    cond (whole ws) (Ok (length (clauses ws))) (Err (fault 2 n))
    then (λ count. tested (list_all in_order (clauses ws)) (fault 3 n)
    then (λ _. tested (list_all (owned n) (clauses ws)) (fault 4 n)
    then (λ _. rows_answer n ws
    then (λ _. Ok count))))

-- the number of clauses of so many nodes, or the first fault of the lowest node that has one
unfoldable pub nodes_answer : List ℕ → ℕ → Result ℕ Fault
nodes_answer ws zero = Ok 0
nodes_answer ws (suc k) = nodes_answer ws k then (λ c. node_answer (suc k) (run ws (suc k)) then (λ d. Ok (c + d)))

-- what take-in answers: the header, then the nodes rising, then the number of clauses
unfoldable pub take_in_answer : List ℕ → Result (Unit {0}) Fault
take_in_answer ws =
    cond (headed ws) (Ok (top ws)) (Err (fault 1 0)) then (λ m. nodes_answer ws m then (λ c. tested (stated_count ws == c) (fault 7 0)))

-- whether take-in accepts an image
unfoldable pub accepts : List ℕ → Bool
accepts ws = elim (take_in_answer ws) [ Ok _ ↦ true | Err f ↦ false ]

-- the smallest image, of node 0 alone
abbrev pub smallest : List ℕ
smallest = 0 ∷ 0 ∷ 3 ∷ []

-- only node 0 is frozen
abbrev pub only_zero : List Bool
only_zero = slice_set (replicate 1024 false) 0 true

-- what `froze` answers
abbrev pub froze_answer : List ℕ → ℕ → Result (Unit {0}) Fault
froze_answer ws n = tested (nat_le n (top ws)) (fault 8 n)

-- a row search that found a row with both values
abbrev pub found_both : Result Bool Fault → Bool
found_both (Ok b) = b
found_both (Err f) = false

-- a row of the node n of an image allows both values
abbrev pub loose_at : List ℕ → ℕ → Bool
loose_at ws n = found_both (rows_answer n (run ws n))

-- the nodes from 1 to m that are loose and not frozen, rising
unfoldable pub loose_nodes : List ℕ → List Bool → ℕ → List ℕ
loose_nodes ws fs zero = []
loose_nodes ws fs (suc k) = loose_nodes ws fs k ++ cond (not (slice_index_or fs (suc k) false) && loose_at ws (suc k)) (suc k ∷ []) []

-- the first of a list
abbrev pub first_of : List ℕ → Option ℕ
first_of [] = None
first_of (x ∷ xs) = Some x
