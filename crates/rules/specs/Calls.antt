-- Start, the calls on a work with what each answers, and the image that is handed out.
-- Assumes nothing.
use Rattle.std.specs.Prelude.{ℕ, suc, ◌+◌, ◌-◌, ◌*◌, ◌/◌, Bool, false, cond, List, [], ◌∷◌, ◌++◌, map, length, Some, None, Ok, Err, Option, Result, nat_le, slice_index_or, flat_map}
use Rattle.network.specs.Networks.{Network}
use Rattle.network.specs.Values.{nothing, unit_of}
use Rattle.image.specs.Faults.{fault, tested, ◌then◌}
use Rattle.image.specs.Headers.{top}
use Rattle.image.specs.Runs.{written}
use Rattle.image.specs.declared.fault.Fault.{Fault}
use Rattle.intake.specs.Answers.{loose_nodes, first_of}
use Rattle.intake.specs.Accepted.{taken_in, total}
use Rattle.rules.specs.Store.{Meaning, up_to, sum_of, emptied, live_clauses}
use Rattle.rules.specs.Work.{Work, each, own_of, nodes_of, add}
use Rattle.rules.specs.Const.{const_simplify}
use Rattle.rules.specs.Bve.{bve_simplify}
use Rattle.rules.specs.Subsume.{subsume_simplify}

-- ## Start

-- the clauses of an image, node 0's first, then all nodes rising
unfoldable pub clauses_in : List ℕ → List (List ℕ)
clauses_in ws = flat_map (taken_in ws) (up_to (suc (top ws)))

-- the work before its first entry, of the image ws with the frozen flags fs
abbrev pub begun : List ℕ → List Bool → Meaning → Work
begun ws fs M = record { top = top ws; frozen = λ n. slice_index_or fs n false; store = emptied M; values = nothing; out = [] }

-- the work with every clause of the image entered
unfoldable pub started : List ℕ → List Bool → Meaning → Work
started ws fs M = each add (clauses_in ws) (begun ws fs M)

-- refused at the lowest loose node
abbrev pub unless_loose : Option ℕ → Work → Result Work Fault
unless_loose None W = Ok W
unless_loose (Some n) W = Err (fault 12 n)

-- what start makes of an image, frozen flags and a store
unfoldable pub start : List ℕ → List Bool → Meaning → Result Work Fault
start ws fs M =
    tested (nat_le (suc (total ws (top ws))) (M.room / 2)) (fault 11 (suc (total ws (top ws))))
    then (λ _. unless_loose (first_of (loose_nodes ws fs (top ws))) (started ws fs M))

-- ## What is handed out

-- the clauses of node n, or its value's alone where it is frozen and has one
abbrev pub only_unit : ℕ → Bool → Option Bool → List (List ℕ) → List (List ℕ)
only_unit n f None Cs = Cs
only_unit n f (Some b) Cs = cond f (unit_of n b ∷ []) Cs

-- the network handed out: of each node the positive literal's clauses first; a frozen node with a value has that alone
unfoldable pub handed_out : Work → Network
handed_out W n = only_unit n (W.frozen n) (W.values n) (own_of W (2 * n) ++ own_of W (2 * n + 1))

-- the runs of the nodes from 1 on, as words
abbrev pub runs_out : Work → List (List ℕ)
runs_out W = map (λ n. written (handed_out W n)) (nodes_of W)

-- where each of the runs ends, the first of which begins at a place
abbrev pub ends : ℕ → List (List ℕ) → List ℕ
ends at [] = []
ends at (ws ∷ runs) = (at + length ws) ∷ ends (at + length ws) runs

-- how many clauses are handed out besides node 0's
abbrev pub count_out : Work → ℕ
count_out W = sum_of (map (λ n. length (handed_out W n)) (nodes_of W))

-- the image handed out: the header, then the runs
unfoldable pub words_out : Work → List ℕ
words_out W = (W.top ∷ count_out W ∷ (W.top + 3) ∷ ends (W.top + 3) (runs_out W)) ++ flat_map (λ r. r) (runs_out W)

-- ## Calls: each gives the work after it and its answer

-- the working words that a pass needs
abbrev pub need : Work → ℕ
need W = 64 * W.store.room + 8192

-- refused, with nothing changed, if n working words are too few
abbrev pub lent : {X : Type 0} → ℕ → Work → Work × Result X Fault → Work × Result X Fault
lent n W r = cond (nat_le (need W) n) r (W, Err (fault 10 (need W)))

-- refused, with nothing changed, if more than half of the room is live
abbrev pub half : {X : Type 0} → Work → Work × Result X Fault → Work × Result X Fault
half W r = cond (nat_le (live_clauses W.store) (W.store.room / 2)) r (W, Err (fault 13 (live_clauses W.store)))

-- the work, and its number of live clauses
abbrev pub with_live : Work → Work × Result ℕ Fault
with_live W = (W, Ok (live_clauses W.store))

-- const_simplify with n working words
unfoldable pub const_answer : ℕ → Work → Work × Result ℕ Fault
const_answer n W = lent n W (half W (with_live (const_simplify W)))

-- the work N that bve_simplify makes of W, the number of nodes taken out, and that of live clauses
abbrev pub with_out : Work → Work → Work × Result (ℕ × ℕ) Fault
with_out W N = (N, Ok (length N.out - length W.out, live_clauses N.store))

-- bve_simplify with n working words
unfoldable pub bve_answer : ℕ → Work → Work × Result (ℕ × ℕ) Fault
bve_answer n W = lent n W (with_out W (bve_simplify W))

-- subsume_simplify with n working words
unfoldable pub subsume_answer : ℕ → Work → Work × Result ℕ Fault
subsume_answer n W = lent n W (with_live (subsume_simplify W))

-- finalize with room for n words: the words written
unfoldable pub finalize_answer : ℕ → Work → Result (List ℕ) Fault
finalize_answer n W = cond (nat_le (length (words_out W)) n) (Ok (words_out W)) (Err (fault 14 (length (words_out W))))

-- the three passes in order
abbrev pub simplified_work : Work → Work
simplified_work W = subsume_simplify (bve_simplify (const_simplify W))

-- the work with what finalize answers of it
abbrev pub finalized : ℕ → Work → Work × Result (List ℕ) Fault
finalized m W = (W, finalize_answer m W)

-- simplify with n working words and room for m words
unfoldable pub simplify_answer : ℕ → ℕ → Work → Work × Result (List ℕ) Fault
simplify_answer n m W = lent n W (half W (finalized m (simplified_work W)))

-- a call, with the numbers of words lent to it
pub data Call : Type 0 where
  const_call : ℕ → Call
  bve_call : ℕ → Call
  subsume_call : ℕ → Call
  simplify_call : ℕ → ℕ → Call
  finalize_call : ℕ → Call

-- the work after a call, answered or refused
unfoldable pub called : Call → Work → Work
called (const_call n) W = (const_answer n W).0
called (bve_call n) W = (bve_answer n W).0
called (subsume_call n) W = (subsume_answer n W).0
called (simplify_call n m) W = (simplify_answer n m W).0
called (finalize_call m) W = W

-- the work after a list of calls
abbrev pub after : List Call → Work → Work
after cs W = each called cs W
