-- Whole runs at small networks, from words to words.
-- Assumes nothing.
use Rattle.std.specs.Prelude.{◌≡◌, ℕ, Bool, true, false, List, [], ◌∷◌, map, length, Ok, Err, Result, slice_set}
use Rattle.image.specs.Faults.{fault, ◌then◌}
use Rattle.image.specs.declared.fault.Fault.{Fault}
use Rattle.intake.specs.Answers.{take_in_answer, froze_answer, only_zero}
use Rattle.rules.specs.Store.{Meaning, index_on}
use Rattle.rules.specs.Work.{Work, own_of, literals_of}
use Rattle.rules.specs.Const.{const_simplify}
use Rattle.rules.specs.Bve.{cost, all_resolvents, bve_simplify}
use Rattle.rules.specs.Subsume.{subsume_simplify}
use Rattle.rules.specs.Calls.{start, Call, bve_call, const_call, after, need, const_answer, bve_answer, finalize_answer, simplify_answer}

-- a store of room C without a clause
abbrev pub empty_store : ℕ → Meaning
empty_store C = record { room = C; indexed = false; own = λ l. []; uses = λ l. []; dead_clauses = 0 }

-- the flags with the nodes of a list frozen one after another
abbrev pub frozen_all : List ℕ → List ℕ → List Bool → Result (List Bool) Fault
frozen_all ws [] fs = Ok fs
frozen_all ws (n ∷ ns) fs = froze_answer ws n then (λ _. frozen_all ws ns (slice_set fs n true))

-- the work of an image with nodes frozen, over an empty store of room C
unfoldable pub opened : ℕ → List ℕ → List ℕ → Result Work Fault
opened C ns ws = take_in_answer ws then (λ _. frozen_all ws ns only_zero then (λ fs. start ws fs (empty_store C)))

-- what is asked of a work that is opened
abbrev pub asked : {X : Type 0} → ℕ → List ℕ → List ℕ → (Work → X) → Result X Fault
asked C ns ws f = opened C ns ws then (λ W. Ok (f W))

-- the words that a store of room 16 wants
abbrev pub enough : ℕ
enough = 9216

-- a bve_simplify, then a const_simplify
abbrev pub bve_const : List Call
bve_const = bve_call enough ∷ const_call enough ∷ []

-- and five more
abbrev pub bve_const_six : List Call
bve_const_six = bve_call enough ∷ const_call enough ∷ const_call enough ∷ const_call enough ∷ const_call enough ∷ const_call enough ∷ const_call enough ∷ []

-- all own lists, by literals rising
abbrev pub own_lists : Work → List (List (List ℕ))
own_lists W = map (own_of W) (literals_of W)

-- node 3 is the exclusive-or of nodes 1 and 2, and node 5 that of nodes 3 and 4
abbrev pub feeding_one : List ℕ
feeding_one = 5 ∷ 8 ∷ 8 ∷ 8 ∷ 8 ∷ 24 ∷ 24 ∷ 40 ∷ 3 ∷ 2 ∷ 4 ∷ 7 ∷ 3 ∷ 2 ∷ 5 ∷ 6 ∷ 3 ∷ 3 ∷ 4 ∷ 6 ∷ 3 ∷ 3 ∷ 5 ∷ 7 ∷ 3 ∷ 6 ∷ 8 ∷ 11 ∷ 3 ∷ 6 ∷ 9 ∷ 10 ∷ 3 ∷ 7 ∷ 8 ∷ 10 ∷ 3 ∷ 7 ∷ 9 ∷ 11 ∷ []

-- the same, and node 7 is the exclusive-or of nodes 3 and 6
abbrev pub feeding_two : List ℕ
feeding_two = 7 ∷ 12 ∷ 10 ∷ 10 ∷ 10 ∷ 26 ∷ 26 ∷ 42 ∷ 42 ∷ 58 ∷ 3 ∷ 2 ∷ 4 ∷ 7 ∷ 3 ∷ 2 ∷ 5 ∷ 6 ∷ 3 ∷ 3 ∷ 4 ∷ 6 ∷ 3 ∷ 3 ∷ 5 ∷ 7 ∷ 3 ∷ 6 ∷ 8 ∷ 11 ∷ 3 ∷ 6 ∷ 9 ∷ 10 ∷ 3 ∷ 7 ∷ 8 ∷ 10 ∷ 3 ∷ 7 ∷ 9 ∷ 11 ∷ 3 ∷ 6 ∷ 12 ∷ 15 ∷ 3 ∷ 6 ∷ 13 ∷ 14 ∷ 3 ∷ 7 ∷ 12 ∷ 14 ∷ 3 ∷ 7 ∷ 13 ∷ 15 ∷ []

-- node 2 has {2,4}, {3,4}, node 3 {5,6}, {4,7}, node 4 {2,9}, {6,9}, {3,7,8}
abbrev pub three_gates : List ℕ
three_gates = 4 ∷ 7 ∷ 7 ∷ 7 ∷ 13 ∷ 19 ∷ 29 ∷ 2 ∷ 2 ∷ 4 ∷ 2 ∷ 3 ∷ 4 ∷ 2 ∷ 5 ∷ 6 ∷ 2 ∷ 4 ∷ 7 ∷ 2 ∷ 2 ∷ 9 ∷ 2 ∷ 6 ∷ 9 ∷ 3 ∷ 3 ∷ 7 ∷ 8 ∷ []

-- node 2 has {2,5}, {3,4}, node 3 {6}, node 4 {5,8}, {4,9}, node 5 {2,10}, {2,8,10}
abbrev pub work_for_each : List ℕ
work_for_each = 5 ∷ 7 ∷ 8 ∷ 8 ∷ 14 ∷ 16 ∷ 22 ∷ 29 ∷ 2 ∷ 2 ∷ 5 ∷ 2 ∷ 3 ∷ 4 ∷ 1 ∷ 6 ∷ 2 ∷ 5 ∷ 8 ∷ 2 ∷ 4 ∷ 9 ∷ 2 ∷ 2 ∷ 10 ∷ 3 ∷ 2 ∷ 8 ∷ 10 ∷ []

-- whole runs at small networks
pub record SampleRuns : Type 0 where
  -- simplify over a store of room 128, with nodes 1, 2 and 4 frozen
  pub simplifies : (opened 128 (1 ∷ 2 ∷ 4 ∷ []) (4 ∷ 5 ∷ 7 ∷ 7 ∷ 7 ∷ 17 ∷ 23 ∷ 2 ∷ 2 ∷ 7 ∷ 2 ∷ 4 ∷ 7 ∷ 3 ∷ 3 ∷ 5 ∷ 6 ∷ 2 ∷ 6 ∷ 8 ∷ 2 ∷ 7 ∷ 9 ∷ []) then (λ W. (simplify_answer (need W) 17 W).1))
      ≡ Ok (4 ∷ 3 ∷ 7 ∷ 7 ∷ 7 ∷ 7 ∷ 17 ∷ 2 ∷ 2 ∷ 8 ∷ 2 ∷ 4 ∷ 8 ∷ 3 ∷ 3 ∷ 5 ∷ 9 ∷ [])
  -- and without room for the last word
  pub no_margin : (opened 128 (1 ∷ 2 ∷ 4 ∷ []) (4 ∷ 5 ∷ 7 ∷ 7 ∷ 7 ∷ 17 ∷ 23 ∷ 2 ∷ 2 ∷ 7 ∷ 2 ∷ 4 ∷ 7 ∷ 3 ∷ 3 ∷ 5 ∷ 6 ∷ 2 ∷ 6 ∷ 8 ∷ 2 ∷ 7 ∷ 9 ∷ []) then (λ W. (simplify_answer (need W) 16 W).1)) ≡ Err (fault 14 17)
  -- with nodes 1, 3 and 4 frozen, node 3 keeps {6} and node 4 {3,7,8}, {3,8}, {2,9}
  pub shortens : (opened 16 (1 ∷ 3 ∷ 4 ∷ []) three_gates then (λ W. finalize_answer 19 (after bve_const W))) ≡ Ok (4 ∷ 4 ∷ 7 ∷ 7 ∷ 7 ∷ 9 ∷ 19 ∷ 1 ∷ 6 ∷ 3 ∷ 3 ∷ 7 ∷ 8 ∷ 2 ∷ 3 ∷ 8 ∷ 2 ∷ 2 ∷ 9 ∷ [])
  -- six times const_simplify is allowed, and the seventh is refused with 9 live clauses of a room of 16
  pub half_full : (opened 16 (1 ∷ 3 ∷ 4 ∷ []) three_gates then (λ W. (const_answer enough (after bve_const_six W)).1)) ≡ Err (fault 13 9)
  -- an exclusive-or that feeds one exclusive-or costs 8, has 8 resolvents, and goes
  pub one_cost : asked 128 (1 ∷ 2 ∷ 4 ∷ 5 ∷ []) feeding_one (λ W. cost (index_on W.store) 3) ≡ Ok 8
  pub one_resolvents : asked 128 (1 ∷ 2 ∷ 4 ∷ 5 ∷ []) feeding_one (λ W. length (all_resolvents (index_on W.store) 3)) ≡ Ok 8
  pub one_goes : (opened 128 (1 ∷ 2 ∷ 4 ∷ 5 ∷ []) feeding_one then (λ W. (bve_answer (need W) W).1)) ≡ Ok (1, 9)
  -- one that feeds two costs 12, has 16 resolvents, and stays
  pub two_cost : asked 128 (1 ∷ 2 ∷ 4 ∷ 5 ∷ 6 ∷ 7 ∷ []) feeding_two (λ W. cost (index_on W.store) 3) ≡ Ok 12
  pub two_resolvents : asked 128 (1 ∷ 2 ∷ 4 ∷ 5 ∷ 6 ∷ 7 ∷ []) feeding_two (λ W. length (all_resolvents (index_on W.store) 3)) ≡ Ok 16
  pub two_stays : (opened 128 (1 ∷ 2 ∷ 4 ∷ 5 ∷ 6 ∷ 7 ∷ []) feeding_two then (λ W. (bve_answer (need W) W).1)) ≡ Ok (0, 13)

-- a network on which each pass has its own work, and does that and no other
pub record PassesApart : Type 0 where
  pub started : asked 32 (1 ∷ 3 ∷ 4 ∷ 5 ∷ []) work_for_each own_lists ≡ Ok ([] ∷ ((1 ∷ []) ∷ []) ∷ [] ∷ [] ∷ ((3 ∷ 4 ∷ []) ∷ []) ∷ ((2 ∷ 5 ∷ []) ∷ []) ∷ ((6 ∷ []) ∷ []) ∷ [] ∷ ((5 ∷ 8 ∷ []) ∷ []) ∷ ((4 ∷ 9 ∷ []) ∷ []) ∷ ((2 ∷ 10 ∷ []) ∷ (2 ∷ 8 ∷ 10 ∷ []) ∷ []) ∷ [] ∷ [])
  -- node 3, whose value is known, loses its clause
  pub const : asked 32 (1 ∷ 3 ∷ 4 ∷ 5 ∷ []) work_for_each (λ W. own_lists (const_simplify W)) ≡ Ok ([] ∷ ((1 ∷ []) ∷ []) ∷ [] ∷ [] ∷ ((3 ∷ 4 ∷ []) ∷ []) ∷ ((2 ∷ 5 ∷ []) ∷ []) ∷ [] ∷ [] ∷ ((5 ∷ 8 ∷ []) ∷ []) ∷ ((4 ∷ 9 ∷ []) ∷ []) ∷ ((2 ∷ 10 ∷ []) ∷ (2 ∷ 8 ∷ 10 ∷ []) ∷ []) ∷ [] ∷ [])
  -- node 2 is replaced by its resolvents
  pub bve : asked 32 (1 ∷ 3 ∷ 4 ∷ 5 ∷ []) work_for_each (λ W. own_lists (bve_simplify W)) ≡ Ok ([] ∷ ((1 ∷ []) ∷ []) ∷ [] ∷ [] ∷ [] ∷ [] ∷ ((6 ∷ []) ∷ []) ∷ [] ∷ ((3 ∷ 8 ∷ []) ∷ []) ∷ ((2 ∷ 9 ∷ []) ∷ []) ∷ ((2 ∷ 10 ∷ []) ∷ (2 ∷ 8 ∷ 10 ∷ []) ∷ []) ∷ [] ∷ [])
  -- {2,8,10}, of which {2,10} is part, goes
  pub subsume : asked 32 (1 ∷ 3 ∷ 4 ∷ 5 ∷ []) work_for_each (λ W. own_lists (subsume_simplify W)) ≡ Ok ([] ∷ ((1 ∷ []) ∷ []) ∷ [] ∷ [] ∷ ((3 ∷ 4 ∷ []) ∷ []) ∷ ((2 ∷ 5 ∷ []) ∷ []) ∷ ((6 ∷ []) ∷ []) ∷ [] ∷ ((5 ∷ 8 ∷ []) ∷ []) ∷ ((4 ∷ 9 ∷ []) ∷ []) ∷ ((2 ∷ 10 ∷ []) ∷ []) ∷ [] ∷ [])
