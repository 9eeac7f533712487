-- What an image that take-in accepts is, and what is wrong with one that it refuses, in the words of the subject. Assumes nothing.
use Rattle.std.specs.Prelude.{◌≡◌, ℕ, zero, suc, ◌+◌, ◌<◌, ◌≤◌, Bool, true, false, ◌⊎◌, ◌↔◌, List, [], ◌∷◌, length, Ok, Err, Result, ◌≢◌, slice_index_or}
use Rattle.network.specs.Assignments.{node}
use Rattle.network.specs.Clauses.{Rising, owner}
use Rattle.network.specs.Levels.{Total}
use Rattle.network.specs.Lists.{In}
use Rattle.network.specs.Networks.{Network, level, WellPlaced, Gates}
use Rattle.network.specs.Rows.{Narrow, Valued, Tight, Clash, Loose}
use Rattle.image.specs.Faults.{fault}
use Rattle.image.specs.Headers.{top, stated_count, offset, run}
use Rattle.image.specs.Runs.{clauses, written}
use Rattle.image.specs.declared.fault.Fault.{Fault}
use Rattle.intake.specs.Answers.{take_in_answer, loose_nodes}

-- the counts and offsets fit the words
pub record Header (ws : List ℕ) : Type 0 where
  pub three : 3 ≤ length ws
  pub few : top ws ≤ 1023
  pub long : top ws + 3 ≤ length ws
  pub first : offset ws 0 ≡ top ws + 3
  pub climb : (k : ℕ) → k < top ws → offset ws k ≤ offset ws (suc k)
  pub last : offset ws (top ws) ≡ length ws

-- the words are clauses, none of them empty, each as its length and then its literals
abbrev pub Uncut : List ℕ → Type 0
Uncut xs = (Cs : List (List ℕ)) × (xs ≡ written Cs) × ((C : List ℕ) → In C Cs → 0 < length C)

-- no node is named twice
abbrev pub Once : List ℕ → Type 0
Once [] = Unit {0}
Once (x ∷ xs) = ((y : ℕ) → In y xs → node x ≢ node y) × Once xs

-- literals rise strictly, and no clause names a node twice
abbrev pub Sorted : List (List ℕ) → Type 0
Sorted Cs = (C : List ℕ) → In C Cs → Rising C × Once C

-- every clause belongs to node n
abbrev pub OwnedBy : ℕ → List (List ℕ) → Type 0
OwnedBy n Cs = (C : List ℕ) → In C Cs → owner C ≡ n

-- the words xs are right for node n
pub record Formed (n : ℕ) (xs : List ℕ) : Type 0 where
  pub uncut : Uncut xs
  pub sorted : Sorted (clauses xs)
  pub owned : OwnedBy n (clauses xs)
  pub narrow : Narrow n (clauses xs)
  pub valued : Valued n (clauses xs)

-- f is the first fault of node n: each ground stands where those before it do not
abbrev pub IllFormed : ℕ → List ℕ → Fault → Type 0
IllFormed n xs f =
    ((f ≡ fault 2 n) × (Uncut xs → ⊥))
    ⊎ ((f ≡ fault 3 n) × Uncut xs × (Sorted (clauses xs) → ⊥))
    ⊎ ((f ≡ fault 4 n) × Uncut xs × Sorted (clauses xs) × (OwnedBy n (clauses xs) → ⊥))
    ⊎ ((f ≡ fault 5 n) × Uncut xs × Sorted (clauses xs) × OwnedBy n (clauses xs) × (Narrow n (clauses xs) → ⊥))
    ⊎ ((f ≡ fault 6 n) × Uncut xs × Sorted (clauses xs) × OwnedBy n (clauses xs) × Narrow n (clauses xs) × Clash n (clauses xs))

-- the number of clauses of the nodes 1 to k
abbrev pub total : List ℕ → ℕ → ℕ
total ws zero = 0
total ws (suc k) = total ws k + length (clauses (run ws (suc k)))

-- the words are a right image
pub record Image (ws : List ℕ) : Type 0 where
  pub header : Header ws
  pub nodes : (k : ℕ) → k < top ws → Formed (suc k) (run ws (suc k))
  pub count : stated_count ws ≡ total ws (top ws)

-- f is the first fault of an image: its header, the lowest node with a fault, the number of clauses
abbrev pub Refused : List ℕ → Fault → Type 0
Refused ws f =
    ((f ≡ fault 1 0) × (Header ws → ⊥))
    ⊎ (Header ws × ((k : ℕ) × (k < top ws) × ((j : ℕ) → j < k → Formed (suc j) (run ws (suc j))) × IllFormed (suc k) (run ws (suc k)) f))
    ⊎ (Header ws × ((k : ℕ) → k < top ws → Formed (suc k) (run ws (suc k))) × (f ≡ fault 7 0) × (stated_count ws ≢ total ws (top ws)))

-- what an answer of take-in means
abbrev pub Answers : List ℕ → Result (Unit {0}) Fault → Type 0
Answers ws (Ok u) = Image ws
Answers ws (Err f) = Refused ws f

-- the network of an image; node 0 has the clause that it is false
abbrev pub taken_in : List ℕ → Network
taken_in ws zero = (1 ∷ []) ∷ []
taken_in ws (suc k) = clauses (run ws (suc k))

-- node n can be frozen and is not, and a row leaves it both values
pub record LooseNode (ws : List ℕ) (fs : List Bool) (n : ℕ) : Type 0 where
  pub above : 0 < n
  pub within : n ≤ top ws
  pub free : slice_index_or fs n false ≡ false
  pub loose : Loose n (clauses (run ws n))

-- ## Laws

-- take-in gives each answer on its ground, and on no other
abbrev pub Exactly : Type 0
Exactly = (ws : List ℕ) (r : Result (Unit {0}) Fault) → (take_in_answer ws ≡ r) ↔ Answers ws r

-- a run that is written from clauses is read as those clauses, and as no others
abbrev pub ReadBack : Type 0
ReadBack = (Cs : List (List ℕ)) → clauses (written Cs) ≡ Cs

-- of a right image each clause is in order at its owner, and for every assignment with the lower levels right each node has a value
abbrev pub EveryNodeHasAValue : Type 0
EveryNodeHasAValue = (ws : List ℕ) → Image ws → WellPlaced (taken_in ws) (suc (top ws)) × ((k : ℕ) → Total (level (taken_in ws)) k)

-- of a right image the list of loose nodes has exactly the nodes that are loose and not frozen, and every other unfrozen node has just
-- one value for each assignment of the others
pub record LooseNodesAreFound : Type 0 where
  pub listed : (ws : List ℕ) (fs : List Bool) → Image ws → (n : ℕ) → In n (loose_nodes ws fs (top ws)) ↔ LooseNode ws fs n
  pub rising : (ws : List ℕ) (fs : List Bool) → Rising (loose_nodes ws fs (top ws))
  pub others : (ws : List ℕ) (fs : List Bool) → Image ws → (n : ℕ) → 0 < n → n ≤ top ws → slice_index_or fs n false ≡ false
      → (In n (loose_nodes ws fs (top ws)) → ⊥) → Tight n (clauses (run ws n))

-- without a loose node a right image is a network of gates
abbrev pub ReadyToStart : Type 0
ReadyToStart = (ws : List ℕ) (fs : List Bool) → Image ws → slice_index_or fs 0 false ≡ true → loose_nodes ws fs (top ws) ≡ []
    → Gates (taken_in ws) (suc (top ws)) (λ n. slice_index_or fs n false)
