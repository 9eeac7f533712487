-- The lower nodes that a node's clauses name, and the rows that give them values, node 0 false.
-- Assumes nothing.
use Rattle.std.specs.Prelude.{◌≡◌, ℕ, zero, suc, ◌/◌, ◌%◌, ◌^◌, ◌≤◌, Bool, true, false, cond, not, ◌&&◌, ◌||◌, ◌⊎◌, List, [], ◌∷◌, ◌++◌, length, fold, ◌==◌, ◌≢◌}
use Rattle.network.specs.Assignments.{Assignment, node, put, sat}
use Rattle.network.specs.Clauses.{has}
use Rattle.network.specs.Lists.{In}

-- xs with the node k, unless k is 0, or the node n itself, or there already
abbrev pub noted : ℕ → List ℕ → ℕ → List ℕ
noted n xs k = cond (k == 0 || (k == n || has k xs)) xs (xs ++ (k ∷ []))

-- xs with the nodes that a clause of n names
abbrev pub noted_in : ℕ → List ℕ → List ℕ → List ℕ
noted_in n xs C = fold (λ ys l. noted n ys (node l)) xs C

-- xs with the nodes that clauses of n name
abbrev pub noted_all : ℕ → List ℕ → List (List ℕ) → List ℕ
noted_all n xs Cs = fold (noted_in n) xs Cs

-- the nodes besides 0 and n that the clauses of n name, each once
abbrev pub lower : ℕ → List (List ℕ) → List ℕ
lower n Cs = noted_all n [] Cs

-- row number r gives the first of the nodes xs the lowest binary digit of r, and so on; another node is false
abbrev pub row : List ℕ → ℕ → Assignment
row [] r k = false
row (x ∷ xs) r k = cond (k == x) (r % 2 == 1) (row xs (r / 2) k)

-- a row allows a value of the node n if its clauses then hold
abbrev pub allows : List ℕ → ℕ → List (List ℕ) → Bool → ℕ → Bool
allows xs n Cs b r = sat (put (row xs r) n b) Cs

-- the row r allows no value
abbrev pub no_value : List ℕ → ℕ → List (List ℕ) → ℕ → Bool
no_value xs n Cs r = not (allows xs n Cs false r) && not (allows xs n Cs true r)

-- the row r allows both values
abbrev pub two_values : List ℕ → ℕ → List (List ℕ) → ℕ → Bool
two_values xs n Cs r = allows xs n Cs false r && allows xs n Cs true r

-- p holds of a row below so many
unfoldable pub some_row : (ℕ → Bool) → ℕ → Bool
some_row p zero = false
some_row p (suc k) = p k || some_row p k

-- a row of the clauses of n allows no value
abbrev pub clashes : ℕ → List (List ℕ) → Bool
clashes n Cs = some_row (no_value (lower n Cs) n Cs) (2 ^ length (lower n Cs))

-- a row of the clauses of n allows both values
abbrev pub is_loose : ℕ → List (List ℕ) → Bool
is_loose n Cs = some_row (two_values (lower n Cs) n Cs) (2 ^ length (lower n Cs))

-- the clauses name no node but 0, n and at most eight others
abbrev pub Narrow : ℕ → List (List ℕ) → Type 0
Narrow n Cs = (xs : List ℕ) × (length xs ≤ 8) × ((C : List ℕ) → In C Cs → (l : ℕ) → In l C → (node l ≡ 0) ⊎ ((node l ≡ n) ⊎ In (node l) xs))

-- whatever values the other nodes have, node 0 false, the node n has one that satisfies its clauses
abbrev pub Valued : ℕ → List (List ℕ) → Type 0
Valued n Cs = (σ : Assignment) → σ 0 ≡ false → (b : Bool) × (sat (put σ n b) Cs ≡ true)

-- no values of the other nodes, node 0 false, leave the node n both
abbrev pub Tight : ℕ → List (List ℕ) → Type 0
Tight n Cs = (σ : Assignment) → σ 0 ≡ false → sat (put σ n false) Cs ≡ true → sat (put σ n true) Cs ≢ true

-- some values of the other nodes, node 0 false, leave the node n none
abbrev pub Clash : ℕ → List (List ℕ) → Type 0
Clash n Cs = (σ : Assignment) × (σ 0 ≡ false) × ((b : Bool) → sat (put σ n b) Cs ≡ false)

-- some values of the other nodes, node 0 false, leave the node n both
abbrev pub Loose : ℕ → List (List ℕ) → Type 0
Loose n Cs = (σ : Assignment) × (σ 0 ≡ false) × ((b : Bool) → sat (put σ n b) Cs ≡ true)
