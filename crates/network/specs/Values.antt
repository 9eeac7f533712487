-- Known values of nodes, and clauses under them.
-- Assumes nothing.
use Rattle.std.specs.Prelude.{◌≡◌, ℕ, ◌+◌, ◌*◌, ◌%◌, Bool, true, false, cond, not, ◌⊎◌, List, [], ◌∷◌, Some, None, Option, ◌==◌}
use Rattle.network.specs.Assignments.{Assignment, node, holds}
use Rattle.network.specs.Clauses.{Ordered}
use Rattle.network.specs.Lists.{In}

-- the known values
abbrev pub Values : Type 0
Values = ℕ → Option Bool

-- no value is known
abbrev pub nothing : Values
nothing n = None

-- the values with that of node n, which is b
unfoldable pub with_value : Values → ℕ → Bool → Values
with_value V n b k = cond (k == n) (Some b) (V k)

-- a literal's sign: whether it says that its node is true
abbrev pub sign : ℕ → Bool
sign l = l % 2 == 0

-- the clause that says that node n has the value b
unfoldable pub unit_of : ℕ → Bool → List ℕ
unit_of n b = cond b (2 * n) (2 * n + 1) ∷ []

-- what a node's value says of a literal with the sign s
abbrev pub flipped : Bool → Option Bool → Option Bool
flipped s None = None
flipped s (Some b) = Some (cond s b (not b))

-- what the values say of a literal
unfoldable pub literal : Values → ℕ → Option Bool
literal V l = flipped (sign l) (V (node l))

-- a literal of which so much is known, before what is left of the clause: none of it if a literal is true
abbrev pub kept_literal : Option Bool → ℕ → Option (List ℕ) → Option (List ℕ)
kept_literal (Some true) l r = None
kept_literal (Some false) l r = r
kept_literal None l None = None
kept_literal None l (Some C) = Some (l ∷ C)

-- the clause without its false literals; None if a literal is true
unfoldable pub simplified : Values → List ℕ → Option (List ℕ)
simplified V [] = Some []
simplified V (l ∷ C) = kept_literal (literal V l) l (simplified V C)

-- an assignment has the known values
abbrev pub Obeys : Assignment → Values → Type 0
Obeys σ V = (n : ℕ) (b : Bool) → V n ≡ Some b → σ n ≡ b

-- whether what is left of a clause holds; a clause that goes, since a literal is true, holds
abbrev pub left_holds : Assignment → Option (List ℕ) → Bool
left_holds σ None = true
left_holds σ (Some C) = holds σ C

-- a literal of the clause is true
abbrev pub Satisfied : Values → List ℕ → Type 0
Satisfied V C = (l : ℕ) × In l C × (literal V l ≡ Some true)

-- R is what the values leave of C: no literal is true, and R has those that are not false, in order
pub record LeftOf (V : Values) (C R : List ℕ) : Type 0 where
  pub rising : Ordered R
  pub untrue : Satisfied V C → ⊥
  pub all : (l : ℕ) → In l C → (literal V l ≡ Some false) ⊎ In l R
  pub only : (l : ℕ) → In l R → In l C × (literal V l ≡ None)
