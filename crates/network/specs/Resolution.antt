-- Resolvents. A clause is a list of literals whose nodes rise strictly.
-- Assumes nothing.
use Rattle.std.specs.Prelude.{◌≡◌, ℕ, Bool, true, false, cond, ◌||◌, ◌⊎◌, List, [], ◌∷◌, Some, None, Option, ◌==◌, ◌≢◌, nat_lt}
use Rattle.network.specs.Assignments.{Assignment, node, opposite, lit, holds}
use Rattle.network.specs.Clauses.{Ordered, without}
use Rattle.network.specs.Lists.{In}

-- the literals of two rising lists, in order, each once
unfoldable pub merge : List ℕ → List ℕ → List ℕ
merge [] = λ D. D
merge (c ∷ C) = elim [
  | [] ↦ c ∷ C
  | d ∷ (D → below) ↦ cond (nat_lt c d) (c ∷ merge C (d ∷ D)) (cond (nat_lt d c) (d ∷ below) (c ∷ merge C D))
]

-- a node stands twice in a rising list
abbrev pub twice : List ℕ → Bool
twice [] = false
twice (x ∷ []) = false
twice (x ∷ y ∷ ys) = node x == node y || twice (y ∷ ys)

-- nothing where a node stands twice
abbrev pub unless_twice : List ℕ → Option (List ℕ)
unless_twice R = cond (twice R) None (Some R)

-- the resolvent of C, which has x, and D, which has its opposite; None for a tautology
unfoldable pub resolve : ℕ → List ℕ → List ℕ → Option (List ℕ)
resolve x C D = unless_twice (merge (without x C) (without (opposite x) D))

-- l stands in C without x, or in D without the opposite of x
abbrev pub EitherOf : ℕ → List ℕ → List ℕ → ℕ → Type 0
EitherOf x C D l = (In l C × (l ≢ x)) ⊎ (In l D × (l ≢ opposite x))

-- R is the resolvent: the union of C without x and D without the opposite of x, in order
pub record Resolvent (x : ℕ) (C D R : List ℕ) : Type 0 where
  pub rising : Ordered R
  pub all : (l : ℕ) → EitherOf x C D l → In l R
  pub only : (l : ℕ) → In l R → EitherOf x C D l

-- a literal and its opposite both stand in what would be the resolvent
pub record Tautology (x : ℕ) (C D : List ℕ) : Type 0 where
  pub at : ℕ
  pub one : EitherOf x C D at
  pub two : EitherOf x C D (opposite at)

-- what an answer of `resolve` says
abbrev pub Resolved : ℕ → List ℕ → List ℕ → Option (List ℕ) → Type 0
Resolved x C D (Some R) = Resolvent x C D R
Resolved x C D None = Tautology x C D

-- some literal of the resolvent of C and D upon x is true
abbrev pub Resolves : ℕ → List ℕ → List ℕ → Assignment → Type 0
Resolves x C D σ = (l : ℕ) × EitherOf x C D l × (lit σ l ≡ true)

-- what the clauses us say without v, of which the clauses cs are the definition: those that do not name v, and the resolvents upon v
abbrev pub ResolvedAway : ℕ → List (List ℕ) → List (List ℕ) → Assignment → Type 0
ResolvedAway v cs us σ =
    (C : List ℕ) → In C us → (((l : ℕ) → In l C → node l ≢ v) → holds σ C ≡ true)
    × ((x : ℕ) (D : List ℕ) → In x C → node x ≡ v → In D cs → In (opposite x) D → Resolves x C D σ)
