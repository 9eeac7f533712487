-- Whether a clause is part of another, but for at most one literal that stands there with the opposite sign.
-- Assumes nothing.
use Rattle.std.specs.Prelude.{◌≡◌, ℕ, Bool, true, false, cond, List, [], ◌∷◌, Some, None, Option, ◌==◌, ◌≢◌, nat_lt}
use Rattle.network.specs.Assignments.{node, opposite}
use Rattle.network.specs.Clauses.{Subsumes}
use Rattle.network.specs.Lists.{In}

-- C strengthens D at l: l stands in C, its opposite in D, and C without l is part of D without that opposite
pub record Strengthens (l : ℕ) (C D : List ℕ) : Type 0 where
  pub here : In l C
  pub there : In (opposite l) D
  pub rest : (k : ℕ) → In k C → (k ≢ l) → In k D × (k ≢ opposite l)

-- whether the walk along both clauses finds each literal of C in D
unfoldable pub part_of : List ℕ → List ℕ → Bool
part_of [] [] = true
part_of (c ∷ C) [] = false
part_of [] (d ∷ D) = true
part_of (c ∷ C) (d ∷ D) = cond (c == d) (part_of C D) (cond (nat_lt d c) (part_of (c ∷ C) D) false)

-- an opposite literal at c: the first is noted, a second refused
abbrev pub opposite_noted : ℕ → Option ℕ → (Option ℕ → Bool × Option ℕ) → Bool × Option ℕ
opposite_noted c None rest = rest (Some c)
opposite_noted c (Some p) rest = (false, Some p)

-- the walk along both clauses, with the literal noted so far
unfoldable pub fits_from : Option ℕ → List ℕ → List ℕ → Bool × Option ℕ
fits_from o [] [] = (true, o)
fits_from o (c ∷ C) [] = (false, o)
fits_from o [] (d ∷ D) = (true, o)
fits_from o (c ∷ C) (d ∷ D) =
    cond (c == d) (fits_from o C D)
    (cond (node c == node d) (opposite_noted c o (λ p. fits_from p C D))
    (cond (nat_lt d c) (fits_from o (c ∷ C) D) (false, o)))

-- whether C fits into D but for at most one literal, and that literal
abbrev pub fits_but_one : List ℕ → List ℕ → Bool × Option ℕ
fits_but_one C D = fits_from None C D

-- what an answer of the walk says, with o noted before
abbrev pub Fitted : Option ℕ → List ℕ → List ℕ → Bool × Option ℕ → Type 0
Fitted None C D (true, None) = Subsumes C D
Fitted None C D (true, Some l) = Strengthens l C D
Fitted None C D (false, o) = (Subsumes C D → ⊥) × ((l : ℕ) → Strengthens l C D → ⊥)
Fitted (Some p) C D (true, o) = (o ≡ Some p) × Subsumes C D
Fitted (Some p) C D (false, o) = Subsumes C D → ⊥

-- the answer as the test gives it: whether C subsumes D, and otherwise the literal at which it strengthens D
abbrev pub test_answer : Bool × Option ℕ → Bool × Option ℕ
test_answer (true, None) = (true, None)
test_answer (true, Some x) = (false, Some x)
test_answer (false, o) = (false, None)

-- the test of C against D: (true, None) if C subsumes D, (false, Some l) if it strengthens D at l, else (false, None)
unfoldable pub fits : List ℕ → List ℕ → Bool × Option ℕ
fits C D = test_answer (fits_but_one C D)
