-- How long clauses are once written. Assumes nothing.
use Rattle.std.specs.Prelude.{◌≡◌, ℕ, List, [], ◌∷◌, length, Some, None, Option}
use Rattle.clause.specs.declared.literals.Lit.{Lit}
use Rattle.image.specs.Runs.{written}
use Rattle.handing_out.specs.declared.measure.Size.{Size}

-- the clauses Cs are written as so many words, and are so many
pub record Measures (Cs : List (List ℕ)) (n : Size) : Type 0 where
  pub words : n.words ≡ length (written Cs)
  pub clauses : n.clauses ≡ length Cs

-- the clause of one literal alone, if one is given
abbrev pub or_alone : Option Lit → List (List ℕ) → List (List ℕ)
or_alone None Cs = Cs
or_alone (Some l) Cs = (l.word ∷ []) ∷ []
