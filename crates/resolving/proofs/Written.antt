-- What a function gave that may write a clause. Assumes nothing.
use Rattle.std.proofs.Common.{◌≡◌, ℕ, ◌≤◌, List, ◌++◌, length, drop, ltb, Some, None, Option, refl, subst}
use Rattle.std.proofs.lemmas.Bool.{cond-false, le-ltb}
use Rattle.clause.specs.Written.{Gives, Writes}

module _ {most : ℕ} {old new : List ℕ} (room : most ≤ length old) where
  pub given_there : (r : Option ℕ) (o : Option (List ℕ)) → Writes most r o old new → Gives most r o old new
  given_there r o w = subst (λ p. Gives most r p old new) (cond-false (ltb (length old) most) None o (le-ltb (length old) most room)) w.given

  -- no answer: no clause
  pub wrote_none : (o : Option (List ℕ)) → Writes most None o old new → o ≡ None
  wrote_none None w = refl
  wrote_none (Some xs) w = absurd (given_there None (Some xs) w)

  -- the length: the clause, at the front
  pub wrote_some : (n : ℕ) (o : Option (List ℕ)) → Writes most (Some n) o old new → (xs : List ℕ) × (o ≡ Some xs) × (n ≡ length xs) × (new ≡ xs ++ drop n old)
  wrote_some n None w = absurd (given_there (Some n) None w)
  wrote_some n (Some xs) w = let f = given_there (Some n) (Some xs) w in (xs, refl, f.0, f.1)
