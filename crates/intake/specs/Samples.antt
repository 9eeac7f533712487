-- Small images, and what take-in answers. Assumes nothing.
use Rattle.std.specs.Prelude.{◌≡◌, true, false, [], ◌∷◌, Ok, Err}
use Rattle.image.specs.Faults.{fault}
use Rattle.intake.specs.Answers.{take_in_answer, loose_at}

-- each field is an image of one or two nodes
pub record Samples : Type 0 where
  pub smallest : take_in_answer (0 ∷ 0 ∷ 3 ∷ []) ≡ Ok tt
  pub short : take_in_answer (0 ∷ 0 ∷ []) ≡ Err (fault 1 0)
  -- node 2 with {2,4}, {2,5}: a row allows no value
  pub clash : take_in_answer (2 ∷ 2 ∷ 5 ∷ 5 ∷ 11 ∷ 2 ∷ 2 ∷ 4 ∷ 2 ∷ 2 ∷ 5 ∷ []) ≡ Err (fault 6 2)
  -- node 2 with {2,4}, {3,4}: accepted, and never loose
  pub tight : take_in_answer (2 ∷ 2 ∷ 5 ∷ 5 ∷ 11 ∷ 2 ∷ 2 ∷ 4 ∷ 2 ∷ 3 ∷ 4 ∷ []) ≡ Ok tt
  pub never : loose_at (2 ∷ 2 ∷ 5 ∷ 5 ∷ 11 ∷ 2 ∷ 2 ∷ 4 ∷ 2 ∷ 3 ∷ 4 ∷ []) 2 ≡ false
  -- node 2 with only {2,4}: loose
  pub loose : loose_at (2 ∷ 1 ∷ 5 ∷ 5 ∷ 8 ∷ 2 ∷ 2 ∷ 4 ∷ []) 2 ≡ true
  -- a length past the end of its run
  pub cut : take_in_answer (1 ∷ 1 ∷ 4 ∷ 6 ∷ 2 ∷ 2 ∷ []) ≡ Err (fault 2 1)
  -- {2,3} names node 1 twice
  pub order : take_in_answer (1 ∷ 1 ∷ 4 ∷ 7 ∷ 2 ∷ 2 ∷ 3 ∷ []) ≡ Err (fault 3 1)
  -- {4} stands in the run of node 1
  pub owner : take_in_answer (1 ∷ 1 ∷ 4 ∷ 6 ∷ 1 ∷ 4 ∷ []) ≡ Err (fault 4 1)
  -- one clause where two are stated
  pub count : take_in_answer (1 ∷ 2 ∷ 4 ∷ 6 ∷ 1 ∷ 2 ∷ []) ≡ Err (fault 7 0)
