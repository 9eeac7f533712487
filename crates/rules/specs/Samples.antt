-- The rules at small cases.
-- Assumes nothing.
use Rattle.std.specs.Prelude.{◌≡◌, true, false, [], ◌∷◌, Some, None}
use Rattle.network.specs.Resolution.{resolve}
use Rattle.network.specs.Values.{nothing, with_value, simplified}
use Rattle.network.specs.Subsumption.{fits}
use Rattle.network.specs.Lemmas.{lemmas}
use Rattle.network.specs.Rows.{clashes, is_loose}

-- what resolution, the test of one clause against another, simplification and the rows answer at small cases
pub record Samples : Type 0 where
  -- {3,5,6} and {7,9} upon node 3
  pub resolvent : resolve 6 (3 ∷ 5 ∷ 6 ∷ []) (7 ∷ 9 ∷ []) ≡ Some (3 ∷ 5 ∷ 9 ∷ [])
  -- {2,7} and {3,6} upon node 3 would name node 1 with both signs
  pub no_resolvent : resolve 7 (2 ∷ 7 ∷ []) (3 ∷ 6 ∷ []) ≡ None
  -- {2,6} fits {3,6} but for 2
  pub strengthens : fits (2 ∷ 6 ∷ []) (3 ∷ 6 ∷ []) ≡ (false, Some 2)
  -- {2} subsumes {2,6}
  pub subsumes : fits (2 ∷ []) (2 ∷ 6 ∷ []) ≡ (true, None)
  -- with node 0 false, {0,2} becomes {2}, and {1,2} goes
  pub false_literal : simplified (with_value nothing 0 false) (0 ∷ 2 ∷ []) ≡ Some (2 ∷ [])
  pub true_literal : simplified (with_value nothing 0 false) (1 ∷ 2 ∷ []) ≡ None
  -- the list {2,6}, {3,6} becomes {6}
  pub joined : lemmas ((2 ∷ 6 ∷ []) ∷ (3 ∷ 6 ∷ []) ∷ []) ≡ (6 ∷ []) ∷ []
  -- node 2 with {2,4} and {2,5} clashes
  pub clashing : clashes 2 ((2 ∷ 4 ∷ []) ∷ (2 ∷ 5 ∷ []) ∷ []) ≡ true
  -- node 2 with {2,4} and {3,4} is never loose, and with {2,4} alone it is
  pub never_loose : is_loose 2 ((2 ∷ 4 ∷ []) ∷ (3 ∷ 4 ∷ []) ∷ []) ≡ false
  pub once_loose : is_loose 2 ((2 ∷ 4 ∷ []) ∷ []) ≡ true
