-- The work, in the words of the rules, that a simplifier is at. Assumes nothing.
use Rattle.std.specs.Prelude.{ℕ, false, List, slice_index_or}
use Rattle.clause.specs.Types.{values_of}
use Rattle.rules.specs.Store.{Meaning}
use Rattle.rules.specs.Work.{Work}
use Rattle.simplifier.specs.declared.state.Simplifier.{Simplifier}

-- by what its store means, with the nodes taken out so far, the last first
abbrev pub work_of : {S : Type 0} → (S → Meaning) → Simplifier S → List ℕ → Work
work_of meaning s out = record {
  top = s.top;
  frozen = λ n. slice_index_or s.frozen n false;
  store = meaning s.store;
  values = values_of s.values;
  out = out;
}
