-- What follows a change of a store. Assumes nothing.
use Rattle.std.specs.Prelude.{ℕ}
use Rattle.rules.specs.Index.{Indexed}
use Rattle.rules.specs.Store.{Meaning}
use Rattle.waiting.specs.Waits.{SameWait, Counting}
use Rattle.waiting.specs.declared.waiting.Waiting.{Waiting}

-- while the store M became N: an index stands as it was made, if it did; the same nodes wait; and the counts are still the store's
pub record Follows (M N : Meaning) (v w : Waiting) : Type 0 where
  pub index : Indexed M → Indexed N
  pub waits : SameWait v w
  pub counts : Indexed M → (top : ℕ) → Counting M top v → Counting N top w
