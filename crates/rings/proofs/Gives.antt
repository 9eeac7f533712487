-- The slots that an iterator along a ring gives. Assumes nothing.
use Rattle.std.proofs.Common.{◌≡◌, ℕ, List}
use Rattle.std.specs.Iterator.{YieldsFirst}
use Rattle.std.proofs.lemmas.Iterator.{YieldsList}
use Rattle.std.proofs.lemmas.Iterator.Consumers.{YieldsList-from_first}
use Rattle.rings.specs.Left.{slots_left}
use Rattle.rings.specs.declared.Slots.{Slots}

pub gives : (s : Slots) (xs : List ℕ) → slots_left s ≡ xs → YieldsList (YieldsFirst slots_left) (λ x. x) s xs
gives s xs e = YieldsList-from_first (λ x. x) slots_left xs e
