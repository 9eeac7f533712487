-- What waits stays, where only places change. Assumes nothing.
use Rattle.std.specs.Prelude.{ℕ, ◌↔◌, List}
use Rattle.std.specs.List.{ContainsAt as Has}
use Rattle.std.specs.List.Sorted.{IsPermutation}
use Rattle.std.proofs.ByRecursion.{has_shuffled}
use Rattle.std.proofs.lemmas.List.Sorted.{IsPermutation-sym}
use Rattle.waiting.specs.Waits.{SameWait}
use Rattle.waiting.specs.declared.waiting.Waiting.{Waiting}

-- the same entries stand in a list that is shuffled
pub shuffled_same : (xs ys : List ℕ) → IsPermutation xs ys → (n : ℕ) → Has ys n ↔ Has xs n
shuffled_same xs ys p n = (has_shuffled ys xs n (IsPermutation-sym xs ys p), has_shuffled xs ys n p)

-- the same nodes wait after two changes
pub same_trans : (u v w : Waiting) → SameWait u v → SameWait v w → SameWait u w
same_trans u v w a b n = (λ h. (a n).0 ((b n).0 h), λ h. (b n).1 ((a n).1 h))
