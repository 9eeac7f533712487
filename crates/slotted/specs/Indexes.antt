-- What an index of slots is: which slots have joined it, and the uses of each literal by the literals that the slots are listed at.
-- Assumes nothing.
use Rattle.std.specs.Prelude.{◌≡◌, ℕ, ◌+◌, ◌<◌, ◌≤◌, Bool, true, false, List, [], length}
use Rattle.std.specs.List.{AllByRecursion}
use Rattle.rings.specs.Rings.{Differ}
use Rattle.network.specs.Clauses.{has, in_order}

-- the literals at which slots are listed
abbrev pub Listing : Type 0
Listing = ℕ → List ℕ

-- two listings have the joined slots at the same literals
abbrev pub Alike : (ℕ → Bool) → Listing → Listing → Type 0
Alike joined L M = (x k : ℕ) → joined x ≡ true → has k (L x) ≡ has k (M x)

-- no joined slot is listed at a literal past the last node's
abbrev pub Low : (ℕ → Bool) → Listing → Type 0
Low joined L = (x k : ℕ) → joined x ≡ true → 2048 ≤ k → has k (L x) ≡ false

-- slot x, one of so many, has not joined, and may join at these literals
pub record MayJoin (slots : ℕ) (joined : ℕ → Bool) (x : ℕ) (literals : List ℕ) : Type 0 where
  pub slot : (2050 ≤ x) × (x < 2050 + slots)
  pub fresh : joined x ≡ false
  pub few : length literals ≤ 31
  pub rising : in_order literals ≡ true
  pub low : AllByRecursion (λ k. k < 2048) literals

-- what holds of every index: the uses are of slots that have joined, no slot twice; and they hang on the joined slots alone
pub record Sensible (joined : ℕ → Bool) (used : Listing → ℕ → List ℕ) : Type 0 where
  pub users : (L : Listing) (k : ℕ) → AllByRecursion (λ x. joined x ≡ true) (used L k)
  pub once : (L : Listing) (k : ℕ) → Differ (used L k)
  pub depends : (L M : Listing) → Alike joined L M → (k : ℕ) → used L k ≡ used M k
  pub low : (L : Listing) → Low joined L → (k : ℕ) → 2048 ≤ k → used L k ≡ []
