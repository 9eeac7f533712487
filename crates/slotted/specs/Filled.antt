-- How far the slots of own lists have joined an index. Assumes nothing.
use Rattle.std.specs.Prelude.{◌≡◌, ℕ, ◌≤◌, Bool, ◌&&◌, List, length, filter, nat_lt, flat_map}
use Rattle.std.specs.List.{AllByRecursion}
use Rattle.network.specs.Clauses.{front, has}
use Rattle.rules.specs.Store.{up_to}
use Rattle.owned.specs.Lists.{own, lost, text, listed}
use Rattle.owned.specs.declared.owned.Owned.{Owned}
use Rattle.slotted.specs.Indexes.{Listing}

-- the slots of the own lists of the literals below l
unfoldable pub earlier : ℕ → Owned → List ℕ
earlier l o = flat_map (own o) (up_to l)

-- these slots alone have joined, in this order, each listed at the literals of its clause but the last
pub record Filled (xs : List ℕ) (o : Owned) (slots : ℕ) (joined : ℕ → Bool) (used : Listing → ℕ → List ℕ) : Type 0 where
  pub fits : o.room ≤ slots
  pub joins : (x : ℕ) → joined x ≡ (has x xs && nat_lt 0 (length (front (text o x))))
  pub uses : (k : ℕ) → used (listed o) k ≡ filter (λ x. has k (front (text o x))) xs
  pub lists : AllByRecursion (λ x. listed o x ≡ front (text o x)) xs

-- the own lists, the lost slots and the clauses stay
pub record SameLists (s t : Owned) : Type 0 where
  pub room : t.room ≡ s.room
  pub owns : (l : ℕ) → own t l ≡ own s l
  pub losts : lost t ≡ lost s
  pub texts : (x : ℕ) → text t x ≡ text s x
