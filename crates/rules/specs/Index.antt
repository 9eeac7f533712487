-- An index that stands names every clause that has a literal before its last place, and no other.
-- Assumes nothing.
use Rattle.std.specs.Prelude.{◌≡◌, ℕ, ◌<◌, true, [], length, slice_index_or}
use Rattle.network.specs.Lists.{In}
use Rattle.network.specs.Clauses.{front}
use Rattle.rules.specs.Store.{live, dead, Meaning}

-- an index as it is made, kept by removing and entering
pub record Indexed (M : Meaning) : Type 0 where
  pub on : M.indexed ≡ true
  pub named : (x l i : ℕ) → In (live l i) (M.uses x) → (i < length (M.own l)) × In x (front (slice_index_or (M.own l) i []))
  pub every : (x l i : ℕ) → i < length (M.own l) → In x (front (slice_index_or (M.own l) i [])) → In (live l i) (M.uses x)
  pub no_dead : (x : ℕ) → In dead (M.uses x) → ⊥
