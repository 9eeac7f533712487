-- What holds of the meaning of every such store, as a field keeps it. Assumes nothing.
use Rattle.std.specs.Prelude.{◌≡◌, ℕ, ◌<◌, ◌≤◌, true, false, List, length}
use Rattle.network.specs.Clauses.{last, well_formed}
use Rattle.network.specs.Lists.{In}
use Rattle.rules.specs.Store.{Meaning, live, is_at, is_dead, how_many, kept_clauses}

-- a lawful meaning, with lists known to be empty by their lengths
pub record Law (M : Meaning) : Type 0 where
  pub formed : (l : ℕ) (C : List ℕ) → In C (M.own l) → well_formed C ≡ true
  pub placed : (l : ℕ) (C : List ℕ) → In C (M.own l) → last C ≡ l
  pub bounded : (x : ℕ) → 2048 ≤ x → length (M.uses x) ≡ 0
  pub named : (x l i : ℕ) → In (live l i) (M.uses x) → i < length (M.own l)
  pub once : (x l i : ℕ) → how_many (is_at l i) (M.uses x) ≤ 1
  pub mourned : (x : ℕ) → how_many is_dead (M.uses x) ≤ M.dead_clauses
  pub within : kept_clauses M ≤ M.room
  pub unindexed : M.indexed ≡ false → ((x : ℕ) → length (M.uses x) ≡ 0) × (M.dead_clauses ≡ 0)
