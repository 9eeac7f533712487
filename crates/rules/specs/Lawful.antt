-- What holds of a store's meaning from the beginning, and what every change keeps.
-- Assumes nothing.
use Rattle.std.specs.Prelude.{◌≡◌, ℕ, ◌<◌, ◌≤◌, true, false, List, [], length}
use Rattle.network.specs.Clauses.{last, well_formed}
use Rattle.network.specs.Lists.{In}
use Rattle.rules.specs.Store.{live, Meaning, is_at, is_dead, how_many, kept_clauses, emptied, enter, remove, retire, shorten, index_on, index_off}
use Rattle.rules.specs.Work.{Work}
use Rattle.rules.specs.Const.{const_simplify}
use Rattle.rules.specs.Bve.{bve_simplify}
use Rattle.rules.specs.Subsume.{subsume_simplify}

-- a meaning as a store may have it
pub record Lawful (M : Meaning) : Type 0 where
  -- each clause is well formed, and stands in the list of its last literal
  pub formed : (l : ℕ) (C : List ℕ) → In C (M.own l) → well_formed C ≡ true
  pub placed : (l : ℕ) (C : List ℕ) → In C (M.own l) → last C ≡ l
  -- only literals of the nodes up to 1,023 have uses; each use names a place that is there, and no place twice
  pub bounded : (x : ℕ) → 2048 ≤ x → M.uses x ≡ []
  pub named : (x l i : ℕ) → In (live l i) (M.uses x) → i < length (M.own l)
  pub once : (x l i : ℕ) → how_many (is_at l i) (M.uses x) ≤ 1
  -- a list of uses has no more dead clauses than there are
  pub mourned : (x : ℕ) → how_many is_dead (M.uses x) ≤ M.dead_clauses
  -- no more clauses are kept than there is room for
  pub within : kept_clauses M ≤ M.room
  -- without an index there are no uses, and no dead clauses
  pub unindexed : M.indexed ≡ false → ((x : ℕ) → M.uses x ≡ []) × (M.dead_clauses ≡ 0)

-- every change of a store, answered yes or no, keeps its meaning lawful and its room
pub record ChangesLawful : Type 0 where
  pub begins : (M : Meaning) → Lawful (emptied M)
  pub enters : (C : List ℕ) (M : Meaning) → Lawful M → Lawful (enter C M).0 × ((enter C M).0.room ≡ M.room)
  pub removes : (l i : ℕ) (M : Meaning) → Lawful M → Lawful (remove l i M).0 × ((remove l i M).0.room ≡ M.room)
  pub retires : (l i : ℕ) (M : Meaning) → Lawful M → Lawful (retire l i M).0 × ((retire l i M).0.room ≡ M.room)
  pub shortens : (l i x : ℕ) (M : Meaning) → Lawful M → Lawful (shorten l i x M).0 × ((shorten l i x M).0.room ≡ M.room)
  pub indexes : (M : Meaning) → Lawful M → Lawful (index_on M) × ((index_on M).room ≡ M.room)
  pub unindexes : (M : Meaning) → Lawful M → Lawful (index_off M) × ((index_off M).room ≡ M.room)

-- every pass keeps the meaning of the store lawful, and its room
pub record PassesLawful : Type 0 where
  pub const : (W : Work) → Lawful W.store → Lawful (const_simplify W).store × ((const_simplify W).store.room ≡ W.store.room)
  pub bve : (W : Work) → Lawful W.store → Lawful (bve_simplify W).store × ((bve_simplify W).store.room ≡ W.store.room)
  pub subsume : (W : Work) → Lawful W.store → Lawful (subsume_simplify W).store × ((subsume_simplify W).store.room ≡ W.store.room)
