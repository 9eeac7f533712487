-- The working words for the resolvents of a node. Assumes nothing.
use Rattle.std.specs.Prelude.{ℕ, ◌+◌, ◌*◌, ◌≤◌, length}
use Rattle.lemmas.specs.declared.Lemmas.{Lemmas}

-- the words hold so many clauses and one more, with a place in the line and working words for each
pub record Roomy (room : ℕ) (w : Lemmas) : Type 0 where
  pub lengths : room ≤ length w.lengths.now
  pub literals : 32 * room + 64 ≤ length w.literals.now
  pub order : room ≤ length w.order.now
  pub entries : room ≤ length w.entries.now
  pub places : room ≤ length w.places.now
