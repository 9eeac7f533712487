-- Rings with no node astray. Assumes nothing.
use Rattle.std.specs.Prelude.{◌≡◌, ℕ, ◌<◌, ◌≤◌, List}
use Rattle.rings.specs.Rings.{Held, Lacks, next, ring}

-- rings stand in the words, and a slot in no ring is linked to itself
pub record Tidy (heads nodes : ℕ) (ws : List ℕ) : Type 0 where
  pub held : Held heads nodes ws
  pub alone : (n : ℕ) → heads ≤ n → n < nodes → ((l : ℕ) → l < heads → Lacks n (ring heads nodes ws l)) → next ws n ≡ n
