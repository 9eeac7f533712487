use Rattle.std.proofs.Common.{◌≡◌, ℕ, ◌<◌, []}
use Rattle.indexed.specs.Links.{node_count}
use Rattle.rings.specs.Rings.{ring}
use Rattle.rings.specs.Tidy.{Tidy}
use Rattle.indexed.proofs.uses.empty_rings.Given as goal

abbrev pub invariant-loop-k : goal.invariant-loop-k
invariant-loop-k l = Tidy 2048 (node_count l.room) l.ws × ((m : ℕ) → m < 2048 → m < l.k → ring 2048 (node_count l.room) l.ws m ≡ [])
