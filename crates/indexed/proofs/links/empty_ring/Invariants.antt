use Rattle.std.proofs.Common.{◌≡◌, ℕ, ◌<◌, length}
use Rattle.indexed.specs.Links.{node_count}
use Rattle.rings.specs.Rings.{ring}
use Rattle.rings.specs.Tidy.{Tidy}
use Rattle.indexed.proofs.links.empty_ring.Given as goal

abbrev pub invariant-loop-n : goal.invariant-loop-n
invariant-loop-n l = Tidy 2048 (node_count l.room) l.ws × ((m : ℕ) → m < 2048 → (m ≡ l.k → ⊥) → ring 2048 (node_count l.room) l.ws m ≡ ring 2048 (node_count l.room) l.initial.ws m)

abbrev pub decreases-loop-n : goal.decreases-loop-n
decreases-loop-n l = length (ring 2048 (node_count l.room) l.ws l.k)
