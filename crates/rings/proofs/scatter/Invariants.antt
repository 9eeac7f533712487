use Rattle.std.proofs.Common.{◌≡◌, length}
use Rattle.rings.specs.Rings.{scattered}
use Rattle.rings.proofs.scatter.Given as goal

abbrev pub invariant-loop-n : goal.invariant-loop-n
invariant-loop-n l = (l.ws ≡ scattered l.n l.initial.ws) × (length l.ws ≡ length l.initial.ws)
