use Rattle.rings.proofs.Bounds.{ring_laws}
use Rattle.rings.proofs.ring_laws.Goals as goal

pub returns : goal.returns
returns c = ring_laws
