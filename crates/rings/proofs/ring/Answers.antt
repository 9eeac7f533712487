use Rattle.std.proofs.Common.{ap}
use Rattle.rings.specs.Rings.{next, ring, walk}
use Rattle.rings.proofs.ring.Goals as goal

pub returns : goal.returns
unfolding ring
returns c = ap (walk (next c.args.ws.now) c.args.heads c.args.nodes) c.next_in.ensures
