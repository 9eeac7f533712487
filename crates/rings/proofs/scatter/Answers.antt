use Rattle.std.proofs.Common.{refl}
use Rattle.rings.proofs.Bounds.{scattered_none, scattered_step}
use Rattle.rings.proofs.scatter.Goals as goal

pub loop-n-init : goal.loop-n-init
loop-n-init c = (scattered_none c.args.ws.now, refl)

pub loop-n-preserved : goal.loop-n-preserved
loop-n-preserved c = scattered_step c.loop-n.n c.args.ws.now c.loop-n.ws c.loop-n.invariant.0 c.loop-n.invariant.1
