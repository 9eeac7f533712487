use Rattle.std.proofs.Common.{arith}
use Rattle.rules.proofs.Lawful.{own_few}
use Rattle.store.proofs.walk.walked.Goals as goal

pub overflow_add-i : goal.overflow_add-i
overflow_add-i g c =
    let s = own_few (g.S.Lists.meaning c.args.s.now) (g.met.S.Lists.lawful c.args.s.now) c.args.l in
    let m = g.met.S.Lists.small c.args.s.now in
    let i = c.loop-at.invariant.0 in
    omega arith
