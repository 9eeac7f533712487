use Rattle.std.proofs.Common.{arith}
use Rattle.resolving.proofs.Sizes.{lists_few}
use Rattle.resolving.proofs.costs.weight.Goals as goal

pub overflow_add-result : goal.overflow_add-result
overflow_add-result g c =
    let s = c.args.store.now in
    let r = g.met.S.Lists.small s in
    omega (arith, lists_few (g.S.Lists.meaning s) (g.met.S.Lists.lawful s) c.args.literal)
