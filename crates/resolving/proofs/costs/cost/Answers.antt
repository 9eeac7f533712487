use Rattle.std.proofs.Common.{◌+◌, ◌*◌, sym, arith}
use Rattle.resolving.proofs.Sizes.{lists_few, cost_none}
use Rattle.resolving.proofs.costs.cost.Goals as goal

pub returns-then-node-gt-HIGHEST_NODE : goal.returns-then-node-gt-HIGHEST_NODE
returns-then-node-gt-HIGHEST_NODE g c = sym (cost_none (g.S.Lists.meaning c.args.store.now) (g.met.S.Lists.lawful c.args.store.now) c.args.node (omega arith))

pub overflow_add-result : goal.overflow_add-result
overflow_add-result g c =
    let s = c.args.store.now in
    let few = lists_few (g.S.Lists.meaning s) (g.met.S.Lists.lawful s) in
    let r = g.met.S.Lists.small s in
    omega (arith, few (2 * c.args.node), few (2 * c.args.node + 1))
