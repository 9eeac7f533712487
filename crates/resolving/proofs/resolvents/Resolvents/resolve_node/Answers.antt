use Rattle.std.proofs.Common.{true, sym, subst, arith}
use Rattle.resolving.specs.Collected.{Added}
use Rattle.resolving.proofs.Collecting.{none_past, both_added, first_less}
use Rattle.resolving.proofs.Walks.{added_none}
use Rattle.resolving.proofs.resolvents.Resolvents.resolve_node.Goals as goal

pub returns-then-node-gt-HIGHEST_NODE : goal.returns-then-node-gt-HIGHEST_NODE
returns-then-node-gt-HIGHEST_NODE g c =
    let s = c.args.store.now in
    let R = c.args.self.now in
    subst (λ Rs. Added Rs true R R) (sym (none_past (g.S.Lists.meaning s) (g.met.S.Lists.lawful s) c.args.node (omega arith))) (added_none R)

pub returns-in_err-resolve_sign : goal.returns-in_err-resolve_sign
returns-in_err-resolve_sign g c =
    rw c.from_residual.ensures (first_less (g.S.Lists.meaning c.args.store.now) c.args.node c.from-pivot.result.word c.from-pivot.ensures c.in_err-resolve_sign.ensures)

pub returns : goal.returns
returns g c = both_added (g.S.Lists.meaning c.args.store.now) c.args.node c.from-pivot.result.word c.from-pivot.ensures c.opposite.result.word c.opposite.ensures c.in_ok-resolve_sign.ensures c.resolve_sign-2.ensures
