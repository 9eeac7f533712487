use Rattle.std.proofs.Common.{length, refl, sym, rules}
use Rattle.rules.specs.Bve.{all_resolvents}
use Rattle.resolving.proofs.Collecting.{given_up, counted, standing}
use Rattle.resolving.proofs.collection.collect.Goals as goal

pub returns-in_err-resolve_node-clause-number : goal.returns-in_err-resolve_node-clause-number
returns-in_err-resolve_node-clause-number g c =
    let Rs = all_resolvents (g.S.Lists.meaning c.args.store.now) c.args.node in
    rw c.from_residual.ensures (given_up c.args.most c.args.words.now (sym c.if-not-suffice.ensures) Rs refl refl (length Rs) c.in_err-resolve_node.ensures)

pub returns-clause-number : goal.returns-clause-number
returns-clause-number g c = counted c.args.most c.args.words.now (sym c.if-not-suffice.ensures) (all_resolvents (g.S.Lists.meaning c.args.store.now) c.args.node) refl refl c.in_ok-resolve_node.ensures

pub returns-clause-stand : goal.returns-clause-stand
returns-clause-stand g c =
    standing c.args.most c.args.words.now (sym c.if-not-suffice.ensures) (all_resolvents (g.S.Lists.meaning c.args.store.now) c.args.node) refl refl c.in_ok-resolve_node.ensures (search rules) (search rules) refl refl refl
