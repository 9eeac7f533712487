use Rattle.std.proofs.Common.{[], ap, sym, ◌∙◌}
use Rattle.removing.proofs.Settles.{refused_follows, entered_follows}
use Rattle.removing.proofs.enter.enter_told.Goals as goal

pub returns-then-enter_left-clause-follows : goal.returns-then-enter_left-clause-follows
returns-then-enter_left-clause-follows g c =
    let m = g.S.Lists.meaning in
    let s = c.args.s.now in
    let e = c.enter_left in
    let t = c.clause_comes in
    entered_follows (m s.store) (m e.new.self.store) c.args.clause.now (ap (λ W. W.store) (e.ensures.makes [])) (sym e.ensures.when ∙ c.if-enter_left.true) (g.met.S.Lists.lawful e.new.self.store) (g.met.S.Lists.small s.store)
    c.args.waiting.now t.new.self t.ensures.waits t.ensures.counts

pub returns-else-enter_left-clause-follows : goal.returns-else-enter_left-clause-follows
returns-else-enter_left-clause-follows g c =
    let m = g.S.Lists.meaning in
    let e = c.enter_left in
    refused_follows (m c.args.s.now.store) (m e.new.self.store) c.args.clause.now (ap (λ W. W.store) (e.ensures.makes [])) (sym e.ensures.when ∙ c.if-enter_left.false) c.args.waiting.now
