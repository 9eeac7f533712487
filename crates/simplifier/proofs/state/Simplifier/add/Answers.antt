use Rattle.std.proofs.Common.{length, ap, sym, ◌∙◌}
use Rattle.network.specs.Values.{simplified}
use Rattle.rules.specs.Work.{add, add_simplified}
use Rattle.simplifier.specs.Shown.{work_of}
use Rattle.simplifier.proofs.Entries.{written_some, written_none}
use Rattle.simplifier.proofs.state.Simplifier.add.Goals as goal

pub returns-in-Some-clause-makes : goal.returns-in-Some-clause-makes
unfolding add
returns-in-Some-clause-makes g c le out =
    let W = work_of g.S.Lists.meaning c.args.self.now out in
    c.enter_left.ensures.makes out
    ∙ ap (λ o. add_simplified o W) (sym (written_some (length c.args.clause.now) c.in-Some.n (simplified W.values c.args.clause.now) _ c.left_of.new.out c.in-Some.ensures))

pub returns-in_default-clause-makes : goal.returns-in_default-clause-makes
unfolding add
returns-in_default-clause-makes g c le out =
    let W = work_of g.S.Lists.meaning c.args.self.now out in
    ap (λ o. add_simplified o W) (sym (written_none (length c.args.clause.now) (simplified W.values c.args.clause.now) _ c.left_of.new.out c.in_default.ensures le))
