use Rattle.std.proofs.Common.{◌≤◌, ◌∷◌, [], length, take, false, arith, ap, sym, ◌∙◌}
use Rattle.std.proofs.lemmas.Grind.{common_steps}
use Rattle.rules.specs.Const.{goes, shrinks, stays}
use Rattle.simplifier.specs.Shown.{work_of}
use Rattle.constants.proofs.Judges.{one_judged}
use Rattle.constants.proofs.judging.judge.Goals as goal

pub returns-in-Goes-clause-makes : goal.returns-in-Goes-clause-makes
returns-in-Goes-clause-makes g c l i at out =
    one_judged (g.S.Lists.meaning c.args.s.now.store) (g.met.S.Lists.lawful c.args.s.now.store) l i c.clause.result.now (work_of g.S.Lists.meaning c.args.s.now out) goes
    (c.clause.ensures l i at) c.in-Goes.ensures.tells

pub returns-in-Shrinks-clause-makes : goal.returns-in-Shrinks-clause-makes
returns-in-Shrinks-clause-makes g c l i at out =
    let S = take c.in-Shrinks.n c.fate_of.new.left in
    let w : length S ≤ 32 = grind (arith, common_steps) in
    one_judged (g.S.Lists.meaning c.args.s.now.store) (g.met.S.Lists.lawful c.args.s.now.store) l i c.clause.result.now (work_of g.S.Lists.meaning c.args.s.now out) (shrinks S)
    (c.clause.ensures l i at) c.in-Shrinks.ensures.tells
    ∙ ap (λ w. (false ∷ [], w)) (sym (c.add.ensures.makes w out))

pub returns-in-Stays-clause-makes : goal.returns-in-Stays-clause-makes
returns-in-Stays-clause-makes g c l i at out =
    one_judged (g.S.Lists.meaning c.args.s.now.store) (g.met.S.Lists.lawful c.args.s.now.store) l i c.clause.result.now (work_of g.S.Lists.meaning c.args.s.now out) stays
    (c.clause.ensures l i at) c.in-Stays.ensures.tells
