use Rattle.std.proofs.Common.{◌∙◌, ap, arith, ◌+◌, ◌*◌}
use Rattle.image.specs.Faults.{fault}
use Rattle.simplifier.specs.Shown.{work_of}
use Rattle.subsumption_pass.proofs.Whole.{refused, answered}
use Rattle.subsumption_pass.proofs.pass.subsume_simplify.Goals as goal

pub returns-then-words-need-clause-answer : goal.returns-then-words-need-clause-answer
returns-then-words-need-clause-answer g c out =
    refused _ (work_of g.S.Lists.meaning c.args.s.now out) c.at.result (omega (arith, c.if-words-need.true, c.room.ensures)) (c.at.ensures ∙ ap (λ r. fault 10 (64 * r + 8192)) c.room.ensures)

pub returns-clause-answer : goal.returns-clause-answer
returns-clause-answer g c out =
    answered _ c.live.result (work_of g.S.Lists.meaning c.args.s.now out) (g.S.Lists.meaning c.index_on.new.self) (g.S.Lists.meaning c.walk_all.new.s) (g.S.Lists.meaning c.index_off.new.self)
    (omega (arith, c.if-words-need.false, c.room.ensures)) c.index_on.ensures.makes c.walk_all.ensures c.index_off.ensures.makes c.live.ensures
