use Rattle.std.proofs.Common.{◌≡◌, length, rules, arith}
use Rattle.starting.proofs.Blanks.{blank_is}
use Rattle.starting.proofs.blank.Goals as goal

pub returns-clause-begun : goal.returns-clause-begun
returns-clause-begun g c =
    let long : length c.args.intake.now.frozen ≡ 1024 = search rules in
    blank_is c.args.intake.now.image.now c.args.intake.now.frozen (g.S.Lists.meaning c.args.store) c.top.result 1024 c.loop-node.frozen _
    c.top.ensures.answer c.loop-node.invariant.long long (λ k h. c.loop-node.invariant.same k (omega arith)) c.empty.ensures
