use Rattle.std.proofs.Common.{◌+◌, Some, None, Err, ap, ◌∙◌, arith}
use Rattle.starting.proofs.Refusals.{full, loose}
use Rattle.starting.proofs.refusal.Goals as goal

pub returns-then-clauses-room : goal.returns-then-clauses-room
returns-then-clauses-room g c =
    full c.args.intake.now.image.now c.args.intake.now.frozen (g.S.Lists.meaning c.args.store.now) (c.clause_count-clauses.result + 1) (omega (arith, c.clause_count-clauses.ensures.count)) (omega (arith, c.room.ensures)) c.at.result c.at.ensures

pub returns-in-Some : goal.returns-in-Some
returns-in-Some g c =
    ap Err c.at-in-Some.ensures
    ∙ loose c.args.intake.now.image.now c.args.intake.now.frozen (g.S.Lists.meaning c.args.store.now) (c.clause_count-clauses.result + 1) (omega (arith, c.clause_count-clauses.ensures.count)) (omega (arith, c.room.ensures)) (Some c.in-Some.node) c.in-Some.ensures

pub returns-in-None : goal.returns-in-None
returns-in-None g c =
    loose c.args.intake.now.image.now c.args.intake.now.frozen (g.S.Lists.meaning c.args.store.now) (c.clause_count-clauses.result + 1) (omega (arith, c.clause_count-clauses.ensures.count)) (omega (arith, c.room.ensures)) None c.in-None.ensures
