use Rattle.std.proofs.Common.{[], ◌∙◌}
use Rattle.image.proofs.Walks.{reads_clause, reads_none}
use Rattle.simplifier.specs.Shown.{work_of}
use Rattle.starting.proofs.Entering.{uncut, first_short, one_less, all_entered}
use Rattle.starting.proofs.enter_run.Goals as goal

pub unwrap-requires : goal.unwrap-requires
unwrap-requires g c = uncut c.loop-clause.clause-iterator c.next.new.self _ c.next.ensures.steps c.loop-clause.invariant.2.whole c.in-Some.clause c.in-Some.is

pub loop-clause-preserved : goal.loop-clause-preserved
loop-clause-preserved g c =
    let left = c.loop-clause.invariant.2 in
    let f = reads_clause c.loop-clause.clause-iterator c.next.new.self _ c.next.ensures.steps c.in-Some.clause c.unwrap.result c.in-Some.is c.unwrap.ensures in
    (tt, tt, one_less _ _ _ _ left c.unwrap.result.now _ f (work_of g.S.Lists.meaning c.add.new.self []) (c.add.ensures.makes (first_short _ _ _ _ left c.unwrap.result.now _ f) []), c.add.ensures.kept ∙ c.loop-clause.invariant.3)

pub returns-clause-entered : goal.returns-clause-entered
returns-clause-entered g c = all_entered _ _ _ _ c.loop-clause.invariant.2 (reads_none c.loop-clause.clause-iterator c.next.new.self _ c.next.ensures.steps c.in-None.is)
