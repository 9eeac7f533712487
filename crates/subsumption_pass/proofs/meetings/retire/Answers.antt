use Rattle.subsumption_pass.proofs.Shapes.{owner_word, some_around, surrounds_retired}
use Rattle.subsumption_pass.proofs.meetings.retire.Goals as goal

pub bounds-around-owner : goal.bounds-around-owner
bounds-around-owner g c =
    let (l, p) = c.requires.live in let (i, a) = p in
    owner_word _ (g.met.S.Lists.lawful c.args.s.now) c.args.around.now c.requires.around l i a.1 _ (c.clause.ensures l i a.0) _ c.last_of.ensures _ c.var-owner.ensures

pub overflow_sub-around : goal.overflow_sub-around
overflow_sub-around g c =
    let (l, p) = c.requires.live in let (i, a) = p in
    some_around _ (g.met.S.Lists.lawful c.args.s.now) c.args.around.now c.requires.around l i a.1 _ (c.clause.ensures l i a.0) _ c.last_of.ensures _ c.var-owner.ensures

pub bounds-around-owner-2 : goal.bounds-around-owner-2
bounds-around-owner-2 g c =
    let (l, p) = c.requires.live in let (i, a) = p in
    owner_word _ (g.met.S.Lists.lawful c.args.s.now) c.args.around.now c.requires.around l i a.1 _ (c.clause.ensures l i a.0) _ c.last_of.ensures _ c.var-owner.ensures

pub returns-clause-around : goal.returns-clause-around
returns-clause-around g c =
    let (l, p) = c.requires.live in let (i, a) = p in
    surrounds_retired _ (g.met.S.Lists.lawful c.args.s.now) c.args.around.now c.requires.around l i a.1 _ (c.clause.ensures l i a.0) _ c.last_of.ensures _ c.var-owner.ensures
    _ (c.retire_at.ensures.makes l i a.0)
