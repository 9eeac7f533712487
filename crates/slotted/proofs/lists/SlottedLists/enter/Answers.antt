use Rattle.slotted.specs.Facts.{law}
use Rattle.owned.specs.Lists.{listed}
use Rattle.slotted.specs.Tied.{meaning_of}
use Rattle.slotted.proofs.Enters.{Entered, entered_off, entered_on, fits_by}
use Rattle.slotted.proofs.Fronts.{front_take}
use Rattle.slotted.proofs.Stands.{ties}
use Rattle.slotted.proofs.lists.SlottedLists.enter.Goals as goal
use Rattle.slotted.proofs.lists.SlottedLists.enter.Goals.{After-join, Else-indexed}
use Rattle.slotted.proofs.lists.SlottedLists.enter.Given.{Over}

on : (g : Over) (c : After-join g) → Entered c.args.self.now.own c.admit.new.self c.args.self.now.indexed (g.I.Index.used c.args.self.now.index) c.args.clause.now (g.I.Index.slots c.join.new.self) (g.I.Index.joined c.join.new.self) (g.I.Index.used c.join.new.self)
on g c =
    let s = c.args.self.now in
    let C = c.args.clause.now in
    let i = c.join.new.self in
    let u = g.I.Index.used s.index in
    entered_on s.own c.admit.new.self s.indexed (g.I.Index.joined s.index) u (g.met.I.Index.sensible s.index) (ties s.tied) c.in-Some.x C c.in-Some.ensures.makes c.in-Some.ensures.when
    (law (meaning_of s.own s.indexed u) s.law) (g.I.Index.slots s.index) s.fits c.if-indexed.true (g.I.Index.slots i) c.join.ensures.room (g.I.Index.joined i) (g.I.Index.used i) _ (front_take C) c.join.ensures.joins (c.join.ensures.uses (listed c.admit.new.self))

off : (g : Over) (c : Else-indexed g) → Entered c.args.self.now.own c.admit.new.self c.args.self.now.indexed (g.I.Index.used c.args.self.now.index) c.args.clause.now (g.I.Index.slots c.args.self.now.index) (g.I.Index.joined c.args.self.now.index) (g.I.Index.used c.args.self.now.index)
off g c =
    let s = c.args.self.now in
    let u = g.I.Index.used s.index in
    entered_off s.own c.admit.new.self s.indexed (g.I.Index.joined s.index) u (g.met.I.Index.sensible s.index) (ties s.tied) c.in-Some.x c.args.clause.now c.in-Some.ensures.makes c.in-Some.ensures.when
    (law (meaning_of s.own s.indexed u) s.law) (g.I.Index.slots s.index) s.fits c.if-indexed.false

pub returns-in_default-clause-when : goal.returns-in_default-clause-when
returns-in_default-clause-when g c = let s = c.args.self.now in fits_by s.own s.indexed (g.I.Index.used s.index) c.args.clause.now c.in_default.ensures.when

pub invariant_of-self-then-indexed : goal.invariant_of-self-then-indexed
invariant_of-self-then-indexed g c = (on g c).0

pub invariant_of-self-else-indexed : goal.invariant_of-self-else-indexed
invariant_of-self-else-indexed g c = (off g c).0

pub returns-then-indexed-clause-when : goal.returns-then-indexed-clause-when
returns-then-indexed-clause-when g c = let s = c.args.self.now in fits_by s.own s.indexed (g.I.Index.used s.index) c.args.clause.now c.in-Some.ensures.when

pub returns-then-indexed-clause-makes : goal.returns-then-indexed-clause-makes
returns-then-indexed-clause-makes g c = (on g (goal.at.returns-then-indexed-clause-makes g c).After-join).1

pub returns-else-indexed-clause-when : goal.returns-else-indexed-clause-when
returns-else-indexed-clause-when g c = let s = c.args.self.now in fits_by s.own s.indexed (g.I.Index.used s.index) c.args.clause.now c.in-Some.ensures.when

pub returns-else-indexed-clause-makes : goal.returns-else-indexed-clause-makes
returns-else-indexed-clause-makes g c = (off g (goal.at.returns-else-indexed-clause-makes g c).Else-indexed).1
