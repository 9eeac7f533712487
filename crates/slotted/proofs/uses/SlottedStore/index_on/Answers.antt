use Rattle.slotted.specs.Facts.{law}
use Rattle.slotted.specs.Tied.{meaning_of}
use Rattle.slotted.proofs.Fills.{filled_facts, filled_meaning, filled_none, index_stays}
use Rattle.slotted.proofs.Stands.{ties}
use Rattle.slotted.proofs.uses.SlottedStore.index_on.Goals as goal

pub fill-requires : goal.fill-requires
fill-requires g c = let s = c.args.self.now in filled_none s.own s.indexed (g.I.Index.slots s.index) (g.I.Index.joined s.index) (g.I.Index.used s.index) (g.met.I.Index.sensible s.index) (ties s.tied) c.if-self.false s.fits

pub returns-then-self-clause-makes : goal.returns-then-self-clause-makes
returns-then-self-clause-makes g c = let s = c.args.self.now in index_stays (meaning_of s.own s.indexed (g.I.Index.used s.index)) c.if-self.true

pub invariant_of-self : goal.invariant_of-self
invariant_of-self g c =
    let s = c.args.self.now in
    let u = g.I.Index.used s.index in
    let i = c.fill.new.index in
    filled_facts s.own s.indexed (g.I.Index.slots s.index) (g.I.Index.joined s.index) u (g.met.I.Index.sensible s.index) (ties s.tied) c.if-self.false
    c.fill.new.own (g.I.Index.slots i) (g.I.Index.joined i) (g.I.Index.used i) c.fill.ensures.filled c.fill.ensures.same (law (meaning_of s.own s.indexed u) s.law)

pub returns-clause-makes : goal.returns-clause-makes
returns-clause-makes g c =
    let s = c.args.self.now in
    let i = c.fill.new.index in
    filled_meaning s.own s.indexed (g.I.Index.slots s.index) (g.I.Index.joined s.index) (g.I.Index.used s.index) (g.met.I.Index.sensible s.index) (ties s.tied) c.if-self.false
    c.fill.new.own (g.I.Index.slots i) (g.I.Index.joined i) (g.I.Index.used i) c.fill.ensures.filled c.fill.ensures.same
