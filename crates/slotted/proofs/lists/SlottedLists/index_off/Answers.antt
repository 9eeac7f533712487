use Rattle.slotted.specs.Facts.{law}
use Rattle.slotted.specs.Tied.{meaning_of}
use Rattle.slotted.proofs.Offs.{off_facts, off_meaning}
use Rattle.std.proofs.Common.{arith}
use Rattle.slotted.proofs.lists.SlottedLists.index_off.Goals as goal

pub invariant_of-self : goal.invariant_of-self
invariant_of-self g c =
    let s = c.args.self.now in
    let u = g.I.Index.used s.index in
    let i = c.clear.new.self in
    off_facts c.free_lost.new.self (g.I.Index.joined i) (g.I.Index.used i) c.clear.ensures.joins c.free_lost.ensures.losts c.clear.ensures.uses s.own s.indexed u c.free_lost.ensures
    (law (meaning_of s.own s.indexed u) s.law) (g.I.Index.slots i) (let e = c.clear.ensures.room in let f = s.fits in omega arith)

pub returns-clause-makes : goal.returns-clause-makes
returns-clause-makes g c =
    let s = c.args.self.now in
    let i = c.clear.new.self in
    off_meaning c.free_lost.new.self (g.I.Index.joined i) (g.I.Index.used i) c.clear.ensures.joins c.free_lost.ensures.losts c.clear.ensures.uses s.own s.indexed (g.I.Index.used s.index) c.free_lost.ensures
