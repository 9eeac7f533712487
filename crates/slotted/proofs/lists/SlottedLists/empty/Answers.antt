use Rattle.std.proofs.Common.{arith}
use Rattle.slotted.proofs.Offs.{blank_facts}
use Rattle.slotted.proofs.lists.SlottedLists.empty.Goals as goal

pub invariant_of-self : goal.invariant_of-self
invariant_of-self g c =
    let s = c.args.self.now in
    let i = c.clear.new.self in
    let e = c.empty.ensures in
    blank_facts c.empty.new.self (g.I.Index.joined i) (g.I.Index.used i) c.clear.ensures.joins e.losts c.clear.ensures.uses s.own.room e.room e.owns
    (g.I.Index.slots i) (let e = c.clear.ensures.room in let f = s.fits in omega arith)
