use Rattle.owned.specs.Lists.{own}
use Rattle.slotted.proofs.Fills.{Along, left}
use Rattle.slotted.proofs.fill.fill_from.Given as goal

abbrev pub invariant-loop-at : goal.invariant-loop-at
invariant-loop-at g l = Along l.fn.own l.own l.l (g.I.Index.slots l.index) (g.I.Index.joined l.index) (g.I.Index.used l.index) l.at

abbrev pub decreases-loop-at : goal.decreases-loop-at
decreases-loop-at g l = left (own l.fn.own l.l) l.at
