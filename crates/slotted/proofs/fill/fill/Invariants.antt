use Rattle.slotted.proofs.Fills.{FilledTo}
use Rattle.slotted.proofs.fill.fill.Given as goal

abbrev pub invariant-loop-l : goal.invariant-loop-l
invariant-loop-l g l = FilledTo l.fn.own l.own l.l (g.I.Index.slots l.index) (g.I.Index.joined l.index) (g.I.Index.used l.index)
