use Rattle.removing.proofs.Sweeps.{Swept}
use Rattle.removing.proofs.clear.clear_uses.Given as goal

abbrev pub invariant-loop-l : goal.invariant-loop-l
invariant-loop-l g l = Swept l.node l.l (g.S.Lists.meaning l.initial.store) (g.S.Lists.meaning l.store) l.initial.waiting l.waiting
