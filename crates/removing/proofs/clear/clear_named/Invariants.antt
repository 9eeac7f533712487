use Rattle.removing.proofs.Clears.{Cleared}
use Rattle.removing.proofs.clear.clear_named.Given as goal

abbrev pub invariant-loop-k : goal.invariant-loop-k
invariant-loop-k g l = Cleared g.S.Lists.meaning g.S.Lists.at l.node l.l l._k (g.S.Lists.meaning l.initial.store) l.initial.waiting l.store l.waiting l.at
