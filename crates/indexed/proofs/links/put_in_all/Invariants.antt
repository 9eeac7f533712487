use Rattle.indexed.specs.Turns.{Joining}
use Rattle.indexed.proofs.links.put_in_all.Given as goal

abbrev pub invariant-loop-j : goal.invariant-loop-j
invariant-loop-j l = Joining l.room l.initial.ws l.x l.literals l.j l.ws
