use Rattle.owned.proofs.Asks.{Back}
use Rattle.owned.proofs.owned.Owned.standing.Given as goal

abbrev pub invariant-loop-i : goal.invariant-loop-i
invariant-loop-i l = Back l.self l.x l.i l.at
