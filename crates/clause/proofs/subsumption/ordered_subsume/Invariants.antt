use Rattle.std.proofs.Common.{◌≡◌, drop}
use Rattle.network.specs.Subsumption.{part_of}
use Rattle.clause.proofs.subsumption.ordered_subsume.Given as goal

abbrev pub invariant-loop-d : goal.invariant-loop-d
invariant-loop-d l = part_of l.rest (drop l.d-index l.b) ≡ part_of l.a l.b
