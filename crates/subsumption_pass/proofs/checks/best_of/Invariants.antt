use Rattle.std.proofs.Common.{◌≡◌, ◌<◌, length, drop, get_or}
use Rattle.network.specs.Assignments.{node}
use Rattle.rules.specs.Bve.{least}
use Rattle.subsumption_pass.proofs.checks.best_of.Given as goal

abbrev pub invariant-loop-word : goal.invariant-loop-word
invariant-loop-word l = record {
  within : node l.best.word < length l.around;
  least : least (λ x. get_or l.around (node x) 0) l.initial.best.word l.rest ≡ least (λ x. get_or l.around (node x) 0) l.best.word (drop l.word-index l.rest);
}
