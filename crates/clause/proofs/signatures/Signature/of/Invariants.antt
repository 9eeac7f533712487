use Rattle.std.proofs.Common.{◌≡◌, drop, fold}
use Rattle.network.specs.Signature.{low, high}
use Rattle.clause.proofs.signatures.Signature.of.Given as goal

abbrev pub invariant-loop-l : goal.invariant-loop-l
invariant-loop-l l = (fold low l.low (drop l.l-index l.clause) ≡ fold low 0 l.clause) × (fold high l.high (drop l.l-index l.clause) ≡ fold high 0 l.clause)
