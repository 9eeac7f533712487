use Rattle.input.proofs.Readings.{Decoding}
use Rattle.input.proofs.bytes.decode.Given as goal

abbrev pub invariant-loop-k : goal.invariant-loop-k
invariant-loop-k l = Decoding l.words l.k l.initial.out l.out
