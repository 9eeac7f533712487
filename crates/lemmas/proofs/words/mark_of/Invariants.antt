use Rattle.std.proofs.Common.{◌≡◌, drop, fold}
use Rattle.lemmas.specs.Marks.{noding}
use Rattle.lemmas.proofs.words.mark_of.Given as goal

abbrev pub invariant-loop-l : goal.invariant-loop-l
invariant-loop-l l = fold noding l.mark (drop l.l-index l.clause) ≡ fold noding 0 l.clause
