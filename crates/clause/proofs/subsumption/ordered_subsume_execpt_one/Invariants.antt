use Rattle.std.proofs.Common.{◌≡◌, drop}
use Rattle.network.specs.Subsumption.{fits_from, fits_but_one}
use Rattle.clause.proofs.Walks.{word_of}
use Rattle.clause.proofs.subsumption.ordered_subsume_execpt_one.Given as goal

abbrev pub invariant-loop-word : goal.invariant-loop-word
invariant-loop-word l = fits_from (word_of l.noted) l.rest (drop l.word-index l.b) ≡ fits_but_one l.a l.b
