use Rattle.std.proofs.Common.{◌≡◌, ℕ, ◌<◌, get_or}
use Rattle.lemmas.specs.Marks.{mark}
use Rattle.lemmas.specs.Words.{lemma_at}
use Rattle.lemmas.proofs.words.Clauses.sign.Given as goal

abbrev pub invariant-loop-k : goal.invariant-loop-k
invariant-loop-k l = (k : ℕ) → k < l.k → get_or l.marks k 0 ≡ mark (lemma_at l.self k)
