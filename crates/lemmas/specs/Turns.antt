-- What one pair of clauses makes of a clause's turn. Assumes nothing.
use Rattle.std.specs.Prelude.{◌≡◌, ℕ, List}
use Rattle.network.specs.Lemmas.{Swept, keeping, once_more, met}
use Rattle.network.specs.Subsumption.{fits}
use Rattle.lemmas.specs.Words.{lemma_at}
use Rattle.lemmas.specs.declared.words.Clauses.{Clauses}
use Rattle.lemmas.specs.declared.words.Meeting.{Meeting}
use Rattle.lemmas.specs.declared.words.Meeting.TheVariants.{Stays, Goes, Joins}

-- what the meeting with the later clause D makes of the rest of the turn
abbrev pub after : Meeting → List ℕ → Swept → Swept
after Stays D s = keeping D s
after Goes D s = s
after Joins D s = once_more s

-- the clause a met the later clause b, and whatever the rest of the turn is, the two go on in it as the clauses C' now are
abbrev pub Meets : (C C' : Clauses) (a b : ℕ) (m : Meeting) → Type 0
Meets C C' a b m =
    (go : List ℕ → Swept)
    → met (lemma_at C a) (lemma_at C b) (fits (lemma_at C a) (lemma_at C b)) go
    ≡ after m (lemma_at C' b) (go (lemma_at C' a))
