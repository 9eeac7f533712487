-- The marks of clauses: a word each, with the bit of each node of the clause, by its number modulo 32. Assumes nothing.
use Rattle.std.specs.Prelude.{◌≡◌, ℕ, ◌%◌, ◌^◌, ◌<◌, false, List, None, length, fold, bit_and, bit_or, slice_index}
use Rattle.network.specs.Subsumption.{fits}
use Rattle.network.specs.Assignments.{node}
use Rattle.lemmas.specs.Words.{lemma_at, Stands}
use Rattle.lemmas.specs.declared.words.Clauses.{Clauses}

-- the word n with the bit of a literal's node
abbrev pub noding : ℕ → ℕ → ℕ
noding n l = bit_or n (2 ^ (node l % 32))

-- the mark of a clause: each literal adds the bit of its node
abbrev pub mark : List ℕ → ℕ
mark C = fold noding 0 C

-- where a bit of C's mark is missing in D's, C does not fit D, not even but for one literal
abbrev pub MarksSpare : Type 0
MarksSpare = (C D : List ℕ) → (bit_and (mark C) (mark D) ≡ mark C → ⊥) → fits C D ≡ (false, None)

-- each clause that stands and has a word for it has its mark there
abbrev pub Marked : Clauses → List ℕ → Type 0
Marked C S = (k : ℕ) → k < length S → Stands C k → slice_index S k ≡ mark (lemma_at C k)

-- the first n numbers of the line O are below m
abbrev pub Numbered : List ℕ → ℕ → ℕ → Type 0
Numbered O n m = (p : ℕ) → p < n → slice_index O p < m
