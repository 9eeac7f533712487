-- Lemmas in words: one word each for the lengths, 32 words each for the literals. Assumes nothing.
use Rattle.std.specs.Prelude.{◌≡◌, ℕ, ◌+◌, ◌*◌, ◌/◌, ◌<◌, ◌≤◌, List, map, length, take, drop, slice_index, slice_index_or}
use Rattle.std.specs.Borrow.{MutBor}
use Rattle.lemmas.specs.declared.words.Clauses.{Clauses}

-- the clause that arrived as the kth
abbrev pub lemma_at : Clauses → ℕ → List ℕ
lemma_at C k = take (slice_index C.lengths.now k) (drop (32 * k) C.literals.now)

-- the clauses that a list of numbers names, in its order
abbrev pub named : Clauses → List ℕ → List (List ℕ)
named C ks = map (lemma_at C) ks

-- the kth clause has its words, and at most 32 literals
pub record Stands (C : Clauses) (k : ℕ) : Type 0 where
  pub counted : k < length C.lengths.now
  pub room : 32 * k + 32 ≤ length C.literals.now
  pub short : slice_index_or C.lengths.now k 0 ≤ 32

-- the same words are lent as before, as many of them
abbrev pub SameLent : MutBor (List ℕ) → MutBor (List ℕ) → Type 0
SameLent r r' = (r'.ghost_name ≡ r.ghost_name) × (length r'.now ≡ length r.now)

-- of the clauses C, which are now C', only words of those whose number has P have changed
pub record Wrote (P : ℕ → Type 0) (C C' : Clauses) : Type 0 where
  pub lengths : SameLent C.lengths C'.lengths
  pub literals : SameLent C.literals C'.literals
  pub standing : (k : ℕ) → Stands C k → Stands C' k
  pub counts : (k : ℕ) → (P k → ⊥) → slice_index C'.lengths.now k ≡ slice_index C.lengths.now k
  pub words : (i : ℕ) → (P (i / 32) → ⊥) → slice_index C'.literals.now i ≡ slice_index C.literals.now i
