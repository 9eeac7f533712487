-- What is answered of the resolvents of a node, and what the words hold then. Assumes nothing.
use Rattle.std.specs.Prelude.{◌≡◌, ℕ, ◌+◌, ◌*◌, Bool, cond, not, ◌&&◌, List, length, take, Some, None, Option, nat_le, nat_lt, slice_index}
use Rattle.std.specs.List.{range_with_len}
use Rattle.lemmas.specs.Lines.{clauses_of, Admits, Lined}
use Rattle.lemmas.specs.Words.{lemma_at, named, SameLent}
use Rattle.lemmas.specs.declared.Lemmas.{Lemmas}
use Rattle.resolving.specs.Collected.{too_much}

-- there are words for `most` clauses, with a place in the line and working words for each, and for one more clause of up to 64 literals
abbrev pub suffice : ℕ → Lemmas → Bool
suffice most w =
    nat_le most (length w.lengths.now) && nat_le (32 * most + 64) (length w.literals.now) && nat_le most (length w.order.now) && nat_le most (length w.entries.now)
    && nat_le most (length w.places.now)

-- what is answered of the clauses Rs: x, unless they are too much or the words do not suffice
abbrev pub unless_too_much : {X : Type 0} → ℕ → Lemmas → List (List ℕ) → X → Option X
unless_too_much most w Rs x = cond (suffice most w && not (too_much most Rs)) (Some x) None

-- the first n clauses in the words are Rs, and they can be simplified among themselves
pub record Stand (n : ℕ) (Rs : List (List ℕ)) (w : Lemmas) : Type 0 where
  pub clauses : named (clauses_of w) (range_with_len 0 n) ≡ Rs
  pub admits : Admits n w

-- the first n numbers of the line name the clauses Rs, which have their words
pub record Left (n : ℕ) (Rs : List (List ℕ)) (w : Lemmas) : Type 0 where
  pub clauses : named (clauses_of w) (take n w.order.now) ≡ Rs
  pub lined : Lined (clauses_of w) w.order.now n

-- the clause number k, unless not all its words are there
abbrev pub numbered : Lemmas → ℕ → Option (List ℕ)
numbered w k =
    cond (nat_lt k (length w.lengths.now) && nat_le (32 * k + slice_index w.lengths.now k) (length w.literals.now)) (Some (lemma_at (clauses_of w) k)) None

-- the clause that the line names at place p; none where the line has no such place, or not all words of the clause are there
abbrev pub named_at : Lemmas → ℕ → Option (List ℕ)
named_at w p = cond (nat_lt p (length w.order.now)) (numbered w (slice_index w.order.now p)) None

-- the same words are lent as before, as many of them
pub record Lent (w w' : Lemmas) : Type 0 where
  pub lengths : SameLent w.lengths w'.lengths
  pub literals : SameLent w.literals w'.literals
  pub order : SameLent w.order w'.order
  pub entries : SameLent w.entries w'.entries
  pub places : SameLent w.places w'.places
