-- The clauses that are owed for a node, in lent words. Assumes nothing.
use Rattle.std.specs.Prelude.{◌≡◌, ℕ, ◌+◌, ◌*◌, Bool, ◌&&◌, List, length, filter, take, nat_le, nat_lt, slice_index}
use Rattle.lemmas.specs.Lines.{clauses_of}
use Rattle.lemmas.specs.Words.{named}
use Rattle.lemmas.specs.declared.Lemmas.{Lemmas}
use Rattle.rules.specs.Store.{Meaning}
use Rattle.rules.specs.Work.{add, each}
use Rattle.simplifier.specs.Shown.{work_of}
use Rattle.simplifier.specs.declared.state.Simplifier.{Simplifier}
use Rattle.waiting.specs.declared.waiting.Waiting.{Waiting}
use Rattle.removing.specs.Follows.{Follows}

-- the kth clause has its words, and at most 32 literals
abbrev pub stands : Lemmas → ℕ → Bool
stands w k = nat_lt k (length w.lengths.now) && nat_le (32 * k + 32) (length w.literals.now) && nat_le (slice_index w.lengths.now k) 32

-- the clauses that the first n numbers of the line name, of those that have their words
abbrev pub owed : ℕ → Lemmas → List (List ℕ)
owed n w = named (clauses_of w) (filter (stands w) (take n w.order.now))

-- the clauses Cs were entered one after another, and the counts told of each
pub record Settled {S : Type 0} (meaning : S → Meaning) (Cs : List (List ℕ)) (s t : Simplifier S) (v w : Waiting) : Type 0 where
  pub made : (out : List ℕ) → work_of meaning t out ≡ each add Cs (work_of meaning s out)
  pub flags : t.taken_out ≡ s.taken_out
  pub follows : Follows (meaning s.store) (meaning t.store) v w
