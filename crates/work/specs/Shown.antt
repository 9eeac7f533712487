-- What a simplifier holds, in the words of the rules, and what it is for calls to lead there. Assumes nothing.
use Rattle.std.specs.Prelude.{◌≡◌, ℕ, Bool, false, List, Result, slice_index_or}
use Rattle.network.specs.Clauses.{has}
use Rattle.image.specs.declared.fault.Fault.{Fault}
use Rattle.rules.specs.Store.{Meaning}
use Rattle.rules.specs.Work.{Work}
use Rattle.rules.specs.Theorem.{flags, Reached}
use Rattle.simplifier.specs.declared.state.Simplifier.{Simplifier}
use Rattle.simplifier.specs.Shown.{work_of}
use Rattle.handing_out.specs.Outcome.{left_in}

-- the flags fs are of exactly the nodes in ns
abbrev pub Marks : List Bool → List ℕ → Type 0
Marks fs ns = (k : ℕ) → flags fs k ≡ has k ns

-- the simplifier s holds the work W; in which order nodes were taken out, s does not tell
pub record Shows {S : Type 0} (meaning : S → Meaning) (s : Simplifier S) (W : Work) : Type 0 where
  pub is : work_of meaning s W.out ≡ W
  pub marks : Marks s.taken_out W.out

-- P holds of each work that the simplifier s holds
abbrev pub OfEachShown : {S : Type 0} → (S → Meaning) → Simplifier S → (Work → Type 0) → Type 0
OfEachShown meaning s P = (W : Work) → Shows meaning s W → P W

-- the simplifier s holds a work that a start of the image ws, with the nodes frozen that s has as frozen, and some calls lead to
pub record Underway {S : Type 0} (meaning : S → Meaning) (ws : List ℕ) (s : Simplifier S) : Type 0 where
  pub work : Work
  pub shown : Shows meaning s work
  pub reached : Reached ws s.frozen work

-- the call, which gives of each work the work after it and its answer, leads from s to t and answers r
pub record Leads {S R : Type 0} (meaning : S → Meaning) (call : Work → Work × R) (s t : Simplifier S) (r : R) : Type 0 where
  pub work : OfEachShown meaning s (λ W. Shows meaning t (call W).0)
  pub answer : OfEachShown meaning s (λ W. r ≡ (call W).1)

-- the words that the call answers of what s holds stand in front of those lent to it, which are as they were where it is refused
abbrev pub Writes : {S : Type 0} → (S → Meaning) → (Work → Result (List ℕ) Fault) → Simplifier S → List ℕ → List ℕ → Type 0
Writes meaning call s old new = OfEachShown meaning s (λ W. new ≡ left_in old (call W))
