-- What a pass makes of a simplifier, by the nodes that it takes out. Assumes nothing.
use Rattle.std.specs.Prelude.{◌≡◌, ℕ, suc, Bool, false, cond, ◌||◌, List, ◌∷◌, ◌++◌, length, slice_index_or}
use Rattle.network.specs.Clauses.{has}
use Rattle.rules.specs.Store.{Meaning, up_to}
use Rattle.rules.specs.Work.{Work}
use Rattle.rules.specs.Bve.{attempts}
use Rattle.simplifier.specs.Shown.{work_of}
use Rattle.simplifier.specs.declared.state.Simplifier.{Simplifier}

-- the flag of node k stands; those past the flags do not
abbrev pub flag : List Bool → ℕ → Bool
flag fs k = slice_index_or fs k false

-- the nodes with n before them, if b
abbrev pub with_node : Bool → ℕ → List ℕ → List ℕ
with_node b n out = cond b (n ∷ out) out

-- exactly the nodes of the list are flagged
abbrev pub Flagged : List Bool → List ℕ → Type 0
Flagged fs out = (k : ℕ) → flag fs k ≡ has k out

-- the simplifier is at the work of A, with the nodes flagged that were taken out of it, and the answer is that of A
pub record Answered {S X : Type 0} (meaning : S → Meaning) (A : Work × X) (s : Simplifier S) (answer : X) : Type 0 where
  pub work : work_of meaning s A.0.out ≡ A.0
  pub answers : answer ≡ A.1
  pub flags : Flagged s.taken_out A.0.out

-- all nodes were attempted, and so many were taken out: these, the last first
pub record Made {S : Type 0} (meaning : S → Meaning) (count : ℕ) (s t : Simplifier S) : Type 0 where
  pub nodes : List ℕ
  pub many : count ≡ length nodes
  pub made : (out : List ℕ) → work_of meaning t (nodes ++ out) ≡ attempts (suc s.top) (up_to (suc s.top)) (work_of meaning s out)
  pub flags : (k : ℕ) → flag t.taken_out k ≡ (has k nodes || flag s.taken_out k)
