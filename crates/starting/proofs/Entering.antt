-- The clauses of a run, entered one by one. Assumes nothing.
use Rattle.std.proofs.Common.{◌≡◌, ℕ, ◌≤◌, true, List, [], length, Ok, Err, Some, Option, Result, sym, refl, ap, ◌∙◌, subst, inl, inr}
use Rattle.std.proofs.lemmas.Bool.{both_ways}
use Rattle.std.specs.Borrow.{Bor}
use Rattle.std.specs.Result.{IsOk}
use Rattle.network.specs.Lists.{In}
use Rattle.image.specs.Runs.{Front, Reads, clauses, whole, left_of}
use Rattle.image.specs.declared.fault.Fault.{Fault}
use Rattle.image.specs.declared.reader.Clauses.{Clauses}
use Rattle.image.proofs.Walks.{whole_on, clauses_on, clauses_none, cut_whole, reads_fault}
use Rattle.rules.specs.Work.{Work, add, each}

-- of a run with the clauses Cs the words ws are left: with the clauses before them entered, the work V has become W
pub record Left (Cs : List (List ℕ)) (ws : List ℕ) (V W : Work) : Type 0 where
  pub whole : whole ws ≡ true
  pub short : (C : List ℕ) → In C (clauses ws) → length C ≤ 32
  pub entered : each add (clauses ws) W ≡ each add Cs V

-- no clause of what is left is cut
pub uncut : (s t : Clauses) (r : Option (Result (Bor (List ℕ)) Fault)) → Reads s r t → whole (left_of s) ≡ true → (x : Result (Bor (List ℕ)) Fault) → r ≡ Some x → IsOk x
uncut s t r h w (Ok c) e = refl
uncut s t r h w (Err f) e = absurd (both_ways (whole (left_of s)) (cut_whole (left_of s) (reads_fault s t r h (Err f) f s.left.node e refl refl).1) w)

module _ (Cs : List (List ℕ)) (V W : Work) (ws : List ℕ) (l : Left Cs ws V W) where
  module _ (C rest : List ℕ) (f : Front ws C rest) where
    -- the first clause that is left is short
    pub first_short : length C ≤ 32
    first_short = l.short C (subst (In C) (sym (clauses_on ws C rest f)) (inl refl))

    -- and is entered
    pub one_less : (U : Work) → U ≡ add C W → Left Cs rest V U
    one_less U e = record {
      whole = sym (whole_on ws C rest f) ∙ l.whole;
      short = λ D i. l.short D (subst (In D) (sym (clauses_on ws C rest f)) (inr i));
      entered = ap (each add (clauses rest)) e ∙ sym (ap (λ Ds. each add Ds W) (clauses_on ws C rest f)) ∙ l.entered;
    }

  -- nothing is left
  pub all_entered : ws ≡ [] → W ≡ each add Cs V
  all_entered e = sym (ap (λ Ds. each add Ds W) (clauses_none ws e)) ∙ l.entered
