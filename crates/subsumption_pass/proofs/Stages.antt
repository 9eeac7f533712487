-- The four runs of candidates around a literal, one after another. Assumes nothing.
use Rattle.std.proofs.Common.{◌≡◌, ℕ, List, [], ◌++◌, append_assoc, sym, ap, ◌∙◌, Option, Ok, Err, Result}
use Rattle.network.specs.Assignments.{opposite}
use Rattle.rules.specs.Store.{Ref, Meaning}
use Rattle.rules.specs.Subsume.{refs_of, around}
use Rattle.subsumption_pass.specs.Checks.{against, Follows, Stands}
use Rattle.subsumption_pass.specs.Candidates.{Reaches, Ends, Goes}
use Rattle.subsumption_pass.specs.declared.candidates.Lost.{Lost}
use Rattle.subsumption_pass.proofs.Refs.{uses_follow, own_follows, both_follow}
use Rattle.subsumption_pass.proofs.Steps.{reaches_on, reaches_end, reaches_more, ends_before}

-- what is left after the uses of x, of y, and after the own clauses of x
abbrev pub own_left : ℕ → Meaning → List Ref
own_left y M = refs_of M y

abbrev pub owns_left : ℕ → ℕ → Meaning → List Ref
owns_left x y M = refs_of M x ++ own_left y M

abbrev pub uses_left : ℕ → ℕ → Meaning → List Ref
uses_left x y M = M.uses y ++ owns_left x y M

abbrev pub all_left : ℕ → ℕ → Meaning → List Ref
all_left x y M = M.uses x ++ uses_left x y M

pub owns_follow : (x y : ℕ) → Follows (owns_left x y)
owns_follow x y = both_follow (λ M. refs_of M x) (own_left y) (own_follows x) (own_follows y)

pub left_follow : (x y : ℕ) → Follows (uses_left x y)
left_follow x y = both_follow (λ M. M.uses y) (owns_left x y) (uses_follow y 0) (owns_follow x y)

-- the runs together are all that stand around x
pub all_goes : {H : Type 0} (at : H → ℕ → ℕ → Type 0) (one : H) (l i x y : ℕ) (M N : Meaning) (r : Result (Unit {0}) (Lost H)) → y ≡ opposite x
    → Goes at one l i (all_left x y) (λ M. []) M N r → Goes at one l i (λ M. around M x) (λ M. []) M N r
all_goes {H = H} at one l i x y M N r e h = by r h
  where
    same : around M x ≡ all_left x y M
    same = ap (λ y. ((M.uses x ++ M.uses y) ++ refs_of M x) ++ refs_of M y) (sym e)
        ∙ append_assoc (M.uses x ++ M.uses y) (refs_of M x) (refs_of M y) ∙ append_assoc (M.uses x) (M.uses y) (owns_left x y M)

    by : (r : Result (Unit {0}) (Lost H)) → Goes at one l i (all_left x y) (λ M. []) M N r → Goes at one l i (λ M. around M x) (λ M. []) M N r
    by (Ok u) (i₁, p) = let (s, f) = p in (i₁, (s, λ Q F. ap (λ Rs. against l i (Rs ++ Q M) M) same ∙ f Q F))
    by (Err o) (i₁, p) = let (s, f) = p in (i₁, (s, λ Q F. ap (λ Rs. against l i (Rs ++ Q M) M) same ∙ f Q F))

module _ {H : Type 0} (one : H) (l i : ℕ) (R P Q : Meaning → List Ref) (q : Follows Q) (at at₁ : H → ℕ → ℕ → Type 0) (M N O : Meaning) (h : Reaches at one l i R (λ M. P M ++ Q M) M N) where
  -- a run of candidates more
  pub then_run : ((i₁ : ℕ) → Stands at N one l i₁ → Reaches at₁ one l i₁ P (λ M. []) N O) → Reaches at₁ one l i R Q M O
  then_run f = reaches_on one l i R (λ M. P M ++ Q M) M at at₁ Q N O h (λ i₁ s. reaches_more at₁ l i₁ P Q N O q one (f i₁ s))

  -- the end in that run
  pub then_lost : (next : Option H) → ((i₁ : ℕ) → Stands at N one l i₁ → Ends at₁ next l i₁ P N O) → Ends at₁ next l i R M O
  then_lost next f = reaches_end one l i R (λ M. P M ++ Q M) M at at₁ next N O h (λ i₁ s. ends_before at₁ l i₁ P Q N O q next (f i₁ s))

-- the last run of candidates, to its end or to that of the clause
pub then_goes : {H : Type 0} (one : H) (l i : ℕ) (R P : Meaning → List Ref) (at at₁ : H → ℕ → ℕ → Type 0) (M N O : Meaning) → Reaches at one l i R P M N
    → (r : Result (Unit {0}) (Lost H)) → ((i₁ : ℕ) → Stands at N one l i₁ → Goes at₁ one l i₁ P (λ M. []) N O r) → Goes at₁ one l i R (λ M. []) M O r
then_goes one l i R P at at₁ M N O h (Ok u) f = reaches_on one l i R P M at at₁ (λ M. []) N O h f
then_goes one l i R P at at₁ M N O h (Err o) f = reaches_end one l i R P M at at₁ o.next N O h f
