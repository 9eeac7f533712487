-- Clauses that may admit a setting do: a search through the values of the nodes that they name finds some that satisfy them. So that
-- two images admit the same settings is known even where the calls that led to them are not. Assumes nothing.
use Rattle.std.proofs.Common.{◌≡◌, ℕ, zero, suc, ◌+◌, ◌<◌, ◌≤◌, Bool, true, false, cond, ◌||◌, ltb, ◌⊎◌, List, [], ◌∷◌, sym, refl, ap, ◌∙◌, subst, inl, inr, ⊎_elim, arith}
use Rattle.std.proofs.lemmas.Bool.{cases_Bool, cases_eq, cases_lt, both_ways, cond-true, cond-false, lt-ltb}
use Rattle.std.proofs.lemmas.Bool.Decides.{nat_tests}
use Rattle.std.proofs.Math.Logic.{∥∥₁_elim, ∥∥₁_map}
use mathlib.Core.Path.{fun_ext}
use denote.Struct.Props.{≡_prop}
use base.Stored.{coded_bool}
use Rattle.network.specs.Assignments.{Assignment, node, put, holds, sat}
use Rattle.network.specs.Lists.{In}
use Rattle.network.specs.Networks.{Admits}
use Rattle.network.proofs.Holding.{holds_agree}
use Rattle.network.proofs.Lists.{all_at, all_from}
use Rattle.network.proofs.Literals.{put_here, put_apart}
use Rattle.rules.specs.Calls.{clauses_in}
use Rattle.rules.specs.Theorem.{SameSettings}

-- ## The search

or_left : (a b : Bool) → a ≡ true → (a || b) ≡ true
or_left true b e = refl
or_left false b e = absurd (both_ways false refl e)

or_right : (a b : Bool) → b ≡ true → (a || b) ≡ true
or_right true b e = refl
or_right false b e = e

or_cases : (a b : Bool) → (a || b) ≡ true → (a ≡ true) ⊎ (b ≡ true)
or_cases true b e = inl refl
or_cases false b e = inr e

module _ (frozen : Assignment) (p : Assignment → Bool) where
  -- some values of the nodes below n that are not frozen pass the test, the others being as they are
  some : ℕ → Assignment → Bool
  some zero σ = p σ
  some (suc n) σ = cond (frozen n) (some n σ) (some n (put σ n true) || some n (put σ n false))

  -- what passes the test
  abbrev Passes : Assignment → Type 0
  Passes σ = (τ : Assignment) × (p τ ≡ true) × ((k : ℕ) → frozen k ≡ true → τ k ≡ σ k)

  put_passes : (n : ℕ) (σ : Assignment) (b : Bool) → frozen n ≡ false → Passes (put σ n b) → Passes σ
  put_passes n σ b f (τ, t, a) = (τ, t, λ k h. a k h ∙ put_apart σ n b k (λ q. both_ways (frozen n) f (ap frozen (sym q) ∙ h)))

  found : (n : ℕ) (σ : Assignment) → some n σ ≡ true → Passes σ
  unfolding some
  found zero σ e = (σ, e, λ k f. refl)
  found (suc n) σ e = ⊎_elim
      (λ f. found n σ (sym (cond-true (frozen n) _ _ f) ∙ e))
      (λ f. ⊎_elim (λ h. put_passes n σ true f (found n (put σ n true) h)) (λ h. put_passes n σ false f (found n (put σ n false) h)) (or_cases _ _ (sym (cond-false (frozen n) _ _ f) ∙ e)))
      (cases_Bool (frozen n))

  put_agrees : (n : ℕ) (σ τ : Assignment) (k : ℕ) → k ≡ n → τ k ≡ put σ n (τ n) k
  put_agrees n σ τ k q = subst (λ j. τ j ≡ put σ n (τ n) j) (sym q) (sym (put_here σ n (τ n)))

  either : (n : ℕ) (σ : Assignment) (b : Bool) → some n (put σ n b) ≡ true → (some n (put σ n true) || some n (put σ n false)) ≡ true
  either n σ true e = or_left _ _ e
  either n σ false e = or_right _ _ e

  -- the search finds what passes, if that differs from σ below n alone, and not at frozen nodes
  finds : (n : ℕ) (σ τ : Assignment) → p τ ≡ true → ((k : ℕ) → n ≤ k → τ k ≡ σ k) → ((k : ℕ) → frozen k ≡ true → τ k ≡ σ k) → some n σ ≡ true
  unfolding some
  finds zero σ τ t a b = subst (λ f. p f ≡ true) (fun_ext (λ k. a k (omega arith))) t
  finds (suc n) σ τ t a b = ⊎_elim
      (λ f. cond-true (frozen n) _ _ f ∙ finds n σ τ t (λ k l. ⊎_elim (λ q. subst (λ j. τ j ≡ σ j) (sym q) (b n f)) (λ q. a k (omega arith)) (cases_eq k n)) b)
      (λ f. cond-false (frozen n) _ _ f ∙ either n σ (τ n) (finds n (put σ n (τ n)) τ t
      (λ k l. ⊎_elim (put_agrees n σ τ k) (λ q. a k (omega arith) ∙ sym (put_apart σ n (τ n) k q)) (cases_eq k n))
      (λ k h. ⊎_elim (put_agrees n σ τ k) (λ q. b k h ∙ sym (put_apart σ n (τ n) k q)) (cases_eq k n))))
      (cases_Bool (frozen n))

-- ## How far to search

-- a number past each node of a clause
past : List ℕ → ℕ
past [] = 0
past (l ∷ C) = suc (node l) + past C

past_each : (C : List ℕ) (l : ℕ) → In l C → node l < past C
unfolding past
past_each [] l i = elim i [ ]
past_each (x ∷ C) l i = ⊎_elim (λ e. omega (arith, ap node e)) (λ j. omega (arith, past_each C l j)) i

-- a number past each node of clauses
past_all : List (List ℕ) → ℕ
past_all [] = 0
past_all (C ∷ Cs) = past C + past_all Cs

past_all_each : (Cs : List (List ℕ)) (C : List ℕ) (l : ℕ) → In C Cs → In l C → node l < past_all Cs
unfolding past_all
past_all_each [] C l i j = elim i [ ]
past_all_each (D ∷ Cs) C l i j = ⊎_elim (λ e. omega (arith, past_each D l (subst (In l) e j))) (λ h. omega (arith, past_all_each Cs C l h j)) i

-- ## What it shows

-- the values of σ below n, and those of τ from there on
abbrev spliced : ℕ → Assignment → Assignment → Assignment
spliced n σ τ k = cond (ltb k n) (σ k) (τ k)

spliced_low : (n : ℕ) (σ τ : Assignment) (k : ℕ) → k < n → spliced n σ τ k ≡ σ k
spliced_low n σ τ k l = cond-true (ltb k n) _ _ (lt-ltb k n l)

spliced_high : (n : ℕ) (σ τ : Assignment) (k : ℕ) → n ≤ k → spliced n σ τ k ≡ τ k
spliced_high n σ τ k l = grind (arith, nat_tests)

spliced_kept : (n : ℕ) (σ τ : Assignment) (k : ℕ) → σ k ≡ τ k → spliced n σ τ k ≡ τ k
spliced_kept n σ τ k e = ⊎_elim (λ h. spliced_low n σ τ k h ∙ e) (λ h. spliced_high n σ τ k h) (cases_lt k n)

module _ (Cs : List (List ℕ)) (frozen setting : Assignment) where
  abbrev searched : Bool
  searched = some frozen (λ σ. sat σ Cs) (past_all Cs) setting

  admits_searched : Admits Cs frozen setting → searched ≡ true
  admits_searched (σ, s, a) =
      let n = past_all Cs in
      let τ = spliced n σ setting in
      finds frozen (λ ρ. sat ρ Cs) n setting τ
      (all_from (holds τ) Cs (λ C i. holds_agree τ σ C (λ l j. spliced_low n σ setting (node l) (past_all_each Cs C l i j)) ∙ all_at (holds σ) Cs s C i))
      (spliced_high n σ setting)
      (λ k f. spliced_kept n σ setting k (a k f))

  admits_known : ∥ Admits Cs frozen setting ∥₁ → Admits Cs frozen setting
  admits_known h = found frozen (λ σ. sat σ Cs) (past_all Cs) setting (∥∥₁_elim h (≡_prop coded_bool searched true) admits_searched)

-- two images that may admit the same settings do
pub settings_known : (frozen : Assignment) (ws vs : List ℕ) → ∥ SameSettings frozen ws vs ∥₁ → SameSettings frozen ws vs
settings_known frozen ws vs h setting = (
  λ a. admits_known (clauses_in vs) frozen setting (∥∥₁_map h (λ s. (s setting).0 a)),
  λ a. admits_known (clauses_in ws) frozen setting (∥∥₁_map h (λ s. (s setting).1 a)),
)
