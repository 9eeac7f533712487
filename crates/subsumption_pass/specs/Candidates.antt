-- A clause against a run of its candidates, whatever others are left after them. Assumes nothing.
use Rattle.std.specs.Prelude.{◌≡◌, ℕ, List, ◌++◌, Option, Result, Ok, Err}
use Rattle.rules.specs.Store.{Ref, Meaning}
use Rattle.rules.specs.Subsume.{checked}
use Rattle.subsumption_pass.specs.Checks.{against, Follows, Stands, Next}
use Rattle.subsumption_pass.specs.declared.candidates.Lost.{Lost}

-- the clause at place i of own l, against the candidates R and whatever follows, stands at some place now, against the candidates R₁ and that
abbrev pub Reaches : {H : Type 0} → (H → ℕ → ℕ → Type 0) → H → ℕ → ℕ → (Meaning → List Ref) → (Meaning → List Ref) → Meaning → Meaning → Type 0
Reaches at one l i R R₁ M N =
    (i₁ : ℕ) × (Stands at N one l i₁ × ((Q : Meaning → List Ref) → Follows Q → against l i (R M ++ Q M) M ≡ against l i₁ (R₁ N ++ Q N) N))

-- the clause is lost among the candidates R, and the next stands at its place
abbrev pub Ends : {H : Type 0} → (H → ℕ → ℕ → Type 0) → Option H → ℕ → ℕ → (Meaning → List Ref) → Meaning → Meaning → Type 0
Ends at next l i R M N = (p : ℕ) × (Next at N next l p × ((Q : Meaning → List Ref) → Follows Q → against l i (R M ++ Q M) M ≡ (N, p)))

-- the clause goes through the candidates R to the candidates R₁, or is lost among them
abbrev pub Goes : {H : Type 0} → (H → ℕ → ℕ → Type 0) → H → ℕ → ℕ → (Meaning → List Ref) → (Meaning → List Ref) → Meaning → Meaning → Result (Unit {0}) (Lost H) → Type 0
Goes at one l i R R₁ M N (Ok u) = Reaches at one l i R R₁ M N
Goes at one l i R R₁ M N (Err lost) = Ends at lost.next l i R M N

-- the clause at place i of own l is checked, and the next stands at the place to look at next
abbrev pub Checked : {H : Type 0} → (H → ℕ → ℕ → Type 0) → ℕ → ℕ → Meaning → Meaning → Option H → Type 0
Checked at l i M N next = (p : ℕ) × (Next at N next l p × (checked l i M ≡ (N, p)))
