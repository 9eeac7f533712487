-- The check of one clause against others, as the code goes over them. Assumes nothing.
use Rattle.std.specs.Prelude.{◌≡◌, ℕ, ◌*◌, ◌<◌, ◌≤◌, not, List, ◌∷◌, map, length, filter, Some, None, Option, slice_index}
use Rattle.rules.specs.Store.{Ref, live, Meaning, is_dead, after_retired, retired}
use Rattle.rules.specs.Subsume.{place_after, checked_from, around_size}
use Rattle.subsumption_pass.specs.declared.meetings.Met.{Met}
use Rattle.subsumption_pass.specs.declared.meetings.Met.TheVariants.{Stays, Gone, Lost}

-- ## Refs

-- the refs to clauses that are still there
abbrev pub alive : List Ref → List Ref
alive Rs = filter (λ r. not (is_dead r)) Rs

-- the clause at place i of own l against all that the refs are to
abbrev pub against : ℕ → ℕ → List Ref → Meaning → Meaning × ℕ
against l i Rs M = checked_from (length Rs) l i Rs M

-- two meanings with the same uses, and with own lists of the same lengths
pub record SameShape (M N : Meaning) : Type 0 where
  pub uses : (x : ℕ) → N.uses x ≡ M.uses x
  pub lengths : (x : ℕ) → length (N.own x) ≡ length (M.own x)

-- refs read off a meaning that keep up with it: those read off after a change are those from before as the change left them, but for dead ones
pub record Follows (Q : Meaning → List Ref) : Type 0 where
  pub stays : (M N : Meaning) → SameShape M N → Q N ≡ Q M
  pub retires : (k j : ℕ) (M N : Meaning) → j < length (M.own k) → SameShape (retired k j M) N → alive (map (after_retired k j) (Q M)) ≡ alive (Q N)

-- ## What the words hold

-- word n is the number of clauses around node n
pub record Surrounds (M : Meaning) (words : List ℕ) : Type 0 where
  pub long : 1024 ≤ length words
  pub sizes : (n : ℕ) → n < 1024 → slice_index words n ≡ around_size M (2 * n)

-- ## Handles

-- the handle stands for the clause at place i of own l
abbrev pub Stands : {H : Type 0} → (H → ℕ → ℕ → Type 0) → Meaning → H → ℕ → ℕ → Type 0
Stands at M h l i = at h l i × (i < length (M.own l))

-- the handle stands for some clause
abbrev pub IsLive : {H : Type 0} → (H → ℕ → ℕ → Type 0) → Meaning → H → Type 0
IsLive at M h = (l : ℕ) × ((i : ℕ) × Stands at M h l i)

-- the handle, if there is one, stands for the clause at place i of own l, and otherwise that is the end of own l
abbrev pub Next : {H : Type 0} → (H → ℕ → ℕ → Type 0) → Meaning → Option H → ℕ → ℕ → Type 0
Next at M None l i = length (M.own l) ≡ i
Next at M (Some h) l i = Stands at M h l i

-- ## Meetings

-- the clause at place i of own l met that at place j of own k: what the check then goes on with, or ends with
abbrev pub Meets : {H : Type 0} → (H → ℕ → ℕ → Type 0) → Meaning → Meaning → H → H → ℕ → ℕ → ℕ → ℕ → Met H → Type 0
Meets at M N one other l i k j Stays =
    Stands at N one l i × Stands at N other k j × SameShape M N
    × ((Rs : List Ref) → against l i (live k j ∷ Rs) M ≡ against l i Rs N)
Meets at M N one other l i k j (Gone next) =
    Stands at N one l (place_after k j l i) × Next at N next k j × SameShape (retired k j M) N
    × ((Rs : List Ref) → against l i (live k j ∷ Rs) M ≡ against l (place_after k j l i) (map (after_retired k j) Rs) N)
Meets at M N one other l i k j (Lost next) =
    Next at N next l (place_after k j l i)
    × ((Rs : List Ref) → against l i (live k j ∷ Rs) M ≡ (N, place_after k j l i))
