-- A walk by handles along a list: the handle stands at a place, and there is none past the end. Assumes nothing.
use Rattle.std.proofs.Common.{◌≡◌, ℕ, ◌<◌, ◌≤◌, Some, None, Option, arith}

-- the walk is at place i of n
abbrev pub Place : {H : Type 0} → (H → ℕ → Type 0) → ℕ → Option H → ℕ → Type 0
Place at n r i = elim r [ None ↦ n ≡ i | Some h ↦ at h i × (i < n) ]

-- no place is past the end
pub within : {H : Type 0} (at : H → ℕ → Type 0) (n : ℕ) (r : Option H) (i : ℕ) → Place at n r i → i ≤ n
within at n None i e = omega arith
within at n (Some h) i p = omega arith
