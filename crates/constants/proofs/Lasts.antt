-- The last literal of a clause, by its place. Assumes nothing.
use Rattle.std.proofs.Common.{◌≡◌, ℕ, zero, suc, List, [], ◌∷◌, length, get_or, refl, arith}
use Rattle.network.specs.Clauses.{last}

pub last_at : (C : List ℕ) (n : ℕ) → length C ≡ suc n → get_or C n 0 ≡ last C
last_at [] n e = absurd (omega arith)
last_at (x ∷ []) zero e = refl
last_at (x ∷ []) (suc n) e = absurd (omega arith)
last_at (x ∷ y ∷ C) zero e = absurd (omega arith)
last_at (x ∷ y ∷ C) (suc n) e = last_at (y ∷ C) n (omega arith)
