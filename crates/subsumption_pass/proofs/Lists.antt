-- Lists by places. Assumes nothing.
use Rattle.std.proofs.Common.{◌≡◌, ℕ, suc, ◌-◌, List, [], ◌∷◌, length, get_or, refl, ap, ◌∙◌, arith}
use Rattle.network.specs.Clauses.{last}

-- the last literal is the one at the last place
pub last_at : (C : List ℕ) → get_or C (length C - 1) 0 ≡ last C
last_at [] = refl
last_at (x ∷ []) = refl
last_at (x ∷ y ∷ C) = let e : length (x ∷ y ∷ C) - 1 ≡ suc (length (y ∷ C) - 1) = omega arith in ap (λ n. get_or (x ∷ y ∷ C) n 0) e ∙ last_at (y ∷ C)
