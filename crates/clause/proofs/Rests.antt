-- What a slice pattern leaves behind the first element. Assumes nothing.
use Rattle.std.proofs.Common.{◌≡◌, ℕ, ◌-◌, ◌<◌, List, [], ◌∷◌, length, get_or, take, drop, sym, ap, arith}
use Rattle.std.proofs.lemmas.List.{take_rest}

abbrev pub behind : List ℕ → List ℕ
behind C = take (length C - 1) (drop 1 C)

pub first_behind : (C : List ℕ) → 0 < length C → C ≡ get_or C 0 0 ∷ behind C
first_behind [] h = absurd (omega arith)
first_behind (c ∷ C) h = ap (λ R. c ∷ R) (sym (take_rest (c ∷ C) 1))
