-- Marks as words. Assumes nothing.
use Rattle.std.specs.Prelude.{ℕ, Bool, List, map, ◌==◌}

-- which places are marked: those with the word 1
abbrev pub marked : List ℕ → List Bool
marked ws = map (λ w. w == 1) ws
