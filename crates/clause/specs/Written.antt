-- A clause that a function may give, and the slice that it writes it to. Assumes nothing.
use Rattle.std.specs.Prelude.{◌≡◌, ℕ, ◌<◌, cond, List, [], ◌∷◌, ◌++◌, length, drop, Some, None, Option, ◌==◌, nat_lt}
use Rattle.network.specs.Assignments.{node}
use Rattle.network.specs.Resolution.{unless_twice}

-- xs in front of a clause, if there is one
abbrev pub before : List ℕ → Option (List ℕ) → Option (List ℕ)
before xs None = None
before xs (Some ys) = Some (xs ++ ys)

-- a clause, unless the room is less than the most that it can take
abbrev pub if_room : ℕ → ℕ → Option (List ℕ) → Option (List ℕ)
if_room room most o = cond (nat_lt room most) None o

-- xs stands at the front of `new`, and n is its length; past it `new` is as `old` was
abbrev pub Front : ℕ → List ℕ → List ℕ → List ℕ → Type 0
Front n xs old new = (n ≡ length xs) × (new ≡ xs ++ drop n old)

-- r is the length of the clause, which stands at the front of `new`; where there is no clause, r is None, and past the first `most`
-- words `new` is as `old` was
abbrev pub Gives : ℕ → Option ℕ → Option (List ℕ) → List ℕ → List ℕ → Type 0
Gives most None None old new = drop most new ≡ drop most old
Gives most None (Some xs) old new = ⊥
Gives most (Some n) None old new = ⊥
Gives most (Some n) (Some xs) old new = Front n xs old new

-- what a function answers that writes a clause of at most `most` words to a slice, which was `old` and is `new`: None also where the
-- slice is shorter than that, and then nothing is written
pub record Writes (most : ℕ) (r : Option ℕ) (o : Option (List ℕ)) (old new : List ℕ) : Type 0 where
  pub given : Gives most r (if_room (length old) most o) old new
  pub short : length old < most → new ≡ old

-- the list, unless a node stands twice in a row, the first after the node p
abbrev pub after_node : ℕ → List ℕ → Option (List ℕ)
after_node p [] = Some []
after_node p (l ∷ ls) = cond (node l == p) None (before (l ∷ []) (after_node (node l) ls))

-- the same, where there may be no node before the list
abbrev pub after : Option ℕ → List ℕ → Option (List ℕ)
after None ls = unless_twice ls
after (Some p) ls = after_node p ls

-- the node of the last literal, if there is one
abbrev pub last_node : List ℕ → Option ℕ
last_node [] = None
last_node (l ∷ []) = Some (node l)
last_node (l ∷ k ∷ ls) = last_node (k ∷ ls)
