-- The header of an image: the highest node, the number of clauses, and where each node's run begins and ends. Assumes nothing.
use Rattle.std.specs.Prelude.{ℕ, zero, suc, ◌+◌, Bool, true, cond, ◌&&◌, List, [], length, ◌==◌, nat_le, nat_lt, slice_index, slice_range}

-- word 0, the highest node
abbrev pub top : List ℕ → ℕ
top ws = slice_index ws 0

-- word 1, the number of clauses as the image states it
abbrev pub stated_count : List ℕ → ℕ
stated_count ws = slice_index ws 1

-- where the run of node k + 1 begins and that of node k ends
abbrev pub offset : List ℕ → ℕ → ℕ
offset ws k = slice_index ws (k + 2)

-- the first so many offsets do not fall
unfoldable pub climbs : List ℕ → ℕ → Bool
climbs ws zero = true
climbs ws (suc k) = nat_le (offset ws k) (offset ws (suc k)) && climbs ws k

-- the counts and offsets fit the words
unfoldable pub headed : List ℕ → Bool
headed ws =
    nat_le 3 (length ws) && (nat_le (top ws) 1023 && (nat_le (top ws + 3) (length ws) && (offset ws 0 == top ws + 3 && (climbs ws (top ws) && offset ws (top ws) == length ws))))

-- the words from one offset up to another
abbrev pub between : ℕ → ℕ → List ℕ → List ℕ
between a b ws = slice_range ws a b

-- the words of a node; node 0, and a node past the highest, has none
abbrev pub run : List ℕ → ℕ → List ℕ
run ws zero = []
run ws (suc k) = cond (nat_lt k (top ws)) (between (offset ws k) (offset ws (suc k)) ws) []
