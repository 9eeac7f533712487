-- The sequence: one ring of words, with the slots that have joined. Assumes nothing.
-- Its head is the node 0, and slot x has the node x - 2049.
use Rattle.std.specs.Prelude.{◌≡◌, ℕ, ◌+◌, ◌-◌, ◌<◌, Bool, cond, not, ◌&&◌, List, [], map, filter, length, ◌==◌, nat_le, nat_lt, slice_index}
use Rattle.rings.specs.Rings.{next, ring}
use Rattle.rings.specs.Tidy.{Tidy}
use Rattle.network.specs.Clauses.{has}
use Rattle.slotted.specs.Indexes.{Listing}

-- the slot of a node
abbrev pub slot_of : ℕ → ℕ
slot_of n = n + 2049

-- the nodes behind a node
unfoldable pub nodes_behind : ℕ → List ℕ → ℕ → List ℕ
nodes_behind room ws n = cond (nat_lt 0 room) (ring 1 (room + 1) ws n) []

-- the slots of the sequence: those behind its head
abbrev pub sequence : ℕ → List ℕ → List ℕ
sequence room ws = map slot_of (nodes_behind room ws 0)

-- slot x is one of so many
abbrev pub in_range : ℕ → ℕ → Bool
in_range room x = nat_le 2050 x && nat_lt x (2050 + room)

-- slot x is in the sequence
unfoldable pub joined_in : ℕ → List ℕ → ℕ → Bool
joined_in room ws x = in_range room x && not (next ws (x - 2049) == x - 2049)

-- those of the slots that are listed at k
abbrev pub listed_at : Listing → ℕ → List ℕ → List ℕ
listed_at L k xs = filter (λ x. has k (L x)) xs

-- the uses of k: the slots of the sequence that are listed at it
abbrev pub used_in : ℕ → List ℕ → Listing → ℕ → List ℕ
used_in room ws L k = listed_at L k (sequence room ws)

-- what holds of the words
abbrev pub Sound : ℕ → List ℕ → Type 0
Sound room ws = 0 < room → Tidy 1 (room + 1) ws

-- x is at place j of the uses of k
abbrev pub Stands : ℕ → List ℕ → Listing → ℕ → ℕ → ℕ → Type 0
Stands room ws L x k j = (j < length (used_in room ws L k)) × (slice_index (used_in room ws L k) j ≡ x)
