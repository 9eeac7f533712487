-- Uses in rings: how they lie in words. Assumes nothing.
-- The heads 0 to 2047 are those of the uses of each literal. Slot x, from 2050 on, has 31 nodes, one for each literal that it can be listed at.
use Rattle.std.specs.Prelude.{◌≡◌, ℕ, ◌+◌, ◌-◌, ◌*◌, ◌/◌, ◌<◌, ◌≤◌, Bool, cond, not, ◌&&◌, List, [], map, length, ◌==◌, nat_le, nat_lt, slice_index}
use Rattle.rings.specs.Rings.{Differ, next, ring}
use Rattle.rings.specs.Tidy.{Tidy}

-- how many nodes there are
abbrev pub node_count : ℕ → ℕ
node_count room = 2048 + 31 * room

-- the first node of slot x
abbrev pub first_node : ℕ → ℕ
first_node x = 2048 + 31 * (x - 2050)

-- the slot of a node
abbrev pub slot_of : ℕ → ℕ
slot_of n = (n - 2048) / 31 + 2050

-- slot x is one of so many
abbrev pub in_range : ℕ → ℕ → Bool
in_range room x = nat_le 2050 x && nat_lt x (2050 + room)

-- the nodes of a ring
unfoldable pub nodes_of : ℕ → List ℕ → ℕ → List ℕ
nodes_of room ws k = cond (nat_lt 0 room && nat_lt k 2048) (ring 2048 (node_count room) ws k) []

-- the uses of k: the slots of the nodes of its ring
abbrev pub used_in : ℕ → List ℕ → ℕ → List ℕ
used_in room ws k = map slot_of (nodes_of room ws k)

-- slot x has joined: its first node is in a ring
unfoldable pub joined_in : ℕ → List ℕ → ℕ → Bool
joined_in room ws x = in_range room x && not (next ws (first_node x) == first_node x)

-- what holds of the words where there is room
pub record Whole (room : ℕ) (ws : List ℕ) : Type 0 where
  pub tidy : Tidy 2048 (node_count room) ws
  -- the nodes of a slot that are in rings are its first ones
  pub packed : (x j : ℕ) → 2050 ≤ x → x < 2050 + room → j + 1 < 31 → next ws (first_node x + j) ≡ first_node x + j → next ws (first_node x + (j + 1)) ≡ first_node x + (j + 1)
  -- no slot is twice in a ring
  pub once : (k : ℕ) → k < 2048 → Differ (map slot_of (ring 2048 (node_count room) ws k))

-- what holds of any words
abbrev pub Sound : ℕ → List ℕ → Type 0
Sound room ws = 0 < room → Whole room ws

-- the rings have no node
pub record Bare (room : ℕ) (ws : List ℕ) : Type 0 where
  pub tidy : Tidy 2048 (node_count room) ws
  pub none : (k : ℕ) → k < 2048 → ring 2048 (node_count room) ws k ≡ []

-- node n is at place j of the ring of k
abbrev pub Stands : ℕ → List ℕ → ℕ → ℕ → ℕ → Type 0
Stands room ws n k j = (j < length (nodes_of room ws k)) × (slice_index (nodes_of room ws k) j ≡ n)
