-- The nodes of a slot put into rings one after another, and taken out. Assumes nothing.
use Rattle.std.specs.Prelude.{◌≡◌, ℕ, ◌+◌, ◌-◌, ◌<◌, ◌≤◌, true, cond, List, [], ◌∷◌, ◌++◌, map, length, take, ◌≢◌, EachIndex, slice_index}
use Rattle.network.specs.Clauses.{has, in_order, without}
use Rattle.rings.specs.Rings.{next, ring}
use Rattle.rings.specs.Tidy.{Tidy}
use Rattle.indexed.specs.Links.{first_node, node_count, slot_of}

-- a slot can be listed at these literals: at most 31, in order, of the nodes up to 1,023
abbrev pub Fair : List ℕ → Type 0
Fair literals = (length literals ≤ 31) × (in_order literals ≡ true) × EachIndex literals (λ i. slice_index literals i < 2048)

-- node n stands alone in the one exactly if it does in the other
abbrev pub AloneAlike : List ℕ → List ℕ → ℕ → Type 0
AloneAlike ws vs n = (next ws n ≡ n → next vs n ≡ n) × (next vs n ≡ n → next ws n ≡ n)

-- of ws, where slot x had joined no ring, vs has it in the rings of the first i literals
pub record Joining (room : ℕ) (ws : List ℕ) (x : ℕ) (literals : List ℕ) (i : ℕ) (vs : List ℕ) : Type 0 where
  pub tidy : Tidy 2048 (node_count room) vs
  pub uses : (k : ℕ) → k < 2048 → map slot_of (ring 2048 (node_count room) vs k) ≡ cond (has k (take i literals)) (map slot_of (ring 2048 (node_count room) ws k) ++ (x ∷ [])) (map slot_of (ring 2048 (node_count room) ws k))
  pub done : (j : ℕ) → j < i → next vs (first_node x + j) ≢ first_node x + j
  pub left : (j : ℕ) → i ≤ j → j < 31 → next vs (first_node x + j) ≡ first_node x + j
  pub others : (n : ℕ) → 2048 ≤ n → n < node_count room → slot_of n ≢ x → AloneAlike ws vs n

-- of ws, vs has the first i nodes of slot x in no ring
pub record Leaving (room : ℕ) (ws : List ℕ) (x i : ℕ) (vs : List ℕ) : Type 0 where
  pub tidy : Tidy 2048 (node_count room) vs
  pub uses : (k : ℕ) → k < 2048 → without x (map slot_of (ring 2048 (node_count room) vs k)) ≡ without x (map slot_of (ring 2048 (node_count room) ws k))
  pub gone : (j : ℕ) → j < i → next vs (first_node x + j) ≡ first_node x + j
  pub others : (n : ℕ) → 2048 ≤ n → n < node_count room → ((j : ℕ) → j < i → n ≢ first_node x + j) → AloneAlike ws vs n
