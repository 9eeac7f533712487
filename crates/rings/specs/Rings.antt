-- Rings of nodes in words. Node n has the node after it at word 2n and the node before it at word 2n + 1.
-- Nodes below `heads` are the heads of rings, and the others are slots. A slot in no ring is linked to itself. Assumes nothing.
use Rattle.std.specs.Prelude.{◌≡◌, ℕ, zero, suc, ◌+◌, ◌*◌, ◌<◌, ◌≤◌, Bool, cond, not, ◌&&◌, List, [], ◌∷◌, length, Some, None, filter, Option, ◌==◌, ◌≢◌, nat_le, nat_lt, slice_index, slice_index_or, slice_set}
use Rattle.std.specs.List.{AllByRecursion}

-- the node after node n
abbrev pub next : List ℕ → ℕ → ℕ
next ws n = slice_index ws (2 * n)

-- the node before node n
abbrev pub prev : List ℕ → ℕ → ℕ
prev ws n = slice_index ws (2 * n + 1)

-- from a over xs to b, each linked to the one after it and back
unfoldable pub Path : (nx pv : ℕ → ℕ) → ℕ → List ℕ → ℕ → Type 0
Path nx pv a [] b = (nx a ≡ b) × (pv b ≡ a)
Path nx pv a (x ∷ xs) b = ((nx a ≡ x) × (pv x ≡ a)) × Path nx pv x xs b

-- the slots from x on, up to a head, at most so many
unfoldable pub walk : (nx : ℕ → ℕ) (heads : ℕ) → ℕ → ℕ → List ℕ
walk nx heads zero x = []
walk nx heads (suc k) x = cond (nat_lt x heads) [] (x ∷ walk nx heads k (nx x))

-- the slots of a head's ring
unfoldable pub ring : (heads nodes : ℕ) → List ℕ → ℕ → List ℕ
ring heads nodes ws l = walk (next ws) heads nodes (next ws l)

-- each node is the one after the one before it, and the one before the one after it
abbrev pub Knit : ℕ → List ℕ → Type 0
Knit nodes ws =
    (n : ℕ) → n < nodes → ((next ws n < nodes) × (prev ws n < nodes)) × ((next ws (prev ws n) ≡ n) × (prev ws (next ws n) ≡ n))

-- each head's ring comes back to the head
abbrev pub Rings : ℕ → ℕ → List ℕ → Type 0
Rings heads nodes ws = (l : ℕ) → l < heads → Path (next ws) (prev ws) l (ring heads nodes ws l) l

-- the words with node s in a ring of its own
abbrev pub unlinked : List ℕ → ℕ → List ℕ
unlinked ws s =
    slice_set (slice_set (slice_set (slice_set ws (2 * prev ws s) (next ws s)) (2 * next ws s + 1) (prev ws s)) (2 * s) s) (2 * s + 1) s

-- the words with node s, which stood alone, before node n
abbrev pub linked : List ℕ → ℕ → ℕ → List ℕ
linked ws n s =
    slice_set (slice_set (slice_set (slice_set ws (2 * prev ws n) s) (2 * s) n) (2 * s + 1) (prev ws n)) (2 * n + 1) s

-- the list without s
abbrev pub without : ℕ → List ℕ → List ℕ
without s xs = filter (λ x. not (x == s)) xs

-- s before each n of xs, of which b is the end
unfoldable pub before : ℕ → ℕ → List ℕ → ℕ → List ℕ
before n s [] b = cond (b == n) (s ∷ []) []
before n s (x ∷ xs) b = cond (x == n) (s ∷ (x ∷ before n s xs b)) (x ∷ before n s xs b)

-- words that hold rings: there are words for all nodes, and the rings stand
abbrev pub Held : ℕ → ℕ → List ℕ → Type 0
Held heads nodes ws = ((heads ≤ nodes) × (2 * nodes ≤ length ws)) × (Knit nodes ws × Rings heads nodes ws)

-- no two places have the same
abbrev pub Apart : List ℕ → Type 0
Apart xs = (i j : ℕ) → i < j → j < length xs → slice_index xs i ≢ slice_index xs j

-- s is none of xs
abbrev pub Lacks : ℕ → List ℕ → Type 0
Lacks s xs = AllByRecursion (λ x. x ≢ s) xs

-- no two are the same, by heads and tails
unfoldable pub Differ : List ℕ → Type 0
Differ [] = Unit {0}
Differ (x ∷ xs) = Lacks x xs × Differ xs

-- the list with its place i taken out
unfoldable pub drop_at : {X : Type 0} → ℕ → List X → List X
drop_at i [] = []
drop_at zero (x ∷ xs) = xs
drop_at (suc i) (x ∷ xs) = x ∷ drop_at i xs

-- a family with another value at l
abbrev pub at : {X : Type 0} → (ℕ → X) → ℕ → X → ℕ → X
at f l x k = cond (k == l) x (f k)

-- slot x stands at place i of ring l
pub record Place (heads nodes : ℕ) (ws : List ℕ) (l i x : ℕ) : Type 0 where
  pub held : Held heads nodes ws
  pub head : l < heads
  pub within : i < length (ring heads nodes ws l)
  pub is : slice_index_or (ring heads nodes ws l) i 0 ≡ x

-- x taken out of ring l, whose last takes its place
abbrev pub swapped : List ℕ → ℕ → ℕ → List ℕ
swapped ws l x =
    cond (prev ws l == x) (unlinked ws x) (unlinked (linked (unlinked ws (prev ws l)) x (prev ws l)) x)

-- ## What the code does, on any words at all

-- both words of node n are there
abbrev pub inside : List ℕ → ℕ → Bool
inside ws n = nat_lt (2 * n + 1) (length ws)

-- node n and the nodes beside it are there
abbrev pub knotted : List ℕ → ℕ → Bool
knotted ws n = inside ws n && (inside ws (next ws n) && inside ws (prev ws n))

-- node s taken out of its ring, where it and the nodes beside it are there
unfoldable pub cut_out : List ℕ → ℕ → List ℕ
cut_out ws s = cond (knotted ws s) (unlinked ws s) ws

-- node s, which stood alone, put before node n, where the nodes are there
unfoldable pub put_in : List ℕ → ℕ → ℕ → List ℕ
put_in ws n s = cond (inside ws s && knotted ws n) (linked ws n s) ws

-- node x moved to the end of the ring of h
abbrev pub shifted : List ℕ → ℕ → ℕ → List ℕ
shifted ws h x = put_in (cut_out ws x) h x

-- the last of the ring of l put before x, unless it is x
abbrev pub brought : List ℕ → ℕ → ℕ → List ℕ
brought ws l x = cond (prev ws l == x) ws (put_in (cut_out ws (prev ws l)) x (prev ws l))

-- x taken out of the ring of l, whose last takes its place
abbrev pub swapped_out : List ℕ → ℕ → ℕ → List ℕ
swapped_out ws l x = cond (inside ws l) (cut_out (brought ws l x) x) ws

-- the slot after node n, if what comes after it is a slot
abbrev pub slot_after : ℕ → List ℕ → ℕ → Option ℕ
slot_after heads ws n = cond (inside ws n && nat_le heads (next ws n)) (Some (next ws n)) None

-- the first `nodes` nodes each alone, as far as the words reach
unfoldable pub scattered : ℕ → List ℕ → List ℕ
scattered zero ws = ws
scattered (suc n) ws = slice_set (slice_set (scattered n ws) (2 * n) n) (2 * n + 1) n
