-- What waits, with what counts. Assumes nothing.
use Rattle.std.specs.Prelude.{◌≡◌, ℕ, ◌+◌, ◌*◌, ◌<◌, ◌≤◌, ◌↔◌, List, [], ◌∷◌, Some, None, Option, slice_index, nat_eq}
use Rattle.std.specs.List.{ContainsAt as Has}
use Rattle.network.specs.Lists.{In}
use Rattle.rules.specs.Store.{Meaning, count, how_many}
use Rattle.rules.specs.Bve.{least, but}
use Rattle.queue.specs.Waiting.{waiting}
use Rattle.waiting.specs.declared.waiting.Waiting.{Waiting}

-- the count of each literal
abbrev pub counts_of : Waiting → ℕ → ℕ
counts_of w l = slice_index w.counts.now l

-- both counts of a node
abbrev pub both_counts : Waiting → ℕ → ℕ
both_counts w n = counts_of w (2 * n) + counts_of w (2 * n + 1)

-- the node n waits
abbrev pub Waits : Waiting → ℕ → Type 0
Waits w n = Has (waiting w.queue) n

-- the same nodes wait
abbrev pub SameWait : Waiting → Waiting → Type 0
SameWait v w = (n : ℕ) → Waits w n ↔ Waits v n

-- how often l stands in a list
abbrev pub times : ℕ → List ℕ → ℕ
times l C = how_many (nat_eq l) C

-- exactly the nodes of the list wait
abbrev pub WaitAll : Waiting → List ℕ → Type 0
WaitAll w ns = (n : ℕ) → Waits w n ↔ In n ns

-- the answer of a look for the next of the nodes ns: none of none, and still none waits, else the first for which f is least, and the others still wait
abbrev pub Next : (ℕ → ℕ) → List ℕ → Option ℕ → Waiting → Type 0
Next f [] r w = (r ≡ None) × WaitAll w []
Next f (k ∷ ks) r w = (r ≡ Some (least f k ks)) × WaitAll w (but (least f k ks) (k ∷ ks))

-- the counts of the literals of the nodes 0 to top are those of M
abbrev pub Counting : Meaning → ℕ → Waiting → Type 0
Counting M top w = (l : ℕ) → l < 2 * top + 2 → counts_of w l ≡ count M l

-- as it begins: the counts are those of M for the literals of the nodes 0 to top, and these nodes wait
pub record Begins (M : Meaning) (top : ℕ) (w : Waiting) : Type 0 where
  pub counts : Counting M top w
  pub none : (l : ℕ) → 2 * top + 2 ≤ l → counts_of w l ≡ 0
  pub waits : (n : ℕ) → Waits w n ↔ (n ≤ top)
