-- The line of the numbers of the clauses that are left, and what a simplification makes of it. Assumes nothing.
use Rattle.std.specs.Prelude.{◌≡◌, ℕ, ◌+◌, ◌*◌, ◌<◌, ◌≤◌, Bool, List, length, take, drop, slice_index}
use Rattle.std.specs.List.{range_with_len}
use Rattle.std.specs.List.Sorted.{IsPermutation}
use Rattle.network.specs.Lemmas.{swept, lemmas_from, lemmas}
use Rattle.queue.specs.Keys.{by_key, length_of}
use Rattle.queue.specs.Pops.{Ordered}
use Rattle.lemmas.specs.Words.{lemma_at, named, Stands, Wrote}
use Rattle.lemmas.specs.declared.words.Clauses.{Clauses}
use Rattle.lemmas.specs.declared.simplify.Lemmas.{Lemmas}

-- the first n numbers of the line O name clauses that have their words, each of them once
pub record Lined (C : Clauses) (O : List ℕ) (n : ℕ) : Type 0 where
  pub within : n ≤ length O
  pub stands : (p : ℕ) → p < n → Stands C (slice_index O p)
  pub once : (p q : ℕ) → p < n → q < n → slice_index O p ≡ slice_index O q → p ≡ q

-- the number k stands in the line from the place a on and before b
abbrev pub At : List ℕ → ℕ → ℕ → ℕ → Type 0
At O a b k = (p : ℕ) × (a ≤ p) × (p < b) × (slice_index O p ≡ k)

-- each of the first m numbers of the line O' stands among the first n of O
abbrev pub From : List ℕ → ℕ → List ℕ → ℕ → Type 0
From O n O' m = (p : ℕ) → p < m → (q : ℕ) × (q < n) × (slice_index O' p ≡ slice_index O q)

-- after the turn of the clause at the place `at`: m of the n clauses are left, and what became of them is `swept` of what they were
pub record Turned (at n m : ℕ) (again : Bool) (C : Clauses) (O : List ℕ) (C' : Clauses) (O' : List ℕ) : Type 0 where
  pub low : at < m
  pub high : m ≤ n
  pub swept_to : swept (named C (drop (at + 1) (take n O))) (lemma_at C (slice_index O at)) ≡ record { first = lemma_at C' (slice_index O at); again = again; rest = named C' (drop (at + 1) (take m O')) }
  pub front : take (at + 1) O' ≡ take (at + 1) O
  pub back : drop n O' ≡ drop n O
  pub from : From O n O' m
  pub lined : Lined C' O' m
  pub wrote : Wrote (At O at n) C C'

-- after the turns of all: m of the n clauses are left
pub record Ran (n m : ℕ) (C : Clauses) (O : List ℕ) (C' : Clauses) (O' : List ℕ) : Type 0 where
  pub high : m ≤ n
  pub ran : named C' (take m O') ≡ lemmas_from n (named C (take n O))
  pub back : drop n O' ≡ drop n O
  pub from : From O n O' m
  pub lined : Lined C' O' m
  pub wrote : Wrote (At O 0 n) C C'

-- the numbers below n stand in the line by the length of their clauses, then by number
pub record Sorted (n : ℕ) (L O O' : List ℕ) : Type 0 where
  pub ordered : Ordered (by_key (length_of L)) (take n O')
  pub shuffled : IsPermutation (range_with_len 0 n) (take n O')
  pub back : drop n O' ≡ drop n O

-- the words hold n clauses of at most 32 literals each, with a place in the line and working words for each
pub record Admits (n : ℕ) (w : Lemmas) : Type 0 where
  pub lengths : n ≤ length w.lengths.now
  pub literals : 32 * n ≤ length w.literals.now
  pub order : n ≤ length w.order.now
  pub entries : n ≤ length w.entries.now
  pub places : n ≤ length w.places.now
  pub short : (k : ℕ) → k < n → slice_index w.lengths.now k ≤ 32

-- the clauses that stand in the words
abbrev pub clauses_of : Lemmas → Clauses
clauses_of w = record { lengths = w.lengths; literals = w.literals }

-- of the n clauses by arrival, m are left: the first m of the line name `lemmas` of them, each once, and no word of another clause has
-- changed
pub record Simplified (n m : ℕ) (w w' : Lemmas) : Type 0 where
  pub high : m ≤ n
  pub simplified : named (clauses_of w') (take m w'.order.now) ≡ lemmas (named (clauses_of w) (range_with_len 0 n))
  pub lined : Lined (clauses_of w') w'.order.now m
  pub below : (p : ℕ) → p < m → slice_index w'.order.now p < n
  pub back : drop n w'.order.now ≡ drop n w.order.now
  pub wrote : Wrote (λ k. k < n) (clauses_of w) (clauses_of w')
  pub order : length w'.order.now ≡ length w.order.now
  pub entries : length w'.entries.now ≡ length w.entries.now
  pub places : length w'.places.now ≡ length w.places.now
