-- bve_simplify: a node that costs no more than it gives is replaced by its resolvents (bounded variable elimination).
-- Assumes nothing.
use Rattle.std.specs.Prelude.{ℕ, zero, suc, ◌+◌, ◌*◌, Bool, cond, not, ◌||◌, List, [], ◌∷◌, ◌++◌, map, length, filter, ◌==◌, nat_lt, flat_map, option_to_list}
use Rattle.std.specs.List.{list_any}
use Rattle.network.specs.Resolution.{resolve}
use Rattle.network.specs.Lemmas.{lemmas}
use Rattle.rules.specs.Store.{Ref, live, dead, Meaning, is_at, up_to, count, clause_at, index_on}
use Rattle.rules.specs.Work.{Work, storing, taking_out, each, literals_of, add, clear, clear_all}

-- the clause that a ref is to
abbrev pub referred_clause : Meaning → Ref → List ℕ
referred_clause M (live l i) = clause_at M l i
referred_clause M dead = []

-- the resolvents upon p of the clauses Cs, which have p, with those that the refs Rs are to
unfoldable pub resolvents : Meaning → ℕ → List (List ℕ) → List Ref → List (List ℕ)
resolvents M p Cs Rs = flat_map (λ C. flat_map (λ R. option_to_list (resolve p C (referred_clause M R))) Rs) Cs

-- the resolvents upon n: own(2n) with uses(2n + 1), then own(2n + 1) with uses(2n)
unfoldable pub all_resolvents : Meaning → ℕ → List (List ℕ)
all_resolvents M n = resolvents M (2 * n) (M.own (2 * n)) (M.uses (2 * n + 1)) ++ resolvents M (2 * n + 1) (M.own (2 * n + 1)) (M.uses (2 * n))

-- both counts of a node
abbrev pub use_count : Meaning → ℕ → ℕ
use_count M n = count M (2 * n) + count M (2 * n + 1)

-- the cost of a node: both counts, and both own lengths
abbrev pub cost : Meaning → ℕ → ℕ
cost M n = use_count M n + length (M.own (2 * n)) + length (M.own (2 * n + 1))

-- which places of own l are uses of n
abbrev pub use_marks : Meaning → ℕ → ℕ → List Bool
use_marks M n l = map (λ i. list_any (is_at l i) (M.uses (2 * n)) || list_any (is_at l i) (M.uses (2 * n + 1))) (up_to (length (M.own l)))

-- the store without the uses of n
abbrev pub uses_cleared : ℕ → Work → Meaning
uses_cleared n W = each (λ l M. clear l (use_marks M n l) M) (literals_of W) W.store

-- the work without n: its uses and its own clauses are removed
unfoldable pub taken_out : ℕ → Work → Work
taken_out n W = storing (taking_out W n) (clear_all (2 * n + 1) (clear_all (2 * n) (uses_cleared n W)))

-- the work with the simplified resolvents in place of n
unfoldable pub eliminated : ℕ → List (List ℕ) → Work → Work
eliminated n Rs W = each add (lemmas Rs) (taken_out n W)

-- the highest cost at which a node is attempted
abbrev pub highest_cost : ℕ
highest_cost = 2000

-- the greatest length of a resolvent
abbrev pub greatest_length : ℕ
greatest_length = 32

-- n is not attempted: frozen, without a clause, or too costly
abbrev pub passed_over : Work → ℕ → Bool
passed_over W n = W.frozen n || cost W.store n == 0 || nat_lt highest_cost (cost W.store n)

-- the elimination is given up: a resolvent is too long, or there are more than the cost
abbrev pub given_up : Work → ℕ → List (List ℕ) → Bool
given_up W n Rs = list_any (λ R. nat_lt greatest_length (length R)) Rs || nat_lt (cost W.store n) (length Rs)

-- n is taken out unless that is given up
abbrev pub attempted : ℕ → List (List ℕ) → Work → Work
attempted n Rs W = cond (given_up W n Rs) W (eliminated n Rs W)

-- the attempt at n
unfoldable pub attempt : ℕ → Work → Work
attempt n W = cond (passed_over W n) W (attempted n (all_resolvents W.store n) W)

-- of n and others, the first for which f is least
abbrev pub least : (ℕ → ℕ) → ℕ → List ℕ → ℕ
least f n [] = n
least f n (k ∷ ks) = cond (nat_lt (f k) (f n)) (least f k ks) (least f n ks)

-- those that still wait after n
abbrev pub but : ℕ → List ℕ → List ℕ
but n waiting = filter (λ j. not (j == n)) waiting

-- n is attempted, and then the others
abbrev pub attempt_first : ℕ → List ℕ → Work → (List ℕ → Work → Work) → Work
attempt_first n waiting W go = go (but n waiting) (attempt n W)

-- so many attempts at most: the next node is the one with the fewest uses, of those the lowest
unfoldable pub attempts : ℕ → List ℕ → Work → Work
attempts zero waiting W = W
attempts (suc f) [] W = W
attempts (suc f) (k ∷ ks) W = attempt_first (least (use_count W.store) k ks) (k ∷ ks) W (attempts f)

-- the pass: where the index is new all nodes wait, and where one stood none does
unfoldable pub bve_simplify : Work → Work
bve_simplify W = cond W.store.indexed W (attempts (suc W.top) (up_to (suc W.top)) (storing W (index_on W.store)))
