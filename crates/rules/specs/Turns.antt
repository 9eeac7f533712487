-- The turns that nodes have in a pass, and the entries that a pass makes.
-- Assumes nothing.
use Rattle.std.specs.Prelude.{◌≡◌, ℕ, zero, suc, ◌+◌, ◌*◌, ◌<◌, Bool, true, cond, not, ◌&&◌, List, [], ◌∷◌, ◌++◌, length, Some, None, ◌==◌, nat_lt, flat_map}
use Rattle.network.specs.Assignments.{node}
use Rattle.network.specs.Clauses.{well_formed}
use Rattle.network.specs.Lists.{In}
use Rattle.network.specs.Values.{simplified}
use Rattle.network.specs.Lemmas.{lemmas}
use Rattle.rules.specs.Store.{Ref, live, dead, Meaning, up_to, kept_clauses, clause_at, index_on, index_off, retire, shorten}
use Rattle.rules.specs.Work.{Work, storing, own_of, nodes_of, literals_of, add}
use Rattle.rules.specs.Const.{Fate, goes, shrinks, stays, fate, judged, const_node}
use Rattle.rules.specs.Bve.{all_resolvents, use_count, taken_out, passed_over, given_up, attempt, least, but}
use Rattle.rules.specs.Subsume.{Verdict, apart, subsumed, merged, both_lost, long_lost, strengthened, verdict, place_after, on_verdict, candidates, checked, walk}

-- a node's turn: the node, and the work before it
pub record Turn : Type 0 where
  pub at : ℕ
  pub before : Work

-- an entry: the clause to enter, and the work before it
pub record Entry : Type 0 where
  pub clause : List ℕ
  pub before : Work

-- the entries of clauses one after another
unfoldable pub entries : List (List ℕ) → Work → List Entry
entries [] W = []
entries (C ∷ Cs) W = record { clause = C; before = W } ∷ entries Cs (add C W)

-- ## const_simplify

-- the turns of nodes one after another
unfoldable pub turns : List ℕ → Work → List Turn
turns [] W = []
turns (n ∷ ns) W = record { at = n; before = W } ∷ turns ns (const_node n W)

-- the turns of a const_simplify
abbrev pub const_turns : Work → List Turn
const_turns W = turns (nodes_of W) (storing W (index_off W.store))

-- the entries from a clause with its fate on
abbrev pub judged_entries_by : Fate → Work → (Work → List Entry) → List Entry
judged_entries_by goes W go = go W
judged_entries_by (shrinks S) W go = record { clause = S; before = W } ∷ go (add S W)
judged_entries_by stays W go = go W

-- the shorter forms entered while clauses are judged
unfoldable pub judged_entries : List (List ℕ) → Work → List Entry
judged_entries [] W = []
judged_entries (C ∷ Cs) W = judged_entries_by (fate W.values C) W (λ w. judged_entries Cs w)

-- the entries of a node's turn
abbrev pub node_entries : ℕ → Work → List Entry
node_entries n W = judged_entries (own_of W (2 * n)) W ++ judged_entries (own_of W (2 * n + 1)) (judged (own_of W (2 * n)) W).1

-- the entries of a const_simplify
abbrev pub const_entries : Work → List Entry
const_entries W = flat_map (λ t. node_entries t.at t.before) (const_turns W)

-- ## bve_simplify

-- n's turn, and then the others
abbrev pub turn_first : ℕ → List ℕ → Work → (List ℕ → Work → List Turn) → List Turn
turn_first n waiting W go = record { at = n; before = W } ∷ go (but n waiting) (attempt n W)

-- so many attempts at most, as `attempts` makes them
unfoldable pub attempt_turns : ℕ → List ℕ → Work → List Turn
attempt_turns zero waiting W = []
attempt_turns (suc f) [] W = []
attempt_turns (suc f) (k ∷ ks) W = turn_first (least (use_count W.store) k ks) (k ∷ ks) W (attempt_turns f)

-- the turns of a bve_simplify
abbrev pub bve_turns : Work → List Turn
bve_turns W = cond W.store.indexed [] (attempt_turns (suc W.top) (up_to (suc W.top)) (storing W (index_on W.store)))

-- the attempt takes the node out
abbrev pub takes_out : ℕ → Work → Bool
takes_out n W = not (passed_over W n) && not (given_up W n (all_resolvents W.store n))

-- the entries of an attempt
abbrev pub attempt_entries : ℕ → Work → List Entry
attempt_entries n W = cond (takes_out n W) (entries (lemmas (all_resolvents W.store n)) (taken_out n W)) []

-- the entries of a bve_simplify
abbrev pub bve_entries : Work → List Entry
bve_entries W = flat_map (λ t. attempt_entries t.at t.before) (bve_turns W)

-- ## subsume_simplify

-- a check: the clause at place i of own l against that at place j of own k, and the store before it
pub record Check : Type 0 where
  pub list : ℕ
  pub place : ℕ
  pub other_list : ℕ
  pub other_place : ℕ
  pub before : Meaning

-- the checks of the clause at place i of own l against so many candidates
unfoldable pub checks_from : ℕ → ℕ → ℕ → List Ref → Meaning → List Check
checks_from zero l i Rs M = []
checks_from (suc f) l i [] M = []
checks_from (suc f) l i (dead ∷ Rs) M = checks_from f l i Rs M
checks_from (suc f) l i (live k j ∷ Rs) M =
    cond (k == l && j == i) (checks_from f l i Rs M)
    (record { list = l; place = i; other_list = k; other_place = j; before = M }
    ∷ on_verdict (verdict (clause_at M l i) (clause_at M k j)) l i k j Rs M (λ i₁ Rs₁ M₁. checks_from f l i₁ Rs₁ M₁) (λ M₁ p. []))

-- the checks of so many clauses of own l by place, from i on
unfoldable pub walk_checks : ℕ → ℕ → ℕ → Meaning → List Check
walk_checks zero l i M = []
walk_checks (suc f) l i M =
    cond (nat_lt i (length (M.own l)))
    (checks_from (length (candidates l i M)) l i (candidates l i M) M ++ walk_checks f l (checked l i M).1 (checked l i M).0)
    []

-- the checks of the clauses of the literals ls
unfoldable pub all_checks : List ℕ → Meaning → List Check
all_checks [] M = []
all_checks (l ∷ ls) M = walk_checks (length (M.own l)) l 0 M ++ all_checks ls (walk l M)

-- the checks of a subsume_simplify
abbrev pub subsume_checks : Work → List Check
subsume_checks W = all_checks (literals_of W) (index_on W.store)

-- the store answers yes to every change that a verdict asks for
abbrev pub granted : Verdict → ℕ → ℕ → ℕ → ℕ → Meaning → Bool
granted apart l i k j M = true
granted subsumed l i k j M = (retire k j M).1
granted (merged x) l i k j M = (shorten l i x M).1 && (retire k j (shorten l i x M).0).1
granted both_lost l i k j M = (retire k j M).1 && (retire l (place_after k j l i) (retire k j M).0).1
granted long_lost l i k j M = (retire k j M).1
granted (strengthened x) l i k j M = (shorten k j x M).1

-- every change that the checks ask for is made
abbrev pub AllGranted : List Check → Type 0
AllGranted cs = (c : Check) → In c cs
    → granted (verdict (clause_at c.before c.list c.place) (clause_at c.before c.other_list c.other_place)) c.list c.place c.other_list c.other_place c.before ≡ true

-- ## What is accepted

-- the store answers yes to the entry of S, and S says nothing of a node whose value is known
pub record Accepted (W : Work) (S : List ℕ) : Type 0 where
  pub formed : well_formed S ≡ true
  pub room : kept_clauses W.store < W.store.room
  pub unknown : (l : ℕ) → In l S → W.values (node l) ≡ None

-- every entry is accepted, in the form that the known values leave of its clause
abbrev pub AllAccepted : List Entry → Type 0
AllAccepted es = (e : Entry) → In e es → (S : List ℕ) → simplified e.before.values e.clause ≡ Some S → Accepted e.before S
