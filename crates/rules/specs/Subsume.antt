-- subsume_simplify: each live clause against those around it.
-- Assumes nothing.
use Rattle.std.specs.Prelude.{ℕ, zero, suc, ◌+◌, ◌-◌, Bool, true, false, cond, ◌&&◌, List, [], ◌∷◌, ◌++◌, map, length, Some, None, Option, ◌==◌, nat_lt}
use Rattle.network.specs.Assignments.{node, opposite}
use Rattle.network.specs.Clauses.{last}
use Rattle.network.specs.Subsumption.{fits}
use Rattle.rules.specs.Store.{Ref, live, dead, Meaning, up_to, count, clause_at, after_retired, retire, shorten, index_on, index_off}
use Rattle.rules.specs.Work.{Work, storing, each, literals_of}
use Rattle.rules.specs.Bve.{least}

-- what the clause C makes of the clause D
pub data Verdict : Type 0 where
  apart : Verdict
  subsumed : Verdict
  merged : ℕ → Verdict
  both_lost : Verdict
  long_lost : Verdict
  strengthened : ℕ → Verdict

-- by the answer of the test: D goes; or the two become one, or are both lost, being equally long; or the longer is lost, or loses a literal
abbrev pub verdict_of : List ℕ → List ℕ → Bool × Option ℕ → Verdict
verdict_of C D (true, o) = subsumed
verdict_of C D (false, None) = apart
verdict_of C D (false, Some x) =
    cond (length C == length D)
    (cond (node x == node (last C)) both_lost (merged x))
    (cond (node x == node (last D)) long_lost (strengthened (opposite x)))

-- the verdict of C on D
abbrev pub verdict : List ℕ → List ℕ → Verdict
verdict C D = verdict_of C D (fits C D)

-- place i of own l, once place j of own k is retired
abbrev pub place_after : ℕ → ℕ → ℕ → ℕ → ℕ
place_after k j l i = cond (k == l && nat_lt j i) (i - 1) i

-- the clause at place i of own l has the verdict on that at place j of own k: it goes on, from the place where it then is,
-- with the candidates that are left, or stops where it is lost itself, with the place to look at next
abbrev pub on_verdict : {X : Type 0} → Verdict → ℕ → ℕ → ℕ → ℕ → List Ref → Meaning → (ℕ → List Ref → Meaning → X) → (Meaning → ℕ → X) → X
on_verdict apart l i k j Rs M go stop = go i Rs M
on_verdict subsumed l i k j Rs M go stop = go (place_after k j l i) (map (after_retired k j) Rs) (retire k j M).0
on_verdict (merged x) l i k j Rs M go stop = go (place_after k j l i) (map (after_retired k j) Rs) (retire k j (shorten l i x M).0).0
on_verdict both_lost l i k j Rs M go stop = stop (retire l (place_after k j l i) (retire k j M).0).0 (place_after k j l i)
on_verdict long_lost l i k j Rs M go stop = go (place_after k j l i) (map (after_retired k j) Rs) (retire k j M).0
on_verdict (strengthened x) l i k j Rs M go stop = go i Rs (shorten k j x M).0

-- the clause at place i of own l against so many candidates, dead ones and itself passed over;
-- the answer is the store, and the place of own l to look at next
unfoldable pub checked_from : ℕ → ℕ → ℕ → List Ref → Meaning → Meaning × ℕ
checked_from zero l i Rs M = (M, suc i)
checked_from (suc f) l i [] M = (M, suc i)
checked_from (suc f) l i (dead ∷ Rs) M = checked_from f l i Rs M
checked_from (suc f) l i (live k j ∷ Rs) M =
    cond (k == l && j == i) (checked_from f l i Rs M)
    (on_verdict (verdict (clause_at M l i) (clause_at M k j)) l i k j Rs M (λ i₁ Rs₁ M₁. checked_from f l i₁ Rs₁ M₁) (λ M₁ p. (M₁, p)))

-- how many clauses stand around x: uses and own clauses of x and of its opposite
abbrev pub around_size : Meaning → ℕ → ℕ
around_size M x = count M x + count M (opposite x) + length (M.own x) + length (M.own (opposite x))

-- refs to all places of own l
abbrev pub refs_of : Meaning → ℕ → List Ref
refs_of M l = map (live l) (up_to (length (M.own l)))

-- refs to the clauses around x
abbrev pub around : Meaning → ℕ → List Ref
around M x = M.uses x ++ M.uses (opposite x) ++ refs_of M x ++ refs_of M (opposite x)

-- the literal of a clause that has the fewest clauses around it, the first of such
abbrev pub best : Meaning → List ℕ → ℕ
best M [] = 0
best M (x ∷ C) = least (around_size M) x C

-- refs to the clauses around the best literal of the clause at place i of own l
abbrev pub candidates : ℕ → ℕ → Meaning → List Ref
candidates l i M = around M (best M (clause_at M l i))

-- the clause at place i of own l against its candidates
unfoldable pub checked : ℕ → ℕ → Meaning → Meaning × ℕ
checked l i M = checked_from (length (candidates l i M)) l i (candidates l i M) M

-- go on at the place that a check left
abbrev pub walk_on : Meaning × ℕ → (ℕ → Meaning → Meaning) → Meaning
walk_on r go = go r.1 r.0

-- so many clauses of own l by place, from i on
unfoldable pub walked : ℕ → ℕ → ℕ → Meaning → Meaning
walked zero l i M = M
walked (suc f) l i M = cond (nat_lt i (length (M.own l))) (walk_on (checked l i M) (walked f l)) M

-- the clauses of own l
abbrev pub walk : ℕ → Meaning → Meaning
walk l M = walked (length (M.own l)) l 0 M

-- the pass: over the lists as indexed, and the index goes off
unfoldable pub subsume_simplify : Work → Work
subsume_simplify W = storing W (index_off (each walk (literals_of W) (index_on W.store)))
