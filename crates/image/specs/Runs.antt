-- The run of a node: each clause as its length, then that many literals. Assumes nothing.
use Rattle.std.specs.Prelude.{◌≡◌, ◌⊎◌, ℕ, zero, suc, ◌<◌, Bool, true, false, cond, not, ◌&&◌, List, [], ◌∷◌, ◌++◌, length, take, drop, Ok, Err, Option, Result, MatchOption, MatchResult, nat_le, nat_lt}
use Rattle.std.specs.Borrow.{Bor}
use Rattle.image.specs.Faults.{fault, tested, ◌then◌}
use Rattle.image.specs.declared.fault.Fault.{Fault}
use Rattle.image.specs.declared.reader.Clauses.{Clauses}
use Rattle.image.specs.declared.reader.FittingClauses.{FittingClauses}

-- a length that is not 0 and does not pass the end
abbrev pub length_fits : ℕ → List ℕ → Bool
length_fits n ws = nat_lt 0 n && nat_le n (length ws)

-- the first length of a run does not fit
abbrev pub front_cut : List ℕ → Bool
front_cut [] = false
front_cut (n ∷ ws) = not (length_fits n ws)

-- each length fits, looking at so many clauses at most
unfoldable pub whole_by : ℕ → List ℕ → Bool
whole_by f [] = true
whole_by zero (n ∷ ws) = false
whole_by (suc f) (n ∷ ws) = length_fits n ws && whole_by f (drop n ws)

-- each length of a run fits: the run is cut into clauses without a rest
unfoldable pub whole : List ℕ → Bool
whole ws = whole_by (length ws) ws

-- the clauses of a run, so many at most
unfoldable pub clauses_by : ℕ → List ℕ → List (List ℕ)
clauses_by f [] = []
clauses_by zero (n ∷ ws) = []
clauses_by (suc f) (n ∷ ws) = take n ws ∷ clauses_by f (drop n ws)

-- the clauses of a run
unfoldable pub clauses : List ℕ → List (List ℕ)
clauses ws = clauses_by (length ws) ws

-- the run that a list of clauses is written as
unfoldable pub written : List (List ℕ) → List ℕ
written [] = []
written (c ∷ cs) = length c ∷ (c ++ written cs)

-- the words ws are the clause c, with its length in front, and then the words rest
pub record Front (ws c rest : List ℕ) : Type 0 where
  pub some : 0 < length c
  pub less : length rest < length ws
  pub is : ws ≡ length c ∷ (c ++ rest)

-- the words that a walk has not come to
abbrev pub left_of : Clauses → List ℕ
left_of s = s.left.words.now

-- one step of a walk from s to t: the first clause of what is left, or the fault where it is cut, and then nothing, or none where nothing is left
abbrev pub Reads : Clauses → Option (Result (Bor (List ℕ)) Fault) → Clauses → Type 0
Reads s r t =
    (t.left.node ≡ s.left.node)
    × MatchOption r ((left_of s ≡ []) × (left_of t ≡ [])) (λ x. MatchResult x (λ c. Front (left_of s) c.now (left_of t)) (λ f. (f ≡ fault 2 s.left.node) × (front_cut (left_of s) ≡ true) × (left_of t ≡ [])))

-- one step of a walk without faults from s to t: the first clause of what is left, or none where nothing is left or it is cut, and that stays
abbrev pub ReadsFitting : FittingClauses → Option (Bor (List ℕ)) → FittingClauses → Type 0
ReadsFitting s r t =
    MatchOption r ((t.left.now ≡ s.left.now) × ((s.left.now ≡ []) ⊎ (front_cut s.left.now ≡ true))) (λ c. Front s.left.now c.now t.left.now)

-- each of the clauses, so many at most, passes the test p
unfoldable pub clauses_pass_by : ℕ → (List ℕ → Bool) → Fault → ℕ → List ℕ → Result (Unit {0}) Fault
clauses_pass_by k p f n [] = Ok tt
clauses_pass_by zero p f n (l ∷ ws) = Err (fault 2 n)
clauses_pass_by (suc k) p f n (l ∷ ws) =
    cond (length_fits l ws) (tested (p (take l ws)) f then (λ _. clauses_pass_by k p f n (drop l ws))) (Err (fault 2 n))

-- the clauses of the run of node n, one after another: refused with f at the first that fails the test p, and with 2 at a cut
unfoldable pub clauses_pass : (List ℕ → Bool) → Fault → ℕ → List ℕ → Result (Unit {0}) Fault
clauses_pass p f n ws = clauses_pass_by (length ws) p f n ws
