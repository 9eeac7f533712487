-- The nodes, entered in turn. Assumes nothing.
use Rattle.std.proofs.Common.{◌≡◌, ℕ, zero, suc, ◌+◌, ◌≤◌, Bool, true, List, length, sym, ap, ◌∙◌, subst, arith}
use Rattle.network.specs.Lists.{In}
use Rattle.image.specs.Headers.{top, run}
use Rattle.image.specs.Runs.{clauses, whole}
use Rattle.intake.specs.Answers.{accepts}
use Rattle.intake.specs.Accepted.{taken_in}
use Rattle.intake.proofs.Meanings.{accepted_iff}
use Rattle.intake.proofs.Steps.{accepted_answer, accepted_whole}
use Rattle.rules.specs.Store.{Meaning, from, up_to}
use Rattle.rules.specs.Work.{Work, add, each}
use Rattle.rules.specs.Calls.{begun, started}
use Rattle.rules.proofs.Start.{clause_short, started_by_nodes}

-- one number more
each_more : {X : Type 0} (f : ℕ → X → X) (n i : ℕ) (x : X) → each f (from i (suc n)) x ≡ f (i + n) (each f (from i n) x)
each_more f zero i x = ap (λ k. f k x) {x = i} {y = i + 0} (omega arith)
each_more f (suc n) i x = each_more f n (suc i) (f i x) ∙ ap (λ k. f k (each f (from (suc i) n) (f i x))) {x = suc i + n} {y = i + suc n} (omega arith)

module _ (ws : List ℕ) (fs : List Bool) (M : Meaning) where
  -- the clauses of a node entered
  abbrev by_node : ℕ → Work → Work
  by_node n W = each add (taken_in ws n) W

  -- the nodes up to k entered
  abbrev pub entered : ℕ → Work
  entered k = each by_node (up_to (suc k)) (begun ws fs M)

  -- a node more, of which the words are given
  pub entered_more : (k n : ℕ) (xs : List ℕ) (V W : Work) → n ≡ suc k → xs ≡ run ws n → V ≡ entered k → W ≡ each add (clauses xs) V → W ≡ entered (suc k)
  entered_more k n xs V W e p q h =
      h ∙ ap (λ ys. each add (clauses ys) V) (p ∙ ap (run ws) e) ∙ ap (each add (clauses (run ws (suc k)))) q
      ∙ sym (each_more by_node (suc k) 0 (begun ws fs M) ∙ ap (λ j. by_node j (entered k)) {x = 0 + suc k} {y = suc k} (omega arith))

  -- all nodes
  pub entered_all : (k : ℕ) (W : Work) → k ≡ top ws → W ≡ entered k → W ≡ started ws fs M
  entered_all k W e h = h ∙ ap entered e ∙ sym (started_by_nodes ws fs M)

module _ (ws : List ℕ) (right : accepts ws ≡ true) (n : ℕ) (xs : List ℕ) (e : xs ≡ run ws n) where
  -- no clause of a run of an accepted image is cut
  pub run_whole : whole xs ≡ true
  run_whole = ap whole e ∙ accepted_whole ws n right

  -- and each is short
  pub run_short : (k : ℕ) → n ≡ suc k → (C : List ℕ) → In C (clauses xs) → length C ≤ 32
  run_short k p C i = clause_short ws ((accepted_iff ws).0 (accepted_answer ws right)) (suc k) C (subst (λ ys. In C (clauses ys)) (e ∙ ap (run ws) p) i)
