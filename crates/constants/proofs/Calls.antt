-- What a call of const_simplify answers, by its tests. Assumes nothing.
use Rattle.std.proofs.Common.{◌≡◌, ℕ, suc, ◌/◌, Bool, true, false, leb, map, Ok, Err, Result, refl, ap, ◌∙◌}
use Rattle.std.proofs.lemmas.Bool.{cond-true, cond-false}
use Rattle.image.specs.declared.fault.Fault.{Fault}
use Rattle.image.specs.Faults.{fault, tested}
use Rattle.rules.specs.Store.{up_to, index_off, live_clauses}
use Rattle.rules.specs.Work.{Work, storing, each, nodes_of}
use Rattle.rules.specs.Const.{const_node, const_drop, const_simplify}
use Rattle.rules.specs.Calls.{need, half, with_live, const_answer}
use Rattle.rules.proofs.Along.{equal_chains, each_along, entry_cases, Steps, node_along}

-- the answer of a call
abbrev Answer : Type 0
Answer = Work × Result ℕ Fault

-- a test that refuses, and one that does not
refuses : (b : Bool) (f e : Fault) → Err e ≡ tested b f → (b ≡ false) × (f ≡ e)
refuses true f e q = absurd cc
refuses false f e q = (refl, cc)

passes : (b : Bool) (f : Fault) (u : Unit {0}) → Ok u ≡ tested b f → b ≡ true
passes true f u q = refl
passes false f u q = absurd cc

-- ## The tests

module _ (n : ℕ) (W : Work) where
  -- whether the words are enough, and whether at most half of the room is live
  abbrev enough : Bool
  enough = leb (need W) n

  abbrev few : Bool
  few = leb (live_clauses W.store) (W.store.room / 2)

  pub short : (e : Fault) → Err e ≡ tested enough (fault 10 (need W)) → const_answer n W ≡ (W, Err e)
  unfolding const_answer
  short e q =
      let (b, f) = refuses enough (fault 10 (need W)) e q in
      cond-false {A = Answer} enough (half W (with_live (const_simplify W))) (W, Err (fault 10 (need W))) b ∙ ap (λ f. (W, Err f)) f

  module _ (u : Unit {0}) (lent : Ok u ≡ tested enough (fault 10 (need W))) where
    go_on : const_answer n W ≡ half W (with_live (const_simplify W))
    unfolding const_answer
    go_on = cond-true {A = Answer} enough (half W (with_live (const_simplify W))) (W, Err (fault 10 (need W))) (passes enough (fault 10 (need W)) u lent)

    pub crowded : (e : Fault) → Err e ≡ tested few (fault 13 (live_clauses W.store)) → const_answer n W ≡ (W, Err e)
    crowded e q =
        let (b, f) = refuses few (fault 13 (live_clauses W.store)) e q in
        go_on ∙ cond-false {A = Answer} few (with_live (const_simplify W)) (W, Err (fault 13 (live_clauses W.store))) b ∙ ap (λ f. (W, Err f)) f

    pub answered : (v : Unit {0}) → Ok v ≡ tested few (fault 13 (live_clauses W.store)) → const_answer n W ≡ with_live (const_simplify W)
    answered v q = go_on ∙ cond-true {A = Answer} few (with_live (const_simplify W)) (W, Err (fault 13 (live_clauses W.store))) (passes few (fault 13 (live_clauses W.store)) v q)

-- ## The pass in three parts

-- no change of a pass changes the highest node
top_steps : Steps (λ W N. N.top ≡ W.top)
top_steps = record { chains = equal_chains (λ W. W.top); enters = λ C W. entry_cases C W (λ N. N.top ≡ W.top) refl (λ S e. refl); removes = λ l i W li. refl; takes = λ n W. refl }

pub in_parts : (W U V N : Work) → U ≡ storing W (index_off W.store) → V ≡ each const_node (nodes_of U) U → N ≡ each const_drop (nodes_of V) V → N ≡ const_simplify W
unfolding const_simplify
in_parts W U V N p q r =
    r ∙ ap (λ t. each const_drop (map suc (up_to t)) V) top ∙ ap (each const_drop (nodes_of W)) (q ∙ ap (λ T. each const_node (nodes_of T) T) p)
  where
    top : V.top ≡ W.top
    top = ap (λ T. T.top) q ∙ each_along (λ T R. R.top ≡ T.top) (equal_chains (λ T. T.top)) const_node (node_along (λ T R. R.top ≡ T.top) top_steps) (nodes_of U) U ∙ ap (λ T. T.top) p
