-- One attempt, by what was answered on the way. Assumes nothing.
use Rattle.std.proofs.Common.{◌≡◌, ℕ, ◌+◌, ◌*◌, ◌≤◌, Bool, true, false, cond, not, ◌&&◌, is_some, List, length, Some, None, Option, refl, ap, sym, ◌∙◌, subst, arith}
use Rattle.std.proofs.Math.Nat.{le_trans}
use Rattle.std.proofs.lemmas.Bool.{and_from, and_parts, not-true, not-false, le-leb, cond-true, cond-false}
use Rattle.lemmas.specs.declared.Lemmas.{Lemmas}
use Rattle.network.specs.Lemmas.{lemmas}
use Rattle.rules.specs.Index.{Indexed}
use Rattle.rules.specs.Lawful.{Lawful}
use Rattle.rules.specs.Store.{Meaning}
use Rattle.rules.specs.Work.{Work, each, add}
use Rattle.rules.specs.Bve.{all_resolvents, cost, taken_out, eliminated, passed_over, given_up, attempted, attempt}
use Rattle.rules.proofs.Along.{equal_chains, entry_cases, Steps, attempt_along}
use Rattle.rules.proofs.Shrinks.{cost_live}
use Rattle.resolving.specs.Answers.{suffice, unless_too_much, Lent}
use Rattle.resolving.specs.Collected.{too_much}
use Rattle.elimination.specs.Words.{Roomy}

-- a test, by what was answered
given_if : {X : Type 0} (b : Bool) (x : X) (o : Option X) → o ≡ cond b (Some x) None → b ≡ is_some o
given_if true x o e = ap is_some (sym e)
given_if false x o e = ap is_some (sym e)

given_unless : {X : Type 0} (b : Bool) (x : X) (o : Option X) → o ≡ cond b None (Some x) → b ≡ not (is_some o)
given_unless true x o e = ap (λ p. not (is_some p)) (sym e)
given_unless false x o e = ap (λ p. not (is_some p)) (sym e)

-- the words suffice for what a node costs
pub enough : (M : Meaning) → Lawful M → Indexed M → (n k : ℕ) (w : Lemmas) → k ≡ cost M n → Roomy M.room w → suffice k w ≡ true
enough M L I n k w e r =
    and_from _ _ (and_from _ _ (and_from _ _ (and_from _ _ (le-leb _ _ (le_trans most r.lengths)) (le-leb (32 * k + 64) (length w.literals.now) (omega (arith, most, r.literals)))) (le-leb _ _ (le_trans most r.order))) (le-leb _ _ (le_trans most r.entries))) (le-leb _ _ (le_trans most r.places))
  where
    most : k ≤ M.room
    most = omega (arith, e, cost_live M L I n, L.within)

-- words of the same length hold as many
pub roomy_on : (m r : ℕ) (v w : Lemmas) → r ≡ m → Lent v w → Roomy m v → Roomy r w
roomy_on m r v w e l h = record {
  lengths = omega (arith, e, l.lengths.1, h.lengths);
  literals = omega (arith, e, l.literals.1, h.literals);
  order = omega (arith, e, l.order.1, h.order);
  entries = omega (arith, e, l.entries.1, h.entries);
  places = omega (arith, e, l.places.1, h.places);
}

-- no change of a pass changes the highest node
top_steps : Steps (λ W N. N.top ≡ W.top)
top_steps = record { chains = equal_chains (λ W. W.top); enters = λ C W. entry_cases C W (λ N. N.top ≡ W.top) refl (λ S e. refl); removes = λ l i W li. refl; takes = λ n W. refl }

pub attempt_top : (n : ℕ) (W : Work) → (attempt n W).top ≡ W.top
attempt_top = attempt_along (λ W N. N.top ≡ W.top) top_steps

module _ (n : ℕ) (W : Work) where
  abbrev Rs : List (List ℕ)
  Rs = all_resolvents W.store n

  pub over : None ≡ cond (passed_over W n) None (Some (cost W.store n)) → attempt n W ≡ W
  unfolding attempt
  over e = cond-true (passed_over W n) W _ (given_unless (passed_over W n) (cost W.store n) None e)

  module _ (k : ℕ) (costs : Some k ≡ cond (passed_over W n) None (Some (cost W.store n))) where
    stays : passed_over W n ≡ false
    stays = given_unless (passed_over W n) (cost W.store n) (Some k) costs

    pub cost_is : k ≡ cost W.store n
    cost_is = let e = costs ∙ cond-false (passed_over W n) None (Some (cost W.store n)) stays in cc

    go_on : attempt n W ≡ attempted n Rs W
    unfolding attempt
    go_on = cond-false (passed_over W n) W _ stays

    module _ (w : Lemmas) where
      pub gives_up : suffice k w ≡ true → None ≡ unless_too_much k w Rs (length (lemmas Rs)) → attempt n W ≡ W
      gives_up t e =
          let f = ap (λ b. b && not (too_much k Rs)) (sym t) ∙ given_if (suffice k w && not (too_much k Rs)) (length (lemmas Rs)) None e in
          go_on ∙ cond-true (given_up W n Rs) W _ (subst (λ c. too_much c Rs ≡ true) cost_is (not-false (too_much k Rs) f))

      pub takes : (m : ℕ) → Some m ≡ unless_too_much k w Rs (length (lemmas Rs)) → attempt n W ≡ each add (lemmas Rs) (taken_out n W)
      unfolding eliminated
      takes m e =
          let t = and_parts (suffice k w) (not (too_much k Rs)) (given_if (suffice k w && not (too_much k Rs)) (length (lemmas Rs)) (Some m) e) in
          go_on ∙ cond-false (given_up W n Rs) W _ (subst (λ c. too_much c Rs ≡ false) cost_is (not-true (too_much k Rs) t.1))
