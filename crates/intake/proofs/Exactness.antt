-- Each answer of take-in on its ground, and on no other. Assumes nothing.
use Rattle.std.proofs.Common.{◌≡◌, ℕ, suc, ◌-◌, ◌^◌, ◌<◌, ◌≤◌, true, cond, eqb, leb, List, length, Ok, Err, Result, sym, refl, ap, ◌∙◌, subst, inl, inr, ⊎_elim, arith}
use Rattle.std.proofs.lemmas.Bool.{cond-true, cond-false, false_from_ne_true, true_from_ne_false, ne_eqb, le-leb, cases_lt, both_ways}
use Rattle.std.specs.List.{list_all}
use Rattle.image.specs.Faults.{fault, ◌then◌, tested}
use Rattle.image.specs.Runs.{whole, clauses}
use Rattle.network.specs.Clauses.{in_order, owned}
use Rattle.network.specs.Rows.{lower, no_value, some_row, Narrow, Clash}
use Rattle.intake.specs.Answers.{rows_answer, node_answer, nodes_answer, take_in_answer}
use Rattle.network.proofs.Rows.{narrow_from, narrow_back, valued_from}
use Rattle.intake.proofs.Searching.{searched_clash}
use Rattle.image.specs.Headers.{top, stated_count, headed, run}
use Rattle.intake.specs.Accepted.{Formed, IllFormed, total, Refused, Answers, Exactly}
use Rattle.intake.proofs.Steps.{then_at, then_stop, rows_wide, nodes_stop, nodes_stay}
use Rattle.intake.proofs.Meanings.{uncut_from, uncut_back, sorted_from, sorted_back, owned_from, owned_back, NodesAnswers, nodes_means, header_from, header_back, formed_not, answer_means, accepted_iff}
use Rattle.image.specs.declared.fault.Fault.{Fault}

rows_clash : (n : ℕ) (xs : List ℕ) → Narrow n (clauses xs) → Clash n (clauses xs) → rows_answer n xs ≡ Err (fault 6 n)
unfolding rows_answer
rows_clash n xs a (σ, z, h) =
    let t : some_row (no_value (lower n (clauses xs)) n (clauses xs)) (2 ^ length (lower n (clauses xs))) ≡ true = true_from_ne_false _ (λ f. let (b, v) = valued_from n (clauses xs) f σ z in both_ways _ (h b) v) in
    then_at (tested (leb (length (lower n (clauses xs))) 8) (fault 5 n)) _ tt (cond-true _ _ _ (le-leb _ _ (narrow_back n (clauses xs) a))) ∙ sym (searched_clash (lower n (clauses xs)) n (clauses xs) t)

rows_too_wide : (n : ℕ) (xs : List ℕ) → (Narrow n (clauses xs) → ⊥) → rows_answer n xs ≡ Err (fault 5 n)
rows_too_wide n xs h =
    sym (rows_wide n xs (fault 5 n) refl (⊎_elim (λ (l : 8 < length (lower n (clauses xs))). l) (λ (l : length (lower n (clauses xs)) ≤ 8). absurd (h (narrow_from n (clauses xs) l))) (cases_lt 8 (length (lower n (clauses xs))))))

module _ (n : ℕ) (xs : List ℕ) where
  abbrev counted : Result ℕ Fault
  counted = cond (whole xs) (Ok (length (clauses xs))) (Err (fault 2 n))

  abbrev third : ℕ → Result ℕ Fault
  third c = tested (list_all (owned n) (clauses xs)) (fault 4 n) then (λ _. rows_answer n xs then (λ _. Ok c))

  abbrev second : ℕ → Result ℕ Fault
  second c = tested (list_all in_order (clauses xs)) (fault 3 n) then (λ _. third c)

  answer_is : node_answer n xs ≡ (counted then second)
  unfolding node_answer
  answer_is = refl

  after_cut : whole xs ≡ true → node_answer n xs ≡ second (length (clauses xs))
  after_cut w = answer_is ∙ then_at counted second (length (clauses xs)) (cond-true _ _ _ w)

  after_order : whole xs ≡ true → list_all in_order (clauses xs) ≡ true → node_answer n xs ≡ third (length (clauses xs))
  after_order w o = after_cut w ∙ then_at (tested (list_all in_order (clauses xs)) (fault 3 n)) (λ _. third (length (clauses xs))) tt (cond-true _ _ _ o)

  after_owner : whole xs ≡ true → list_all in_order (clauses xs) ≡ true → list_all (owned n) (clauses xs) ≡ true → node_answer n xs ≡ (rows_answer n xs then (λ _. Ok (length (clauses xs))))
  after_owner w o i = after_order w o ∙ then_at (tested (list_all (owned n) (clauses xs)) (fault 4 n)) (λ _. rows_answer n xs then (λ _. Ok (length (clauses xs)))) tt (cond-true _ _ _ i)

  pub node_back : (f : Fault) → IllFormed n xs f → node_answer n xs ≡ Err f
  node_back f (inl (e, h)) =
      answer_is ∙ then_stop counted second (fault 2 n) (cond-false _ _ _ (false_from_ne_true (whole xs) (λ t. h (uncut_from xs t)))) ∙ ap Err (sym e)
  node_back f (inr (inl (e, u, h))) =
      after_cut (uncut_back xs u) ∙ then_stop (tested (list_all in_order (clauses xs)) (fault 3 n)) (λ _. third (length (clauses xs))) (fault 3 n) (cond-false _ _ _ (false_from_ne_true _ (λ t. h (sorted_from (clauses xs) t)))) ∙ ap Err (sym e)
  node_back f (inr (inr (inl (e, u, s, h)))) =
      after_order (uncut_back xs u) (sorted_back (clauses xs) s) ∙ then_stop (tested (list_all (owned n) (clauses xs)) (fault 4 n)) (λ _. rows_answer n xs then (λ _. Ok (length (clauses xs)))) (fault 4 n) (cond-false _ _ _ (false_from_ne_true _ (λ t. h (owned_from n (clauses xs) t)))) ∙ ap Err (sym e)
  node_back f (inr (inr (inr (inl (e, u, s, o, h))))) =
      after_owner (uncut_back xs u) (sorted_back (clauses xs) s) (owned_back n (clauses xs) o) ∙ then_stop (rows_answer n xs) (λ _. Ok (length (clauses xs))) (fault 5 n) (rows_too_wide n xs h) ∙ ap Err (sym e)
  node_back f (inr (inr (inr (inr (e, u, s, o, a, h))))) =
      after_owner (uncut_back xs u) (sorted_back (clauses xs) s) (owned_back n (clauses xs) o) ∙ then_stop (rows_answer n xs) (λ _. Ok (length (clauses xs))) (fault 6 n) (rows_clash n xs a h) ∙ ap Err (sym e)

nodes_back : (ws : List ℕ) (k : ℕ) (r : Result ℕ Fault) → NodesAnswers ws k r → ((j : ℕ) → j < k → Formed (suc j) (run ws (suc j))) → r ≡ Ok (total ws k)
nodes_back ws k (Ok c) (g, e) h = ap Ok e
nodes_back ws k (Err f) (j, l, g, i) h = absurd (formed_not (suc j) (run ws (suc j)) f (h j l) i)

nodes_ok : (ws : List ℕ) (k : ℕ) → ((j : ℕ) → j < k → Formed (suc j) (run ws (suc j))) → nodes_answer ws k ≡ Ok (total ws k)
nodes_ok ws k h = nodes_back ws k (nodes_answer ws k) (nodes_means ws k) h

module _ (ws : List ℕ) where
  abbrev head : Result ℕ Fault
  head = cond (headed ws) (Ok (top ws)) (Err (fault 1 0))

  abbrev count : ℕ → Result (Unit {0}) Fault
  count c = tested (eqb (stated_count ws) c) (fault 7 0)

  abbrev rest : ℕ → Result (Unit {0}) Fault
  rest m = nodes_answer ws m then count

  all_is : take_in_answer ws ≡ (head then rest)
  unfolding take_in_answer
  all_is = refl

  pub refused_back : (f : Fault) → Refused ws f → take_in_answer ws ≡ Err f
  refused_back f (inl (e, h)) =
      all_is ∙ then_stop head rest (fault 1 0) (cond-false _ _ _ (false_from_ne_true (headed ws) (λ t. h (header_from ws t)))) ∙ ap Err (sym e)
  refused_back f (inr (inl (h, (k, l, g, b)))) =
      all_is ∙ then_at head rest (top ws) (cond-true _ _ _ (header_back ws h)) ∙ then_stop (nodes_answer ws (top ws)) count f (nodes_stay ws f (top ws - suc k) (suc k) (top ws) (omega arith) (nodes_stop ws k (total ws k) f (nodes_ok ws k g) (node_back (suc k) (run ws (suc k)) f b)))
  refused_back f (inr (inr (h, g, e, n))) =
      all_is ∙ then_at head rest (top ws) (cond-true _ _ _ (header_back ws h)) ∙ then_at (nodes_answer ws (top ws)) count (total ws (top ws)) (nodes_ok ws (top ws) g) ∙ cond-false _ _ _ (ne_eqb _ _ n) ∙ ap Err (sym e)

  pub answers_back : (r : Result (Unit {0}) Fault) → Answers ws r → take_in_answer ws ≡ r
  answers_back (Ok u) i = (accepted_iff ws).1 i
  answers_back (Err f) h = refused_back f h

pub exactly : Exactly
exactly ws r = ((λ e. subst (Answers ws) e (answer_means ws)), answers_back ws r)
