-- The clauses of a run under a test. Assumes nothing.
use Rattle.std.proofs.Common.{◌≡◌, ℕ, zero, suc, ◌<◌, ◌≤◌, Bool, true, false, cond, ◌&&◌, ltb, List, [], ◌∷◌, ◌++◌, length, get_or, take, drop, Ok, Err, Result, sym, refl, ap, ◌∙◌, add-one, arith, length-append, length-drop}
use Rattle.std.proofs.lemmas.List.{take_at, drop_at}
use Rattle.std.proofs.lemmas.Bool.{cond-true, cond-false, both_ways, not-true, false_from_ne_true, and_parts, and_from}
use Rattle.std.proofs.lemmas.Bool.Decides.{nat_tests}
use Rattle.std.specs.List.{IsAllAdjacentAnswer, list_all}
use Rattle.network.specs.Assignments.{node}
use Rattle.network.specs.Clauses.{owner, in_order, in_order_from}
use Rattle.image.specs.Faults.{fault, tested, ◌then◌}
use Rattle.image.specs.declared.fault.Fault.{Fault}
use Rattle.image.specs.Runs.{Front, length_fits, front_cut, whole_by, whole, clauses_by, clauses, clauses_pass_by, clauses_pass}

module _ (p : List ℕ → Bool) (f : Fault) (n : ℕ) where
  -- more looks than words change nothing
  pass_fuel : (j k : ℕ) (ws : List ℕ) → length ws ≤ j → length ws ≤ k → clauses_pass_by j p f n ws ≡ clauses_pass_by k p f n ws
  unfolding clauses_pass_by
  pass_fuel j k [] g h = refl
  pass_fuel zero k (l ∷ ws) g h = absurd (omega arith)
  pass_fuel (suc j) zero (l ∷ ws) g h = absurd (omega arith)
  pass_fuel (suc j) (suc k) (l ∷ ws) g h =
      ap (λ (r : Result (Unit {0}) Fault). cond (length_fits l ws) (tested (p (take l ws)) f then (λ _. r)) (Err (fault 2 n)))
      (pass_fuel j k (drop l ws) (omega (arith, length-drop l ws)) (omega (arith, length-drop l ws)))

  pass_step : (l : ℕ) (ws : List ℕ) → clauses_pass p f n (l ∷ ws) ≡ cond (length_fits l ws) (tested (p (take l ws)) f then (λ _. clauses_pass p f n (drop l ws))) (Err (fault 2 n))
  unfolding clauses_pass clauses_pass_by
  pass_step l ws =
      ap (λ (r : Result (Unit {0}) Fault). cond (length_fits l ws) (tested (p (take l ws)) f then (λ _. r)) (Err (fault 2 n)))
      (pass_fuel (length ws) (length (drop l ws)) (drop l ws) (omega (arith, length-drop l ws)) (omega arith))

  pub pass_none : (ws : List ℕ) → ws ≡ [] → clauses_pass p f n ws ≡ Ok tt
  unfolding clauses_pass clauses_pass_by
  pass_none ws e = ap (λ (z : List ℕ). clauses_pass p f n z) e

  pub pass_cut : (ws : List ℕ) (e : Fault) → e ≡ fault 2 n → front_cut ws ≡ true → clauses_pass p f n ws ≡ Err e
  pass_cut [] e i h = absurd (both_ways false refl h)
  pass_cut (l ∷ ws) e i h = pass_step l ws ∙ cond-false _ _ _ (not-true (length_fits l ws) h) ∙ ap Err (sym i)

  -- one clause on
  pub pass_front : (ws c rest : List ℕ) → Front ws c rest → clauses_pass p f n ws ≡ (tested (p c) f then (λ _. clauses_pass p f n rest))
  pass_front ws c rest g =
      let t : length_fits (length c) (c ++ rest) ≡ true = let e = length-append c rest in let s = g.some in grind (arith, nat_tests) in
      ap (clauses_pass p f n) g.is ∙ pass_step (length c) (c ++ rest) ∙ cond-true _ _ _ t
      ∙ ap (λ (d : List ℕ). tested (p d) f then (λ _. clauses_pass p f n (drop (length c) (c ++ rest)))) (take_at c rest (length c) refl)
      ∙ ap (λ (d : List ℕ). tested (p c) f then (λ _. clauses_pass p f n d)) (drop_at c rest (length c) refl)

  pub pass_on : (ws c rest : List ℕ) → Front ws c rest → p c ≡ true → clauses_pass p f n ws ≡ clauses_pass p f n rest
  pass_on ws c rest g t = pass_front ws c rest g ∙ ap (λ (b : Bool). tested b f then (λ _. clauses_pass p f n rest)) t

  pub pass_stop : (ws c rest : List ℕ) → Front ws c rest → p c ≡ false → clauses_pass p f n ws ≡ Err f
  pass_stop ws c rest g t = pass_front ws c rest g ∙ ap (λ (b : Bool). tested b f then (λ _. clauses_pass p f n rest)) t

  -- of a run that is not cut, the test asks each clause
  pass_whole_by : (k : ℕ) (ws : List ℕ) → whole_by k ws ≡ true → clauses_pass_by k p f n ws ≡ tested (list_all p (clauses_by k ws)) f
  unfolding clauses_pass_by whole_by clauses_by
  pass_whole_by k [] h = refl
  pass_whole_by zero (l ∷ ws) h = absurd (both_ways false refl h)
  pass_whole_by (suc k) (l ∷ ws) h =
      let (a, b) = and_parts (length_fits l ws) (whole_by k (drop l ws)) h in
      cond-true _ _ _ a ∙ ap (λ (r : Result (Unit {0}) Fault). tested (p (take l ws)) f then (λ _. r)) (pass_whole_by k (drop l ws) b) ∙ both (p (take l ws)) (list_all p (clauses_by k (drop l ws)))
    where
      both : (x y : Bool) → (tested x f then (λ _. tested y f)) ≡ tested (x && y) f
      both true y = refl
      both false y = refl

  pub pass_whole : (ws : List ℕ) → whole ws ≡ true → clauses_pass p f n ws ≡ tested (list_all p (clauses ws)) f
  unfolding clauses_pass whole clauses
  pass_whole ws h = pass_whole_by (length ws) ws h

-- the order of the nodes of a clause, by the neighbours
abbrev climb : ℕ → ℕ → Bool
climb x y = ltb (node x) (node y)

rise_from : (x : ℕ) (C : List ℕ) → ((k : ℕ) → k < length C → climb (get_or (x ∷ C) k 0) (get_or C k 0) ≡ true) → in_order_from (node x) C ≡ true
rise_from x [] h = refl
rise_from x (y ∷ C) h = and_from _ _ (h 0 (omega arith)) (rise_from y C (λ k l. h (suc k) (omega arith)))

rise_at : (x : ℕ) (C : List ℕ) (k : ℕ) → in_order_from (node x) C ≡ true → k < length C → climb (get_or (x ∷ C) k 0) (get_or C k 0) ≡ true
rise_at x [] k h l = absurd (omega arith)
rise_at x (y ∷ C) zero h l = (and_parts _ _ h).0
rise_at x (y ∷ C) (suc k) h l = rise_at y C k (and_parts _ _ h).1 (omega arith)

pub in_order_is : (C : List ℕ) (r : Bool) → IsAllAdjacentAnswer (λ x y b. b ≡ climb x y) C r → r ≡ in_order C
in_order_is [] true h = refl
in_order_is [] false (k, l, h) = absurd (omega arith)
in_order_is (x ∷ C) true h = sym (rise_from x C (λ k l. sym (h k 0 (omega arith) ∙ ap (λ (i : ℕ). climb (get_or (x ∷ C) k 0) (get_or (x ∷ C) i 0)) (add-one k))))
in_order_is (x ∷ C) false (k, l, h) =
    sym (false_from_ne_true _ (λ t. both_ways _ (sym (h 0 ∙ ap (λ (i : ℕ). climb (get_or (x ∷ C) k 0) (get_or (x ∷ C) i 0)) (add-one k))) (rise_at x C k t (omega arith))))

pub owner_at : (C : List ℕ) (k : ℕ) → length C ≡ suc k → node (get_or C k 0) ≡ owner C
owner_at [] k e = absurd (omega arith)
owner_at (x ∷ []) zero e = refl
owner_at (x ∷ []) (suc k) e = absurd (omega arith)
owner_at (x ∷ y ∷ C) zero e = absurd (omega arith)
owner_at (x ∷ y ∷ C) (suc k) e = owner_at (y ∷ C) k (omega arith)
