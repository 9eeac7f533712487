-- The run of a node, clause by clause. Assumes nothing.
use Rattle.std.proofs.Common.{◌≡◌, ◌⊎◌, ℕ, zero, suc, ◌+◌, ◌<◌, ◌≤◌, Bool, true, false, cond, ◌&&◌, List, [], ◌∷◌, ◌++◌, length, take, drop, Ok, Err, Some, None, Option, Result, sym, refl, ap, ◌∙◌, ⊎_elim, arith, length-append, length-drop}
use Rattle.std.proofs.lemmas.List.{nil_from_length, take_at, drop_at}
use Rattle.std.proofs.lemmas.Bool.Decides.{nat_tests}
use Rattle.std.proofs.lemmas.Bool.{cond-true, both_ways, eq-eqb, eqb-true, not-true}
use Rattle.std.specs.Bool.{◌==◌}
use Rattle.std.specs.Borrow.{Bor}
use Rattle.image.specs.Faults.{fault}
use Rattle.image.specs.declared.fault.Fault.{Fault}
use Rattle.image.specs.declared.reader.Clauses.{Clauses}
use Rattle.image.specs.declared.reader.FittingClauses.{FittingClauses}
use Rattle.image.specs.Runs.{ReadsFitting, Front, Reads, left_of, length_fits, front_cut, whole_by, whole, clauses_by, clauses}

-- more looks than words change nothing
whole_fuel : (f g : ℕ) (ws : List ℕ) → length ws ≤ f → length ws ≤ g → whole_by f ws ≡ whole_by g ws
unfolding whole_by
whole_fuel f g [] h k = refl
whole_fuel zero g (n ∷ ws) h k = absurd (omega arith)
whole_fuel (suc f) zero (n ∷ ws) h k = absurd (omega arith)
whole_fuel (suc f) (suc g) (n ∷ ws) h k =
    ap (λ (o : Bool). length_fits n ws && o) (whole_fuel f g (drop n ws) (omega (arith, length-drop n ws)) (omega (arith, length-drop n ws)))

clauses_fuel : (f g : ℕ) (ws : List ℕ) → length ws ≤ f → length ws ≤ g → clauses_by f ws ≡ clauses_by g ws
unfolding clauses_by
clauses_fuel f g [] h k = refl
clauses_fuel zero g (n ∷ ws) h k = absurd (omega arith)
clauses_fuel (suc f) zero (n ∷ ws) h k = absurd (omega arith)
clauses_fuel (suc f) (suc g) (n ∷ ws) h k =
    ap (λ (o : List (List ℕ)). take n ws ∷ o) (clauses_fuel f g (drop n ws) (omega (arith, length-drop n ws)) (omega (arith, length-drop n ws)))

pub whole_step : (n : ℕ) (ws : List ℕ) → whole (n ∷ ws) ≡ (length_fits n ws && whole (drop n ws))
unfolding whole whole_by
whole_step n ws = ap (λ (o : Bool). length_fits n ws && o) (whole_fuel (length ws) (length (drop n ws)) (drop n ws) (omega (arith, length-drop n ws)) (omega arith))

pub clauses_step : (n : ℕ) (ws : List ℕ) → clauses (n ∷ ws) ≡ take n ws ∷ clauses (drop n ws)
unfolding clauses clauses_by
clauses_step n ws = ap (λ (o : List (List ℕ)). take n ws ∷ o) (clauses_fuel (length ws) (length (drop n ws)) (drop n ws) (omega (arith, length-drop n ws)) (omega arith))

pub whole_end : whole [] ≡ true
unfolding whole whole_by
whole_end = refl

pub clauses_end : clauses [] ≡ []
unfolding clauses clauses_by
clauses_end = refl

pub whole_put : (c ws : List ℕ) → 0 < length c → whole (length c ∷ (c ++ ws)) ≡ whole ws
whole_put c ws h =
    let t : length_fits (length c) (c ++ ws) ≡ true = let e = length-append c ws in grind (arith, nat_tests) in
    whole_step (length c) (c ++ ws) ∙ ap (λ (b : Bool). b && whole (drop (length c) (c ++ ws))) t ∙ ap whole (drop_at c ws (length c) refl)

pub clauses_put : (c ws : List ℕ) → clauses (length c ∷ (c ++ ws)) ≡ c ∷ clauses ws
clauses_put c ws =
    clauses_step (length c) (c ++ ws) ∙ ap (λ (d : List ℕ). d ∷ clauses (drop (length c) (c ++ ws))) (take_at c ws (length c) refl) ∙ ap (λ (d : List ℕ). c ∷ clauses d) (drop_at c ws (length c) refl)

-- one clause on
pub whole_on : (ws c rest : List ℕ) → Front ws c rest → whole ws ≡ whole rest
whole_on ws c rest f = ap whole f.is ∙ whole_put c rest f.some

pub clauses_on : (ws c rest : List ℕ) → Front ws c rest → clauses ws ≡ c ∷ clauses rest
clauses_on ws c rest f = ap clauses f.is ∙ clauses_put c rest

pub clauses_none : (ws : List ℕ) → ws ≡ [] → clauses ws ≡ []
clauses_none ws e = ap clauses e ∙ clauses_end

pub whole_none : (ws : List ℕ) → ws ≡ [] → whole ws ≡ true
whole_none ws e = ap whole e ∙ whole_end

pub cut_whole : (ws : List ℕ) → front_cut ws ≡ true → whole ws ≡ false
cut_whole [] h = absurd (both_ways false refl h)
cut_whole (k ∷ ws) h = whole_step k ws ∙ ap (λ (b : Bool). b && whole (drop k ws)) (not-true (length_fits k ws) h)

-- what a step of a walk gave
module _ (s t : Clauses) (r : Option (Result (Bor (List ℕ)) Fault)) (h : Reads s r t) where
  pub reads_clause : (x : Result (Bor (List ℕ)) Fault) (c : Bor (List ℕ)) → r ≡ Some x → x ≡ Ok c → Front (left_of s) c.now (left_of t)
  reads_clause x c e o = let k = rw (e, o) at h.1 in k

  pub reads_fault : (x : Result (Bor (List ℕ)) Fault) (f : Fault) (n : ℕ) → r ≡ Some x → x ≡ Err f → s.left.node ≡ n → (f ≡ fault 2 n) × (front_cut (left_of s) ≡ true)
  reads_fault x f n e o i = let k = rw (e, o) at h.1 in (k.0 ∙ ap (fault 2) i, k.1)

  pub reads_none : r ≡ None → left_of s ≡ []
  reads_none e = let k = rw e at h.1 in k.0

-- what a step of a walk without faults gave
module _ (s t : FittingClauses) (r : Option (Bor (List ℕ))) (h : ReadsFitting s r t) where
  pub fits_clause : (c : Bor (List ℕ)) → r ≡ Some c → Front s.left.now c.now t.left.now
  fits_clause c e = let k = rw e at h in k

  pub fits_end : r ≡ None → (t.left.now ≡ s.left.now) × ((s.left.now ≡ []) ⊎ (front_cut s.left.now ≡ true))
  fits_end e = let k = rw e at h in k

  -- at the end nothing is left, or a cut
  pub fits_all : r ≡ None → (length t.left.now == 0) ≡ true → s.left.now ≡ []
  fits_all e z = sym (fits_end e).0 ∙ nil_from_length t.left.now (eqb-true _ _ z)

  pub fits_cut : r ≡ None → (length t.left.now == 0) ≡ false → front_cut s.left.now ≡ true
  fits_cut e z = let k = fits_end e in ⊎_elim (λ (n : s.left.now ≡ []). absurd (both_ways _ z (eq-eqb _ _ (ap length (k.0 ∙ n))))) (λ (c : front_cut s.left.now ≡ true). c) k.1

  -- of a run that is not cut, nothing
  pub fits_whole : r ≡ None → whole s.left.now ≡ true → s.left.now ≡ []
  fits_whole e w = ⊎_elim (λ (n : s.left.now ≡ []). n) (λ (c : front_cut s.left.now ≡ true). absurd (both_ways _ (cut_whole s.left.now c) w)) (fits_end e).1

-- the steps of a count
pub count_on : (ws c rest run : List ℕ) (n : ℕ) → Front ws c rest → (whole ws ≡ whole run) × (n + length (clauses ws) ≡ length (clauses run)) × (n + length ws ≤ length run)
    → (whole rest ≡ whole run) × (n + 1 + length (clauses rest) ≡ length (clauses run)) × (n + 1 + length rest ≤ length run)
count_on ws c rest run n f (w, k, l) =
    (sym (whole_on ws c rest f) ∙ w, omega (arith, ap length (clauses_on ws c rest f), k), omega (arith, f.less, l))

pub count_all : (ws run : List ℕ) (n : ℕ) {E : Type 0} (e : E) → ws ≡ [] → (whole ws ≡ whole run) × (n + length (clauses ws) ≡ length (clauses run)) × (n + length ws ≤ length run)
    → ◌≡◌ {A = Result ℕ E} (Ok n) (cond (whole run) (Ok (length (clauses run))) (Err e))
count_all ws run n e z (w, k, l) =
    let t : whole run ≡ true = sym w ∙ whole_none ws z in
    let m : n ≡ length (clauses run) = omega (arith, k, ap length (clauses_none ws z)) in
    ap Ok m ∙ sym (cond-true _ _ _ t)
