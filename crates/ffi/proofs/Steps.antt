-- The steps of a simplification over lent words. Assumes nothing.
use Rattle.std.proofs.Common.{◌≡◌, ℕ, Bool, leb, cond, List, Ok, Err, IsOk, IfOk, MatchResult, Result, sym, refl, ap, ◌∙◌}
use Rattle.std.proofs.lemmas.Bool.{and_from, cond-true}
use Rattle.image.specs.Faults.{fault, tested}
use Rattle.image.specs.declared.fault.Fault.{Fault}
use Rattle.intake.specs.Answers.{only_zero}
use Rattle.intake.proofs.Steps.{cond_ok, then_at, then_ok, then_stop}
use Rattle.input.specs.Inputs.{image_answer, with_frozen}
use Rattle.rules.specs.Store.{Meaning}
use Rattle.rules.specs.Work.{Work}
use Rattle.rules.specs.Calls.{start, simplify_answer}
use Rattle.slotted.specs.Tied.{blank}
use Rattle.store.specs.Checks.{checked, fair_room, need_of, sized}
use Rattle.ffi.specs.Simplified.{store_checked, prepared, simplified, simplified_over}

-- an answer is no refusal
not_both : {X E : Type 0} (q : Result X E) (e : E) → IsOk q → q ≡ Err e → ⊥
not_both q e h k = cc

-- equal refusals are of equal things
refused_same : {X E : Type 0} (x y : E) → ◌≡◌ {A = Result X E} (Err x) (Err y) → x ≡ y
refused_same x y h = cc

-- a call that answers where start does, and where not, gives things back with the refusal
module _ {X E : Type 0} (back : Fault → E) where
  -- answered, start has made a work, of which something holds
  pub started_at : {Q : Work → Type 0} (r : Result Work Fault) (q : Result X E) → MatchResult r (λ W. IsOk q) (λ f. q ≡ Err (back f)) → IsOk q → IfOk r Q → (W : Work) × (r ≡ Ok W) × Q W
  started_at (Ok W) q m o h = (W, refl, h)
  started_at (Err f) q m o h = absurd (not_both q (back f) o m)

  -- refused, start has given the refusal that came back
  pub refused_at : (r : Result Work Fault) (q : Result X E) (e : E) → MatchResult r (λ W. IsOk q) (λ f. q ≡ Err (back f)) → q ≡ Err e → (f : Fault) × (r ≡ Err f) × (e ≡ back f)
  refused_at (Ok W) q e m k = absurd (not_both q e m k)
  refused_at (Err f) q e m k = (f, refl, refused_same e (back f) (sym k ∙ m))

module _ (n m : ℕ) (ws : List ℕ) (fs : List Bool) (M : Meaning) where
  pub over_at : (W : Work) → start ws fs M ≡ Ok W → simplified_over n m ws fs M ≡ (simplify_answer n m W).1
  unfolding simplified_over
  over_at W e = then_at (start ws fs M) _ W e

  pub over_stops : (f : Fault) → start ws fs M ≡ Err f → simplified_over n m ws fs M ≡ Err f
  unfolding simplified_over
  over_stops f e = then_stop (start ws fs M) _ f e

-- what comes first, of so much lent
module _ (indexed : Bool) (ws ns : List ℕ) (room words : ℕ) where
  pub opening_stops : (f : Fault) → Err f ≡ image_answer ws ns → prepared indexed ws ns room words ≡ Err f
  unfolding prepared
  opening_stops f e = then_stop (image_answer ws ns) _ f (sym e)

  pub opening_passes : (u : Unit {0}) (r : Result (Unit {0}) Fault) → Ok u ≡ image_answer ws ns → r ≡ store_checked indexed room words → prepared indexed ws ns room words ≡ r
  unfolding prepared
  opening_passes u r e c = then_at (image_answer ws ns) _ u (sym e) ∙ sym c

  -- the store was checked
  pub checked_first : prepared indexed ws ns room words ≡ Ok tt → store_checked indexed room words ≡ Ok tt
  unfolding prepared
  checked_first p = (then_ok (image_answer ws ns) _ tt p).2

  -- and the work starts over an empty one
  pub simplified_at : (n m : ℕ) (vs : List ℕ) (fs : List Bool) (M : Meaning) → prepared indexed ws ns room words ≡ Ok tt → vs ≡ ws → fs ≡ with_frozen only_zero ns → M ≡ blank room
      → simplified_over n m vs fs M ≡ simplified indexed ws ns room words n m
  simplified_at n m vs fs M p v f b = rw (v, f, b) (sym (then_at (prepared indexed ws ns room words) _ tt p))

-- a store that was checked has its room
pub blank_room : (each fixed room words : ℕ) → checked each fixed room words ≡ Ok tt → blank (cond (sized each fixed room words) room 0) ≡ blank room
blank_room each fixed room words c =
    let t = then_ok (tested (fair_room room) (fault 9 room)) _ tt c in
    let fair = cond_ok (fair_room room) tt _ (fault 9 room) t.1 in
    let enough = cond_ok (leb (need_of each fixed room) words) tt tt (fault 10 (need_of each fixed room)) t.2 in
    ap blank (cond-true _ room 0 (and_from _ _ fair.0 enough.0))
