-- What is handed out admits the settings that what was taken in admits. Assumes nothing.
use Rattle.std.proofs.Common.{◌≡◌, ℕ, zero, suc, ◌/◌, leb, Bool, true, false, List, [], ◌∷◌, Ok, Err, Result, IfOk, get_or, set, sym, refl, subst}
use Rattle.std.proofs.lemmas.Bool.{cond_both}
use Rattle.image.specs.Faults.{fault}
use Rattle.image.specs.declared.fault.Fault.{Fault}
use Rattle.intake.specs.Answers.{only_zero, take_in_answer}
use Rattle.intake.proofs.Steps.{accepts_from, cond_ok, then_ok}
use Rattle.input.specs.Inputs.{image_answer, with_frozen}
use Rattle.rules.specs.Store.{live_clauses}
use Rattle.rules.specs.Work.{Work}
use Rattle.rules.specs.Calls.{called, finalize_answer, finalized, half, need, simplified_work, simplify_answer, simplify_call, start, words_out}
use Rattle.rules.specs.Theorem.{SameSettings, flags}
use Rattle.rules.proofs.Theorem.{always_right}
use Rattle.slotted.specs.Tied.{blank}
use Rattle.ffi.specs.Simplified.{Settled, prepared, simplified, simplified_over}

-- ## Node 0 is frozen

flag_stays : (fs : List Bool) (n : ℕ) → get_or fs 0 false ≡ true → get_or (set fs n true) 0 false ≡ true
flag_stays [] n h = h
flag_stays (f ∷ fs) zero h = refl
flag_stays (f ∷ fs) (suc n) h = h

zero_stays : (fs : List Bool) (ns : List ℕ) → flags fs 0 ≡ true → flags (with_frozen fs ns) 0 ≡ true
zero_stays fs [] h = h
zero_stays fs (n ∷ ns) h = zero_stays (set fs n true) ns (flag_stays fs n h)

-- ## What simplify writes

-- the words vs, if they are answered, are those of the work that is left
abbrev Wrote : List ℕ → Work × Result (List ℕ) Fault → Type 0
Wrote vs r = r.1 ≡ Ok vs → vs ≡ words_out r.0

unwritten : (f : Fault) (vs : List ℕ) (W : Work) → Wrote vs (W, Err f)
unwritten f vs W e = absurd (refused e)
  where
    refused : ◌≡◌ {A = Result (List ℕ) Fault} (Err f) (Ok vs) → ⊥
    refused e = cc

handed_wrote : (m : ℕ) (vs : List ℕ) (W : Work) → Wrote vs (finalized m W)
unfolding finalize_answer
handed_wrote m vs W e = sym (cond_ok _ (words_out W) vs _ e).1

simplify_wrote : (n m : ℕ) (vs : List ℕ) (W : Work) → Wrote vs (simplify_answer n m W)
unfolding simplify_answer
simplify_wrote n m vs W = cond_both (leb (need W) n) (half W (finalized m (simplified_work W))) _ (Wrote vs)
    (λ _. cond_both (leb (live_clauses W.store) (W.store.room / 2)) (finalized m (simplified_work W)) _ (Wrote vs) (λ _. handed_wrote m vs (simplified_work W)) (λ _. unwritten (fault 13 (live_clauses W.store)) vs W))
    (λ _. unwritten (fault 10 (need W)) vs W)

-- ## The settings

-- what holds of an answer that is no refusal
if_ok : (r : Result (List ℕ) Fault) (P : List ℕ → Type 0) → ((vs : List ℕ) → r ≡ Ok vs → P vs) → IfOk r P
if_ok (Ok vs) P h = h vs refl
if_ok (Err f) P h = tt

pub settled : (indexed : Bool) (ws ns : List ℕ) (room words n m : ℕ) → Settled ws ns (simplified indexed ws ns room words n m)
unfolding prepared simplified_over called
settled indexed ws ns room words n m = if_ok (simplified indexed ws ns room words n m) _ (λ vs e.
    let fs = with_frozen only_zero ns in
    let p = then_ok (prepared indexed ws ns room words) _ vs e in
    let s = then_ok (start ws fs (blank room)) _ vs p.2 in
    let i = then_ok (image_answer ws ns) _ _ p.1 in
    let t = then_ok (take_in_answer ws) _ _ i.1 in
    let right = always_right ws fs _ (record { right = accepts_from ws t.0 (sym t.1); zero = zero_stays only_zero ns refl; store = blank room; first = s.0; starts = s.1; calls = simplify_call n m ∷ []; is = refl }) in
    subst (λ us. SameSettings (flags fs) us ws) (sym (simplify_wrote n m vs s.0 s.2)) right.settings)
