-- What a refused call leaves. Assumes nothing.
use Rattle.std.proofs.Common.{◌≡◌, ℕ, ◌/◌, Bool, true, false, cond, leb, ◌⊎◌, List, length, Ok, Err, Result, sym, refl, inl, inr}
use Rattle.std.proofs.lemmas.Bool.{cond_both}
use Rattle.image.specs.Faults.{fault}
use Rattle.image.specs.declared.fault.Fault.{Fault}
use Rattle.rules.specs.Store.{live_clauses}
use Rattle.rules.specs.Work.{Work}
use Rattle.rules.specs.Const.{const_simplify}
use Rattle.rules.specs.Bve.{bve_simplify}
use Rattle.rules.specs.Subsume.{subsume_simplify}
use Rattle.rules.specs.Calls.{words_out, need, lent, half, const_answer, bve_answer, subsume_answer, finalize_answer, simplify_answer, simplified_work, finalized, with_live, with_out}
use Rattle.rules.specs.Theorem.{Refusals}

-- refused, it leaves W
abbrev Leaves : {X : Type 0} → Work → Fault → Work × Result X Fault → Type 0
Leaves W f r = r.1 ≡ Err f → r.0 ≡ W

not_refused : {X : Type 0} (x : X) (f : Fault) → ◌≡◌ {A = Result X Fault} (Ok x) (Err f) → ⊥
not_refused x f e = cc

lent_leaves : {X : Type 0} (n : ℕ) (W : Work) (f : Fault) (r : Work × Result X Fault) → Leaves W f r → Leaves W f (lent n W r)
lent_leaves n W f r h = cond_both (leb (need W) n) r _ (Leaves W f) (λ e. h) (λ e q. refl)

half_leaves : {X : Type 0} (W : Work) (f : Fault) (r : Work × Result X Fault) → Leaves W f r → Leaves W f (half W r)
half_leaves W f r h = cond_both (leb (live_clauses W.store) (W.store.room / 2)) r _ (Leaves W f) (λ e. h) (λ e q. refl)

const_leaves : (n : ℕ) (W : Work) (f : Fault) → (const_answer n W).1 ≡ Err f → (const_answer n W).0 ≡ W
unfolding const_answer
const_leaves n W f = lent_leaves n W f (half W (with_live (const_simplify W))) (half_leaves W f (with_live (const_simplify W)) (λ q. absurd (not_refused (live_clauses (const_simplify W).store) f q)))

bve_leaves : (n : ℕ) (W : Work) (f : Fault) → (bve_answer n W).1 ≡ Err f → (bve_answer n W).0 ≡ W
unfolding bve_answer
bve_leaves n W f = lent_leaves n W f (with_out W (bve_simplify W)) (λ q. absurd (not_refused _ f q))

subsume_leaves : (n : ℕ) (W : Work) (f : Fault) → (subsume_answer n W).1 ≡ Err f → (subsume_answer n W).0 ≡ W
unfolding subsume_answer
subsume_leaves n W f = lent_leaves n W f (with_live (subsume_simplify W)) (λ q. absurd (not_refused (live_clauses (subsume_simplify W).store) f q))

err_same : (f g : Fault) → ◌≡◌ {A = Result (List ℕ) Fault} (Err f) (Err g) → f ≡ g
err_same f g e = cc

-- after the passes only the output can be too small
abbrev DoneOr : Work → Fault → Work × Result (List ℕ) Fault → Type 0
DoneOr W f r = r.1 ≡ Err f → (r.0 ≡ W) ⊎ ((r.0 ≡ simplified_work W) × (f ≡ fault 14 (length (words_out (simplified_work W)))))

simplify_leaves : (n m : ℕ) (W : Work) (f : Fault) → DoneOr W f (simplify_answer n m W)
unfolding simplify_answer finalize_answer
simplify_leaves n m W f = cond_both (leb (need W) n) (half W (finalized m (simplified_work W))) _ (DoneOr W f)
    (λ e. cond_both (leb (live_clauses W.store) (W.store.room / 2)) (finalized m (simplified_work W)) _ (DoneOr W f) (λ t q. inr (refl, done (leb (length (words_out (simplified_work W))) m) q)) (λ t q. inl refl))
    (λ e q. inl refl)
  where
    done : (b : Bool) → cond b (Ok (words_out (simplified_work W))) (Err (fault 14 (length (words_out (simplified_work W))))) ≡ Err f → f ≡ fault 14 (length (words_out (simplified_work W)))
    done true q = absurd (not_refused (words_out (simplified_work W)) f q)
    done false q = sym (err_same (fault 14 (length (words_out (simplified_work W)))) f q)

pub refusals : Refusals
refusals = record { const = const_leaves; bve = bve_leaves; subsume = subsume_leaves; simplify = simplify_leaves }
