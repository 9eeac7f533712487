-- What the calls answer, from what the parts that they are made of answer. Assumes nothing.
use Rattle.std.proofs.Common.{◌≡◌, ℕ, ◌+◌, ◌*◌, ◌/◌, ◌≤◌, leb, Bool, true, false, cond, ◌⊎◌, List, [], ◌++◌, length, take, drop, Ok, Err, Result, sym, refl, ap, ◌∙◌, subst, ⊎_elim, arith}
use Rattle.std.specs.Prelude.{IfOk, IfErr}
use Rattle.std.proofs.lemmas.Bool.{cond_both, cond-true, cases_Bool}
use Rattle.std.proofs.Math.Seq.{take-append_seam}
use Rattle.std.proofs.Math.Logic.{∥∥₁_elim}
use mathlib.Core.HLevel.{⊥_prop}
use native.Mathlib.Bridge.{le_prop}
use Rattle.image.specs.Faults.{fault}
use Rattle.image.specs.declared.fault.Fault.{Fault}
use Rattle.rules.specs.Store.{Meaning, live_clauses}
use Rattle.rules.specs.Work.{Work}
use Rattle.rules.specs.Const.{const_simplify}
use Rattle.rules.specs.Bve.{bve_simplify}
use Rattle.rules.specs.Subsume.{subsume_simplify}
use Rattle.rules.specs.Calls.{need, lent, half, with_live, with_out, finalized, words_out, handed_out, const_answer, bve_answer, subsume_answer, finalize_answer, simplify_answer, simplified_work}
use Rattle.rules.specs.Theorem.{flags}
use Rattle.simplifier.specs.declared.state.Simplifier.{Simplifier}
use Rattle.simplifier.specs.Shown.{work_of}
use Rattle.elimination.specs.Outs.{Answered}
use Rattle.handing_out.specs.Outcome.{counted, left_in}
use Rattle.work.specs.Shown.{Marks, Shows, Underway, Leads}
use Rattle.work.specs.Promises.{Keeps, Faithful, words_of}
use Rattle.work.proofs.Reaching.{shrinks_of}

-- ## Passes

module _ {S R : Type 0} (meaning : S → Meaning) (call : Work → Work × R) (s t : Simplifier S) (r : R) where
  -- a pass leads as its rule does, where the flags tell the nodes that the rule takes out
  leads_marked : ((out : List ℕ) → Marks s.taken_out out → (work_of meaning t (call (work_of meaning s out)).0.out, r) ≡ call (work_of meaning s out))
      → ((out : List ℕ) → Marks s.taken_out out → Marks t.taken_out (call (work_of meaning s out)).0.out)
      → Leads meaning call s t r
  leads_marked makes marks = record {
    work = λ W T. subst (λ V. Shows meaning t (call V).0) T.is (record { is = ap (λ p. p.0) (makes W.out T.marks); marks = marks W.out T.marks });
    answer = λ W T. subst (λ V. r ≡ (call V).1) T.is (ap (λ p. p.1) (makes W.out T.marks));
  }

  -- the same, where work, answer and flags come together
  pub leads_answered : ((out : List ℕ) → Marks s.taken_out out → Answered meaning (call (work_of meaning s out)) t r) → Leads meaning call s t r
  leads_answered a = leads_marked
      (λ out m. ap (λ W. (W, r)) (a out m).work ∙ ap (λ q. ((call (work_of meaning s out)).0, q)) (a out m).answers)
      (λ out m. (a out m).flags)

  -- the same of a pass that takes no node out
  pub leads_same : ((out : List ℕ) → (work_of meaning t out, r) ≡ call (work_of meaning s out)) → t.taken_out ≡ s.taken_out → Leads meaning call s t r
  leads_same makes kept = leads_marked
      (λ out m. ap (λ p. (work_of meaning t p.0.out, r)) (sym (makes out)) ∙ makes out)
      (λ out m. subst (Marks t.taken_out) (ap (λ p. p.0.out) (makes out)) (subst (λ fs. Marks fs out) (sym kept) m))

-- a call that was lent as many words
lent_same : {S R : Type 0} (meaning : S → Meaning) (call : ℕ → Work → Work × R) (s t : Simplifier S) (r : R) (n k : ℕ) → k ≡ n → Leads meaning (call k) s t r → Leads meaning (call n) s t r
lent_same meaning call s t r n k e L = subst (λ j. Leads meaning (call j) s t r) e L

-- ## What is handed out

-- what holds of the words that an answer gives holds of the front of the words lent to it
front : (P : List ℕ → Type 0) (a : Result (List ℕ) Fault) (r : Result ℕ Fault) (old new : List ℕ) → IfOk a P → r ≡ counted a → new ≡ left_in old a → IfOk r (λ n. P (take n new))
front P (Ok ws) r old new h e w = subst (λ q. IfOk q (λ n. P (take n new))) (sym e) (subst P (sym (ap (take (length ws)) w ∙ take-append_seam ws (drop (length ws) old))) h)
front P (Err f) r old new h e w = subst (λ q. IfOk q (λ n. P (take n new))) (sym e) tt

-- a refusal says 14, and leaves the words
unwritten : (a : Result (List ℕ) Fault) (r : Result ℕ Fault) (old new : List ℕ) → IfErr a (λ f. f.number ≡ 14) → r ≡ counted a → new ≡ left_in old a → IfErr r (λ f. (f.number ≡ 14) × (new ≡ old))
unwritten (Ok ws) r old new h e w = subst (λ q. IfErr q (λ f. (f.number ≡ 14) × (new ≡ old))) (sym e) tt
unwritten (Err f) r old new h e w = subst (λ q. IfErr q (λ f. (f.number ≡ 14) × (new ≡ old))) (sym e) (h, w)

module _ {S : Type 0} (meaning : S → Meaning) (s : Simplifier S) (r : Result ℕ Fault) (old new : List ℕ)
    (e : (out : List ℕ) → r ≡ counted (finalize_answer (length old) (work_of meaning s out))) (w : (out : List ℕ) → new ≡ left_in old (finalize_answer (length old) (work_of meaning s out))) where
  pub faithful_front : (ws : List ℕ) → Faithful meaning s ws (words_of meaning s) → IfOk r (λ n. Faithful meaning s ws (take n new))
  unfolding finalize_answer
  faithful_front ws F = front (Faithful meaning s ws) (finalize_answer (length old) (work_of meaning s [])) r old new
      (cond_both (leb (length (words_of meaning s)) (length old)) (Ok (words_of meaning s)) _ (λ a. IfOk a (Faithful meaning s ws)) (λ _. F) (λ _. tt)) (e []) (w [])

  pub refused_front : IfErr r (λ f. (f.number ≡ 14) × (new ≡ old))
  unfolding finalize_answer
  refused_front = unwritten (finalize_answer (length old) (work_of meaning s [])) r old new
      (cond_both (leb (length (words_of meaning s)) (length old)) (Ok (words_of meaning s)) _ (λ a. IfErr a (λ f. f.number ≡ 14)) (λ _. tt) (λ _. refl)) (e []) (w [])

-- ## Simplify

-- an answer that is no refusal is not one
refuses : {X : Type 0} (a : Result X Fault) (f : Fault) → IfErr a (λ _. ⊥) → Err f ≡ a → ⊥
refuses a f h e = subst (λ q. IfErr q (λ _. ⊥)) (sym e) h

err_same : {X : Type 0} (f g : Fault) → ◌≡◌ {A = Result X Fault} (Err f) (Err g) → f ≡ g
err_same f g e = cc

-- a result under two tests, or the work with the refusal of the one that fails
gate : {X : Type 0} → Bool → Bool → Work → Fault → Fault → Work × Result X Fault → Work × Result X Fault
gate a b W e f r = cond a (cond b r (W, Err f)) (W, Err e)

gate_err : {X Y : Type 0} (a b : Bool) (W : Work) (e f x : Fault) (N : Work) (y : Y) (q : Work × Result X Fault)
    → (gate a b W e f (N, Ok y)).1 ≡ Err x → (gate a b W e f q ≡ (W, Err x)) × ((gate a b W e f (N, Ok y)).0 ≡ W)
unfolding gate
gate_err true true W e f x N y q h = absurd (cc)
gate_err true false W e f x N y q h = (ap (λ z. (W, Err z)) (err_same f x h), refl)
gate_err false b W e f x N y q h = (ap (λ z. (W, Err z)) (err_same e x h), refl)

gate_ok : {X Y : Type 0} (a b : Bool) (W : Work) (e f : Fault) (N : Work) (y z : Y) (q : Work × Result X Fault)
    → (gate a b W e f (N, Ok y)).1 ≡ Ok z → (a ≡ true) × ((gate a b W e f (N, Ok y)).0 ≡ N) × (gate a b W e f q ≡ q)
unfolding gate
gate_ok true true W e f N y z q h = (refl, refl, refl)
gate_ok true false W e f N y z q h = absurd (cc)
gate_ok false b W e f N y z q h = absurd (cc)

-- with enough working words, bve_simplify and subsume_simplify are not refused
bve_granted : (n : ℕ) (W : Work) → leb (need W) n ≡ true → bve_answer n W ≡ with_out W (bve_simplify W)
unfolding bve_answer
bve_granted n W h = cond-true (leb (need W) n) _ _ h

subsume_granted : (n : ℕ) (W : Work) → leb (need W) n ≡ true → subsume_answer n W ≡ with_live (subsume_simplify W)
unfolding subsume_answer
subsume_granted n W h = cond-true (leb (need W) n) _ _ h

bve_leaves_fewer : (n : ℕ) (W : Work) → live_clauses (bve_simplify W).store ≤ live_clauses W.store → live_clauses (bve_answer n W).0.store ≤ live_clauses W.store
unfolding bve_answer
bve_leaves_fewer n W h = cond_both (leb (need W) n) (with_out W (bve_simplify W)) _ (λ y. live_clauses y.0.store ≤ live_clauses W.store) (λ _. h) (λ _. omega arith)

module _ {S : Type 0} (meaning : S → Meaning) (ws : List ℕ) (n : ℕ) (s t : Simplifier S) where
  pub fewer : (r : Result (ℕ × ℕ) Fault) → Leads meaning (bve_answer n) s t r → ∥ Underway meaning ws s ∥₁ → live_clauses (meaning t.store) ≤ live_clauses (meaning s.store)
  fewer r L h = ∥∥₁_elim h le_prop (λ U.
      let T = L.work U.work U.shown in
      omega (arith, bve_leaves_fewer n U.work (shrinks_of meaning ws s U), ap (λ W. live_clauses W.store) T.is, ap (λ W. live_clauses W.store) U.shown.is))

  -- what is enough stays enough, as the room stays
  enough_on : (W N : Work) → Keeps meaning s t → Shows meaning s W → Shows meaning t N → leb (need W) n ≡ true → leb (need N) n ≡ true
  enough_on W N K T V h = subst (λ r. leb (64 * r + 8192) n ≡ true) (ap (λ w. w.store.room) (sym T.is) ∙ sym K.room ∙ ap (λ w. w.store.room) V.is) h

-- simplify, with the number of words that it writes
abbrev pub simplifying : ℕ → ℕ → Work → Work × Result ℕ Fault
simplifying n m W = ((simplify_answer n m W).0, counted (simplify_answer n m W).1)

-- const_simplify is refused just where simplify is before its passes
module _ (n m : ℕ) (W : Work) where
  refused_first : (f : Fault) → (const_answer n W).1 ≡ Err f → (simplify_answer n m W ≡ (W, Err f)) × ((const_answer n W).0 ≡ W)
  unfolding const_answer simplify_answer gate
  refused_first f h = gate_err (leb (need W) n) (leb (live_clauses W.store) (W.store.room / 2)) W (fault 10 (need W)) (fault 13 (live_clauses W.store)) f
      (const_simplify W) (live_clauses (const_simplify W).store) (finalized m (simplified_work W)) h

  granted_first : (k : ℕ) → (const_answer n W).1 ≡ Ok k → (leb (need W) n ≡ true) × ((const_answer n W).0 ≡ const_simplify W) × (simplify_answer n m W ≡ finalized m (simplified_work W))
  unfolding const_answer simplify_answer gate
  granted_first k h = gate_ok (leb (need W) n) (leb (live_clauses W.store) (W.store.room / 2)) W (fault 10 (need W)) (fault 13 (live_clauses W.store))
      (const_simplify W) (live_clauses (const_simplify W).store) k (finalized m (simplified_work W)) h

module _ {S : Type 0} (meaning : S → Meaning) (n : ℕ) (s s₁ : Simplifier S) where
  -- const_simplify was refused
  module _ (m : ℕ) (f : Fault) (L : Leads meaning (const_answer n) s s₁ (Err f)) where
    pub refused_rules : Leads meaning (simplifying n m) s s₁ (Err f)
    refused_rules = record {
      work = λ W T. let (p, q) = refused_first n m W f (sym (L.answer W T)) in subst (Shows meaning s₁) (q ∙ ap (λ a. a.0) (sym p)) (L.work W T);
      answer = λ W T. ap (λ a. counted a.1) (sym (refused_first n m W f (sym (L.answer W T))).0);
    }

    pub refused_words : (W : Work) → Shows meaning s W → (out : List ℕ) → out ≡ left_in out (simplify_answer n m W).1
    refused_words W T out = ap (λ a. left_in out a.1) (sym (refused_first n m W f (sym (L.answer W T))).0)

  -- const_simplify was not refused
  module _ (ws : List ℕ) (k : ℕ) (h : ∥ Underway meaning ws s ∥₁) (L : Leads meaning (const_answer n) s s₁ (Ok k)) (K : Keeps meaning s s₁) where
    enough₁ : (W : Work) → Shows meaning s W → leb (need (const_answer n W).0) n ≡ true
    enough₁ W T = enough_on meaning ws n s s₁ W (const_answer n W).0 K T (L.work W T) (granted_first n 0 W k (sym (L.answer W T))).0

    pub bve_never : (j : ℕ) → j ≡ n → (s₂ : Simplifier S) (f : Fault) → Leads meaning (bve_answer j) s₁ s₂ (Err f) → ⊥
    bve_never j e s₂ f L₂ = ∥∥₁_elim h ⊥_prop (λ U.
        let N = (const_answer n U.work).0 in
        refuses (with_out N (bve_simplify N)).1 f tt ((lent_same meaning bve_answer s₁ s₂ (Err f) n j e L₂).answer N (L.work U.work U.shown) ∙ ap (λ a. a.1) (bve_granted n N (enough₁ U.work U.shown))))

    module _ (j : ℕ) (e : j ≡ n) (s₂ : Simplifier S) (k₂ : ℕ × ℕ) (L₂ : Leads meaning (bve_answer j) s₁ s₂ (Ok k₂)) (K₂ : Keeps meaning s₁ s₂) where
      T₂ : (W : Work) → Shows meaning s W → Shows meaning s₂ (bve_answer n (const_answer n W).0).0
      T₂ W T = (lent_same meaning bve_answer s₁ s₂ (Ok k₂) n j e L₂).work (const_answer n W).0 (L.work W T)

      enough₂ : (W : Work) → Shows meaning s W → leb (need (bve_answer n (const_answer n W).0).0) n ≡ true
      enough₂ W T = enough_on meaning ws n s₁ s₂ (const_answer n W).0 (bve_answer n (const_answer n W).0).0 K₂ (L.work W T) (T₂ W T) (enough₁ W T)

      pub subsume_never : (i : ℕ) → i ≡ j → (s₃ : Simplifier S) (f : Fault) → Leads meaning (subsume_answer i) s₂ s₃ (Err f) → ⊥
      subsume_never i d s₃ f L₃ = ∥∥₁_elim h ⊥_prop (λ U.
          let N = (bve_answer n (const_answer n U.work).0).0 in
          refuses (with_live (subsume_simplify N)).1 f tt ((lent_same meaning subsume_answer s₂ s₃ (Err f) n i (d ∙ e) L₃).answer N (T₂ U.work U.shown) ∙ ap (λ a. a.1) (subsume_granted n N (enough₂ U.work U.shown))))

      -- all three passes were done
      module _ (m i : ℕ) (d : i ≡ j) (s₃ : Simplifier S) (k₃ : ℕ) (L₃ : Leads meaning (subsume_answer i) s₂ s₃ (Ok k₃)) where
        all_done : (W : Work) → Shows meaning s W → (subsume_answer n (bve_answer n (const_answer n W).0).0).0 ≡ simplified_work W
        all_done W T =
            ap (λ a. a.0) (subsume_granted n (bve_answer n (const_answer n W).0).0 (enough₂ W T))
            ∙ ap (λ a. subsume_simplify a.0) (bve_granted n (const_answer n W).0 (enough₁ W T))
            ∙ ap (λ V. subsume_simplify (bve_simplify V)) (granted_first n m W k (sym (L.answer W T))).1

        all_shown : (W : Work) → Shows meaning s W → Shows meaning s₃ (simplified_work W)
        all_shown W T = subst (Shows meaning s₃) (all_done W T) ((lent_same meaning subsume_answer s₂ s₃ (Ok k₃) n i (d ∙ e) L₃).work (bve_answer n (const_answer n W).0).0 (T₂ W T))

        is : (W : Work) → Shows meaning s W → simplify_answer n m W ≡ finalized m (simplified_work W)
        is W T = (granted_first n m W k (sym (L.answer W T))).2

        -- simplify answers what finalize answers of what the passes left
        pub done : (r : Result ℕ Fault) (old new : List ℕ) → ((W : Work) → Shows meaning s₃ W → r ≡ counted (finalize_answer m W)) → ((W : Work) → Shows meaning s₃ W → new ≡ left_in old (finalize_answer m W))
            → Leads meaning (simplifying n m) s s₃ r × ((W : Work) → Shows meaning s W → new ≡ left_in old (simplify_answer n m W).1)
        done r old new F G = (
          record {
            work = λ W T. subst (λ a. Shows meaning s₃ a.0) (sym (is W T)) (all_shown W T);
            answer = λ W T. F (simplified_work W) (all_shown W T) ∙ ap (λ a. counted a.1) (sym (is W T));
          },
          λ W T. G (simplified_work W) (all_shown W T) ∙ ap (λ a. left_in old a.1) (sym (is W T)),
        )
