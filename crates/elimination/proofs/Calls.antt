-- What a call of bve_simplify answers, by what was tested. Assumes nothing.
use Rattle.std.proofs.Common.{◌≡◌, ℕ, suc, ◌-◌, ◌≤◌, Bool, true, false, ◌||◌, eqb, leb, List, ◌++◌, length, Ok, Err, Result, refl, sym, ap, ◌∙◌, subst, arith}
use Rattle.std.proofs.lemmas.Bool.{cond-true, cond-false, leb-true}
use Rattle.std.proofs.lemmas.List.{length-append}
use Rattle.std.proofs.lemmas.List.Folds.{list_any-append}
use Rattle.image.specs.declared.fault.Fault.{Fault}
use Rattle.image.specs.Faults.{fault, tested}
use Rattle.network.specs.Clauses.{has}
use Rattle.rules.specs.Index.{Indexed}
use Rattle.rules.specs.Lawful.{Lawful}
use Rattle.rules.specs.Store.{Meaning, up_to, index_on, live_clauses}
use Rattle.rules.specs.Work.{Work, storing}
use Rattle.rules.specs.Bve.{attempts, bve_simplify}
use Rattle.rules.specs.Calls.{need, lent, with_out, bve_answer}
use Rattle.rules.proofs.Formed.{formed_parts}
use Rattle.rules.proofs.Index.{index_on_indexed}
use Rattle.simplifier.specs.Shown.{work_of}
use Rattle.simplifier.specs.declared.state.Simplifier.{Simplifier}
use Rattle.elimination.specs.Outs.{flag, Flagged, Answered, Made}

-- a test that refuses, and one that does not
refuses : (b : Bool) (f e : Fault) → Err e ≡ tested b f → (b ≡ false) × (f ≡ e)
refuses true f e q = absurd cc
refuses false f e q = (refl, cc)

passes : (b : Bool) (f : Fault) (u : Unit {0}) → Ok u ≡ tested b f → b ≡ true
passes true f u q = refl
passes false f u q = absurd cc

-- a call that is lent too few words, and one that is lent enough
module _ {X : Type 0} (n : ℕ) (W : Work) (r : Work × Result X Fault) where
  short : (e : Fault) → Err e ≡ tested (leb (need W) n) (fault 10 (need W)) → lent n W r ≡ (W, Err e)
  short e q =
      let (b, f) = refuses (leb (need W) n) (fault 10 (need W)) e q in
      cond-false {A = Work × Result X Fault} (leb (need W) n) r (W, Err (fault 10 (need W))) b ∙ ap (λ f. (W, Err f)) f

  goes_on : (u : Unit {0}) → Ok u ≡ tested (leb (need W) n) (fault 10 (need W)) → lent n W r ≡ r
  goes_on u q = cond-true {A = Work × Result X Fault} (leb (need W) n) r (W, Err (fault 10 (need W))) (passes (leb (need W) n) (fault 10 (need W)) u q)

-- the words are as many as are needed
pub lent_enough : (n m : ℕ) (u : Unit {0}) → Ok u ≡ tested (leb m n) (fault 10 m) → m ≤ n
lent_enough n m u q = leb-true m n (passes (leb m n) (fault 10 m) u q)

-- an index that is put on is as it is made
pub put_on : (M : Meaning) → Lawful M → M.indexed ≡ false → Indexed (index_on M)
put_on M L e = index_on_indexed M e (λ l C j. omega (arith, (formed_parts C (L.formed l C j)).small, L.placed l C j))

both : (a b c d : ℕ) → a ≡ c → b ≡ d → ◌≡◌ {A = Result (ℕ × ℕ) Fault} (Ok (a, b)) (Ok (c, d))
both a b c d e f = cc

module _ {S : Type 0} (meaning : S → Meaning) (n : ℕ) (s : Simplifier S) (out : List ℕ) (flagged : Flagged s.taken_out out) where
  abbrev W : Work
  W = work_of meaning s out

  pub refused : (e : Fault) (x : Result (ℕ × ℕ) Fault) → x ≡ Err e → Err e ≡ tested (leb (need W) n) (fault 10 (need W)) → Answered meaning (bve_answer n W) s x
  unfolding bve_answer
  refused e x is q = subst (λ A. Answered meaning A s x) (sym (short n (work_of meaning s out) (with_out W (bve_simplify W)) e q)) (record { work = refl; answers = is; flags = flagged })

  module _ (u : Unit {0}) (enough : Ok u ≡ tested (leb (need W) n) (fault 10 (need W))) where
    pub stood : W.store.indexed ≡ true → (k : ℕ) → k ≡ live_clauses W.store → Answered meaning (bve_answer n W) s (Ok (0, k))
    unfolding bve_answer bve_simplify
    stood e k e' = subst (λ A. Answered meaning A s (Ok (0, k)))
        (sym (goes_on n W (with_out W (bve_simplify W)) u enough ∙ ap (with_out W) (cond-true W.store.indexed W _ e)))
        (record { work = refl; answers = both 0 k (length out - length out) (live_clauses (meaning s.store)) (omega arith) e'; flags = flagged })

    -- the attempts began at s₁ and came to t
    pub passed : W.store.indexed ≡ false → (s₁ t : Simplifier S) (count k : ℕ) → s₁.top ≡ s.top → s₁.taken_out ≡ s.taken_out → work_of meaning s₁ out ≡ storing W (index_on W.store)
        → Made meaning count s₁ t → k ≡ live_clauses (meaning t.store) → Answered meaning (bve_answer n W) t (Ok (count, k))
    unfolding bve_answer bve_simplify
    passed e s₁ t count k top taken begins m q = subst (λ A. Answered meaning A t (Ok (count, k)))
        (sym (goes_on n W (with_out W (bve_simplify W)) u enough ∙ ap (with_out W) (cond-false W.store.indexed W _ e ∙ sym (m.made out ∙ ap (λ k. attempts (suc k) (up_to (suc k)) (work_of meaning s₁ out)) top ∙ ap (attempts (suc s.top) (up_to (suc s.top))) begins))))
        (record {
          work = refl;
          answers = both count k (length (m.nodes ++ out) - length out) (live_clauses (meaning t.store)) (omega (arith, m.many, length-append m.nodes out)) q;
          flags = λ k. m.flags k ∙ ap (λ fs. has k m.nodes || flag fs k) taken ∙ ap (λ b. has k m.nodes || b) (flagged k) ∙ sym (list_any-append (eqb k) m.nodes out);
        })
