-- Whole checks, and walks along own lists. Assumes nothing.
use Rattle.std.proofs.Common.{◌≡◌, ℕ, zero, suc, ◌+◌, ◌-◌, ◌<◌, ◌≤◌, ltb, leb, List, [], ◌++◌, append-nil, length, get_or, add-one, sym, ap, ◌∙◌, subst, ⊎_elim, Option, Ok, Err, arith}
use Rattle.std.proofs.lemmas.Bool.{cond-true, cond-false, lt-ltb}
use Rattle.std.proofs.lemmas.Bool.Decides.{nat_tests}
use Rattle.network.specs.Lists.{In}
use Rattle.rules.specs.Store.{Meaning, from, up_to, count, live_clauses, index_on, index_off}
use Rattle.rules.specs.Work.{Work, storing, literals_of, each}
use Rattle.rules.proofs.Lawful.{own_few}
use Rattle.rules.proofs.Passes.{counts_small}
use Rattle.rules.specs.Lawful.{Lawful}
use Rattle.rules.specs.Subsume.{best, around, checked_from, checked, walked, walk_on, walk, subsume_simplify}
use Rattle.rules.specs.Calls.{need, with_live, subsume_answer}
use Rattle.image.specs.Faults.{fault}
use Rattle.image.specs.declared.fault.Fault.{Fault}
use Rattle.rules.proofs.Places.{in_at}
use Rattle.rules.proofs.Formed.{formed_parts, front_below}
use Rattle.rules.proofs.TakenOut.{front_or_last}
use Rattle.subsumption_pass.specs.Checks.{against, Next}
use Rattle.subsumption_pass.specs.Candidates.{Reaches, Ends, Checked}
use Rattle.subsumption_pass.proofs.Refs.{none_follow}

-- a live clause names only literals of the nodes up to 1,023
pub literals_small : (M : Meaning) → Lawful M → (l i : ℕ) → i < length (M.own l) → (C : List ℕ) → C ≡ get_or (M.own l) i [] → (x : ℕ) → In x C → x < 2048
literals_small M L l i h C e x m =
    let D = get_or (M.own l) i [] in
    let F = formed_parts D (L.formed l D (in_at (M.own l) i [] h)) in
    ⊎_elim (λ f. omega (arith, front_below D F.order x f, F.small)) (λ q. omega (arith, q, F.small)) (front_or_last D x (subst (In x) e m))

module _ (l i : ℕ) (M : Meaning) (x : ℕ) (b : x ≡ best M (get_or (M.own l) i [])) where
  -- a check is that against all that stand around the best literal
  checked_is : checked l i M ≡ against l i (around M x ++ []) M
  unfolding checked
  checked_is = ap (λ y. against l i (around M y) M) (sym b) ∙ ap (λ Rs. against l i Rs M) (sym (append-nil (around M x)))

  module _ {H : Type 0} (at : H → ℕ → ℕ → Type 0) (N : Meaning) where
    pub checked_lost : (next : Option H) → Ends at next l i (λ M. around M x) M N → Checked at l i M N next
    checked_lost next (p, q) = let (t, e) = q in (p, (t, checked_is ∙ e (λ M. []) none_follow))

    pub checked_through : (one : H) (next : Option H) → Reaches at one l i (λ M. around M x) (λ M. []) M N → ((i₁ : ℕ) → at one l i₁ → Next at N next l (i₁ + 1)) → Checked at l i M N next
    unfolding checked_from
    checked_through one next (i₁, q) f = let (s, e) = q in
        (i₁ + 1, (f i₁ s.0, checked_is ∙ e (λ M. []) none_follow ∙ ap (λ n. (N, n)) (sym (add-one i₁))))

-- ## Walks

-- at the end of the own list nothing is left of a walk
pub walk_ends : (f l i : ℕ) (M O : Meaning) → length (M.own l) ≡ i → O ≡ walked f l i M → M ≡ O
unfolding walked
walk_ends zero l i M O e o = sym o
walk_ends (suc f) l i M O e o = sym (o ∙ cond-false (ltb i (length (M.own l))) (walk_on (checked l i M) (walked f l)) M (grind (arith, nat_tests)))

pub walk_done : (f l i : ℕ) (M O : Meaning) → f ≡ 0 → O ≡ walked f l i M → M ≡ O
unfolding walked
walk_done f l i M O e o = sym (o ∙ ap (λ n. walked n l i M) e)

-- one clause more of a walk
pub walk_step : (f k l i p : ℕ) (M N O : Meaning) → k < f → i < length (M.own l) → checked l i M ≡ (N, p) → O ≡ walked (f - k) l i M → O ≡ walked (f - (k + 1)) l p N
unfolding walked
walk_step f k l i p M N O h li e o = o
    ∙ ap (λ n. walked n l i M) (let q : f - k ≡ suc (f - (k + 1)) = omega arith in q)
    ∙ cond-true (ltb i (length (M.own l))) (walk_on (checked l i M) (walked (f - (k + 1)) l)) M (lt-ltb i (length (M.own l)) li)
    ∙ ap (λ r. walk_on r (walked (f - (k + 1)) l)) e

-- one number more in turn
each_from : {Y : Type 0} (f : ℕ → Y → Y) (i n : ℕ) (y : Y) → each f (from i (suc n)) y ≡ f (i + n) (each f (from i n) y)
each_from f i zero y = ap (λ k. f k y) (omega arith)
each_from f i (suc n) y = each_from f (suc i) n (f i y) ∙ ap (λ k. f k (each f (from (suc i) n) (f i y))) (let q : suc i + n ≡ i + suc n = omega arith in q)

pub each_last : {Y : Type 0} (f : ℕ → Y → Y) (n : ℕ) (y : Y) → each f (up_to (n + 1)) y ≡ f n (each f (up_to n) y)
each_last f n y = ap (λ k. each f (up_to k) y) (add-one n) ∙ each_from f 0 n y ∙ ap (λ k. f k (each f (from 0 n) y)) (let q : 0 + n ≡ n = omega arith in q)

-- no literal has more uses or own clauses than the largest room
pub sizes_few : (M : Meaning) → Lawful M → M.room ≤ 4096 → (x : ℕ) → (count M x ≤ 4096) × (length (M.own x) ≤ 4096)
sizes_few M L r x = (omega (arith, counts_small M L x, L.within), omega (arith, own_few M L x))

-- ## The pass

pub refused : (n : ℕ) (W : Work) (f : Fault) → n < need W → f ≡ fault 10 (need W) → (W, Err f) ≡ subsume_answer n W
unfolding subsume_answer
refused n W f h e = ap (λ f. (W, Err f)) e ∙ sym (cond-false (leb (need W) n) (with_live (subsume_simplify W)) (W, Err (fault 10 (need W))) (grind (arith, nat_tests)))

pub answered : (n k : ℕ) (W : Work) (M N O : Meaning) → need W ≤ n → M ≡ index_on W.store → N ≡ each walk (literals_of W) M → O ≡ index_off N → k ≡ live_clauses O → (storing W O, Ok k) ≡ subsume_answer n W
unfolding subsume_answer subsume_simplify
answered n k W M N O h a b d e =
    ap (λ k. (storing W O, Ok k)) e
    ∙ ap (λ O. with_live (storing W O)) (d ∙ ap index_off (b ∙ ap (each walk (literals_of W)) a))
    ∙ sym (cond-true (leb (need W) n) (with_live (subsume_simplify W)) (W, Err (fault 10 (need W))) (grind (arith, nat_tests)))
