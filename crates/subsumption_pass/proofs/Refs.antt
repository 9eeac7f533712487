-- Refs that are passed over, and refs that a change moves. Assumes nothing.
use Rattle.std.proofs.Common.{◌≡◌, ℕ, zero, suc, ◌+◌, ◌-◌, ◌<◌, ◌≤◌, Bool, true, false, not, cond, ◌&&◌, eqb, List, [], ◌∷◌, ◌++◌, map, length, drop, add-one, sym, refl, ap, ◌∙◌, subst, ⊎_elim, arith}
use Rattle.std.proofs.lemmas.Bool.{cases_eq}
use Rattle.std.proofs.lemmas.Bool.Decides.{nat_tests}
use Rattle.std.proofs.lemmas.List.{length-map, drop-map, map-append}
use Rattle.std.proofs.lemmas.List.Elements.{filter-append}
use Rattle.rules.specs.Store.{Ref, live, dead, Meaning, is_dead, from, clause_at, after_retired, retired}
use Rattle.rules.specs.Subsume.{Verdict, apart, subsumed, merged, both_lost, long_lost, strengthened, verdict, on_verdict, checked_from, refs_of}
use Rattle.rules.proofs.Places.{retired_apart}
use Rattle.subsumption_pass.proofs.Shapes.{less}
use Rattle.subsumption_pass.specs.Checks.{alive, against, SameShape, Follows}

-- ## Dead refs are passed over

cond_alike : {X : Type 0} (b : Bool) {x x' y y' : X} → x ≡ x' → y ≡ y' → cond b x y ≡ cond b x' y'
cond_alike true p q = p
cond_alike false p q = q

-- a verdict goes on alike where what goes on does
pub verdict_alike : {X : Type 0} (v : Verdict) (l i k j : ℕ) (Rs Qs : List Ref) (M : Meaning) (go go' : ℕ → List Ref → Meaning → X) (stop : Meaning → ℕ → X)
    → ((i₁ : ℕ) (M₁ : Meaning) → go i₁ Rs M₁ ≡ go' i₁ Qs M₁) → ((i₁ : ℕ) (M₁ : Meaning) → go i₁ (map (after_retired k j) Rs) M₁ ≡ go' i₁ (map (after_retired k j) Qs) M₁)
    → on_verdict v l i k j Rs M go stop ≡ on_verdict v l i k j Qs M go' stop
verdict_alike apart l i k j Rs Qs M go go' stop a b = a _ _
verdict_alike subsumed l i k j Rs Qs M go go' stop a b = b _ _
verdict_alike (merged x) l i k j Rs Qs M go go' stop a b = b _ _
verdict_alike both_lost l i k j Rs Qs M go go' stop a b = refl
verdict_alike long_lost l i k j Rs Qs M go go' stop a b = b _ _
verdict_alike (strengthened x) l i k j Rs Qs M go go' stop a b = a _ _

longer : (f l i : ℕ) (Rs : List Ref) (M : Meaning) → length Rs ≤ f → checked_from (suc f) l i Rs M ≡ checked_from f l i Rs M
unfolding checked_from
longer zero l i [] M h = refl
longer zero l i (r ∷ Rs) M h = absurd (omega arith)
longer (suc f) l i [] M h = refl
longer (suc f) l i (dead ∷ Rs) M h = longer f l i Rs M (omega arith)
longer (suc f) l i (live k j ∷ Rs) M h =
    let a = longer f l i Rs M (omega arith) in
    let b = verdict_alike (verdict (clause_at M l i) (clause_at M k j)) l i k j Rs Rs M (λ i₁ Rs₁ M₁. checked_from (suc f) l i₁ Rs₁ M₁) (λ i₁ Rs₁ M₁. checked_from f l i₁ Rs₁ M₁) (λ M₁ p. (M₁, p))
    (λ i₁ M₁. longer f l i₁ Rs M₁ (omega arith)) (λ i₁ M₁. longer f l i₁ (map (after_retired k j) Rs) M₁ (omega (arith, length-map Rs (after_retired k j)))) in
    cond_alike (eqb k l && eqb j i) a b

more : (d l i : ℕ) (Rs : List Ref) (M : Meaning) → checked_from (d + length Rs) l i Rs M ≡ against l i Rs M
more zero l i Rs M = ap (λ n. checked_from n l i Rs M) (omega arith)
more (suc d) l i Rs M = ap (λ n. checked_from n l i Rs M) (omega arith) ∙ longer (d + length Rs) l i Rs M (omega arith) ∙ more d l i Rs M

pub alive_map : (k j : ℕ) (Rs : List Ref) → alive (map (after_retired k j) (alive Rs)) ≡ alive (map (after_retired k j) Rs)
alive_map k j [] = refl
alive_map k j (dead ∷ Rs) = alive_map k j Rs
alive_map k j (live a b ∷ Rs) = ap (λ Qs. cond (not (is_dead (after_retired k j (live a b)))) (after_retired k j (live a b) ∷ Qs) Qs) (alive_map k j Rs)

alive_few : (Rs : List Ref) → length (alive Rs) ≤ length Rs
alive_few [] = omega arith
alive_few (dead ∷ Rs) = let h = alive_few Rs in omega arith
alive_few (live a b ∷ Rs) = let h = alive_few Rs in omega arith

passed : (f l i : ℕ) (Rs : List Ref) (M : Meaning) → length Rs ≤ f → checked_from f l i Rs M ≡ checked_from f l i (alive Rs) M
unfolding checked_from
passed zero l i [] M h = refl
passed zero l i (r ∷ Rs) M h = absurd (omega arith)
passed (suc f) l i [] M h = refl
passed (suc f) l i (dead ∷ Rs) M h = passed f l i Rs M (omega arith) ∙ sym (longer f l i (alive Rs) M (omega (arith, alive_few Rs)))
passed (suc f) l i (live k j ∷ Rs) M h =
    let a = passed f l i Rs M (omega arith) in
    let b = verdict_alike (verdict (clause_at M l i) (clause_at M k j)) l i k j Rs (alive Rs) M (λ i₁ Rs₁ M₁. checked_from f l i₁ Rs₁ M₁) (λ i₁ Rs₁ M₁. checked_from f l i₁ Rs₁ M₁) (λ M₁ p. (M₁, p))
    (λ i₁ M₁. passed f l i₁ Rs M₁ (omega arith))
    (λ i₁ M₁. passed f l i₁ (map (after_retired k j) Rs) M₁ (omega (arith, length-map Rs (after_retired k j)))
    ∙ ap (λ Qs. checked_from f l i₁ Qs M₁) (sym (alive_map k j Rs))
    ∙ sym (passed f l i₁ (map (after_retired k j) (alive Rs)) M₁ (omega (arith, length-map (alive Rs) (after_retired k j), alive_few Rs)))) in
    cond_alike (eqb k l && eqb j i) a b

-- a check against refs is one against those of them that are alive
pub against_alive : (l i : ℕ) (Rs Qs : List Ref) (M : Meaning) → alive Rs ≡ alive Qs → against l i Rs M ≡ against l i Qs M
against_alive l i Rs Qs M e = one l i Rs M ∙ ap (λ r. against l i r M) e ∙ sym (one l i Qs M)
  where
    one : (l i : ℕ) (Rs : List Ref) (M : Meaning) → against l i Rs M ≡ against l i (alive Rs) M
    one l i Rs M = passed (length Rs) l i Rs M (omega arith)
        ∙ ap (λ n. checked_from n l i (alive Rs) M) (omega (arith, alive_few Rs)) ∙ more (length Rs - length (alive Rs)) l i (alive Rs) M

-- ## Refs after a clause is retired

module _ (k j : ℕ) where
  -- other lists' refs
  other_refs : (x a n : ℕ) → (x ≡ k → ⊥) → map (after_retired k j) (map (live x) (from a n)) ≡ map (live x) (from a n)
  other_refs x a zero d = refl
  other_refs x a (suc n) d = grind (arith, nat_tests, other_refs x (suc a) n d)

  -- refs to places behind it
  pub later_refs : (a n : ℕ) → j < suc a → map (after_retired k j) (map (live k) (from (suc a) n)) ≡ map (live k) (from a n)
  later_refs a zero h = refl
  later_refs a (suc n) h = let e : suc a - 1 ≡ a = omega arith in grind (arith, nat_tests, later_refs (suc a) n (omega arith))

  alive_refs : (x a n : ℕ) → alive (map (live x) (from a n)) ≡ map (live x) (from a n)
  alive_refs x a zero = refl
  alive_refs x a (suc n) = ap (λ Qs. live x a ∷ Qs) (alive_refs x (suc a) n)

  at_it : (a : ℕ) → a ≡ j → after_retired k j (live k a) ≡ dead
  at_it a e = grind (arith, nat_tests)

  before_it : (a : ℕ) → a < j → after_retired k j (live k a) ≡ live k a
  before_it a h = grind (arith, nat_tests)

  here_less : (a n : ℕ) → a ≡ j → alive (map (after_retired k j) (map (live k) (from a (suc n)))) ≡ map (live k) (from a n)
  here_less a n e = ap (λ r. alive (r ∷ map (after_retired k j) (map (live k) (from (suc a) n)))) (at_it a e) ∙ ap alive (later_refs a n (omega arith)) ∙ alive_refs k a n

  -- refs to places among which it is
  pub refs_less : (a n : ℕ) → a ≤ j → j < a + suc n → alive (map (after_retired k j) (map (live k) (from a (suc n)))) ≡ map (live k) (from a n)
  refs_less a zero p q = here_less a zero (omega arith)
  refs_less a (suc n) p q = ⊎_elim (here_less a (suc n))
      (λ d. ap (λ r. alive (r ∷ map (after_retired k j) (map (live k) (from (suc a) (suc n))))) (before_it a (omega (arith, d))) ∙ ap (λ Qs. live k a ∷ Qs) (refs_less (suc a) n (omega (arith, d)) (omega arith)))
      (cases_eq a j)

-- ## Refs that follow

less_length : (k j : ℕ) (M : Meaning) → j < length (M.own k) → suc (length ((retired k j M).own k)) ≡ length (M.own k)
less_length k j M h = grind (arith, nat_tests, less M k j k h)

pub own_follows : (x : ℕ) → Follows (λ M. refs_of M x)
own_follows x = record {
  stays = λ M N s. ap (λ n. map (live x) (from 0 n)) (s.lengths x);
  retires = λ k j M N h s. ⊎_elim (same k j M N h s) (other k j M N h s) (cases_eq x k);
}
  where
    shorter : (k j m n : ℕ) → j < m → suc n ≡ m → alive (map (after_retired k j) (map (live k) (from 0 m))) ≡ alive (map (live k) (from 0 n))
    shorter k j m n h e = ap (λ m. alive (map (after_retired k j) (map (live k) (from 0 m)))) (sym e) ∙ refs_less k j 0 n (omega arith) (omega arith) ∙ sym (alive_refs k j k 0 n)

    same : (k j : ℕ) (M N : Meaning) → j < length (M.own k) → SameShape (retired k j M) N → x ≡ k → alive (map (after_retired k j) (refs_of M x)) ≡ alive (refs_of N x)
    same k j M N h s e = subst (λ y. alive (map (after_retired k j) (refs_of M y)) ≡ alive (refs_of N y)) (sym e) (shorter k j (length (M.own k)) (length (N.own k)) h (omega (arith, s.lengths k, less_length k j M h)))

    other : (k j : ℕ) (M N : Meaning) → j < length (M.own k) → SameShape (retired k j M) N → (x ≡ k → ⊥) → alive (map (after_retired k j) (refs_of M x)) ≡ alive (refs_of N x)
    other k j M N h s d = ap alive (other_refs k j x 0 (length (M.own x)) d ∙ ap (λ n. map (live x) (from 0 n)) (sym (s.lengths x ∙ ap length (retired_apart M k j x d))))

pub uses_follow : (x n : ℕ) → Follows (λ M. drop n (M.uses x))
unfolding retired
uses_follow x n = record {
  stays = λ M N s. ap (drop n) (s.uses x);
  retires = λ k j M N h s. ap alive (sym (drop-map (after_retired k j) n (M.uses x)) ∙ ap (drop n) (sym (s.uses x)));
}

pub alive_both : (Rs Qs : List Ref) → alive (Rs ++ Qs) ≡ alive Rs ++ alive Qs
alive_both Rs Qs = filter-append (λ r. not (is_dead r)) Rs Qs

pub both_follow : (Q R : Meaning → List Ref) → Follows Q → Follows R → Follows (λ M. Q M ++ R M)
both_follow Q R q r = record {
  stays = λ M N s. ap (λ Rs. Rs ++ R N) (q.stays M N s) ∙ ap (λ Rs. Q M ++ Rs) (r.stays M N s);
  retires = λ k j M N h s.
      ap alive (map-append (after_retired k j) (Q M) (R M)) ∙ alive_both (map (after_retired k j) (Q M)) (map (after_retired k j) (R M))
      ∙ ap (λ Rs. Rs ++ alive (map (after_retired k j) (R M))) (q.retires k j M N h s) ∙ ap (λ Rs. alive (Q N) ++ Rs) (r.retires k j M N h s)
      ∙ sym (alive_both (Q N) (R N));
}

pub none_follow : Follows (λ M. [])
none_follow = record { stays = λ M N s. refl; retires = λ k j M N h s. refl }

-- refs to the places of own x from n on
abbrev pub refs_from : ℕ → ℕ → Meaning → List Ref
refs_from x n M = map (live x) (from n (length (M.own x) - n))

-- the refs after that to place n
pub refs_after : ℕ → ℕ → Meaning → List Ref
refs_after x n M = map (live x) (from (suc n) (length (M.own x) - suc n))

pub one_more : (x n : ℕ) (M : Meaning) → n < length (M.own x) → refs_from x n M ≡ live x n ∷ refs_after x n M
unfolding refs_after
one_more x n M h = let e : length (M.own x) - n ≡ suc (length (M.own x) - suc n) = omega arith in ap (λ k. map (live x) (from n k)) e

pub after_stays : (x n : ℕ) (M N : Meaning) → SameShape M N → refs_from x (n + 1) N ≡ refs_after x n M
unfolding refs_after
after_stays x n M N s = ap (λ k. map (live x) (from k (length (N.own x) - k))) (add-one n) ∙ ap (λ k. map (live x) (from (suc n) (k - suc n))) (s.lengths x)

-- where the clause at place n is retired, fewer refs are left
pub fewer_left : (x n : ℕ) (M N : Meaning) → n < length (M.own x) → SameShape (retired x n M) N → length (N.own x) - n ≡ length (M.own x) - suc n
fewer_left x n M N h s = omega (arith, s.lengths x, less_length x n M h)

pub after_gone : (x n : ℕ) (M N : Meaning) → n < length (M.own x) → SameShape (retired x n M) N → alive (map (after_retired x n) (refs_after x n M)) ≡ alive (refs_from x n N)
unfolding refs_after
after_gone x n M N h s = ap alive (later_refs x n n (length (M.own x) - suc n) (omega arith) ∙ ap (λ k. map (live x) (from n k)) (sym (fewer_left x n M N h s)))
