-- What a check makes of one candidate, by the verdict. Assumes nothing.
use Rattle.std.proofs.Common.{◌≡◌, ℕ, ◌<◌, Bool, true, false, ◌&&◌, cond, eqb, List, [], ◌∷◌, map, length, get_or, sym, refl, ap, ◌∙◌, subst, arith}
use Rattle.std.proofs.lemmas.Bool.{cond-true, cond-false}
use Rattle.std.proofs.lemmas.Bool.Decides.{nat_tests}
use Rattle.std.proofs.lemmas.List.{length-map}
use Rattle.rules.specs.Store.{Ref, live, Meaning, allowed, droppable, after_retired, retired, shortened, retire, shorten}
use Rattle.rules.specs.Subsume.{Verdict, both_lost, verdict, place_after, on_verdict, checked_from}
use Rattle.rules.proofs.Answers.{retire_yes}
use Rattle.subsumption_pass.specs.Checks.{against, SameShape, Stands}
use Rattle.subsumption_pass.proofs.Refs.{verdict_alike}
use Rattle.subsumption_pass.proofs.Shapes.{shortened_shape, retired_shape, place_there}

-- ## Shortening

-- a shortening as a store answers it
pub shortening : (M N : Meaning) (l i x : ℕ) (b : Bool) → b ≡ droppable M l i x → N ≡ cond b (shortened l i x M) M → N ≡ (shorten l i x M).0
unfolding shorten
shortening M N l i x b e q = q ∙ by b ∙ ap (λ c. (allowed c M (shortened l i x M)).0) e
  where
    by : (b : Bool) → cond b (shortened l i x M) M ≡ (allowed b M (shortened l i x M)).0
    by true = refl
    by false = refl

pub shortening_shape : (M N : Meaning) (l i x : ℕ) (b : Bool) → b ≡ droppable M l i x → N ≡ cond b (shortened l i x M) M → SameShape M N
shortening_shape M N l i x b e q = subst (SameShape M) (sym (shortening M N l i x b e q)) (shortened_shape M l i x)

-- a handle that keeps its place stands where it stood
pub kept_stands : {H : Type 0} (at at₁ : H → ℕ → ℕ → Type 0) (M N : Meaning) (h : H) (l i : ℕ) → SameShape M N → ((k : H) (m j : ℕ) → at k m j → at₁ k m j) → Stands at M h l i → Stands at₁ N h l i
kept_stands at at₁ M N h l i s f (a, b) = (f h l i a, subst (λ n. i < n) (sym (s.lengths l)) b)

-- ## Verdicts

-- a verdict on the clauses that two slices are
pub on_clauses : (v : Verdict) (C C₁ D D₁ : List ℕ) → v ≡ verdict C D → C ≡ C₁ → D ≡ D₁ → v ≡ verdict C₁ D₁
on_clauses v C C₁ D D₁ q c d = q ∙ ap (λ E. verdict E D) c ∙ ap (verdict C₁) d

module _ (M : Meaning) (l i k j : ℕ) (Rs : List Ref) where
  -- a clause leaves itself alone
  pub itself : (eqb k l && eqb j i) ≡ true → against l i (live k j ∷ Rs) M ≡ against l i Rs M
  unfolding checked_from
  itself e = cond-true (eqb k l && eqb j i) _ _ e

  -- what the verdict makes of the check
  pub judged : (eqb k l && eqb j i) ≡ false → (v : Verdict) → v ≡ verdict (get_or (M.own l) i []) (get_or (M.own k) j [])
      → against l i (live k j ∷ Rs) M ≡ on_verdict v l i k j Rs M (λ i₁ Rs₁ M₁. against l i₁ Rs₁ M₁) (λ M₁ p. (M₁, p))
  unfolding checked_from
  judged e v q = cond-false (eqb k l && eqb j i) _ _ e
      ∙ ap (λ w. on_verdict w l i k j Rs M (λ i₁ Rs₁ M₁. checked_from (length Rs) l i₁ Rs₁ M₁) (λ M₁ p. (M₁, p))) (sym q)
      ∙ verdict_alike v l i k j Rs Rs M (λ i₁ Rs₁ M₁. checked_from (length Rs) l i₁ Rs₁ M₁) (λ i₁ Rs₁ M₁. against l i₁ Rs₁ M₁) (λ M₁ p. (M₁, p))
      (λ i₁ M₁. refl) (λ i₁ M₁. ap (λ n. checked_from n l i₁ (map (after_retired k j) Rs) M₁) (sym (length-map Rs (after_retired k j))))

-- ## A candidate is retired

-- from a store of the same shape
module _ (M M₁ N : Meaning) (l i k j : ℕ) (li : i < length (M.own l)) (lj : j < length (M.own k)) (e : (eqb k l && eqb j i) ≡ false) (s : SameShape M M₁) (r : N ≡ retired k j M₁) where
  apart_places : (k ≡ l) → (j ≡ i) → ⊥
  apart_places p q = grind (arith, nat_tests, e)

  -- where the clause is then
  pub follows_on : {H : Type 0} (at at₁ : H → ℕ → ℕ → Type 0) (one : H) → at one l i → ((h : H) (m n : ℕ) → at h m n → ((m ≡ k) × (n ≡ j) → ⊥) → at₁ h m (place_after k j m n)) → Stands at₁ N one l (place_after k j l i)
  follows_on at at₁ one a f = (
    f one l i a (λ (p, q). apart_places (sym p) (sym q)),
    subst (λ (a : Meaning). place_after k j l i < length (a.own l)) (sym r) (place_there M₁ k j l i (omega (arith, s.lengths k)) (omega (arith, s.lengths l)) apart_places),
  )

  pub gone_shape : SameShape (retired k j M) N
  gone_shape = subst (SameShape (retired k j M)) (sym r) (retired_shape M M₁ k j lj s)

  -- what the check goes on with
  pub gone : (v : Verdict) → v ≡ verdict (get_or (M.own l) i []) (get_or (M.own k) j [])
      → ((Rs : List Ref) (go : ℕ → List Ref → Meaning → Meaning × ℕ) (stop : Meaning → ℕ → Meaning × ℕ) → on_verdict v l i k j Rs M go stop ≡ go (place_after k j l i) (map (after_retired k j) Rs) (retire k j M₁).0)
      → (Rs : List Ref) → against l i (live k j ∷ Rs) M ≡ against l (place_after k j l i) (map (after_retired k j) Rs) N
  gone v q f Rs = judged M l i k j Rs e v q ∙ f Rs _ _
      ∙ ap (against l (place_after k j l i) (map (after_retired k j) Rs)) (ap (λ b. b.0) (retire_yes k j M₁ (omega (arith, s.lengths k))) ∙ sym r)

-- and the clause itself
pub both_gone : (M M₁ N : Meaning) (l i k j : ℕ) → j < length (M.own k) → (eqb k l && eqb j i) ≡ false → both_lost ≡ verdict (get_or (M.own l) i []) (get_or (M.own k) j [])
    → M₁ ≡ retired k j M → place_after k j l i < length (M₁.own l) → N ≡ retired l (place_after k j l i) M₁ → (Rs : List Ref) → against l i (live k j ∷ Rs) M ≡ (N, place_after k j l i)
both_gone M M₁ N l i k j lj e q r p t Rs = judged M l i k j Rs e both_lost q
    ∙ ap (λ a. (a, place_after k j l i)) (ap (λ a. (retire l (place_after k j l i) a).0) (ap (λ b. b.0) (retire_yes k j M lj) ∙ sym r)
    ∙ ap (λ b. b.0) (retire_yes l (place_after k j l i) M₁ p) ∙ sym t)
