-- A check goes on from candidate to candidate. Assumes nothing.
use Rattle.std.proofs.Common.{append_assoc, ◌≡◌, ℕ, suc, ◌+◌, ◌<◌, List, [], ◌∷◌, ◌++◌, map, length, get_or, drop, drop-cons, add-one, sym, ap, ◌∙◌, subst, Option, Some, None, refl}
use Rattle.std.proofs.lemmas.List.{map-append, length-map}
use Rattle.rules.specs.Store.{Ref, live, dead, Meaning, count, after_retired}
use Rattle.rules.specs.Lawful.{Lawful}
use Rattle.rules.proofs.Places.{in_at}
use Rattle.network.specs.Lists.{In}
use Rattle.rules.specs.Subsume.{place_after, checked_from}
use Rattle.subsumption_pass.specs.Checks.{alive, against, Follows, Stands, Next, Meets}
use Rattle.subsumption_pass.specs.Candidates.{Reaches, Ends}
use Rattle.subsumption_pass.specs.declared.meetings.Met.{Met}
use Rattle.subsumption_pass.specs.declared.meetings.Met.TheVariants.{Stays, Gone, Lost}
use Rattle.subsumption_pass.proofs.Shapes.{retired_uses}
use Rattle.subsumption_pass.proofs.Refs.{both_follow, alive_both, against_alive}

module _ {H : Type 0} (one : H) (l i : ℕ) (R R₁ : Meaning → List Ref) (M : Meaning) where
  -- a dead candidate is passed over
  pub past_dead : (at : H → ℕ → ℕ → Type 0) → Stands at M one l i → R M ≡ dead ∷ R₁ M → Reaches at one l i R R₁ M M
  unfolding checked_from
  past_dead at s e = (i, (s, λ Q F. ap (λ Rs. against l i (Rs ++ Q M) M) e))

  -- from candidates to candidates, and to others
  pub reaches_on : (at at₁ : H → ℕ → ℕ → Type 0) (R₂ : Meaning → List Ref) (N O : Meaning) → Reaches at one l i R R₁ M N
      → ((i₁ : ℕ) → Stands at N one l i₁ → Reaches at₁ one l i₁ R₁ R₂ N O) → Reaches at₁ one l i R R₂ M O
  reaches_on at at₁ R₂ N O (i₁, p) f = let (s, e) = p in let (i₂, q) = f i₁ s in let (t, d) = q in (i₂, (t, λ Q F. e Q F ∙ d Q F))

  -- or to the end
  pub reaches_end : (at at₁ : H → ℕ → ℕ → Type 0) (next : Option H) (N O : Meaning) → Reaches at one l i R R₁ M N
      → ((i₁ : ℕ) → Stands at N one l i₁ → Ends at₁ next l i₁ R₁ N O) → Ends at₁ next l i R M O
  reaches_end at at₁ next N O (i₁, p) f = let (s, e) = p in let (i₂, q) = f i₁ s in let (t, d) = q in (i₂, (t, λ Q F. e Q F ∙ d Q F))

  module _ (at : H → ℕ → ℕ → Type 0) (other : H) (k j : ℕ) (T : List Ref) (N : Meaning) (r : R M ≡ live k j ∷ T) where
    pub past_stays : Meets at M N one other l i k j Stays → R₁ N ≡ T → Reaches at one l i R R₁ M N
    past_stays (s, t, p, e) q = (
      i,
      (
        s,
        λ Q F.
            ap (λ Rs. against l i (Rs ++ Q M) M) r ∙ e (T ++ Q M)
            ∙ ap (λ Rs. against l i (T ++ Rs) N) (sym (F.stays M N p)) ∙ ap (λ Rs. against l i (Rs ++ Q N) N) (sym q),
      ),
    )

    pub past_gone : (next : Option H) → Meets at M N one other l i k j (Gone next) → j < length (M.own k) → alive (map (after_retired k j) T) ≡ alive (R₁ N) → Reaches at one l i R R₁ M N
    past_gone next (s, t, p, e) lj q = (
      place_after k j l i,
      (
        s,
        λ Q F.
            ap (λ Rs. against l i (Rs ++ Q M) M) r ∙ e (T ++ Q M)
            ∙ against_alive l (place_after k j l i) (map (after_retired k j) (T ++ Q M)) (R₁ N ++ Q N) N (
            ap alive (map-append (after_retired k j) T (Q M)) ∙ alive_both (map (after_retired k j) T) (map (after_retired k j) (Q M))
            ∙ ap (λ Rs. Rs ++ alive (map (after_retired k j) (Q M))) q ∙ ap (λ Rs. alive (R₁ N) ++ Rs) (F.retires k j M N lj p) ∙ sym (alive_both (R₁ N) (Q N))),
      ),
    )

    pub ends_lost : (next : Option H) → Meets at M N one other l i k j (Lost next) → Ends at next l i R M N
    ends_lost next (t, e) = (place_after k j l i, (t, λ Q F. ap (λ Rs. against l i (Rs ++ Q M) M) r ∙ e (T ++ Q M)))

    -- past a candidate that is not the end, to others that follow
    pub passes : (m : Met H) → Meets at M N one other l i k j m → ((o : Option H) → m ≡ Lost o → ⊥) → j < length (M.own k) → Follows R₁ → T ≡ R₁ M → Reaches at one l i R R₁ M N
    passes Stays h d lj F t = past_stays h (F.stays M N h.2 ∙ sym t)
    passes (Gone o) h d lj F t = past_gone o h lj (ap (λ Rs. alive (map (after_retired k j) Rs)) t ∙ F.retires k j M N lj h.2)
    passes (Lost o) h d lj F t = absurd (d o refl)

-- the counts stay while a check goes on
pub meets_counts : {H : Type 0} (at : H → ℕ → ℕ → Type 0) (one other : H) (l i k j : ℕ) (M N : Meaning) (m : Met H) → Meets at M N one other l i k j m → ((o : Option H) → m ≡ Lost o → ⊥) → (x : ℕ) → count N x ≡ count M x
meets_counts at one other l i k j M N Stays h d x = ap length (h.2.uses x)
meets_counts at one other l i k j M N (Gone o) h d x = ap length (h.2.uses x ∙ retired_uses M k j x) ∙ length-map (M.uses x) (after_retired k j)
meets_counts at one other l i k j M N (Lost o) h d x = absurd (d o refl)

-- the use at place n, and those after it
pub from_use : (M : Meaning) (x n : ℕ) (r : Ref) → n < count M x → get_or (M.uses x) n dead ≡ r → drop n (M.uses x) ≡ r ∷ drop (n + 1) (M.uses x)
from_use M x n r h e = drop-cons (M.uses x) n dead h ∙ ap (λ q. q ∷ drop (suc n) (M.uses x)) e ∙ ap (λ k. r ∷ drop k (M.uses x)) (sym (add-one n))

-- a live use is of a clause that is there
pub use_there : (M : Meaning) → Lawful M → (x n k j : ℕ) → n < count M x → get_or (M.uses x) n dead ≡ live k j → j < length (M.own k)
use_there M L x n k j h e = L.named x k j (subst (λ r. In r (M.uses x)) e (in_at (M.uses x) n dead h))

-- a check that has not begun
pub stays_put : {H : Type 0} (at : H → ℕ → ℕ → Type 0) (one : H) (l i : ℕ) (R R₁ : Meaning → List Ref) (M : Meaning) → Stands at M one l i → R M ≡ R₁ M → Reaches at one l i R R₁ M M
stays_put at one l i R R₁ M s e = (i, (s, λ Q F. ap (λ Rs. against l i (Rs ++ Q M) M) e))

-- the answer of a store about the next clause
pub next_found : {H : Type 0} (at : H → ℕ → ℕ → Type 0) (M : Meaning) (l i : ℕ) (o : Option H) → (elim o as (λ v. Type 0) [ None ↦ length (M.own l) ≡ i | Some k ↦ at k l i × (i < length (M.own l)) ]) → Next at M o l i
next_found at M l i None h = h
next_found at M l i (Some k) h = h

-- the candidates R, and then others that follow
module _ {H : Type 0} (at : H → ℕ → ℕ → Type 0) (l i : ℕ) (R Q : Meaning → List Ref) (M N : Meaning) (q : Follows Q) where
  pub reaches_more : (one : H) → Reaches at one l i R (λ M. []) M N → Reaches at one l i (λ M. R M ++ Q M) Q M N
  reaches_more one (i₁, p) = let (s, e) = p in
      (i₁, (s, λ P F. ap (λ Rs. against l i Rs M) (append_assoc (R M) (Q M) (P M)) ∙ e (λ M. Q M ++ P M) (both_follow Q P q F)))

  pub ends_before : (next : Option H) → Ends at next l i R M N → Ends at next l i (λ M. R M ++ Q M) M N
  ends_before next (p, t) = let (s, e) = t in
      (p, (s, λ P F. ap (λ Rs. against l i Rs M) (append_assoc (R M) (Q M) (P M)) ∙ e (λ M. Q M ++ P M) (both_follow Q P q F)))
