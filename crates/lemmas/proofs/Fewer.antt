-- Turns make what is left shorter, so that more turns than clauses change nothing. Assumes nothing.
use Rattle.std.proofs.Common.{◌≡◌, ℕ, zero, suc, ◌<◌, ◌≤◌, Bool, true, false, cond, eqb, List, [], ◌∷◌, ◌++◌, length, Some, None, Option, sym, refl, ap, ◌∙◌, append_assoc, append-nil, arith}
use Rattle.std.proofs.lemmas.Bool.{cond_both, true≢false}
use Rattle.network.specs.Assignments.{opposite}
use Rattle.network.specs.Clauses.{without}
use Rattle.network.specs.Subsumption.{fits}
use Rattle.network.specs.Lemmas.{Swept, keeping, once_more, met, swept, turned, lemmas_from}
use Rattle.lemmas.specs.declared.words.Meeting.TheVariants.{Stays, Joins}
use Rattle.lemmas.specs.Turns.{after}

-- at most n are left, and fewer if the turn comes again
pub record Short (n : ℕ) (s : Swept) : Type 0 where
  pub most : length s.rest ≤ n
  pub less : s.again ≡ true → length s.rest < n

short_met : (n : ℕ) (C D : List ℕ) (f : Bool × Option ℕ) (go : List ℕ → Swept) → ((B : List ℕ) → Short n (go B)) → Short (suc n) (met C D f go)
short_met n C D (true, o) go h = record { most = omega (arith, (h C).most); less = λ e. omega (arith, (h C).most) }
short_met n C D (false, None) go h = record { most = omega (arith, (h C).most); less = λ e. omega (arith, (h C).less e) }
short_met n C D (false, Some x) go h =
    cond_both (eqb (length C) (length D)) (once_more (go (without x C))) (keeping (without (opposite x) D) (go C)) (Short (suc n))
    (λ _. record { most = omega (arith, (h (without x C)).most); less = λ e. omega (arith, (h (without x C)).most) })
    (λ _. record { most = omega (arith, (h C).most); less = λ e. omega (arith, (h C).less e) })

pub swept_short : (Ds : List (List ℕ)) (C : List ℕ) → Short (length Ds) (swept Ds C)
unfolding swept
swept_short [] C = record { most = omega arith; less = λ e. absurd (true≢false (sym e)) }
swept_short (D ∷ Ds) C = short_met (length Ds) C D (fits C D) (λ B. swept Ds B) (λ B. swept_short Ds B)

turned_same : (n : ℕ) (s : Swept) (go go' : List (List ℕ) → List (List ℕ)) → Short n s → ((Cs : List (List ℕ)) → length Cs ≤ n → go Cs ≡ go' Cs) → turned s go ≡ turned s go'
turned_same n s go go' h same = pick s.again h.less
  where
    pick : (b : Bool) → (b ≡ true → length s.rest < n) → cond b (go (s.first ∷ s.rest)) (s.first ∷ go s.rest) ≡ cond b (go' (s.first ∷ s.rest)) (s.first ∷ go' s.rest)
    pick true less = same (s.first ∷ s.rest) (omega (arith, less refl))
    pick false less = ap (λ Cs. s.first ∷ Cs) (same s.rest h.most)

-- any two numbers of turns that suffice do the same
pub turns_enough : (f g : ℕ) (Cs : List (List ℕ)) → length Cs ≤ f → length Cs ≤ g → lemmas_from f Cs ≡ lemmas_from g Cs
unfolding lemmas_from
turns_enough zero zero Cs hf hg = refl
turns_enough zero (suc g) [] hf hg = refl
turns_enough zero (suc g) (C ∷ Cs) hf hg = absurd (omega arith)
turns_enough (suc f) zero [] hf hg = refl
turns_enough (suc f) zero (C ∷ Cs) hf hg = absurd (omega arith)
turns_enough (suc f) (suc g) [] hf hg = refl
turns_enough (suc f) (suc g) (C ∷ Cs) hf hg =
    turned_same (length Cs) (swept Cs C) (lemmas_from f) (lemmas_from g) (swept_short Cs C) (λ Xs h. turns_enough f g Xs (omega arith) (omega arith))

-- as many turns as clauses
abbrev pub full : List (List ℕ) → List (List ℕ)
full Cs = lemmas_from (length Cs) Cs

pub full_none : full [] ≡ []
unfolding lemmas_from
full_none = refl

step : (C : List ℕ) (Ds : List (List ℕ)) → full (C ∷ Ds) ≡ turned (swept Ds C) (lemmas_from (length Ds))
unfolding lemmas_from
step C Ds = refl

pub full_step : (C : List ℕ) (Ds : List (List ℕ)) → full (C ∷ Ds) ≡ turned (swept Ds C) full
full_step C Ds = step C Ds ∙ turned_same (length Ds) (swept Ds C) (lemmas_from (length Ds)) full (swept_short Ds C) (λ Xs h. turns_enough (length Ds) (length Xs) Xs h (omega arith))

-- ---- a turn that has come some way

-- those that stayed so far, before what is left
abbrev pub behind : List (List ℕ) → Swept → Swept
behind Ds s = record { first = s.first; again = s.again; rest = Ds ++ s.rest }

pub swept_none : (C : List ℕ) → swept [] C ≡ record { first = C; again = false; rest = [] }
unfolding swept
swept_none C = refl

pub swept_more : (D : List ℕ) (Ds : List (List ℕ)) (C : List ℕ) → swept (D ∷ Ds) C ≡ met C D (fits C D) (λ B. swept Ds B)
unfolding swept
swept_more D Ds C = refl

-- the clause whose turn it is has lost a literal so far, or not
abbrev pub noted : Bool → Swept → Swept
noted true s = once_more s
noted false s = s

module _ (Ds : List (List ℕ)) (D : List ℕ) (s : Swept) where
  longer : Ds ++ (D ∷ s.rest) ≡ (Ds ++ D ∷ []) ++ s.rest
  longer = sym (append_assoc Ds (D ∷ []) s.rest)

  pub one_stays : (g : Bool) → noted g (behind Ds (after Stays D s)) ≡ noted g (behind (Ds ++ D ∷ []) s)
  one_stays true = λ i. record { first = s.first; again = true; rest = longer i }
  one_stays false = λ i. record { first = s.first; again = s.again; rest = longer i }

  pub one_joins : (g : Bool) → noted g (behind Ds (after Joins D s)) ≡ noted true (behind Ds s)
  one_joins true = refl
  one_joins false = refl

pub all_met : (g : Bool) (C : List ℕ) (Ds : List (List ℕ)) → noted g (behind Ds (record { first = C; again = false; rest = [] })) ≡ record { first = C; again = g; rest = Ds }
all_met true C Ds = λ i. record { first = C; again = true; rest = append-nil Ds i }
all_met false C Ds = λ i. record { first = C; again = false; rest = append-nil Ds i }
