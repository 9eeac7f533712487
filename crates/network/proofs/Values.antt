-- A clause under the known values. Assumes nothing.
use Rattle.std.proofs.Common.{◌≡◌, ℕ, ◌<◌, Bool, true, false, ◌||◌, ◌⊎◌, ◌↔◌, List, [], ◌∷◌, Some, None, Option, sym, refl, ap, ◌∙◌, subst, inl, inr, ⊎_elim}
use Rattle.std.proofs.lemmas.Bool.{or_right}
use Rattle.network.specs.Assignments.{Assignment, node, lit, holds}
use Rattle.network.specs.Lists.{In}
use Rattle.network.specs.Clauses.{Ordered}
use Rattle.network.specs.Resolution.{twice}
use Rattle.network.specs.Values.{Values, sign, flipped, literal, kept_literal, simplified, Obeys, left_holds, Satisfied, LeftOf}
use Rattle.network.proofs.Ordered.{ordered_rising}
use Rattle.network.proofs.Resolution.{rising_same, ordered_untwice}

-- ---- what the values say of a literal is its value

lit_flipped : (σ : Assignment) (l : ℕ) (o : Option Bool) (b : Bool) → ((c : Bool) → o ≡ Some c → σ (node l) ≡ c) → flipped (sign l) o ≡ Some b → lit σ l ≡ b
unfolding lit
lit_flipped σ l None b h e = cc
lit_flipped σ l (Some c) b h e = let k = h c refl in rw k (cc)

pub literal_is : (σ : Assignment) (V : Values) (l : ℕ) (b : Bool) → Obeys σ V → literal V l ≡ Some b → lit σ l ≡ b
unfolding literal
literal_is σ V l b h = lit_flipped σ l (V (node l)) b (h (node l))

-- ---- what is left says the same

keeps_step : (σ : Assignment) (l : ℕ) (o : Option Bool) (r : Option (List ℕ)) → ((b : Bool) → o ≡ Some b → lit σ l ≡ b) → left_holds σ (kept_literal o l r) ≡ (lit σ l || left_holds σ r)
keeps_step σ l (Some true) r h = rw (h true refl)
keeps_step σ l (Some false) r h = rw (h false refl)
keeps_step σ l None None h = sym (or_right (lit σ l) true refl)
keeps_step σ l None (Some C) h = refl

pub simplified_holds : (σ : Assignment) (V : Values) (C : List ℕ) → Obeys σ V → left_holds σ (simplified V C) ≡ holds σ C
unfolding simplified
simplified_holds σ V [] h = refl
simplified_holds σ V (l ∷ C) h = keeps_step σ l (literal V l) (simplified V C) (λ b. literal_is σ V l b h) ∙ ap (λ b. lit σ l || b) (simplified_holds σ V C h)

-- ---- what is left, as a set

abbrev Short : Values → List ℕ → Option (List ℕ) → Type 0
Short V C None = Satisfied V C
Short V C (Some R) = (Satisfied V C → ⊥) × ((l : ℕ) → In l C → (literal V l ≡ Some false) ⊎ In l R) × ((l : ℕ) → In l R → In l C × (literal V l ≡ None))

unsatisfied : (V : Values) (l : ℕ) (C : List ℕ) → (literal V l ≡ Some true → ⊥) → (Satisfied V C → ⊥) → Satisfied V (l ∷ C) → ⊥
unsatisfied V l C n h (k, inl e, t) = n (ap (literal V) (sym e) ∙ t)
unsatisfied V l C n h (k, inr i, t) = h (k, i, t)

short_step : (V : Values) (l : ℕ) (C : List ℕ) (o : Option Bool) (r : Option (List ℕ)) → literal V l ≡ o → Short V C r → Short V (l ∷ C) (kept_literal o l r)
short_step V l C (Some true) r e h = (l, inl refl, e)
short_step V l C (Some false) None e (y, i, t) = (y, inr i, t)
short_step V l C (Some false) (Some R) e (n, f, g) =
    (unsatisfied V l C (λ q. cc) n, (λ k i. ⊎_elim (λ q. inl (ap (literal V) q ∙ e)) (f k) i), λ k i. (inr (g k i).0, (g k i).1))
short_step V l C None None e (y, i, t) = (y, inr i, t)
short_step V l C None (Some R) e (n, f, g) = (
  unsatisfied V l C (λ q. cc) n,
  (λ k i. ⊎_elim (λ q. inr (inl q)) (λ j. ⊎_elim inl (λ s. inr (inr s)) (f k j)) i),
  λ k i. ⊎_elim (λ q. (inl q, ap (literal V) q ∙ e)) (λ j. (inr (g k j).0, (g k j).1)) i,
)

short : (V : Values) (C : List ℕ) → Short V C (simplified V C)
unfolding simplified
short V [] = ((λ (l, i, t). i), (λ l i. absurd i), λ l i. absurd i)
short V (l ∷ C) = short_step V l C (literal V l) (simplified V C) refl (short V C)

pub left_short : (V : Values) (C R : List ℕ) → simplified V C ≡ Some R → ((l : ℕ) → In l C → (literal V l ≡ Some false) ⊎ In l R) × ((l : ℕ) → In l R → In l C × (literal V l ≡ None))
left_short V C R e = let (n, f, g) = subst (Short V C) e (short V C) in (f, g)

-- ---- it stays in order

abbrev pub IfLeft : (List ℕ → Type 0) → Option (List ℕ) → Type 0
IfLeft P None = Unit {0}
IfLeft P (Some R) = P R

order_step : (V : Values) (l : ℕ) (C : List ℕ) (o : Option Bool) (r : Option (List ℕ)) → ((y : ℕ) → In y C → node l < node y) → Short V C r → IfLeft Ordered r → IfLeft Ordered (kept_literal o l r)
order_step V l C (Some true) r lo p h = tt
order_step V l C (Some false) None lo p h = tt
order_step V l C (Some false) (Some R) lo p h = h
order_step V l C None None lo p h = tt
order_step V l C None (Some R) lo p h = ((λ y i. lo y (p.2 y i).0), h)

order : (V : Values) (C : List ℕ) → Ordered C → IfLeft Ordered (simplified V C)
unfolding simplified
order V [] o = tt
order V (l ∷ C) (lo, o) = order_step V l C (literal V l) (simplified V C) lo (short V C) (order V C o)

pub simplified_ordered : (V : Values) (C R : List ℕ) → Ordered C → simplified V C ≡ Some R → Ordered R
simplified_ordered V C R o e = subst (IfLeft Ordered) e (order V C o)

-- no two neighbours of what is left name one node
pub simplified_untwice : (V : Values) (C R : List ℕ) → Ordered C → simplified V C ≡ Some R → twice R ≡ false
simplified_untwice V C R o e = ordered_untwice R (simplified_ordered V C R o e)

-- ---- both ways

left_once : (V : Values) (C R S : List ℕ) → LeftOf V C R → LeftOf V C S → R ≡ S
left_once V C R S p q =
    rising_same R S (ordered_rising R p.rising) (ordered_rising S q.rising)
    (λ l i. let (j, n) = p.only l i in ⊎_elim (λ e. cc) (λ k. k) (q.all l j))
    (λ l i. let (j, n) = q.only l i in ⊎_elim (λ e. cc) (λ k. k) (p.all l j))

module _ (V : Values) (C : List ℕ) where
  pub gone_exactly : (simplified V C ≡ None) ↔ Satisfied V C
  gone_exactly = go (simplified V C) (short V C)
    where
      go : (r : Option (List ℕ)) → Short V C r → (r ≡ None) ↔ Satisfied V C
      go None h = ((λ e. h), λ s. refl)
      go (Some R) h = ((λ e. cc), λ s. absurd (h.0 s))

  pub left_exactly : Ordered C → (R : List ℕ) → (simplified V C ≡ Some R) ↔ LeftOf V C R
  left_exactly o R = go (simplified V C) (short V C) (order V C o)
    where
      go : (r : Option (List ℕ)) → Short V C r → IfLeft Ordered r → (r ≡ Some R) ↔ LeftOf V C R
      go None h p = ((λ e. cc), λ s. absurd (s.untrue h))
      go (Some S) (n, f, g) p =
          let is : LeftOf V C S = record { rising = p; untrue = n; all = f; only = g } in
          ((λ e. let q : S ≡ R = cc in subst (LeftOf V C) q is), λ s. ap Some (left_once V C S R is s))
