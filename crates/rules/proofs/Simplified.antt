-- A clause under the known values. Assumes nothing.
use Rattle.std.proofs.Common.{◌≡◌, ℕ, Bool, true, false, ◌⊎◌, List, [], ◌∷◌, Some, None, Option, sym, refl, ap, ◌∙◌, subst, inl, inr, ⊎_elim, arith}
use Rattle.std.proofs.lemmas.Bool.Decides.{nat_tests}
use Rattle.network.specs.Assignments.{Assignment, node, lit, holds}
use Rattle.network.specs.Lists.{In}
use Rattle.network.proofs.Literals.{lit_agree}
use Rattle.network.proofs.Lists.{any_from, any_some}
use Rattle.network.specs.Values.{Values, sign, flipped, literal, unit_of, simplified, Satisfied}
use Rattle.network.proofs.Values.{left_short, gone_exactly}
use Rattle.rules.specs.Kept.{obey}
use Rattle.rules.proofs.Kept.{obey_some, obey_none}

-- a literal under the values
abbrev pub Says : Values → ℕ → Option Bool → Type 0
Says V l None = V (node l) ≡ None
Says V l (Some c) = (b : Bool) × (V (node l) ≡ Some b) × (lit (λ _. b) l ≡ c)

flip_says : (l : ℕ) (o : Option Bool) (V : Values) → V (node l) ≡ o → Says V l (flipped (sign l) o)
unfolding lit
flip_says l None V e = e
flip_says l (Some b) V e = (b, e, refl)

pub literal_says : (V : Values) (l : ℕ) → Says V l (literal V l)
unfolding literal
literal_says V l = flip_says l (V (node l)) V refl

pub says_at : (V : Values) (l : ℕ) (o : Option Bool) → literal V l ≡ o → Says V l o
says_at V l o e = subst (Says V l) e (literal_says V l)

-- the clause of a literal's value is that literal
pub unit_is : (l : ℕ) → unit_of (node l) (sign l) ≡ l ∷ []
unfolding unit_of
unit_is l = ap (λ x. x ∷ []) (grind (arith, nat_tests))

pub unit_true : (l : ℕ) (b : Bool) → lit (λ _. b) l ≡ true → unit_of (node l) b ≡ l ∷ []
unfolding unit_of lit
unit_true l true h = ap (λ x. x ∷ []) (grind (arith, nat_tests))
unit_true l false h = ap (λ x. x ∷ []) (grind (arith, nat_tests))

-- what `simplified` answers: S has the literals that are not false, and no value of theirs is known; or a literal is true
abbrev pub Short : Values → List ℕ → List ℕ → Type 0
Short V C S = ((l : ℕ) → In l S → In l C × (V (node l) ≡ None)) × ((l : ℕ) → In l C → In l S ⊎ (literal V l ≡ Some false))

pub simplified_some : (V : Values) (C S : List ℕ) → simplified V C ≡ Some S → Short V C S
simplified_some V C S e = let (f, g) = left_short V C S e in ((λ l i. ((g l i).0, says_at V l None (g l i).1)), λ l i. ⊎_elim inr inl (f l i))

pub simplified_none : (V : Values) (C : List ℕ) → simplified V C ≡ None → Satisfied V C
simplified_none V C e = (gone_exactly V C).0 e

-- where the known values hold, the short form holds if the clause does
pub short_holds : (V : Values) (σ : Assignment) (C S : List ℕ) → Short V C S → holds (obey V σ) C ≡ true → holds σ S ≡ true
short_holds V σ C S (f, g) h = go (any_some (lit (obey V σ)) C h)
  where
    here : (l : ℕ) → lit (obey V σ) l ≡ true → In l S → holds σ S ≡ true
    here l t i = any_from (lit σ) S l i (sym (lit_agree (obey V σ) σ l (obey_none V σ (node l) (f l i).1)) ∙ t)

    there : (l : ℕ) → lit (obey V σ) l ≡ true → literal V l ≡ Some false → holds σ S ≡ true
    there l t e = let (b, u, q) = says_at V l (Some false) e in absurd (grind (arith, lit_agree (obey V σ) (λ _. b) l (obey_some V σ (node l) b u)))

    go : (l : ℕ) × In l C × (lit (obey V σ) l ≡ true) → holds σ S ≡ true
    go (l, i, t) = ⊎_elim (here l t) (there l t) (g l i)
