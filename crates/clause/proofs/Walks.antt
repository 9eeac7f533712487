-- The steps of the walks along two clauses, at the place i of one and j of the other. Assumes nothing.
use Rattle.std.proofs.Common.{◌≡◌, ℕ, ◌+◌, ◌<◌, ◌≤◌, Bool, true, false, cond, not, eqb, ltb, List, [], ◌∷◌, length, get_or, drop, is_some, Some, None, Option, sym, refl, ap, ◌∙◌, arith}
use Rattle.std.proofs.lemmas.List.{drop_more, drop_all}
use Rattle.std.proofs.lemmas.Bool.{both_ways, cond-true, cond-false, eq-eqb, ne_eqb, lt-ltb, le-ltb}
use Rattle.network.specs.Assignments.{node}
use Rattle.network.specs.Subsumption.{part_of, opposite_noted, fits_from, fits_but_one, test_answer, fits}
use Rattle.clause.specs.declared.literals.Lit.{Lit}
use Rattle.clause.specs.Types.{worded}

-- the literal noted so far, as a word
abbrev pub word_of : Option Lit → Option ℕ
word_of None = None
word_of (Some l) = Some l.word

-- ---- past the end of one of them

pub part_done : (C D : List ℕ) → length C ≤ 0 → part_of C D ≡ true
unfolding part_of
part_done [] [] h = refl
part_done [] (d ∷ D) h = refl
part_done (c ∷ C) D h = absurd (omega arith)

pub fits_done : (o : Option ℕ) (C D : List ℕ) → length C ≤ 0 → fits_from o C D ≡ (true, o)
unfolding fits_from
fits_done o [] [] h = refl
fits_done o [] (d ∷ D) h = refl
fits_done o (c ∷ C) D h = absurd (omega arith)

pub part_over : (C b : List ℕ) (j : ℕ) → length b ≤ j → part_of C (drop j b) ≡ eqb (length C) 0
unfolding part_of
part_over [] b j h = part_done [] (drop j b) (omega arith)
part_over (c ∷ C) b j h = rw (drop_all j b h) (sym (ne_eqb (length (c ∷ C)) 0 (λ e. omega arith)))

pub fits_over : (o : Option ℕ) (C b : List ℕ) (j : ℕ) → 0 < length C → length b ≤ j → fits_from o C (drop j b) ≡ (false, o)
unfolding fits_from
fits_over o [] b j k h = absurd (omega arith)
fits_over o (c ∷ C) b j k h = rw (drop_all j b h)

-- ---- one turn: the literal c, the literals C behind it, and the place j of the other clause

module _ (c : ℕ) (C b : List ℕ) (j : ℕ) where
  module _ (in_b : j < length b) where
    part_head : part_of (c ∷ C) (drop j b) ≡ cond (eqb c (get_or b j 0)) (part_of C (drop (j + 1) b)) (cond (ltb (get_or b j 0) c) (part_of (c ∷ C) (drop (j + 1) b)) false)
    unfolding part_of
    part_head = rw (drop_more b j 0 in_b)

    pub part_same : c ≡ get_or b j 0 → part_of (c ∷ C) (drop j b) ≡ part_of C (drop (j + 1) b)
    part_same e = part_head ∙ cond-true _ _ _ (eq-eqb _ _ e)

    pub part_past : get_or b j 0 < c → part_of (c ∷ C) (drop j b) ≡ part_of (c ∷ C) (drop (j + 1) b)
    part_past h = part_head ∙ cond-false _ _ _ (ne_eqb c (get_or b j 0) (λ e. omega arith)) ∙ cond-true _ _ _ (lt-ltb _ _ h)

    pub part_miss : c < get_or b j 0 → part_of (c ∷ C) (drop j b) ≡ false
    part_miss h = part_head ∙ cond-false _ _ _ (ne_eqb c (get_or b j 0) (λ e. omega arith)) ∙ cond-false _ _ _ (le-ltb (get_or b j 0) c (omega arith))

    fits_head : (o : Option ℕ) → fits_from o (c ∷ C) (drop j b) ≡ cond (eqb c (get_or b j 0)) (fits_from o C (drop (j + 1) b))
        (cond (eqb (node c) (node (get_or b j 0))) (opposite_noted c o (λ p. fits_from p C (drop (j + 1) b)))
        (cond (ltb (get_or b j 0) c) (fits_from o (c ∷ C) (drop (j + 1) b)) (false, o)))
    unfolding fits_from
    fits_head o = rw (drop_more b j 0 in_b)

    pub fits_same : (o : Option ℕ) → c ≡ get_or b j 0 → fits_from o (c ∷ C) (drop j b) ≡ fits_from o C (drop (j + 1) b)
    fits_same o e = fits_head o ∙ cond-true _ _ _ (eq-eqb _ _ e)

    module _ (o : Option ℕ) (ne : c ≡ get_or b j 0 → ⊥) where
      apart : fits_from o (c ∷ C) (drop j b) ≡ cond (eqb (node c) (node (get_or b j 0))) (opposite_noted c o (λ p. fits_from p C (drop (j + 1) b)))
          (cond (ltb (get_or b j 0) c) (fits_from o (c ∷ C) (drop (j + 1) b)) (false, o))
      apart = fits_head o ∙ cond-false _ _ _ (ne_eqb _ _ ne)

      pub fits_opposite : node c ≡ node (get_or b j 0) → fits_from o (c ∷ C) (drop j b) ≡ opposite_noted c o (λ p. fits_from p C (drop (j + 1) b))
      fits_opposite e = apart ∙ cond-true _ _ _ (eq-eqb _ _ e)

      pub fits_past : (node c ≡ node (get_or b j 0) → ⊥) → get_or b j 0 < c → fits_from o (c ∷ C) (drop j b) ≡ fits_from o (c ∷ C) (drop (j + 1) b)
      fits_past n h = apart ∙ cond-false _ _ _ (ne_eqb _ _ n) ∙ cond-true _ _ _ (lt-ltb _ _ h)

      pub fits_miss : (node c ≡ node (get_or b j 0) → ⊥) → c < get_or b j 0 → fits_from o (c ∷ C) (drop j b) ≡ (false, o)
      fits_miss n h = apart ∙ cond-false _ _ _ (ne_eqb _ _ n) ∙ cond-false _ _ _ (le-ltb (get_or b j 0) c (omega arith))

-- ---- an opposite literal is noted if it is the first

pub noted_first : (c : ℕ) (o : Option Lit) (rest : Option ℕ → Bool × Option ℕ) → is_some o ≡ false → opposite_noted c (word_of o) rest ≡ rest (Some c)
noted_first c None rest e = refl
noted_first c (Some l) rest e = absurd (both_ways true e refl)

noted_second : (c : ℕ) (o : Option Lit) (rest : Option ℕ → Bool × Option ℕ) → is_some o ≡ true → test_answer (opposite_noted c (word_of o) rest) ≡ (false, None)
noted_second c None rest e = absurd (both_ways false refl e)
noted_second c (Some l) rest e = refl

-- ---- the answer

module _ (a b : List ℕ) where
  pub refused : (p : Option ℕ) → fits_but_one a b ≡ (false, p) → (false, None) ≡ fits a b
  unfolding fits
  refused p e = sym (ap test_answer e)

  pub refused_noted : (c : ℕ) (o : Option Lit) (rest : Option ℕ → Bool × Option ℕ) → is_some o ≡ true → fits_but_one a b ≡ opposite_noted c (word_of o) rest → (false, None) ≡ fits a b
  unfolding fits
  refused_noted c o rest h e = sym (ap test_answer e ∙ noted_second c o rest h)

  pub answered : (o : Option Lit) (t : Bool) → is_some o ≡ not t → fits_but_one a b ≡ (true, word_of o) → worded (t, o) ≡ fits a b
  unfolding fits
  answered o t h e = given o t h ∙ sym (ap test_answer e)
    where
      given : (p : Option Lit) (s : Bool) → is_some p ≡ not s → worded (s, p) ≡ test_answer (true, word_of p)
      given None true h = refl
      given None false h = absurd (both_ways false refl h)
      given (Some l) true h = absurd (both_ways true h refl)
      given (Some l) false h = refl
