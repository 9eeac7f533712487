-- A clause entered as it stands. Assumes nothing.
use mathlib.Core.Path.{fun_ext}
use Rattle.std.proofs.Common.{◌≡◌, ℕ, ◌<◌, ◌≤◌, Bool, true, false, cond, eqb, List, [], ◌∷◌, ◌++◌, length, get_or, set, take, drop, Some, None, Option, refl, sym, ap, ◌∙◌, subst, ⊎_elim, arith, nat_lt}
use Rattle.std.proofs.Math.Seq.{take-append_seam}
use Rattle.std.proofs.lemmas.Bool.{le-ltb, cases_eq, cond-true, cond-false, eq-eqb, ne_eqb}
use Rattle.std.proofs.lemmas.Grind.{get_or-set_at}
use Rattle.std.proofs.lemmas.List.{get_or-set_other}
use Rattle.clause.specs.declared.literals.Lbool.{Lbool}
use Rattle.clause.specs.declared.literals.Lbool.TheVariants.{Unknown}
use Rattle.clause.specs.Types.{told, values_of}
use Rattle.clause.specs.Written.{Gives, Writes}
use Rattle.network.specs.Assignments.{node}
use Rattle.network.specs.Values.{Values, sign, with_value}
use Rattle.rules.specs.Store.{Meaning, enterable, entered, enter}
use Rattle.rules.specs.Work.{Work, storing, valuing, known_by, known_if, add_simplified}

module _ (C : List ℕ) (W : Work) (M : Meaning) (b : Bool) (when : b ≡ enterable W.store C) (makes : M ≡ cond b (entered C W.store) W.store) where
  -- what the store makes of the entry, beside the values V
  after : Values → Meaning × Bool → Work
  after V r = valuing (storing W r.0) V

  -- a store's no changes nothing
  pub refused : b ≡ false → storing W M ≡ add_simplified (Some C) W
  unfolding enter
  refused f =
      ap (storing W) (makes ∙ cond-false b (entered C W.store) W.store f)
      ∙ ap (λ (r : Meaning × Bool). valuing (storing W r.0) (known_if r.1 C W.values)) (sym (cond-false (enterable W.store C) (entered C W.store, true) (W.store, false) (sym when ∙ f)))

  -- a store's yes, where the values are as the clause tells
  pub taken : b ≡ true → valuing (storing W M) (known_by C W.values) ≡ add_simplified (Some C) W
  unfolding enter
  taken t =
      ap (λ N. valuing (storing W N) (known_by C W.values)) (makes ∙ cond-true b (entered C W.store) W.store t)
      ∙ ap (λ (r : Meaning × Bool). valuing (storing W r.0) (known_if r.1 C W.values)) (sym (cond-true (enterable W.store C) (entered C W.store, true) (W.store, false) (sym when ∙ t)))

-- the value of one node written
pub value_set : (vs : List Lbool) (n : ℕ) (v : Lbool) (b : Bool) → n < length vs → told v ≡ Some b → values_of (set vs n v) ≡ with_value (values_of vs) n b
unfolding with_value
value_set vs n v b lt e = fun_ext at
  where
    at : (k : ℕ) → values_of (set vs n v) k ≡ with_value (values_of vs) n b k
    at k = ⊎_elim
        (λ q. ap told (get_or-set_at vs n k v Unknown q lt) ∙ e ∙ sym (cond-true (eqb k n) (Some b) (values_of vs k) (eq-eqb k n q)))
        (λ a. ap told (get_or-set_other vs n k v Unknown a) ∙ sym (cond-false (eqb k n) (Some b) (values_of vs k) (ne_eqb k n a))) (cases_eq k n)

-- what a single literal tells
pub single_tells : (C : List ℕ) (V : Values) → length C ≡ 1 → known_by C V ≡ with_value V (node (get_or C 0 0)) (sign (get_or C 0 0))
single_tells [] V e = absurd (omega arith)
single_tells (l ∷ []) V e = refl
single_tells (l ∷ k ∷ C) V e = absurd (omega arith)

-- any other clause tells nothing
pub others_tell_nothing : (C : List ℕ) (V : Values) → (length C ≡ 1 → ⊥) → known_by C V ≡ V
others_tell_nothing [] V a = refl
others_tell_nothing (l ∷ []) V a = absurd (a refl)
others_tell_nothing (l ∷ k ∷ C) V a = refl

-- a clause that was written stands at the front
pub written_some : (most n : ℕ) (o : Option (List ℕ)) (old new : List ℕ) → Writes most (Some n) o old new → o ≡ Some (take n new)
written_some most n o old new w = go (nat_lt (length old) most) w.given
  where
    given : (p : Option (List ℕ)) → Gives most (Some n) p old new → p ≡ Some (take n new)
    given None h = absurd h
    given (Some xs) (l, e) = ap Some (sym (ap (take n) e ∙ ap (λ k. take k (xs ++ drop n old)) l ∙ take-append_seam xs (drop n old)))

    go : (b : Bool) → Gives most (Some n) (cond b None o) old new → o ≡ Some (take n new)
    go true h = absurd h
    go false h = given o h

-- where nothing was written for want of a clause, there is none
pub written_none : (most : ℕ) (o : Option (List ℕ)) (old new : List ℕ) → Writes most None o old new → most ≤ length old → o ≡ None
written_none most o old new w le = given o (subst (λ b. Gives most None (cond b None o) old new) (le-ltb (length old) most le) w.given)
  where
    given : (p : Option (List ℕ)) → Gives most None p old new → p ≡ None
    given None h = refl
    given (Some xs) h = absurd h
