-- What is collected along a list. Assumes nothing.
use Rattle.std.proofs.Common.{◌≡◌, ℕ, ◌+◌, ◌<◌, ◌≤◌, Bool, true, false, not, List, [], ◌∷◌, ◌++◌, length, get_or, take, drop, Some, None, Option, sym, refl, ap, ◌∙◌, subst, append_assoc, append-nil, take-append-drop}
use Rattle.std.specs.List.{flat_map}
use Rattle.std.proofs.lemmas.Bool.{not-false}
use Rattle.std.proofs.lemmas.List.{take_more, take_all}
use Rattle.std.proofs.lemmas.Grind.{flat_map-append}
use Rattle.resolving.specs.Collected.{too_much, collected, Added}
use Rattle.resolving.specs.declared.resolvents.Resolvents.{Resolvents}
use Rattle.resolving.proofs.Adding.{added_there}
use Rattle.resolving.proofs.Fits.{too_much_more}

-- where a walk along n things stands: at its end, or before number k, of which P holds
abbrev pub Here : {X : Type 0} → Option X → (X → Type 0) → ℕ → ℕ → Type 0
Here o P n k = elim o [ None ↦ n ≡ k | Some x ↦ P x × (k < n) ]

-- a walk that is not at its end
pub here_some : {X : Type 0} (o : Option X) (x : X) (P : X → Type 0) (n k : ℕ) → o ≡ Some x → Here o P n k → P x × (k < n)
here_some o x P n k e h = subst (λ p. Here p P n k) e h

-- nothing is added where nothing changes
pub added_none : (R : Resolvents) → Added [] true R R
added_none R = added_there [] R R (sym (append-nil (collected R))) refl (refl, refl) (refl, refl)

module _ {Xs : List (List ℕ)} (Ys : List (List ℕ)) {R R₁ : Resolvents} where
  -- more is added
  pub added_more : {b : Bool} {R₂ : Resolvents} → Added Xs true R R₁ → Added Ys b R₁ R₂ → Added (Xs ++ Ys) b R R₂
  added_more p q =
      let e : collected R₁ ++ Ys ≡ collected R ++ (Xs ++ Ys) = ap (λ Cs. Cs ++ Ys) (p.added refl) ∙ append_assoc (collected R) Xs Ys in
      record {
        when = q.when ∙ ap (λ m. not (too_much m (collected R₁ ++ Ys))) p.most ∙ ap (λ Cs. not (too_much R.most Cs)) e;
        added = λ t. q.added t ∙ e;
        most = q.most ∙ p.most;
        lengths = (q.lengths.0 ∙ p.lengths.0, q.lengths.1 ∙ p.lengths.1);
        literals = (q.literals.0 ∙ p.literals.0, q.literals.1 ∙ p.literals.1);
      }

  -- what was too much stays so
  pub added_less : Added Xs false R R₁ → Added (Xs ++ Ys) false R R₁
  added_less p = record {
    when = sym (ap not (ap (too_much R.most) (sym (append_assoc (collected R) Xs Ys)) ∙ too_much_more R.most (collected R ++ Xs) Ys (not-false (too_much R.most (collected R ++ Xs)) (sym p.when))));
    added = λ t. absurd cc;
    most = p.most;
    lengths = p.lengths;
    literals = p.literals;
  }

-- what the first k of the list give is added
abbrev pub Walked : {X : Type 0} → (X → List (List ℕ)) → List X → ℕ → Resolvents → Resolvents → Type 0
Walked f xs k R R₁ = Added (flat_map f (take k xs)) true R R₁

one_more : {X : Type 0} (f : X → List (List ℕ)) (xs : List X) (k : ℕ) (d : X) → k < length xs → flat_map f (take (k + 1) xs) ≡ flat_map f (take k xs) ++ f (get_or xs k d)
one_more f xs k d h = ap (flat_map f) (take_more xs k d h) ∙ flat_map-append f (take k xs) (get_or xs k d ∷ []) ∙ ap (λ ys. flat_map f (take k xs) ++ ys) (append-nil (f (get_or xs k d)))

module _ {X : Type 0} (f : X → List (List ℕ)) (xs : List X) (k : ℕ) {R R₁ : Resolvents} where
  module _ (d : X) (h : k < length xs) where
    -- what one more gives is added
    pub walked_more : {b : Bool} {R₂ : Resolvents} → Walked f xs k R R₁ → Added (f (get_or xs k d)) b R₁ R₂ → Added (flat_map f (take (k + 1) xs)) b R R₂
    walked_more {b} {R₂} p q = subst (λ Cs. Added Cs b R R₂) (sym (one_more f xs k d h)) (added_more (f (get_or xs k d)) p q)

    -- what one more gives was too much
    pub walked_less : {R₂ : Resolvents} → Walked f xs k R R₁ → Added (f (get_or xs k d)) false R₁ R₂ → Added (flat_map f xs) false R R₂
    walked_less {R₂} p q =
        subst (λ Cs. Added Cs false R R₂) (sym (flat_map-append f (take (k + 1) xs) (drop (k + 1) xs)) ∙ ap (flat_map f) (take-append-drop (k + 1) xs)) (added_less (flat_map f (drop (k + 1) xs)) (walked_more p q))

  -- the list is at its end
  pub walked_all : length xs ≤ k → Walked f xs k R R₁ → Added (flat_map f xs) true R R₁
  walked_all h p = subst (λ ys. Added (flat_map f ys) true R R₁) (take_all k xs h) p
