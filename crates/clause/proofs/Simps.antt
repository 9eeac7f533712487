-- One literal of `ordered_simp`, which stands at i and of which o is known. Assumes nothing.
use Rattle.std.proofs.Common.{◌≡◌, ℕ, ◌+◌, ◌<◌, ◌≤◌, Bool, List, [], ◌∷◌, length, get_or, drop, Some, None, Option, refl, ap, ◌∙◌}
use Rattle.std.proofs.lemmas.List.{at_drop_more, at_drop_all}
use Rattle.network.specs.Values.{Values, literal, kept_literal, simplified}
use Rattle.clause.specs.Written.{before}

kept_unknown : (l : ℕ) (r : Option (List ℕ)) → kept_literal None l r ≡ before (l ∷ []) r
kept_unknown l None = refl
kept_unknown l (Some C) = refl

module _ (V : Values) (C : List ℕ) (i : ℕ) (o : Option Bool) (in' : i < length C) (says : literal V (get_or C i 0) ≡ o) where
  pub simp_more : simplified V (drop i C) ≡ kept_literal o (get_or C i 0) (simplified V (drop (i + 1) C))
  unfolding simplified
  simp_more = at_drop_more (simplified V) C i 0 in' ∙ ap (λ t. kept_literal t (get_or C i 0) (simplified V (drop (i + 1) C))) says

pub simp_kept : (V : Values) (C : List ℕ) (i : ℕ) → i < length C → literal V (get_or C i 0) ≡ None → simplified V (drop i C) ≡ before (get_or C i 0 ∷ []) (simplified V (drop (i + 1) C))
simp_kept V C i h e = simp_more V C i None h e ∙ kept_unknown (get_or C i 0) (simplified V (drop (i + 1) C))

pub simp_end : (V : Values) (C : List ℕ) (i : ℕ) → length C ≤ i → simplified V (drop i C) ≡ Some []
unfolding simplified
simp_end V C i h = at_drop_all (simplified V) C i h
