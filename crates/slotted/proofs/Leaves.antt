-- A slot that leaves its own list. Assumes nothing.
use Rattle.std.proofs.Common.{◌≡◌, ℕ, List, sym, ◌∙◌, subst, inl, inr}
use Rattle.std.proofs.lemmas.Bool.{cases_eq}
use Rattle.network.specs.Lists.{In}
use Rattle.rings.specs.Rings.{at}
use Rattle.rings.proofs.Drops.{at_here, at_else}
use Rattle.owned.specs.declared.owned.Owned.{Owned}
use Rattle.owned.specs.Lists.{At, own}
use Rattle.owned.proofs.Laws.{own_laws}
use Rattle.owned.proofs.Moves.{Out}
use Rattle.slotted.proofs.Members.{lacks_not, place_of}

-- the others stay in their own lists, and no other comes
module _ (s t : Owned) (x l i : ℕ) (a : At s x l i) (ys : List ℕ) (O : Out x (own s l) ys) (owns : (m : ℕ) → own t m ≡ at (own s) l ys m) where
  pub left_old : (m y : ℕ) → In y (own t m) → In y (own s m) × (y ≡ x → ⊥)
  left_old m y h =
      elim (cases_eq m l) [
        | inl q ↦
            let k : In y ys = subst (In y) (owns m ∙ at_here (own s) l ys m q) h in
            (subst (λ (n : ℕ). In y (own s n)) (sym q) (O.back y k), λ e. lacks_not x ys O.lacks (subst (λ (z : ℕ). In z ys) e k))
        | inr n ↦
            let k : In y (own s m) = subst (In y) (owns m ∙ at_else (own s) l ys m n) h in
            (k, λ e. let p = place_of y (own s m) k in n (sym ((own_laws s).once x l i m p.0 a (p.1, p.2 ∙ e)).0))
      ]

  pub left_new : (m y : ℕ) → (y ≡ x → ⊥) → In y (own s m) → In y (own t m)
  left_new m y n h =
      rw (owns m) (elim (cases_eq m l) [
        | inl q ↦ rw (at_here (own s) l ys m q) (O.rest y n (subst (λ (w : ℕ). In y (own s w)) q h))
        | inr ne ↦ rw (at_else (own s) l ys m ne) h
      ])
