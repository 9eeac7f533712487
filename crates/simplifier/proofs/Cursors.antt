-- Walks along an own list by handles. Assumes nothing.
use Rattle.std.proofs.Common.{◌≡◌, ℕ, ◌<◌, length, Some, None, Option, sym, subst}
use Rattle.std.specs.Option.{option_flatten}
use Rattle.rules.specs.Store.{Meaning}

-- a cursor along own l, at place i: a handle of the clause there, or nothing where there is none
abbrev pub Cursor : {H : Type 0} → (H → ℕ → ℕ → Type 0) → Meaning → ℕ → ℕ → Option H → Type 0
Cursor at M l i o = elim o [ None ↦ length (M.own l) ≡ i | Some h ↦ (at h l i) × (i < length (M.own l)) ]

-- what a removal at that place answers
abbrev pub Answered : {H : Type 0} → (H → ℕ → ℕ → Type 0) → Meaning → ℕ → ℕ → Option (Option H) → Type 0
Answered at M l i r = elim r [ None ↦ ⊥ | Some o ↦ Cursor at M l i o ]

module _ {H : Type 0} (at : H → ℕ → ℕ → Type 0) (M : Meaning) (l i : ℕ) where
  pub on_some : (o : Option H) (h : H) → o ≡ Some h → Cursor at M l i o → (at h l i) × (i < length (M.own l))
  on_some o h e c = subst (Cursor at M l i) e c

  pub on_none : (o : Option H) → o ≡ None → Cursor at M l i o → length (M.own l) ≡ i
  on_none o e c = subst (Cursor at M l i) e c

  -- the cursor that a removal leaves
  pub on_removed : (r : Option (Option H)) (o : Option H) → o ≡ option_flatten r → Answered at M l i r → Cursor at M l i o
  on_removed r o e c = subst (Cursor at M l i) (sym e) (go r c)
    where
      go : (r : Option (Option H)) → Answered at M l i r → Cursor at M l i (option_flatten r)
      go None c = absurd c
      go (Some None) c = c
      go (Some (Some h)) c = c
