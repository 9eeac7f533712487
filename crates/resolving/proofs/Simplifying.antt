-- What is left of the resolvents that were collected. Assumes nothing.
use Rattle.std.proofs.Common.{◌≡◌, ℕ, Bool, true, false, cond, List, length, take, Some, None, Option, MatchOption, IfSome, sym, refl, ap, ◌∙◌, subst}
use Rattle.std.specs.Bool.{Decides}
use Rattle.std.specs.Prelude.{is_some}
use Rattle.std.proofs.lemmas.List.{length-take-le, length-map}
use Rattle.lemmas.specs.Lines.{clauses_of, Admits, Simplified}
use Rattle.lemmas.specs.Words.{named, lemma_at}
use Rattle.lemmas.specs.declared.Lemmas.{Lemmas}
use Rattle.network.specs.Lemmas.{lemmas}
use Rattle.resolving.specs.Answers.{Stand, Left, Lent}

-- where there is no value there is no other
pub none_too : (b : Bool) {X Y : Type 0} (x : X) (y : Y) → None ≡ cond b (Some x) None → None ≡ cond b (Some y) None
none_too true x y e = absurd cc
none_too false x y e = refl

module _ (n : ℕ) (w₁ w₂ : Lemmas) {Rs : List (List ℕ)} (stand : Stand n Rs w₁) where
  module _ {m : ℕ} (s : Simplified n m w₁ w₂) where
    named_left : named (clauses_of w₂) (take m w₂.order.now) ≡ lemmas Rs
    named_left = s.simplified ∙ ap lemmas stand.clauses

    many_left : m ≡ length (lemmas Rs)
    many_left = sym (length-take-le m w₂.order.now s.lined.within) ∙ sym (length-map (take m w₂.order.now) (lemma_at (clauses_of w₂))) ∙ ap length named_left

  -- how many are left: there are some where some were collected
  pub left_number : (b : Bool) (k : ℕ) (r : Option ℕ) → Some n ≡ cond b (Some k) None → Decides (is_some r) (Admits n w₁) → MatchOption r (w₂ ≡ w₁) (λ m. Simplified n m w₁ w₂) → r ≡ cond b (Some (length (lemmas Rs))) None
  left_number false k r e d s = absurd cc
  left_number true k None e d s = absurd (let t = d.1 stand.admits in cc)
  left_number true k (Some m) e d s = ap Some (many_left s)

  -- what the line names then
  pub left_named : (r : Option ℕ) → MatchOption r (w₂ ≡ w₁) (λ m. Simplified n m w₁ w₂) → IfSome r (λ m. Left m (lemmas Rs) w₂)
  left_named None s = tt
  left_named (Some m) s = record { clauses = named_left s; lined = s.lined }

-- the same words stay lent
pub lent_on : (n : ℕ) (w w₁ w₂ : Lemmas) → Lent w w₁ → w₂.order.ghost_name ≡ w₁.order.ghost_name → w₂.entries.ghost_name ≡ w₁.entries.ghost_name → w₂.places.ghost_name ≡ w₁.places.ghost_name → (r : Option ℕ)
    → MatchOption r (w₂ ≡ w₁) (λ m. Simplified n m w₁ w₂) → Lent w w₂
lent_on n w w₁ w₂ l o e p None s = subst (Lent w) (sym s) l
lent_on n w w₁ w₂ l o e p (Some m) s = record {
  lengths = (s.wrote.lengths.0 ∙ l.lengths.0, s.wrote.lengths.1 ∙ l.lengths.1);
  literals = (s.wrote.literals.0 ∙ l.literals.0, s.wrote.literals.1 ∙ l.literals.1);
  order = (o ∙ l.order.0, s.order ∙ l.order.1);
  entries = (e ∙ l.entries.0, s.entries ∙ l.entries.1);
  places = (p ∙ l.places.0, s.places ∙ l.places.1);
}
