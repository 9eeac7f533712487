-- A slot that left its own list, order kept. Assumes nothing.
use Rattle.std.proofs.Common.{◌≡◌, ℕ, suc, ◌+◌, ◌-◌, ◌<◌, ◌≤◌, Bool, cond, List, [], ◌∷◌, ◌++◌, get_or, set, Option, Some, None, sym, refl, ap, ◌∙◌, subst, inl, inr, arith}
use Rattle.std.proofs.lemmas.Bool.{cases_Bool, cond-true, cond-false}
use Rattle.rings.specs.Rings.{drop_at, shifted}
use Rattle.rings.proofs.Drops.{at_here, drop_at_high, drop_at_length}
use Rattle.owned.specs.declared.owned.Owned.{Owned}
use Rattle.owned.specs.Layout.{rg, text_at, own_at, lost_at}
use Rattle.owned.specs.Lists.{At, own, lost}
use Rattle.owned.specs.Effects.{Retired}
use Rattle.owned.proofs.Leaves.{Facts, Found, left_free, left_kept, left_lost, left_owns, left_same, literal, stood}
use Rattle.owned.proofs.Goes.{Went, shift_went}

-- slot x at place i of the own list of l, lost if b and else free
module _ (s : Owned) (l i x : ℕ) (a : At s x l i) (b : Bool) (h : ℕ) (e : h ≡ cond b 2049 2048) where
  abbrev new : List ℕ
  new = shifted s.links.now h x

  far : (2048 ≤ h) × (h < 2050)
  far = elim (cases_Bool b) [
    | inl t ↦ let k = e ∙ cond-true b 2049 2048 t in (omega arith, omega arith)
    | inr f ↦ let k = e ∙ cond-false b 2049 2048 f in (omega arith, omega arith)
  ]

  went : Went s.room s.links.now new l i x (drop_at i (rg s.room s.links.now l)) h
  went = shift_went s.room s.links.now l i x h (stood s l i x a) far.1 (let p = literal s l i x a in let q = far.0 in λ z. omega arith)

  -- as the code writes it, where k is the place of the slot's words
  pub retired_kept : (links : List ℕ) → links ≡ new → (k : ℕ) → k ≡ text_at x → Facts s.room links (set s.texts.now k h) (s.live - 1)
  retired_kept links g k p = rw (g, p) (left_kept s l i x a h far (drop_at i) new went)

  losts : lost_at s.room new ≡ cond b (lost s ++ (x ∷ [])) (lost s)
  losts = elim (cases_Bool b) [
    | inl t ↦ left_lost s l i x a h far (drop_at i) new went (e ∙ cond-true b 2049 2048 t) ∙ sym (cond-true b (lost s ++ (x ∷ [])) (lost s) t)
    | inr f ↦ left_free s l i x a h far (drop_at i) new went (e ∙ cond-false b 2049 2048 f) ∙ sym (cond-false b (lost s ++ (x ∷ [])) (lost s) f)
  ]

  pub retired : (t : Owned) → t.room ≡ s.room → t.links.now ≡ new → t.texts.now ≡ set s.texts.now (text_at x) h → Retired b x l i s t
  retired t r k w = record {
    room = r;
    owns = λ n. rw (r, k) (left_owns s l i x a h far (drop_at i) new went n);
    losts = rw (r, k) losts;
    same = left_same s l i x a h far (drop_at i) new went t w;
  }

  -- the slot that is at the place now
  next_at : (o : Option ℕ) → Found (own s l) (i + 1) o → Found (drop_at i (own s l)) i o
  next_at None q = let a0 = a.0 in let d = drop_at_length i (own s l) a.0 in omega arith
  next_at (Some y) q =
      let q0 = q.0 in
      let d = drop_at_length i (own s l) a.0 in
      let t : suc i ≡ i + 1 = omega arith in
      (omega arith, drop_at_high i i (own s l) 0 (omega arith) ∙ ap (λ (k : ℕ). get_or (own s l) k 0) t ∙ q.1)

  pub retired_next : (o : Option ℕ) → Found (own s l) (i + 1) o → (links : List ℕ) → links ≡ new → Found (own_at s.room links l) i o
  retired_next o q links g = rw g (subst (λ (ys : List ℕ). Found ys i o) (sym (left_owns s l i x a h far (drop_at i) new went l ∙ at_here (own s) l (drop_at i (own s l)) l refl)) (next_at o q))
