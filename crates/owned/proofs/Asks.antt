-- What the questions of own lists read. Assumes nothing.
use Rattle.std.proofs.Common.{◌≡◌, ℕ, suc, ◌+◌, ◌-◌, ◌*◌, ◌<◌, ◌≤◌, cond, ltb, List, ◌∷◌, length, get_or, Some, None, Option, sym, ap, ◌∙◌, subst, inl, inr, arith}
use Rattle.std.specs.Option.{MatchOption, unwrap_or}
use Rattle.std.proofs.lemmas.Bool.{cases_eq, cases_lt, cond-true, cond-false, lt-ltb, le-ltb}
use Rattle.rings.specs.Rings.{next, prev, Held, slot_after}
use Rattle.rings.proofs.Bounds.{after_slot}
use Rattle.rings.proofs.Paths.{path_prev}
use Rattle.rings.proofs.Shifts.{slot_at}
use Rattle.owned.specs.Layout.{node_count, rg}
use Rattle.owned.specs.Lists.{At, own}
use Rattle.owned.specs.declared.owned.Owned.{Owned}
use Rattle.owned.proofs.Stands.{of_literal, own_few, stands}
use Rattle.owned.proofs.Wholes.{at_room, at_ring, own_is}

-- ## The slot after one

module _ (s : Owned) (x l i : ℕ) (a : At s x l i) where
  r : 0 < s.room
  r = at_room s.room s.links.now s.texts.now (stands s) x l i a

  hl : l < 2048
  hl = of_literal s x l i a

  ow : own s l ≡ rg s.room s.links.now l
  ow = own_is s.room s.links.now l r hl

  -- what stands at the next place
  abbrev Says : Option ℕ → Type 0
  Says o = elim o [ None ↦ length (own s l) ≡ i + 1 | Some y ↦ At s y l (i + 1) ]

  pub next_says : (o : Option ℕ) → o ≡ slot_after 2050 s.links.now x → Says o
  next_says o e =
      let R = rg s.room s.links.now l in
      let p = at_ring s.room s.links.now s.texts.now (stands s) x l i a in
      let p0 = p.0 in
      let n : length (own s l) ≡ length R = ap length ow in
      let q : o ≡ cond (ltb (suc i) (length R)) (Some (get_or R (suc i) 0)) None = e ∙ after_slot 2050 (node_count s.room) s.links.now (stands s r).held l (let z = hl in omega arith) i x p.0 p.1 in
      let t : suc i ≡ i + 1 = omega arith in
      elim (cases_lt (suc i) (length R)) [
        | inl lt ↦ rw (q ∙ cond-true (ltb (suc i) (length R)) (Some (get_or R (suc i) 0)) None (lt-ltb (suc i) (length R) lt)) (omega arith, ap (λ (ys : List ℕ). get_or ys (i + 1) 0) ow ∙ ap (λ (k : ℕ). get_or R k 0) (sym t))
        | inr ge ↦ rw (q ∙ cond-false (ltb (suc i) (length R)) (Some (get_or R (suc i) 0)) None (le-ltb (suc i) (length R) ge)) (omega arith)
      ]

-- ## The place of a slot, found by walking back to the head

-- i steps back from x stands y
abbrev pub Back : Owned → ℕ → ℕ → ℕ → Type 0
Back s x i y = (l j : ℕ) → At s x l j → (i ≤ j) × (get_or (rg s.room s.links.now l) (j - i) 0 ≡ y)

module _ (s : Owned) (x : ℕ) where
  pub back_start : Back s x 0 x
  back_start l j a =
      let e : j - 0 ≡ j = omega arith in
      (omega arith, ap (λ (k : ℕ). get_or (rg s.room s.links.now l) k 0) e ∙ (at_ring s.room s.links.now s.texts.now (stands s) x l j a).1)

  module _ (i y : ℕ) (b : Back s x i y) where
    -- where the step back leads
    module _ (l j : ℕ) (a : At s x l j) where
      abbrev ws : List ℕ
      ws = s.links.now

      abbrev R : List ℕ
      R = rg s.room ws l

      held : Held 2050 (node_count s.room) ws
      held = (stands s (r s x l j a)).held

      hh : l < 2050
      hh = let q = of_literal s x l j a in omega arith

      k_in : j - i < length R
      k_in = let q = (at_ring s.room s.links.now s.texts.now (stands s) x l j a).0 in omega arith

      pub back_in : 2 * y + 1 < length ws
      back_in = let q = (slot_at 2050 (node_count s.room) ws held l (j - i) hh k_in).1 in let e = (b l j a).1 in let z = held.0.1 in omega arith

      before : prev ws y ≡ get_or (l ∷ R) (j - i) 0
      before = ap (prev ws) (sym (b l j a).1) ∙ path_prev (next ws) (prev ws) l R l (j - i) (held.1.1 l hh) k_in

      before_more : (m : ℕ) → j - i ≡ suc m → prev ws y ≡ get_or R m 0
      before_more m e = before ∙ ap (λ (k : ℕ). get_or (l ∷ R) k 0) e

      before_head : j - i ≡ 0 → prev ws y ≡ l
      before_head e = before ∙ ap (λ (k : ℕ). get_or (l ∷ R) k 0) e

      slot_before : (m : ℕ) → j - i ≡ suc m → 2050 ≤ prev ws y
      slot_before m e = let k = k_in in let q = (slot_at 2050 (node_count s.room) ws held l m hh (omega arith)).0 in let p = before_more m e in omega arith

      pub back_done : prev ws y < 2050 → (prev ws y ≡ l) × (i ≡ j)
      back_done lt =
          let le = (b l j a).0 in
          elim (cases_eq (j - i) 0) [
            | inl e ↦ (before_head e, omega arith)
            | inr n ↦ let e : j - i ≡ suc (j - i - 1) = omega arith in let q = slot_before (j - i - 1) e in absurd (omega arith)
          ]

      pub back_again : 2050 ≤ prev ws y → (i + 1 ≤ j) × (get_or R (j - (i + 1)) 0 ≡ prev ws y)
      back_again ge =
          let le = (b l j a).0 in
          elim (cases_eq (j - i) 0) [
            | inl e ↦ let q = before_head e in let z = hh in absurd (omega arith)
            | inr n ↦ let e : j - i ≡ suc (j - (i + 1)) = omega arith in (omega arith, sym (before_more (j - (i + 1)) e))
          ]

      pub back_short : i < s.room
      back_short = let f = own_few s l in let q = a.0 in let le = (b l j a).0 in omega arith

    pub back_more : 2050 ≤ prev s.links.now y → Back s x (i + 1) (prev s.links.now y)
    back_more ge l j a = back_again l j a ge

-- ## What was read, or the other value

pub unwrapped : {T : Type 0} {A : Type 0} {B : T → Type 0} (o : Option T) (d r : T) → r ≡ unwrap_or o d → (P : T → Type 0) → MatchOption o A B → (A → P d) → ((x : T) → B x → P x) → P r
unwrapped None d r e P m n f = subst P (sym e) (n m)
unwrapped (Some x) d r e P m n f = subst P (sym e) (f x m)
