-- A slot that left its own list, whose last came to its place. Assumes nothing.
use Rattle.std.proofs.Common.{◌≡◌, ℕ, ◌+◌, ◌-◌, ◌*◌, ◌<◌, ◌≤◌, not, eqb, List, length, get_or, set, Option, Some, None, sym, refl, ap, ◌∙◌, inl, inr, arith}
use Rattle.std.specs.Bool.{then_some}
use Rattle.std.proofs.lemmas.Bool.{cases_eq, eq-eqb, ne_eqb}
use Rattle.rings.specs.Rings.{prev, put_in, swapped_out, Differ}
use Rattle.rings.proofs.Drops.{at_here}
use Rattle.rings.proofs.Shifts.{last_slot}
use Rattle.slots.specs.Slots.{filled_by_last}
use Rattle.slots.proofs.Slots.{swap_at, swap_length}
use Rattle.owned.specs.declared.owned.Owned.{Owned}
use Rattle.owned.specs.Layout.{node_count, rg, text_at, own_at}
use Rattle.owned.specs.Lists.{At, own}
use Rattle.owned.specs.Effects.{Released}
use Rattle.owned.proofs.Goes.{Went, other, swap_went}
use Rattle.owned.proofs.Leaves.{Facts, Found, left_free, left_kept, left_owns, left_same, literal, ringed, some, stood, whole}
use Rattle.owned.proofs.Stands.{stands}
use Rattle.owned.proofs.Wholes.{kept_is, own_is}

-- slot x at place i of the own list of l
module _ (s : Owned) (l i x : ℕ) (a : At s x l i) where
  abbrev links : List ℕ
  links = s.links.now

  abbrev new : List ℕ
  new = put_in (swapped_out links l x) 2048 x

  -- the word that tells the last of the list is there
  pub prev_inside : 2 * l + 1 < length links
  prev_inside = let p = (whole s l i x a).held.0.1 in let q = literal s l i x a in omega arith

  abbrev far : (2048 ≤ 2048) × (2048 < 2050)
  far = (omega arith, omega arith)

  went : Went s.room links new l i x (filled_by_last 0 i (rg s.room links l)) 2048
  went = swap_went s.room links l i x 2048 (stood s l i x a) (omega arith) (let p = literal s l i x a in λ z. omega arith)

  -- as the code writes it, where k is the place of the slot's words
  pub released_kept : (vs : List ℕ) → vs ≡ new → (k : ℕ) → k ≡ text_at x → Facts s.room vs (set s.texts.now k 2048) (s.live - 1)
  released_kept vs g k p = rw (g, p) (left_kept s l i x a 2048 far (filled_by_last 0 i) new went)

  pub released : (t : Owned) → t.room ≡ s.room → t.links.now ≡ new → t.texts.now ≡ set s.texts.now (text_at x) 2048 → Released x l i s t
  released t r k w = record {
    room = r;
    owns = λ n. rw (r, k) (left_owns s l i x a 2048 far (filled_by_last 0 i) new went n);
    losts = rw (r, k) (left_free s l i x a 2048 far (filled_by_last 0 i) new went refl);
    same = left_same s l i x a 2048 far (filled_by_last 0 i) new went t w;
  }

  -- the slot that is at the place now
  abbrev end : ℕ
  end = length (own s l) - 1

  last_is : prev links l ≡ get_or (own s l) end 0
  last_is =
      let r = ringed s l i x a in
      last_slot 2050 (node_count s.room) links (whole s l i x a).held l i (let p = literal s l i x a in omega arith) r.0
      ∙ ap (λ (ys : List ℕ). get_or ys (length ys - 1) 0) (sym (own_is s.room links l (some s l i x a) (literal s l i x a)))

  pub released_next : (vs : List ℕ) → vs ≡ new → (o : Option ℕ) → o ≡ then_some (not (eqb (prev links l) x)) (prev links l) → Found (own_at s.room vs l) i o
  released_next vs g o q =
      let z = prev links l in
      let xs = own s l in
      let ys = filled_by_last 0 i xs in
      let e : own_at s.room vs l ≡ ys = ap (λ (v : List ℕ). own_at s.room v l) g ∙ left_owns s l i x a 2048 far (filled_by_last 0 i) new went l ∙ at_here (own s) l ys l refl in
      let n = swap_length 0 i xs a.0 in
      let a0 = a.0 in
      elim (cases_eq z x) [
        | inl u ↦
            let d : Differ xs = (kept_is s.room links s.texts.now (stands s)).differ l in
            let here : i ≡ end = elim (cases_eq i end) [ inl k ↦ k | inr ne ↦ absurd (other i xs x a.0 d a.1 end (omega arith) (λ r. ne (sym r)) (sym last_is ∙ u)) ] in
            let t = eq-eqb z x u in
            let r : o ≡ None = (rw t at q) in
            rw (r, e) (omega arith)
        | inr u ↦
            let lt : i < end = elim (cases_eq i end) [ inl k ↦ absurd (u (last_is ∙ ap (λ (j : ℕ). get_or xs j 0) (sym k) ∙ a.1)) | inr ne ↦ omega arith ] in
            let t = ne_eqb z x u in
            let r : o ≡ Some z = (rw t at q) in
            rw (r, e) (omega arith, swap_at 0 i xs a.0 0 lt ∙ sym last_is)
      ]
