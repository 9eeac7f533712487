-- What the questions of a store read. Assumes nothing.
use Rattle.std.proofs.Common.{◌≡◌, ℕ, zero, suc, ◌+◌, ◌<◌, Bool, ◌&&◌, eqb, ◌⊎◌, List, map, length, get_or, sym, refl, ap, ◌∙◌, subst, inl, inr, arith}
use mathlib.Core.Path.{fun_ext}
use Rattle.std.proofs.lemmas.Bool.{and_from, and_left, and_right, cases_eq, eq-eqb, ne_eqb}
use Rattle.std.proofs.lemmas.List.{get_or-map, length-map}
use Rattle.network.specs.Clauses.{last}
use Rattle.network.specs.Lists.{In}
use Rattle.rules.specs.Store.{dead, from, live, live_clauses, sum_of}
use Rattle.slots.specs.Slots.{ref}
use Rattle.slots.proofs.Slots.{member, ref_at, seek_lacks}
use Rattle.store.proofs.Walks.{walked_step}
use Rattle.slotted.specs.Indexes.{Listing}
use Rattle.owned.specs.Lists.{own, text, At}
use Rattle.slotted.specs.Tied.{meaning_of}
use Rattle.owned.specs.Totals.{total}
use Rattle.owned.specs.declared.owned.Owned.{Owned}
use Rattle.slotted.proofs.Members.{lacks_not}
use Rattle.owned.proofs.Laws.{own_laws}
use Rattle.slotted.proofs.Stands.{at_own, own_ends}

total_sum : (f : ℕ → ℕ) (n : ℕ) → total n f ≡ sum_of (map f (from 0 n))
unfolding total
total_sum f zero = refl
total_sum f (suc n) = let e : n + 1 ≡ suc n = omega arith in walked_step f (total n f) n (f n) (total_sum f n) refl ∙ ap (λ (m : ℕ). sum_of (map f (from 0 m))) e

-- how many clauses are live
pub live_is : (o : Owned) (ix : Bool) (used : Listing → ℕ → List ℕ) → total 2048 (λ l. length (own o l)) ≡ live_clauses (meaning_of o ix used)
unfolding live_clauses
live_is o ix used =
    let e : (λ (l : ℕ). length (own o l)) ≡ (λ (l : ℕ). length (map (text o) (own o l))) = fun_ext (λ l. sym (length-map (own o l) (text o))) in
    ap (total 2048) e ∙ total_sum (λ l. length (map (text o) (own o l))) 2048

-- a slot has one place, and a place one slot
module _ (o : Owned) (x l i : ℕ) (a : At o x l i) where
  pub same_slot : (y m j : ℕ) → At o y m j → eqb x y ≡ (eqb m l && eqb j i)
  same_slot y m j b =
      elim (cases_eq x y) [
        | inl e ↦
            let c : At o x m j = (b.0, b.1 ∙ sym e) in
            let p = (own_laws o).once x l i m j a c in
            eq-eqb x y e ∙ sym (and_from (eqb m l) (eqb j i) (eq-eqb m l (sym p.0)) (eq-eqb j i (sym p.1)))
        | inr n ↦
            ne_eqb x y n ∙ sym (elim (cases_eq m l) [
              | inl p ↦ and_right (eqb m l) (eqb j i) (ne_eqb j i (λ q. n (sym a.1 ∙ ap (λ (w : ℕ). get_or (own o l) w 0) (sym q) ∙ ap (λ (w : ℕ). get_or (own o w) j 0) (sym p) ∙ b.1)))
              | inr p ↦ and_left (eqb m l) (eqb j i) (ne_eqb m l p)
            ])
      ]

-- a slot stands in an own list or in none
pub stands_or : (o : Owned) (x : ℕ) → ((l : ℕ) × (i : ℕ) × At o x l i) ⊎ ((l i : ℕ) → At o x l i → ⊥)
stands_or o x =
    let l = last (text o x) in
    elim (member x (own o l)) [
      | inl p ↦ inl (l, p.0, (p.1, p.2))
      | inr n ↦ inr (λ m i a. lacks_not x (own o l) n (subst (λ (k : ℕ). In x (own o k)) (sym (own_ends o m x (at_own o x m i a))) (at_own o x m i a)))
    ]

-- the use of a slot
module _ (o : Owned) (us : List ℕ) (j x : ℕ) (h : j < length us) (e : get_or us j 0 ≡ x) where
  use_ref : get_or (map (ref (own o) (text o)) us) j dead ≡ ref (own o) (text o) x
  use_ref = get_or-map (ref (own o) (text o)) us j 0 dead h ∙ ap (ref (own o) (text o)) e

  pub use_dead : ((l i : ℕ) → At o x l i → ⊥) → get_or (map (ref (own o) (text o)) us) j dead ≡ dead
  use_dead n = use_ref ∙ (let l = last (text o x) in elim (member x (own o l)) [ inl p ↦ absurd (n l p.0 (p.1, p.2)) | inr q ↦ seek_lacks l x 0 (own o l) q ])

  pub use_live : (l i : ℕ) → At o x l i → get_or (map (ref (own o) (text o)) us) j dead ≡ live l i
  use_live l i a = use_ref ∙ ap (ref (own o) (text o)) (sym a.1) ∙ ref_at (own o) (text o) l i (own_laws o).kept_so a.0
