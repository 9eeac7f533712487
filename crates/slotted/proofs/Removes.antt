-- A clause removed from own lists and an index. Assumes nothing.
use Rattle.std.proofs.Common.{◌≡◌, ℕ, ◌≤◌, Bool, false, cond, eqb, ltb, List, length, get_or, sym, refl, ap, ◌∙◌, subst, inl, inr, arith}
use Rattle.std.proofs.lemmas.Bool.{both_ways, cases_eq}
use Rattle.std.proofs.lemmas.List.{length-map}
use Rattle.network.specs.Lists.{In}
use Rattle.network.specs.Clauses.{has, without}
use Rattle.rings.proofs.Drops.{at_here, at_else}
use Rattle.rules.specs.Store.{removed}
use Rattle.rules.specs.Lawful.{Lawful}
use Rattle.rules.proofs.Lawful.{removed_lawful}
use Rattle.slots.specs.Slots.{filled_by_last}
use Rattle.slots.proofs.Slots.{removed_is}
use Rattle.owned.specs.declared.owned.Owned.{Owned}
use Rattle.owned.specs.Effects.{Released}
use Rattle.slotted.specs.Indexes.{Listing, Sensible}
use Rattle.owned.specs.Lists.{At, listed, lost, own, text}
use Rattle.slotted.specs.Tied.{meaning_of}
use Rattle.slotted.proofs.Leaves.{left_new, left_old}
use Rattle.slotted.proofs.Members.{has_without}
use Rattle.owned.proofs.Goes.{swap_out}
use Rattle.owned.proofs.Laws.{own_laws}
use Rattle.owned.proofs.Moves.{Out}
use Rattle.slotted.proofs.Stands.{Facts, HasSlot, Ties, facts, meaning_is}

module _ (s t : Owned) (ix : Bool) (j : ℕ → Bool) (u : Listing → ℕ → List ℕ) (S : Sensible j u) (T : Ties s ix j u) (x l i : ℕ) (a : At s x l i) (R : Released x l i s t)
    (j' : ℕ → Bool) (u' : Listing → ℕ → List ℕ) (joins : (y : ℕ) → j' y ≡ cond (eqb y x) false (j y)) (uses : (L : Listing) (k : ℕ) → u' L k ≡ without x (u L k)) where
  listing : (y : ℕ) → listed t y ≡ listed s y
  listing y = R.same.listings y

  uses_old : (k : ℕ) → u' (listed t) k ≡ without x (u (listed s) k)
  uses_old k = uses (listed t) k ∙ ap (without x) (sym (S.depends (listed s) (listed t) (λ y m e. ap (has m) (sym (listing y))) k))

  pub removed_meaning : meaning_of t ix u' ≡ removed l i (meaning_of s ix u)
  removed_meaning =
      let used : (k : ℕ) → u' (listed t) k ≡ without (get_or (own s l) i 0) (u (listed s) k) = λ k. uses_old k ∙ ap (λ (z : ℕ). without z (u (listed s) k)) (sym a.1) in
      meaning_is t ix u' s.room (own t) (u' (listed t)) (text s) (length (lost s)) R.room (λ m. refl) (λ k. refl) R.same.texts (ap length R.losts)
      ∙ removed_is (own s) (own t) (text s) (own_laws s).kept_so l i a.0 R.owns s.room ix (u (listed s)) (u' (listed t)) (length (lost s)) used

  abbrev new : List ℕ
  new = filled_by_last 0 i (own s l)

  out : Out x (own s l) new
  out = swap_out i (own s l) x a.0 ((own_laws s).kept_so.differ l) a.1

  own_old : (m y : ℕ) → In y (own t m) → In y (own s m) × (y ≡ x → ⊥)
  own_old = left_old s t x l i a new out R.owns

  slot_stays : (y : ℕ) → (y ≡ x → ⊥) → HasSlot s y → HasSlot t y
  slot_stays y n (inl k) = inl (k.0, left_new s t x l i a new out R.owns k.0 y n k.1)
  slot_stays y n (inr k) = inr (subst (In y) (sym R.losts) k)

  joined_else : (y : ℕ) → (y ≡ x → ⊥) → j' y ≡ j y
  joined_else y n = joins y ∙ at_else j x false y n

  joined_here : (y : ℕ) → y ≡ x → j' y ≡ false
  joined_here y q = joins y ∙ at_here j x false y q

  removed_ties : Ties t ix j' u'
  removed_ties = record {
    kept = λ y e. elim (cases_eq y x) [ inl q ↦ absurd (both_ways (j' y) (joined_here y q) e) | inr n ↦ slot_stays y n (T.kept y (sym (joined_else y n) ∙ e)) ];
    joins = λ on m y h. let k = own_old m y h in joined_else y k.1 ∙ T.joins on m y k.0 ∙ ap (λ (D : List ℕ). ltb 0 (length D)) (sym (listing y));
    complete = λ on m k y h. let o = own_old m y h in ap (has y) (uses_old k) ∙ has_without y x (u (listed s) k) o.1 ∙ T.complete on m k y o.0 ∙ ap (has k) (sym (listing y));
    off = λ e. (λ y. elim (cases_eq y x) [ inl q ↦ joined_here y q | inr n ↦ joined_else y n ∙ (T.off e).0 y ], R.losts ∙ (T.off e).1);
  }

  pub removed_facts : Lawful (meaning_of s ix u) → (slots : ℕ) → s.room ≤ slots → Facts t ix slots j' u'
  removed_facts L slots f = facts t ix slots j' u' (let e = R.room in omega arith) removed_ties (subst Lawful (sym removed_meaning) (removed_lawful l i (meaning_of s ix u) L (let p = a.0 in let e = length-map (own s l) (text s) in omega arith)))
