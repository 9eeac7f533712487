-- A clause in own lists that loses a literal; an index keeps its uses. Assumes nothing.
use Rattle.std.proofs.Common.{◌≡◌, ℕ, ◌≤◌, Bool, true, ◌&&◌, List, [], map, length, get_or, sym, refl, ap, ◌∙◌, subst, inl, inr, arith}
use Rattle.std.specs.List.{AllByRecursion}
use Rattle.std.proofs.lemmas.Bool.{lt-ltb}
use Rattle.std.proofs.lemmas.List.{get_or-map, length-map}
use Rattle.network.specs.Lists.{In}
use Rattle.network.specs.Clauses.{front, has, without}
use Rattle.rings.proofs.Drops.{at_here, at_else}
use Rattle.rules.specs.Store.{droppable, shortened}
use Rattle.rules.specs.Lawful.{Lawful}
use Rattle.rules.proofs.Lawful.{shortened_lawful}
use Rattle.slots.proofs.Changes.{shortened_is}
use Rattle.owned.specs.declared.owned.Owned.{Owned}
use Rattle.owned.specs.Effects.{Shortened}
use Rattle.slotted.specs.Indexes.{Alike, Listing, Sensible}
use Rattle.owned.specs.Lists.{At, listed, lost, own, text}
use Rattle.slotted.specs.Tied.{meaning_of}
use Rattle.slotted.proofs.Members.{some_same}
use Rattle.owned.proofs.Laws.{own_laws}
use Rattle.owned.proofs.Moves.{in_all}
use Rattle.slotted.proofs.Stands.{Facts, HasSlot, Ties, at_own, facts, meaning_is, own_ends}

-- which literals may be dropped
droppable_is : (s : Owned) (ix : Bool) (u : Listing → ℕ → List ℕ) (x v l i : ℕ) → At s x l i → droppable (meaning_of s ix u) l i v ≡ has v (front (text s x))
droppable_is s ix u x v l i a =
    let p = a.0 in
    let n = length-map (own s l) (text s) in
    let e : get_or (map (text s) (own s l)) i [] ≡ text s x = get_or-map (text s) (own s l) i 0 [] a.0 ∙ ap (text s) a.1 in
    ap (λ (b : Bool). b && has v (front (get_or (map (text s) (own s l)) i []))) (lt-ltb i (length (map (text s) (own s l))) (omega arith)) ∙ ap (λ (C : List ℕ). has v (front C)) e

pub droppable_by : (s : Owned) (ix : Bool) (u : Listing → ℕ → List ℕ) (x v l i : ℕ) → At s x l i → {b : Bool} → b ≡ has v (front (text s x)) → b ≡ true → droppable (meaning_of s ix u) l i v ≡ true
droppable_by s ix u x v l i a e t = droppable_is s ix u x v l i a ∙ sym e ∙ t

module _ (s t : Owned) (ix : Bool) (j : ℕ → Bool) (u : Listing → ℕ → List ℕ) (S : Sensible j u) (T : Ties s ix j u) (x v l i : ℕ) (a : At s x l i) (R : Shortened x v s t) where
  pub shortened_alike : Alike j (listed s) (listed t)
  shortened_alike y k e = sym (R.listings y k)

  same_uses : (k : ℕ) → u (listed s) k ≡ u (listed t) k
  same_uses = S.depends (listed s) (listed t) shortened_alike

  own_old : (m y : ℕ) → In y (own t m) → In y (own s m)
  own_old m y = subst (In y) (R.owns m)

  here : In x (own t l)
  here = subst (In x) (sym (R.owns l)) (at_own s x l i a)

  others : (ys : List ℕ) → AllByRecursion (λ y. (y ≡ get_or (own s l) i 0 → ⊥) → text t y ≡ text s y) ys
  others ys = in_all (λ y. (y ≡ get_or (own s l) i 0 → ⊥) → text t y ≡ text s y) ys (λ y h n. R.texts y ∙ at_else (text s) x (without v (text s x)) y (λ q. n (q ∙ sym a.1)))

  pub shortened_meaning : meaning_of t ix u ≡ shortened l i v (meaning_of s ix u)
  shortened_meaning =
      let z = get_or (own s l) i 0 in
      meaning_is t ix u s.room (own s) (u (listed s)) (text t) (length (lost s)) R.room R.owns (λ k. sym (same_uses k)) (λ y. refl) (ap length R.losts)
      ∙ shortened_is (own s) (text s) (own_laws s).kept_so l i a.0 (text t) v (R.texts z ∙ at_here (text s) x (without v (text s x)) z a.1 ∙ ap (λ (w : ℕ). without v (text s w)) (sym a.1)) (own_ends t l z (subst (λ (w : ℕ). In w (own t l)) (sym a.1) here))
      s.room ix (u (listed s)) (length (lost s)) (λ m. others (own s m)) (λ k. others (u (listed s) k))

  slot_stays : (y : ℕ) → HasSlot s y → HasSlot t y
  slot_stays y (inl k) = inl (k.0, subst (In y) (sym (R.owns k.0)) k.1)
  slot_stays y (inr k) = inr (subst (In y) (sym R.losts) k)

  shortened_ties : Ties t ix j u
  shortened_ties = record {
    kept = λ y e. slot_stays y (T.kept y e);
    joins = λ on m y h. T.joins on m y (own_old m y h) ∙ some_same (listed s y) (listed t y) (λ k. sym (R.listings y k));
    complete = λ on m k y h. ap (has y) (sym (same_uses k)) ∙ T.complete on m k y (own_old m y h) ∙ sym (R.listings y k);
    off = λ e. ((T.off e).0, R.losts ∙ (T.off e).1);
  }

  pub shortened_facts : Lawful (meaning_of s ix u) → droppable (meaning_of s ix u) l i v ≡ true → (slots : ℕ) → s.room ≤ slots → Facts t ix slots j u
  shortened_facts L ok slots f = facts t ix slots j u (let e = R.room in omega arith) shortened_ties (subst Lawful (sym shortened_meaning) (shortened_lawful l i v (meaning_of s ix u) L ok))
