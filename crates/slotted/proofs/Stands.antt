-- What the facts of a store say, member by member, and how they are kept. Assumes nothing.
use Rattle.std.proofs.Common.{◌≡◌, ℕ, ◌<◌, ◌≤◌, Bool, true, false, ◌||◌, ltb, ◌⊎◌, List, [], ◌∷◌, length, sym, ap, ◌∙◌, subst, inl, inr, arith}
use mathlib.Core.Logic.{∥∥₁_elim}
use mathlib.Core.Path.{fun_ext}
use Rattle.slots.specs.Slots.{meant}
use denote.Struct.Props.{≡_prop}
use base.Stored.{coded_ℕ, coded_bool, coded_list}
use Rattle.std.specs.List.{AllByRecursion, list_any}
use Rattle.std.proofs.lemmas.Bool.{cases_Bool, or_right}
use Rattle.network.specs.Lists.{In}
use Rattle.network.specs.Clauses.{has, last, well_formed}
use Rattle.network.proofs.Lists.{any_from, any_some, has_in}
use Rattle.rules.specs.Store.{Meaning, literals}
use Rattle.rules.specs.Lawful.{Lawful}
use Rattle.rules.proofs.Formed.{formed_parts}
use Rattle.rules.proofs.Index.{in_up_to}
use Rattle.owned.specs.declared.owned.Owned.{Owned}
use Rattle.slotted.specs.Indexes.{Listing}
use Rattle.slotted.specs.Law.{Law}
use Rattle.owned.specs.Lists.{own, lost, text, listed, At}
use Rattle.slotted.specs.Tied.{Tied, is_kept, meaning_of}
use Rattle.rules.proofs.Answers.{has_from}
use Rattle.owned.proofs.Moves.{all_in, in_all}
use Rattle.slotted.proofs.Members.{place_in}
use Rattle.owned.proofs.Laws.{own_laws}

-- ## Own lists

-- a slot of an own list has a well formed clause, which ends in the list's literal
module _ (o : Owned) (l x : ℕ) (h : In x (own o l)) where
  pub own_formed : well_formed (text o x) ≡ true
  own_formed = all_in (λ y. well_formed (text o y) ≡ true) (own o l) ((own_laws o).formed l) x h

  pub own_ends : last (text o x) ≡ l
  own_ends = all_in (λ y. last (text o y) ≡ l) (own o l) ((own_laws o).kept_so.ends l) x h

  pub own_low : l < 2048
  own_low = let a = (formed_parts (text o x) own_formed).small in let b = own_ends in omega arith

pub at_own : (o : Owned) (x l i : ℕ) → At o x l i → In x (own o l)
at_own o x l i a = place_in x (own o l) i a.0 a.1

-- ## The index

-- an own list has the slot, or it is lost
abbrev pub HasSlot : Owned → ℕ → Type 0
HasSlot o x = ((l : ℕ) × In x (own o l)) ⊎ In x (lost o)

pub has_slot : (o : Owned) (x : ℕ) → is_kept o x ≡ true → HasSlot o x
has_slot o x e =
    elim (cases_Bool (list_any (λ l. has x (own o l)) literals)) [
      | inl t ↦ let k = any_some (λ l. has x (own o l)) literals t in inl (k.0, has_in x (own o k.0) k.2)
      | inr f ↦ inr (has_in x (lost o) (sym (ap (λ (b : Bool). b || has x (lost o)) f) ∙ e))
    ]

pub slot_has : (o : Owned) (x : ℕ) → HasSlot o x → is_kept o x ≡ true
slot_has o x (inl k) = ap (λ (b : Bool). b || has x (lost o)) (any_from (λ l. has x (own o l)) literals k.0 (in_up_to 2048 k.0 (own_low o k.0 x k.1)) (has_from x (own o k.0) k.1))
slot_has o x (inr k) = or_right (list_any (λ l. has x (own o l)) literals) (has x (lost o)) (has_from x (lost o) k)

-- how own lists and an index go together, member by member
pub record Ties (o : Owned) (ix : Bool) (joined : ℕ → Bool) (used : Listing → ℕ → List ℕ) : Type 0 where
  pub kept : (x : ℕ) → joined x ≡ true → HasSlot o x
  pub joins : ix ≡ true → (l x : ℕ) → In x (own o l) → joined x ≡ ltb 0 (length (listed o x))
  pub complete : ix ≡ true → (l k x : ℕ) → In x (own o l) → has x (used (listed o) k) ≡ has k (listed o x)
  pub off : ix ≡ false → ((x : ℕ) → joined x ≡ false) × (lost o ≡ [])

all_prop : (P : ℕ → Type 0) → ((x : ℕ) → IsProp (P x)) → (xs : List ℕ) → IsProp (AllByRecursion P xs)
all_prop P h [] p q = λ i. p
all_prop P h (x ∷ xs) p q = λ i. (h x p.0 q.0 i, all_prop P h xs p.1 q.1 i)

module _ {o : Owned} {ix : Bool} {joined : ℕ → Bool} {used : Listing → ℕ → List ℕ} where
  tied_prop : IsProp (Tied o ix joined used)
  tied_prop p q = λ i. record {
    kept = λ x h. ≡_prop coded_bool (is_kept o x) true (p.kept x h) (q.kept x h) i;
    joins = λ e l. all_prop (λ x. joined x ≡ ltb 0 (length (listed o x))) (λ x. ≡_prop coded_bool (joined x) (ltb 0 (length (listed o x)))) (own o l) (p.joins e l) (q.joins e l) i;
    complete = λ e l k. all_prop (λ x. has x (used (listed o) k) ≡ has k (listed o x)) (λ x. ≡_prop coded_bool (has x (used (listed o) k)) (has k (listed o x))) (own o l) (p.complete e l k) (q.complete e l k) i;
    off = λ e. (λ x. ≡_prop coded_bool (joined x) false ((p.off e).0 x) ((q.off e).0 x) i, ≡_prop (coded_list coded_ℕ) (lost o) [] (p.off e).1 (q.off e).1 i);
  }

  pub ties : ∥ Tied o ix joined used ∥₁ → Ties o ix joined used
  ties h =
      let t = ∥∥₁_elim h tied_prop (λ s. s) in
      record {
        kept = λ x e. has_slot o x (t.kept x e);
        joins = λ e l x k. all_in (λ y. joined y ≡ ltb 0 (length (listed o y))) (own o l) (t.joins e l) x k;
        complete = λ e l k x h. all_in (λ y. has y (used (listed o) k) ≡ has k (listed o y)) (own o l) (t.complete e l k) x h;
        off = t.off;
      }

  to_tied : Ties o ix joined used → ∥ Tied o ix joined used ∥₁
  to_tied t = ∣ record {
    kept = λ x e. slot_has o x (t.kept x e);
    joins = λ e l. in_all (λ y. joined y ≡ ltb 0 (length (listed o y))) (own o l) (t.joins e l);
    complete = λ e l k. in_all (λ y. has y (used (listed o) k) ≡ has k (listed o y)) (own o l) (t.complete e l k);
    off = t.off;
  } ∣₁

-- ## The meaning

-- by lists of slots that are the same
pub meaning_is : (o : Owned) (ix : Bool) (used : Listing → ℕ → List ℕ) (room : ℕ) (own' used' text' : ℕ → List ℕ) (n : ℕ) → o.room ≡ room → ((l : ℕ) → own o l ≡ own' l) → ((k : ℕ) → used (listed o) k ≡ used' k) →
    ((x : ℕ) → text o x ≡ text' x) → length (lost o) ≡ n → meaning_of o ix used ≡ meant room ix own' used' text' n
meaning_is o ix used room own' used' text' n r p q e d =
    ap (λ (m : ℕ). meant m ix (own o) (used (listed o)) (text o) (length (lost o))) r
    ∙ ap (λ (f : ℕ → List ℕ). meant room ix f (used (listed o)) (text o) (length (lost o))) (fun_ext p)
    ∙ ap (λ (f : ℕ → List ℕ). meant room ix own' f (text o) (length (lost o))) (fun_ext q)
    ∙ ap (λ (f : ℕ → List ℕ). meant room ix own' used' f (length (lost o))) (fun_ext e)
    ∙ ap (meant room ix own' used' text') d

-- a lawful meaning, as a fact of the struct
to_law : (M : Meaning) → Lawful M → ∥ Law M ∥₁
to_law M L = ∣ record {
  formed = L.formed;
  placed = L.placed;
  bounded = λ x h. ap length (L.bounded x h);
  named = L.named;
  once = L.once;
  mourned = L.mourned;
  within = L.within;
  unindexed = λ e. (λ x. ap length ((L.unindexed e).0 x), (L.unindexed e).1);
} ∣₁

-- the facts of a store with these fields
abbrev pub Facts : Owned → Bool → ℕ → (ℕ → Bool) → (Listing → ℕ → List ℕ) → Type 0
Facts o ix slots joined used = record { fits : o.room ≤ slots; tied : ∥ Tied o ix joined used ∥₁; law : ∥ Law (meaning_of o ix used) ∥₁ }

-- where own lists are as they were
pub facts_stay : {o o' : Owned} {ix : Bool} {slots : ℕ} {joined : ℕ → Bool} {used : Listing → ℕ → List ℕ} → o' ≡ o → Facts o ix slots joined used → Facts o' ix slots joined used
facts_stay {ix = ix} {slots} {joined} {used} e f = subst (λ o. Facts o ix slots joined used) (sym e) f

pub facts : (o : Owned) (ix : Bool) (slots : ℕ) (joined : ℕ → Bool) (used : Listing → ℕ → List ℕ) → o.room ≤ slots → Ties o ix joined used → Lawful (meaning_of o ix used) → Facts o ix slots joined used
facts o ix slots joined used f t L = record { fits = f; tied = to_tied t; law = to_law (meaning_of o ix used) L }
