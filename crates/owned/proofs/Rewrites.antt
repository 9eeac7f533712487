-- The clause of a slot of an own list written anew, where it stands. Assumes nothing.
use Rattle.std.proofs.Common.{◌≡◌, ℕ, ◌<◌, ◌≤◌, true, false, is_some, Option, Some, None, List, sym, refl, ap, ◌∙◌, subst, inl, inr, arith}
use Rattle.std.specs.List.{AllByRecursion}
use Rattle.std.proofs.lemmas.Bool.{both_ways, cases_eq}
use Rattle.rings.proofs.Shifts.{rings_apart, slot_at}
use Rattle.network.specs.Clauses.{last, well_formed}
use Rattle.network.specs.Lists.{In}
use Rattle.rules.proofs.Answers.{has_from}
use Rattle.owned.specs.declared.owned.Owned.{Owned}
use Rattle.owned.specs.Layout.{node_count, rg, text_at, home, clause_in, lost_in, Whole, Sized}
use Rattle.owned.specs.Lists.{At}
use Rattle.owned.proofs.Besides.{Beside, beside_body, beside_clause, beside_home, beside_lost}
use Rattle.owned.proofs.Leaves.{Facts, literal, ringed, slot, whole}
use Rattle.owned.proofs.Moves.{all_in, in_all}
use Rattle.owned.proofs.Stands.{stands}
use Rattle.owned.proofs.Texts.{all_sized, sized_same}
use Rattle.owned.proofs.Wholes.{place_of}

-- a slot that has a home stands in an own list
abbrev Home : Owned → ℕ → Option ℕ → Type 0
Home s x o = elim o [ None ↦ (l i : ℕ) → At s x l i → ⊥ | Some l ↦ ((i : ℕ) × At s x l i) ]

pub home_found : (s : Owned) (x : ℕ) (o : Option ℕ) → is_some o ≡ true → Home s x o → (l : ℕ) × ((i : ℕ) × At s x l i)
home_found s x None e h = absurd (both_ways false refl e)
home_found s x (Some l) e h = (l, h)

-- what the words of slot x of the own list of l are to say
pub record Anew (s : Owned) (x l : ℕ) (ts : List ℕ) : Type 0 where
  pub only : Beside s.texts.now ts (text_at x)
  pub named : home ts x ≡ home s.texts.now x
  pub size : Sized ts x
  pub well : well_formed (clause_in ts x) ≡ true
  pub end : last (clause_in ts x) ≡ l
  pub bounded : AllByRecursion (λ k. k < 2048) (lost_in ts x)

-- slot x at place i of the own list of l, whose words say that
module _ (s : Owned) (l i x : ℕ) (a : At s x l i) (ts : List ℕ) (n : Anew s x l ts) where
  abbrev Q : ℕ → List ℕ
  Q m = rg s.room s.links.now m

  w : Whole s.room s.links.now s.texts.now
  w = whole s l i x a

  sizes : (y : ℕ) → 2050 ≤ y → Sized s.texts.now y
  sizes = all_sized s.room s.links.now s.texts.now (stands s) s.exact

  -- no other ring has x
  ring_of : (m : ℕ) → m < 2050 → In x (Q m) → m ≡ l
  ring_of m h k =
      let p = place_of x (Q m) (has_from x (Q m) k) in
      let q = ringed s l i x a in
      (rings_apart 2050 (node_count s.room) s.links.now w.held m l p.0 i h (let z = literal s l i x a in omega arith) p.1.0 q.0 (p.1.1 ∙ sym q.1)).0

  -- what held of the slots of a ring holds still
  each : (P P' : ℕ → ℕ → Type 0) (m : ℕ) → m < 2050 → P' l x → ((y : ℕ) → 2050 ≤ y → (y ≡ x → ⊥) → P m y → P' m y) → AllByRecursion (P m) (Q m) → AllByRecursion (P' m) (Q m)
  each P P' m h here there al =
      in_all (P' m) (Q m) (λ y k. elim (cases_eq y x) [
        | inl e ↦ subst (P' m) (sym e) (subst (λ (j : ℕ). P' j x) (sym (ring_of m h (subst (λ (z : ℕ). In z (Q m)) e k))) here)
        | inr ne ↦
            let p = place_of y (Q m) (has_from y (Q m) k) in
            let b = (slot_at 2050 (node_count s.room) s.links.now w.held m p.0 h p.1.0).0 in
            let e = p.1.1 in
            there y (omega arith) ne (all_in (P m) (Q m) al y k)
      ])

  anew_whole : Whole s.room s.links.now ts
  anew_whole = record {
    long = w.long;
    held = w.held;
    housed = λ y b c.
        let e : home ts y ≡ home s.texts.now y = elim (cases_eq y x) [ inl e ↦ ap (home ts) e ∙ n.named ∙ ap (home s.texts.now) (sym e) | inr ne ↦ beside_home s.texts.now ts x (slot s l i x a).0 n.only y b ne ] in
        rw e (w.housed y b c);
    sizes = λ m h. each (λ _. Sized s.texts.now) (λ _. Sized ts) m h n.size (λ y b ne z. sized_same s.texts.now ts y n.only.long (beside_body s.texts.now ts x (slot s l i x a).0 n.only y b ne) z) (w.sizes m h);
    wells = λ m h. each (λ _ y. well_formed (clause_in s.texts.now y) ≡ true) (λ _ y. well_formed (clause_in ts y) ≡ true) m (omega arith) n.well (λ y b ne z. ap well_formed (beside_clause s.texts.now ts x (slot s l i x a).0 n.only sizes y ne) ∙ z) (w.wells m h);
    ends = λ m h. each (λ m y. last (clause_in s.texts.now y) ≡ m) (λ m y. last (clause_in ts y) ≡ m) m (omega arith) n.end (λ y b ne z. ap last (beside_clause s.texts.now ts x (slot s l i x a).0 n.only sizes y ne) ∙ z) (w.ends m h);
    bounded = λ m h. each (λ _ y. AllByRecursion (λ k. k < 2048) (lost_in s.texts.now y)) (λ _ y. AllByRecursion (λ k. k < 2048) (lost_in ts y)) m (omega arith) n.bounded (λ y b ne z. rw (beside_lost s.texts.now ts x (slot s l i x a).0 n.only sizes y ne) z) (w.bounded m h);
    sized = w.sized;
  }

  pub anew_kept : Facts s.room s.links.now ts s.live
  anew_kept = record { small = s.small; exact = n.only.long ∙ s.exact; alive = s.alive; whole = ∣ (λ _. anew_whole) ∣₁ }
