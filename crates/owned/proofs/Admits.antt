-- A clause put into a free slot. Assumes nothing.
use Rattle.std.proofs.Common.{◌≡◌, ℕ, ◌+◌, ◌<◌, ◌≤◌, Bool, true, false, ◌&&◌, ltb, List, [], ◌∷◌, ◌++◌, length, get_or, take, set, Some, None, sym, ap, ◌∙◌, subst, arith}
use Rattle.std.specs.List.{AllByRecursion}
use Rattle.std.proofs.lemmas.Bool.{lt-ltb, le-ltb, and_from, and_right}
use Rattle.std.proofs.lemmas.List.{drop-set-lt, get_or-set_other, get_or-set_same, length_push}
use Rattle.rings.specs.Rings.{drop_at, shifted, slot_after, Lacks, Place}
use Rattle.rings.proofs.Bounds.{place_in}
use Rattle.network.specs.Clauses.{front, last, well_formed}
use Rattle.rules.proofs.Formed.{Formed, formed_parts}
use Rattle.owned.specs.declared.owned.Owned.{Owned}
use Rattle.owned.specs.Totals.{total}
use Rattle.owned.specs.Layout.{node_count, rg, text_at, home, clause_in, lost_in, own_at, Whole, Written}
use Rattle.owned.specs.Lists.{kept}
use Rattle.owned.specs.Effects.{Admitted}
use Rattle.owned.proofs.Besides.{Beside, beside_listings, beside_rewritten, beside_set, beside_texts, clause_by, listed_by, none_lost}
use Rattle.owned.proofs.Goes.{Went, first_none, first_some, shift_went, went_else, went_to, went_whole}
use Rattle.owned.proofs.Leaves.{Facts}
use Rattle.owned.proofs.Stands.{stands}
use Rattle.owned.proofs.Texts.{all_sized}
use Rattle.owned.proofs.Totals.{total_at}
use Rattle.owned.proofs.Wholes.{kept_free, lost_by, lost_is, own_by, own_changed, own_total, ring_lacks}

-- the first free slot, if there is one
module _ (s : Owned) (some : 0 < s.room) where
  abbrev links : List ℕ
  links = s.links.now

  abbrev Q : ℕ → List ℕ
  Q l = rg s.room links l

  whole : Whole s.room links s.texts.now
  whole = stands s some

  pub free_none : None ≡ slot_after 2050 links 2048 → length (Q 2048) ≡ 0
  free_none e = ap length (first_none s.room links whole.held 2048 (omega arith) e)

  pub free_some : (x : ℕ) → Some x ≡ slot_after 2050 links 2048 → Place 2050 (node_count s.room) links 2048 0 x
  free_some = first_some s.room links whole.held 2048 (omega arith)

  -- when the slots are all in use
  pub free_full : length (Q 2048) ≡ 0 → (b : Bool) → (b && ltb (kept s) s.room) ≡ false
  free_full z b = let k = kept_free s.room links s.texts.now (stands s) some in and_right b (ltb (kept s) s.room) (le-ltb (kept s) s.room (omega arith))

  pub free_fits : 0 < length (Q 2048) → (b : Bool) → b ≡ true → (b && ltb (kept s) s.room) ≡ true
  free_fits z b t = let k = kept_free s.room links s.texts.now (stands s) some in and_from b (ltb (kept s) s.room) t (lt-ltb (kept s) s.room (omega arith))

  pub live_few : s.live ≤ s.room
  live_few = let k = kept_free s.room links s.texts.now (stands s) some in let e = s.alive in omega arith

  module _ (x : ℕ) (p : Place 2050 (node_count s.room) links 2048 0 x) where
    pub free_slot : (2050 ≤ x) × (x < 2050 + s.room)
    free_slot = let a = place_in 2050 (node_count s.room) links 2048 0 x p in let a0 = a.0 in let a1 = a.1 in (omega arith, omega arith)

    pub free_inside : text_at x + 35 ≤ length s.texts.now
    free_inside = let p = free_slot.0 in let q = free_slot.1 in let e = s.exact in omega arith

    free_lacks : (l : ℕ) → l < 2050 → (l ≡ 2048 → ⊥) → Lacks x (Q l)
    free_lacks l h n = subst (λ (y : ℕ). Lacks y (Q l)) p.is (ring_lacks s.room links s.texts.now (stands s) some 2048 0 l (omega arith) h p.within n)

    -- with the clause C
    module _ (C : List ℕ) (good : well_formed C ≡ true) (us : List ℕ) (wr : Written s.texts.now us (text_at x) C) where
      abbrev c : ℕ
      c = last C

      f : Formed C
      f = formed_parts C good

      abbrev new : List ℕ
      new = shifted links c x

      abbrev ts : List ℕ
      ts = set us (text_at x) c

      went : Went s.room links new 2048 0 x (drop_at 0 (Q 2048)) c
      went = shift_went s.room links 2048 0 x c p (let z = f.small in omega arith) (let z = f.small in λ q. omega arith)

      only : Beside s.texts.now ts (text_at x)
      only = beside_set s.texts.now us (text_at x) (text_at x) c (record { long = wr.long; low = wr.low; high = wr.high }) (omega arith) (omega arith)

      named : home ts x ≡ c
      named = let z = free_inside in let l = wr.long in get_or-set_same us (text_at x) c 0 (omega arith)

      size : get_or ts (text_at x + 1) 0 ≡ length C
      size = get_or-set_other us (text_at x) (text_at x + 1) c 0 (λ e. omega arith) ∙ wr.size

      was : get_or ts (text_at x + 2) 0 ≡ length C
      was = get_or-set_other us (text_at x) (text_at x + 2) c 0 (λ e. omega arith) ∙ wr.was

      here : clause_in ts x ≡ C
      here = clause_by ts x (length C) C free_slot.0 size (ap (take (length C)) (drop-set-lt (text_at x + 3) us (text_at x) c (omega arith)) ∙ wr.text)

      none : lost_in ts x ≡ []
      none = none_lost ts x (length C) free_slot.0 size was

      whole' : Whole s.room new ts
      whole' =
          went_whole went s.texts.now ts whole (beside_rewritten s.texts.now ts x c free_slot.0 only named (let a = size in let b = was in let z = f.short in (omega arith, omega arith)) (λ q. (ap well_formed here ∙ good, ap last here, subst (AllByRecursion (λ k. k < 2048)) (sym none) tt)))

      more : total 2048 (λ l. length (own_at s.room new l)) ≡ s.live + 1
      more =
          let z = f.small in
          let t = total_at 2048 (λ n. length (Q n)) (λ n. length (rg s.room new n)) c f.small (λ n k ne. ap length (went_else went n (omega arith) (λ q. omega arith) ne)) in
          let e = ap length (went_to went) ∙ length_push (Q c) x in
          let a = own_total s.room links some in
          let b = own_total s.room new some in
          let d = s.alive in
          omega arith

      -- as the code writes it, where h is the last literal and b the place of the slot's words
      pub admitted_kept : (vs : List ℕ) (h b : ℕ) → h ≡ c → b ≡ text_at x → vs ≡ shifted links h x → Facts s.room vs (set us b h) (s.live + 1)
      admitted_kept vs h b e k g =
          let q : vs ≡ new = g ∙ ap (λ (n : ℕ). shifted links n x) e in
          rw (q, e, k) (record { small = s.small; exact = only.long ∙ s.exact; alive = sym more; whole = ∣ (λ _. whole') ∣₁ })

      pub admitted : (h b : ℕ) → h ≡ c → b ≡ text_at x → (t : Owned) → t.room ≡ s.room → t.links.now ≡ shifted links h x → t.texts.now ≡ set us b h → Admitted x C s t
      admitted h b e k t r g w =
          let q : t.links.now ≡ new = g ∙ ap (λ (n : ℕ). shifted links n x) e in
          let v : t.texts.now ≡ ts = w ∙ ap (λ (n : ℕ). set us n h) k ∙ ap (set us (text_at x)) e in
          let z = f.small in
          let sizes = all_sized s.room links s.texts.now (stands s) s.exact in
          record {
            slot = free_slot;
            room = r;
            fresh = own_by (λ l xs. Lacks x xs) s.room links (λ l. tt) (λ _ l h. free_lacks l (omega arith) (λ q. omega arith));
            found = lost_by (λ xs. Lacks x xs) s.room links tt (λ _. free_lacks 2049 (omega arith) (λ q. omega arith));
            owns = λ l. rw (r, q) (own_changed s.room links some new c (λ ys. ys ++ (x ∷ [])) f.small (went_to went) (λ n k ne. went_else went n (omega arith) (λ q. omega arith) ne) l);
            losts = rw (r, q) (lost_is s.room new some ∙ went_else went 2049 (omega arith) (λ q. omega arith) (λ q. omega arith) ∙ sym (lost_is s.room links some));
            texts = λ y. rw v (beside_texts s.texts.now ts x free_slot.0 only sizes C here y);
            listings = λ y. rw v (beside_listings s.texts.now ts x free_slot.0 only sizes (front C) (listed_by ts x C here none) y);
          }
