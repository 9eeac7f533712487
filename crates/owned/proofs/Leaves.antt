-- A slot that left its own list, to be free or lost. Assumes nothing.
use Rattle.std.proofs.Common.{◌≡◌, ℕ, ◌+◌, ◌-◌, ◌*◌, ◌<◌, ◌≤◌, List, [], ◌∷◌, ◌++◌, length, get_or, set, Option, Some, None, sym, ap, ◌∙◌, arith}
use Rattle.rings.specs.Rings.{at, Place}
use Rattle.owned.specs.declared.owned.Owned.{Owned}
use Rattle.owned.specs.Totals.{total}
use Rattle.owned.specs.Layout.{node_count, rg, text_at, own_at, lost_at, Whole, Sound}
use Rattle.owned.specs.Lists.{At, own, lost}
use Rattle.owned.specs.Effects.{SameTexts}
use Rattle.owned.proofs.Goes.{Went, went_else, went_from, went_to, went_whole}
use Rattle.owned.proofs.Moves.{head_rewritten}
use Rattle.owned.proofs.Texts.{all_clauses, all_listed, head_body, head_length}
use Rattle.owned.proofs.Totals.{total_at, total_ge}
use Rattle.owned.proofs.Wholes.{at_literal, at_ring, at_room, at_sizes, at_slot, lost_is, own_changed, own_total}
use Rattle.owned.proofs.Stands.{stands as all_stands}

-- the facts of own lists in these words
abbrev pub Facts : ℕ → List ℕ → List ℕ → ℕ → Type 0
Facts room links texts live = record { small : room ≤ 4096; exact : length texts ≡ 35 * room; alive : live ≡ total 2048 (λ l. length (own_at room links l)); whole : ∥ Sound room links texts ∥₁ }

-- what stands at place j, none being past the end
abbrev pub Found : List ℕ → ℕ → Option ℕ → Type 0
Found xs j o = elim o [ None ↦ length xs ≡ j | Some y ↦ (j < length xs) × (get_or xs j 0 ≡ y) ]

-- slot x at place i of the own list of l
module _ (s : Owned) (l i x : ℕ) (a : At s x l i) where
  abbrev links : List ℕ
  links = s.links.now

  abbrev texts : List ℕ
  texts = s.texts.now

  abbrev Q : ℕ → List ℕ
  Q n = rg s.room links n

  abbrev stands : Sound s.room links texts
  stands = all_stands s

  -- there is room, what is said of the words holds, and the slot and its words are there
  pub some : 0 < s.room
  some = at_room s.room links texts stands x l i a

  pub whole : Whole s.room links texts
  whole = stands some

  pub literal : l < 2048
  literal = at_literal s.room links texts stands x l i a

  pub ringed : (i < length (Q l)) × (get_or (Q l) i 0 ≡ x)
  ringed = at_ring s.room links texts stands x l i a

  pub slot : (2050 ≤ x) × (x < 2050 + s.room)
  slot = at_slot s.room links texts stands x l i a

  pub inside : text_at x + 35 ≤ length texts
  inside = let p = slot.0 in let q = slot.1 in let e = s.exact in omega arith

  pub stood : Place 2050 (node_count s.room) links l i x
  stood = record { held = whole.held; head = let p = literal in omega arith; within = ringed.0; is = ringed.1 }

  -- a clause is there to be taken out
  pub alive : 0 < s.live
  alive =
      let g = total_ge 2048 (λ n. length (own s n)) l literal in
      let p = a.0 in
      let e = s.alive in
      omega arith

  -- to head h, which its words tell
  module _ (h : ℕ) (b : (2048 ≤ h) × (h < 2050)) (f : List ℕ → List ℕ) (new : List ℕ) (g : Went s.room links new l i x (f (Q l)) h) where
    abbrev texts' : List ℕ
    texts' = set texts (text_at x) h

    pub left_whole : Whole s.room new texts'
    left_whole =
        went_whole g texts texts' whole (head_rewritten texts x h slot.0 (let z = inside in omega arith) b.0 (at_sizes s.room links texts stands x l i a))

    -- the own lists then, how many clauses they have, and the lost slots
    pub left_owns : (n : ℕ) → own_at s.room new n ≡ at (own s) l (f (own s l)) n
    left_owns = own_changed s.room links some new l f literal (went_from g) (λ n k ne. let b0 = b.0 in went_else g n (omega arith) ne (λ q. omega arith))

    pub left_live : total 2048 (λ n. length (own_at s.room new n)) + 1 ≡ s.live
    left_live =
        let t = total_at 2048 (λ n. length (Q n)) (λ n. length (rg s.room new n)) l literal (λ n k ne. let b0 = b.0 in ap length (went_else g n (omega arith) ne (λ q. omega arith))) in
        let e = ap length (went_from g) in
        let d = g.out.less in
        let p = own_total s.room links some in
        let q = own_total s.room new some in
        let r = s.alive in
        omega arith

    pub left_free : h ≡ 2048 → lost_at s.room new ≡ lost s
    left_free e = let p = literal in lost_is s.room new some ∙ went_else g 2049 (omega arith) (λ q. omega arith) (λ q. omega arith) ∙ sym (lost_is s.room links some)

    pub left_lost : h ≡ 2049 → lost_at s.room new ≡ lost s ++ (x ∷ [])
    left_lost e = lost_is s.room new some ∙ ap (rg s.room new) (sym e) ∙ went_to g ∙ ap (λ (n : ℕ). Q n ++ (x ∷ [])) e ∙ ap (λ (ys : List ℕ). ys ++ (x ∷ [])) (sym (lost_is s.room links some))

    -- the texts are those of before
    pub left_same : (t : Owned) → t.texts.now ≡ texts' → SameTexts s t
    left_same t e = record {
      texts = λ y. rw e (all_clauses s.room links texts texts' stands s.exact (head_length texts x h slot.0) (head_body texts x h slot.0) y);
      listings = λ y. rw e (all_listed s.room links texts texts' stands s.exact (head_length texts x h slot.0) (head_body texts x h slot.0) y);
    }

    pub left_kept : Facts s.room new texts' (s.live - 1)
    left_kept = record { small = s.small; exact = head_length texts x h slot.0 ∙ s.exact; alive = let e = left_live in omega arith; whole = ∣ (λ _. left_whole) ∣₁ }
