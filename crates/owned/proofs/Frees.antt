-- The lost slots freed. Assumes nothing.
use Rattle.std.proofs.Common.{◌≡◌, ℕ, ◌+◌, ◌*◌, ◌<◌, ◌≤◌, List, [], length, set, sym, refl, ap, ◌∙◌, inl, inr, arith}
use Rattle.std.proofs.lemmas.Bool.{cases_lt}
use Rattle.rings.specs.Rings.{drop_at, shifted, Place}
use Rattle.rings.proofs.Bounds.{place_in}
use Rattle.owned.specs.Layout.{node_count, rg, text_at, lost_at, own_at, Whole, Sound, Kin}
use Rattle.owned.specs.Effects.{Freed}
use Rattle.owned.specs.Lists.{own}
use Rattle.owned.specs.declared.owned.Owned.{Owned}
use Rattle.owned.proofs.Goes.{Went, shift_went, went_else, went_from, went_whole}
use Rattle.owned.proofs.Moves.{head_rewritten}
use Rattle.owned.proofs.Texts.{all_clauses, all_lost, all_sized, head_body, head_length, listed_same}
use Rattle.owned.proofs.Leaves.{Facts}
use Rattle.owned.proofs.Totals.{total_same}
use Rattle.owned.proofs.Wholes.{own_bare, own_same}

-- what stays stays
pub kin_none : (room : ℕ) (links texts : List ℕ) → Kin room links texts links texts
kin_none room links texts = record { long = refl; owns = λ l h. refl; clauses = λ x. refl; losts = λ x. refl }

pub kin_then : (room : ℕ) (ls ts ls' ts' ls'' ts'' : List ℕ) → Kin room ls ts ls' ts' → Kin room ls' ts' ls'' ts'' → Kin room ls ts ls'' ts''
kin_then room ls ts ls' ts' ls'' ts'' a b = record { long = b.long ∙ a.long; owns = λ l h. b.owns l h ∙ a.owns l h; clauses = λ x. b.clauses x ∙ a.clauses x; losts = λ x. b.losts x ∙ a.losts x }

-- the first lost slot freed
module _ (room : ℕ) (links texts : List ℕ) (w : Whole room links texts) (exact : length texts ≡ 35 * room) (x : ℕ) (p : Place 2050 (node_count room) links 2049 0 x) where
  abbrev new : List ℕ
  new = shifted links 2048 x

  abbrev texts' : List ℕ
  texts' = set texts (text_at x) 2048

  sound : Sound room links texts
  sound _ = w

  slot : (2050 ≤ x) × (x < 2050 + room)
  slot = let a = place_in 2050 (node_count room) links 2049 0 x p in let a0 = a.0 in let a1 = a.1 in (omega arith, omega arith)

  abbrev left : List ℕ
  left = drop_at 0 (rg room links 2049)

  went : Went room links new 2049 0 x left 2048
  went = shift_went room links 2049 0 x 2048 p (omega arith) (λ q. omega arith)

  -- its words are there
  pub free_inside : text_at x < length texts
  free_inside = let a = slot.0 in let b = slot.1 in omega arith

  pub freed_whole : Whole room new texts'
  freed_whole = went_whole went texts texts' w (head_rewritten texts x 2048 slot.0 free_inside (omega arith) (all_sized room links texts sound exact x slot.0))

  pub freed_kin : Kin room links texts new texts'
  freed_kin =
      let l = head_length texts x 2048 slot.0 in
      let b = head_body texts x 2048 slot.0 in
      record {
        long = l;
        owns = λ m h. went_else went m (omega arith) (λ q. omega arith) (λ q. omega arith);
        clauses = all_clauses room links texts texts' sound exact l b;
        losts = all_lost room links texts texts' sound exact l b;
      }

  pub freed_shorter : length (rg room new 2049) < length (rg room links 2049)
  freed_shorter = let e = ap length (went_from went) in let d = went.out.less in omega arith

-- what is said of own lists with all lost slots freed
module _ (s : Owned) (links' texts' : List ℕ) (k : Kin s.room s.links.now s.texts.now links' texts') where
  freed_owns : (l : ℕ) → own_at s.room links' l ≡ own s l
  freed_owns l =
      elim (cases_lt 0 s.room) [
        | inl r ↦ own_same s.room s.links.now r links' k.owns l
        | inr z ↦ own_bare s.room links' l z ∙ sym (own_bare s.room s.links.now l z)
      ]

  pub freed_kept : Sound s.room links' texts' → Facts s.room links' texts' s.live
  freed_kept w = record { small = s.small; exact = k.long ∙ s.exact; alive = s.alive ∙ sym (total_same 2048 (λ l. length (own_at s.room links' l)) (λ l. length (own s l)) (λ l h. ap length (freed_owns l))); whole = ∣ w ∣₁ }

  pub freed : lost_at s.room links' ≡ [] → (t : Owned) → t.room ≡ s.room → t.links.now ≡ links' → t.texts.now ≡ texts' → Freed s t
  freed n t r e f = record {
    room = r;
    owns = λ m. rw (r, e) (freed_owns m);
    losts = rw (r, e) n;
    same = record { texts = λ x. rw f (k.clauses x); listings = λ x. rw f (listed_same s.texts.now texts' x (k.clauses x) (k.losts x)) };
  }
