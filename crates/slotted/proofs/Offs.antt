-- A store without an index, and one without a clause. Assumes nothing.
use Rattle.std.proofs.Common.{◌≡◌, ℕ, suc, ◌+◌, ◌*◌, ◌≤◌, Bool, false, ◌&&◌, ltb, List, [], map, length, sym, refl, ap, ◌∙◌, subst, arith}
use Rattle.std.proofs.lemmas.Bool.{both_ways, cond_both}
use Rattle.rules.specs.Store.{index_off}
use Rattle.rules.specs.Lawful.{Lawful}
use Rattle.rules.proofs.Lawful.{emptied_lawful, index_off_lawful}
use Rattle.slots.proofs.Slots.{same_meaning}
use Rattle.owned.specs.declared.owned.Owned.{Owned}
use Rattle.owned.specs.Effects.{Freed}
use Rattle.slotted.specs.Indexes.{Listing}
use Rattle.owned.specs.Lists.{listed, lost, own, text}
use Rattle.slotted.specs.Tied.{blank, meaning_of, room_in}
use Rattle.slotted.proofs.Stands.{Facts, Ties, facts, meaning_is}

-- own lists get no more room than they are to have
pub room_few : (room links texts : ℕ) → room_in room links texts ≤ room
room_few room links texts = cond_both (ltb room 4097 && (ltb (2 * room + 4099) links && ltb (35 * room) (suc texts))) room 0 (λ (n : ℕ). n ≤ room) (λ e. omega arith) (λ e. omega arith)

-- no slot has joined, and none is lost
module _ (t : Owned) (j' : ℕ → Bool) (u' : Listing → ℕ → List ℕ) (none : (y : ℕ) → j' y ≡ false) (gone : lost t ≡ []) (uses : (L : Listing) (k : ℕ) → u' L k ≡ []) where
  off_ties : Ties t false j' u'
  off_ties = record {
    kept = λ y e. absurd (both_ways (j' y) (none y) e);
    joins = λ on. absurd (both_ways false refl on);
    complete = λ on. absurd (both_ways false refl on);
    off = λ e. (none, gone);
  }

  -- no own list has a slot
  module _ (room : ℕ) (same : t.room ≡ room) (owns : (l : ℕ) → own t l ≡ []) where
    pub blank_meaning : meaning_of t false u' ≡ blank room
    blank_meaning =
        meaning_is t false u' room (own t) (λ k. []) (text t) 0 same (λ l. refl) (uses (listed t)) (λ y. refl) (ap length gone)
        ∙ same_meaning room false _ _ _ _ 0 0 (λ l. ap (map (text t)) (owns l)) (λ k. refl) refl

    pub blank_facts : (slots : ℕ) → room ≤ slots → Facts t false slots j' u'
    blank_facts slots f = facts t false slots j' u' (omega arith) off_ties (subst Lawful (sym blank_meaning) (emptied_lawful (blank room)))

  -- the lost slots of s are free
  module _ (s : Owned) (ix : Bool) (u : Listing → ℕ → List ℕ) (F : Freed s t) where
    pub off_meaning : meaning_of t false u' ≡ index_off (meaning_of s ix u)
    unfolding index_off
    off_meaning =
        meaning_is t false u' s.room (own s) (λ k. []) (text s) 0 F.room F.owns (uses (listed t)) F.same.texts (ap length gone)

    pub off_facts : Lawful (meaning_of s ix u) → (slots : ℕ) → s.room ≤ slots → Facts t false slots j' u'
    off_facts L slots f = facts t false slots j' u' (let e = F.room in omega arith) off_ties (subst Lawful (sym off_meaning) (index_off_lawful (meaning_of s ix u) L))
