-- How own lists and an index go together. Assumes nothing.
use Rattle.std.specs.Prelude.{◌≡◌, ℕ, suc, ◌+◌, ◌*◌, Bool, true, false, ◌&&◌, ◌||◌, List, [], length, if◌then◌else◌, nat_lt}
use Rattle.std.specs.List.{AllByRecursion, list_any}
use Rattle.network.specs.Clauses.{has}
use Rattle.rules.specs.Store.{Meaning, literals}
use Rattle.owned.specs.Lists.{own, lost, text, listed}
use Rattle.owned.specs.declared.owned.Owned.{Owned}
use Rattle.slots.specs.Slots.{meant}
use Rattle.slotted.specs.Indexes.{Listing}

-- what own lists, the flag of an index and its uses mean
abbrev pub meaning_of : Owned → Bool → (Listing → ℕ → List ℕ) → Meaning
meaning_of o ix used = meant o.room ix (own o) (used (listed o)) (text o) (length (lost o))

-- the meaning of a store of this room without a clause
abbrev pub blank : ℕ → Meaning
blank room = record { room = room; indexed = false; own = λ l. []; uses = λ k. []; dead_clauses = 0 }

-- the room that own lists get, which are to have so much in so many words for links and for texts
abbrev pub room_in : ℕ → ℕ → ℕ → ℕ
room_in room links texts = if nat_lt room 4097 && (nat_lt (2 * room + 4099) links && nat_lt (35 * room) (suc texts)) then room else 0

-- an own list has slot x, or it is lost
abbrev pub is_kept : Owned → ℕ → Bool
is_kept o x = list_any (λ l. has x (own o l)) literals || has x (lost o)

-- the index goes with the own lists
pub record Tied (o : Owned) (ix : Bool) (joined : ℕ → Bool) (used : Listing → ℕ → List ℕ) : Type 0 where
  -- no free slot has joined
  pub kept : (x : ℕ) → joined x ≡ true → is_kept o x ≡ true
  -- while an index stands, each slot of an own list has joined if it is listed anywhere, and is used where it is listed
  pub joins : ix ≡ true → (l : ℕ) → AllByRecursion (λ x. joined x ≡ nat_lt 0 (length (listed o x))) (own o l)
  pub complete : ix ≡ true → (l k : ℕ) → AllByRecursion (λ x. has x (used (listed o) k) ≡ has k (listed o x)) (own o l)
  -- without one, none has joined, and none is lost
  pub off : ix ≡ false → ((x : ℕ) → joined x ≡ false) × (lost o ≡ [])
