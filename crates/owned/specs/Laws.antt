-- What holds of all own lists, whatever was done to them. Assumes nothing.
use Rattle.std.specs.Prelude.{◌≡◌, ℕ, ◌+◌, ◌<◌, ◌≤◌, true, ◌≢◌, []}
use Rattle.std.specs.List.{AllByRecursion}
use Rattle.rings.specs.Rings.{Differ, Lacks}
use Rattle.network.specs.Clauses.{well_formed}
use Rattle.slots.specs.Slots.{Kept}
use Rattle.owned.specs.Lists.{At, kept, listed, lost, own, text}
use Rattle.owned.specs.declared.owned.Owned.{Owned}

-- x is one of the slots
abbrev pub IsSlot : Owned → ℕ → Type 0
IsSlot o x = (2050 ≤ x) × (x < 2050 + o.room)

-- own lists and lost slots stand
pub record OwnLaws (o : Owned) : Type 0 where
  -- each clause is in the list of its last literal, and no slot is twice in a list
  pub kept_so : Kept (own o) (text o)
  pub formed : (l : ℕ) → AllByRecursion (λ x. well_formed (text o x) ≡ true) (own o l)
  -- what is no literal has no list
  pub none : (l : ℕ) → 2048 ≤ l → own o l ≡ []
  -- uses have the slots of own lists at literals
  pub literals : (l : ℕ) → AllByRecursion (λ x. AllByRecursion (λ k. k < 2048) (listed o x)) (own o l)
  -- no slot is in two own lists, or owned and lost
  pub once : (x l i m j : ℕ) → At o x l i → At o x m j → (l ≡ m) × (i ≡ j)
  pub elsewhere : (x l i m : ℕ) → At o x l i → m ≢ l → Lacks x (own o m)
  pub found : (x l i : ℕ) → At o x l i → Lacks x (lost o)
  -- no slot is twice lost
  pub lost_once : Differ (lost o)
  pub owned_slots : (l : ℕ) → AllByRecursion (IsSlot o) (own o l)
  pub lost_slots : AllByRecursion (IsSlot o) (lost o)
  -- there are no more of them than there is room
  pub within : kept o ≤ o.room
  pub bare : o.room ≡ 0 → ((l : ℕ) → own o l ≡ []) × (lost o ≡ [])
  pub small : o.room ≤ 4096
