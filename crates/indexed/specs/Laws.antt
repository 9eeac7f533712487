-- What holds of every such index. Assumes nothing.
use Rattle.std.specs.Prelude.{◌≡◌, ℕ, ◌<◌, length}
use Rattle.indexed.specs.Facts.{sensible_is, sound, within_is}
use Rattle.slotted.specs.Indexes.{Alike, Listing, Sensible}
use Rattle.indexed.specs.Links.{Stands, joined_in, used_in}
use Rattle.indexed.specs.declared.linked.Linked.{Linked}
use Rattle.indexed.specs.declared.uses.IndexedUse.{IndexedUse}

-- it is one
pub sensible : (s : Linked) → Sensible (joined_in s.room s.words.now) (λ L. used_in s.room s.words.now)
sensible s = sensible_is s.room s.words.now (sound s.sound)

-- a use stands where it stood if slots are listed alike
pub stays : (s : Linked) (L M : Listing) → Alike (joined_in s.room s.words.now) L M → (u : IndexedUse) (k j : ℕ) → Stands s.room s.words.now u.node k j → Stands s.room s.words.now u.node k j
stays s L M alike u k j st = st

-- a use stands at a place that is there
pub within : (s : Linked) (L : Listing) (u : IndexedUse) (k j : ℕ) → Stands s.room s.words.now u.node k j → j < length (used_in s.room s.words.now k)
within s L u k j st = within_is s.room s.words.now u.node k j st
