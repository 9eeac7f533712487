-- What holds of every such index. Assumes nothing.
use Rattle.std.specs.Prelude.{◌≡◌, ℕ, ◌<◌, length}
use Rattle.scanned.specs.Facts.{sensible_is, sound, stays_is}
use Rattle.slotted.specs.Indexes.{Alike, Listing, Sensible}
use Rattle.scanned.specs.Sequence.{Stands, joined_in, used_in}
use Rattle.scanned.specs.declared.searched.Searched.{Searched}
use Rattle.scanned.specs.declared.uses.ScannedUse.{ScannedUse}

-- it is one
pub sensible : (s : Searched) → Sensible (joined_in s.room s.words.now) (used_in s.room s.words.now)
sensible s = sensible_is s.room s.words.now (sound s.sound)

-- a use stands where it stood if slots are listed alike
pub stays : (s : Searched) (L M : Listing) → Alike (joined_in s.room s.words.now) L M → (u : ScannedUse) (k j : ℕ) → Stands s.room s.words.now L u.slot k j → Stands s.room s.words.now M u.slot k j
stays s L M alike u = stays_is s.room s.words.now (sound s.sound) L M alike u.slot

-- a use stands at a place that is there
pub within : (s : Searched) (L : Listing) (u : ScannedUse) (k j : ℕ) → Stands s.room s.words.now L u.slot k j → j < length (used_in s.room s.words.now L k)
within s L u k j st = st.0
