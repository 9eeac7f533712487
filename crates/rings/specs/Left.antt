-- What an iterator along a ring has left. Assumes nothing.
use Rattle.std.specs.Prelude.{ℕ, List}
use Rattle.rings.specs.Rings.{next, walk}
use Rattle.rings.specs.declared.Slots.{Slots}

-- the slots that are left
abbrev pub slots_left : Slots → List ℕ
slots_left s = walk (next s.words.now) s.heads s.left s.at
