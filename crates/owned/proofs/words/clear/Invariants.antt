use Rattle.std.proofs.Common.{◌≡◌, ◌*◌, length}
use Rattle.owned.specs.Layout.{Filled}
use Rattle.owned.proofs.words.clear.Given as goal

abbrev pub invariant-loop-i : goal.invariant-loop-i
invariant-loop-i l = record { filled : Filled l.room l.links l.texts l.i; exact : length l.texts ≡ 35 * l.room }
