use Rattle.std.proofs.Common.{◌≡◌, ◌*◌, length}
use Rattle.owned.specs.Layout.{Kin, Whole, rg}
use Rattle.owned.proofs.words.free_all.Given as goal

abbrev pub invariant-loop-x : goal.invariant-loop-x
invariant-loop-x l = record { whole : Whole l.room l.links l.texts; exact : length l.texts ≡ 35 * l.room; kin : Kin l.room l.initial.links l.initial.texts l.links l.texts }

abbrev pub decreases-loop-x : goal.decreases-loop-x
decreases-loop-x l = length (rg l.room l.links 2049)
