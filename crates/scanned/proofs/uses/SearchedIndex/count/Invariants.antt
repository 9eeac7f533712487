use Rattle.std.proofs.Common.{◌≡◌, ℕ, ◌+◌, ◌<◌, length, map}
use Rattle.std.specs.List.{AllByRecursion}
use Rattle.rings.specs.Left.{slots_left}
use Rattle.owned.specs.Lists.{listed}
use Rattle.scanned.specs.Sequence.{listed_at, slot_of, used_in}
use Rattle.scanned.proofs.uses.SearchedIndex.count.Given as goal

abbrev pub invariant-loop-m : goal.invariant-loop-m
invariant-loop-m l =
    (goal.iterator-loop-m).can_next l.m-iterator × (goal.iterator-loop-m).is_finite l.m-iterator
    × (AllByRecursion (λ m. m < l.self.room + 1) (slots_left l.m-iterator))
    × (l.n + length (listed_at (listed l.own) l.k (map slot_of (slots_left l.m-iterator))) ≡ length (used_in l.self.room l.self.words.now (listed l.own) l.k))
