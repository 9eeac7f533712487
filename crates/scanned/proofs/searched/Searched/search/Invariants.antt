use Rattle.std.proofs.Common.{◌≡◌, ℕ, ◌+◌, ◌<◌, map}
use Rattle.std.specs.List.{AllByRecursion}
use Rattle.rings.specs.Left.{slots_left}
use Rattle.scanned.specs.Firsts.{first_of}
use Rattle.owned.specs.Lists.{listed}
use Rattle.scanned.specs.Sequence.{listed_at, nodes_behind, slot_of}
use Rattle.scanned.proofs.searched.Searched.search.Given as goal

abbrev pub invariant-loop-m : goal.invariant-loop-m
invariant-loop-m l =
    (goal.iterator-loop-m).can_next l.m-iterator × (goal.iterator-loop-m).is_finite l.m-iterator
    × (AllByRecursion (λ m. m < l.self.room + 1) (slots_left l.m-iterator))
    × (first_of (listed_at (listed l.own) l.k (map slot_of (slots_left l.m-iterator))) ≡ first_of (listed_at (listed l.own) l.k (map slot_of (nodes_behind l.self.room l.self.words.now l.n))))
