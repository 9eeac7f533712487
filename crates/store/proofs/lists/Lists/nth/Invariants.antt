use Rattle.std.proofs.Common.{◌<◌, ◌≤◌, length, Some, None}
use Rattle.store.proofs.lists.Lists.nth.Given as goal

abbrev pub invariant-loop-k : goal.invariant-loop-k
invariant-loop-k g l =
    elim l.at [
      | None ↦ length ((g.Self.Lists.meaning l.self).own l.l) ≤ l._k
      | Some h ↦ (g.Self.Lists.at l.self h l.l l._k) × (l._k < length ((g.Self.Lists.meaning l.self).own l.l))
    ]
