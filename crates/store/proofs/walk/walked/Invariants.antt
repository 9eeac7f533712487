use Rattle.std.proofs.Common.{◌≡◌, ◌-◌, ◌<◌, ◌≤◌, length, Some, None}
use Rattle.store.proofs.walk.walked.Given as goal

abbrev pub invariant-loop-at : goal.invariant-loop-at
invariant-loop-at g l =
    (l.i ≤ length ((g.S.Lists.meaning l.s).own l.l)) × elim l.at [
      | None ↦ l.i ≡ length ((g.S.Lists.meaning l.s).own l.l)
      | Some h ↦ (g.S.Lists.at l.s h l.l l.i) × (l.i < length ((g.S.Lists.meaning l.s).own l.l))
    ]

abbrev pub decreases-loop-at : goal.decreases-loop-at
decreases-loop-at g l = length ((g.S.Lists.meaning l.s).own l.l) - l.i
