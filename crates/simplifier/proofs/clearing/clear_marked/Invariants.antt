use Rattle.std.proofs.Common.{◌≡◌, ◌-◌, ◌≤◌, length}
use Rattle.rules.specs.Work.{clear, cleared}
use Rattle.simplifier.specs.Marks.{marked}
use Rattle.simplifier.proofs.Clearings.{marks_below}
use Rattle.simplifier.proofs.Cursors.{Cursor}
use Rattle.simplifier.proofs.clearing.clear_marked.Given as goal

abbrev pub invariant-loop-at : goal.invariant-loop-at
invariant-loop-at g l =
    (cleared (length ((g.S.Lists.meaning l.store).own l.l) - l.i) l.l l.i (marks_below l.left l.marks) (g.S.Lists.meaning l.store) ≡ clear l.l (marked l.fn.marks) (g.S.Lists.meaning l.fn.store))
    × (length ((g.S.Lists.meaning l.store).own l.l) ≤ l.left) × Cursor (g.S.Lists.at l.store) (g.S.Lists.meaning l.store) l.l l.i l.at

abbrev pub decreases-loop-at : goal.decreases-loop-at
decreases-loop-at g l = length ((g.S.Lists.meaning l.store).own l.l) - l.i
