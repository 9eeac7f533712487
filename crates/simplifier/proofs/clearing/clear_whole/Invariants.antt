use Rattle.std.proofs.Common.{◌≡◌, length}
use Rattle.rules.specs.Work.{clear_all}
use Rattle.simplifier.proofs.Cursors.{Cursor}
use Rattle.simplifier.proofs.clearing.clear_whole.Given as goal

abbrev pub invariant-loop-first : goal.invariant-loop-first
invariant-loop-first g l =
    (clear_all l.l (g.S.Lists.meaning l.store) ≡ clear_all l.l (g.S.Lists.meaning l.fn.store)) × Cursor (g.S.Lists.at l.store) (g.S.Lists.meaning l.store) l.l 0 l.first

abbrev pub decreases-loop-first : goal.decreases-loop-first
decreases-loop-first g l = length ((g.S.Lists.meaning l.store).own l.l)
