use Rattle.std.proofs.Common.{◌≡◌, ℕ, List, length, take}
use Rattle.simplifier.specs.Shown.{work_of}
use Rattle.simplifier.proofs.Cursors.{Cursor}
use Rattle.constants.proofs.Judges.{Grows, Judging}
use Rattle.constants.proofs.judging.judge_first.Given as goal

abbrev pub invariant-loop-mark : goal.invariant-loop-mark
invariant-loop-mark g l =
    ((out : List ℕ) → Judging (take (length l.fn.marks) ((g.S.Lists.meaning l.fn.s.store).own l.l)) (work_of g.S.Lists.meaning l.fn.s out) l.mark-index l.marks (work_of g.S.Lists.meaning l.s out))
    × Grows (g.S.Lists.meaning l.fn.s.store) (g.S.Lists.meaning l.s.store)
    × Cursor (g.S.Lists.at l.s.store) (g.S.Lists.meaning l.s.store) l.l l.mark-index l.at
    × (l.s.taken_out ≡ l.fn.s.taken_out)
