use Rattle.std.proofs.Common.{◌≡◌, true, false, ◌||◌}
use Rattle.network.specs.Assignments.{put}
use Rattle.image.specs.Runs.{whole}
use Rattle.network.specs.Rows.{row}
use Rattle.intake.proofs.Searching.{SoFar, RowsPassed}
use Rattle.intake.proofs.search.search_rows.Given as goal

abbrev pub invariant-loop-clause : goal.invariant-loop-clause
invariant-loop-clause l =
    (goal.iterator-loop-clause).can_next l.clause-iterator × (goal.iterator-loop-clause).is_finite l.clause-iterator
    × (l.clash ≡ false)
    × (whole l.clause-iterator.left.now ≡ true)
    × (SoFar (put (row l.low l.number) l.run.run.node false) l.run.run.words.now l.clause-iterator.left.now l.off)
    × (SoFar (put (row l.low l.number) l.run.run.node true) l.run.run.words.now l.clause-iterator.left.now l.on)
    × ((l.off || l.on) ≡ true)

abbrev pub invariant-rows : goal.invariant-rows
invariant-rows l = (l.clash ≡ false) × RowsPassed l.low l.run.run.node l.run.run.words.now l.number l.loose
