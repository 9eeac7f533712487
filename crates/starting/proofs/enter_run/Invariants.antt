use Rattle.std.proofs.Common.{◌≡◌, []}
use Rattle.image.specs.Runs.{clauses, left_of}
use Rattle.simplifier.specs.Shown.{work_of}
use Rattle.starting.proofs.Entering.{Left}
use Rattle.starting.proofs.enter_run.Given as goal

abbrev pub invariant-loop-clause : goal.invariant-loop-clause
invariant-loop-clause g l =
    (goal.iterator-loop-clause g).can_next l.clause-iterator × (goal.iterator-loop-clause g).is_finite l.clause-iterator
    × Left (clauses l.run.words.now) (left_of l.clause-iterator) (work_of g.S.Lists.meaning l.initial.s []) (work_of g.S.Lists.meaning l.s [])
    × (l.s.taken_out ≡ l.initial.s.taken_out)
