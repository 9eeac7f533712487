use Rattle.std.proofs.Common.{◌≡◌, length}
use Rattle.image.specs.Runs.{clauses_pass}
use Rattle.image.proofs.shape.check_clauses.Given as goal

abbrev pub invariant-loop-clause : goal.invariant-loop-clause
invariant-loop-clause g l = clauses_pass (g.T.ClauseTest.pass l.test) l.fault l.run.node l.walk.left.now ≡ clauses_pass (g.T.ClauseTest.pass l.test) l.fault l.run.node l.run.words.now

abbrev pub decreases-loop-clause : goal.decreases-loop-clause
decreases-loop-clause g l = length l.walk.left.now
