use Rattle.std.proofs.Common.{length, arith}
use Rattle.store.proofs.Walks.{walked_step, walked_live}
use Rattle.store.proofs.walk.walked_all.Goals as goal

pub loop-l-preserved : goal.loop-l-preserved
loop-l-preserved g c =
    (walked_step (λ k. length ((g.S.Lists.meaning c.args.s.now).own k)) c.loop-l.n c.loop-l.l c.walked.result c.loop-l.invariant.0 c.walked.ensures, let b = c.loop-l.invariant.1 in omega arith)

pub returns : goal.returns
returns g c = walked_live (g.S.Lists.meaning c.args.s.now) c.loop-l.n c.loop-l.l c.loop-l.invariant.0 (omega arith)
