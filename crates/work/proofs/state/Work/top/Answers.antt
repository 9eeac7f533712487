use Rattle.work.proofs.Reaching.{top_is}
use Rattle.work.proofs.state.Work.top.Goals as goal

pub returns-clause-image : goal.returns-clause-image
returns-clause-image g c = let w = c.args.self.now in top_is g.S.Lists.meaning w.image.now w.simplifier w.reached
