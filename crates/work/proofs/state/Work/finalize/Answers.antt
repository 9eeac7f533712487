use Rattle.work.proofs.Answering.{faithful_front, refused_front}
use Rattle.work.proofs.Reaching.{faithful}
use Rattle.work.proofs.state.Work.finalize.Goals as goal

pub returns-clause-faithful : goal.returns-clause-faithful
returns-clause-faithful g c =
    let w = c.args.self.now in
    faithful_front g.S.Lists.meaning w.simplifier c.finalize.result c.args.out.now c.finalize.new.out c.finalize.ensures.answer c.finalize.ensures.words w.image.now (faithful g.S.Lists.meaning w.image.now w.simplifier w.reached)

pub returns-clause-refused : goal.returns-clause-refused
returns-clause-refused g c = refused_front g.S.Lists.meaning c.args.self.now.simplifier c.finalize.result c.args.out.now c.finalize.new.out c.finalize.ensures.answer c.finalize.ensures.words
