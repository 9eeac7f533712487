use Rattle.work.proofs.Reaching.{compared}
use Rattle.work.proofs.compare.compared.Goals as goal

pub returns : goal.returns
returns g c e =
    let a = c.args.a.now in
    let b = c.args.b.now in
    compared g.S.Lists.meaning g.T.Lists.meaning a.image.now b.image.now a.simplifier b.simplifier a.reached b.reached e
