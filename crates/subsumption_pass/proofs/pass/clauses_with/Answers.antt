use Rattle.std.proofs.Common.{arith}
use Rattle.subsumption_pass.proofs.Whole.{sizes_few}
use Rattle.subsumption_pass.proofs.pass.clauses_with.Goals as goal

pub overflow_add-result : goal.overflow_add-result
overflow_add-result g c =
    let (u, o) = sizes_few (g.S.Lists.meaning c.args.s.now) (g.met.S.Lists.lawful c.args.s.now) (g.met.S.Lists.small c.args.s.now) c.args.x in
    omega (arith, u, o, c.count.ensures, c.own_len.ensures)

pub returns-clause-few : goal.returns-clause-few
returns-clause-few g c =
    let (u, o) = sizes_few (g.S.Lists.meaning c.args.s.now) (g.met.S.Lists.lawful c.args.s.now) (g.met.S.Lists.small c.args.s.now) c.args.x in
    omega (arith, u, o, c.count.ensures, c.own_len.ensures)
