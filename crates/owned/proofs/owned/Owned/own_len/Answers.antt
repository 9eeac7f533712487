use Rattle.std.proofs.Common.{length, ap, inl, arith}
use Rattle.std.proofs.lemmas.Iterator.Consumers.{count_from_yields_List}
use Rattle.rings.proofs.Gives.{gives}
use Rattle.owned.specs.Lists.{own}
use Rattle.owned.proofs.Stands.{own_few}
use Rattle.owned.proofs.owned.Owned.own_len.Goals as goal

pub count-requires-clause-fits : goal.count-requires-clause-fits
count-requires-clause-fits c = let s = c.args.self.now in let e = ap length c.own.ensures in let n = own_few s c.args.l in let z = s.small in inl (omega arith)

pub overflow_cast-result : goal.overflow_cast-result
overflow_cast-result c =
    let s = c.args.self.now in
    let n = own_few s c.args.l in
    let z = s.small in
    let e = count_from_yields_List c.own.result c.count.result c.count.ensures.ran (gives c.own.result (own s c.args.l) c.own.ensures) in
    omega arith
