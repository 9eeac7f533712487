use Rattle.std.proofs.Common.{true, false, ◌∙◌, ap}
use Rattle.network.specs.Assignments.{opposite}
use Rattle.clause.specs.Types.{values_of}
use Rattle.handing_out.proofs.Alone.{negative, alone, unvalued, known}
use Rattle.handing_out.proofs.measure.only_literal.Goals as goal

pub returns-in-True : goal.returns-in-True
returns-in-True g c =
    let w = c.from-positive.ensures in
    alone c.args.node _ (values_of c.args.s.now.values) true c.from-positive.result.word c.if-not-s-node.false (known _ _ _ w c.in-True.ensures) w

pub returns-in-False : goal.returns-in-False
returns-in-False g c =
    let w = c.from-positive.ensures in
    alone c.args.node _ (values_of c.args.s.now.values) false c.opposite.result.word c.if-not-s-node.false (known _ _ _ w c.in-False.ensures) (c.opposite.ensures ∙ ap opposite w ∙ negative c.args.node)

pub returns-in-Unknown : goal.returns-in-Unknown
returns-in-Unknown g c = unvalued c.args.node _ (values_of c.args.s.now.values) (known _ _ _ c.from-positive.ensures c.in-Unknown.ensures)
