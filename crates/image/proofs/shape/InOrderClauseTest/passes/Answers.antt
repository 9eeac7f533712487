use Rattle.std.proofs.Common.{rules, ltb}
use Rattle.network.specs.Assignments.{node}
use Rattle.std.proofs.lemmas.Fn.{always_returns_same}
use Rattle.image.proofs.Shapes.{in_order_is}
use Rattle.image.proofs.shape.InOrderClauseTest.passes.Goals as goal

pub returns : goal.returns
returns c = in_order_is c.args.clause.now _ (c.is_sorted_by.ensures.cases (λ x y. ltb (node x) (node y)) (always_returns_same _ _ _ (λ a r q k. search rules)))
