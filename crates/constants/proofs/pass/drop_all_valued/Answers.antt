use Rattle.std.proofs.Common.{◌+◌, arith, refl, ap, sym, ◌∙◌}
use Rattle.rules.specs.Const.{const_drop}
use Rattle.rules.specs.Work.{each}
use Rattle.simplifier.specs.Shown.{work_of}
use Rattle.constants.proofs.Nodes.{nodes_from, nodes_all, nodes_first, nodes_none}
use Rattle.constants.proofs.pass.drop_all_valued.Goals as goal

pub loop-node-init : goal.loop-node-init
loop-node-init g c = (λ out. ap (λ ns. each const_drop ns (work_of g.S.Lists.meaning c.args.s.now out)) (nodes_all c.args.s.now.top), refl)

pub loop-node-preserved : goal.loop-node-preserved
loop-node-preserved g c =
    let top = c.args.s.now.top in
    let n = c.loop-node.node in (
      λ out.
          ap (each const_drop (nodes_from top (n + 1))) (c.drop_valued.ensures.makes out)
          ∙ sym (nodes_first const_drop top n (work_of g.S.Lists.meaning c.loop-node.s out) (omega arith) (omega arith)) ∙ c.loop-node.invariant.0 out,
      c.drop_valued.ensures.kept ∙ c.loop-node.invariant.1,
    )

pub returns-clause-makes : goal.returns-clause-makes
returns-clause-makes g c out =
    ap (λ ns. each const_drop ns (work_of g.S.Lists.meaning c.loop-node.s out)) (sym (nodes_none c.args.s.now.top c.loop-node.node (omega arith))) ∙ c.loop-node.invariant.0 out
