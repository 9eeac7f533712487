use Rattle.std.proofs.Common.{◌+◌, [], arith, refl, ap, sym, ◌∙◌}
use Rattle.rules.specs.Const.{const_node}
use Rattle.rules.specs.Work.{each}
use Rattle.rules.proofs.Passes.{const_node_keeps}
use Rattle.simplifier.specs.Shown.{work_of}
use Rattle.constants.proofs.Nodes.{nodes_from, nodes_all, nodes_first, nodes_none}
use Rattle.constants.proofs.pass.take_turns.Goals as goal

pub loop-n-init : goal.loop-n-init
loop-n-init g c = (λ out. ap (λ ns. each const_node ns (work_of g.S.Lists.meaning c.args.s.now out)) (nodes_all c.args.s.now.top), refl, refl)

pub loop-n-preserved : goal.loop-n-preserved
loop-n-preserved g c =
    let top = c.args.s.now.top in
    let n = c.loop-n.n in (
      λ out.
          ap (each const_node (nodes_from top (n + 1))) (c.take_turn.ensures.makes out)
          ∙ sym (nodes_first const_node top n (work_of g.S.Lists.meaning c.loop-n.s out) (omega arith) (omega arith)) ∙ c.loop-n.invariant.0 out,
      ap (λ W. W.store.room) (c.take_turn.ensures.makes []) ∙ (const_node_keeps n (work_of g.S.Lists.meaning c.loop-n.s []) (g.met.S.Lists.lawful c.loop-n.s.store)).1 ∙ c.loop-n.invariant.1,
      c.take_turn.ensures.kept ∙ c.loop-n.invariant.2,
    )

pub returns-clause-makes : goal.returns-clause-makes
returns-clause-makes g c out =
    ap (λ ns. each const_node ns (work_of g.S.Lists.meaning c.loop-n.s out)) (sym (nodes_none c.args.s.now.top c.loop-n.n (omega arith))) ∙ c.loop-n.invariant.0 out
