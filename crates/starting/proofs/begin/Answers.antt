use Rattle.std.proofs.Common.{suc, [], ◌∙◌, arith}
use Rattle.simplifier.specs.Shown.{work_of}
use Rattle.starting.proofs.Nodes.{entered_more, entered_all, run_whole, run_short}
use Rattle.starting.proofs.begin.Goals as goal

pub enter_run-requires-clause-whole : goal.enter_run-requires-clause-whole
enter_run-requires-clause-whole g c = run_whole c.args.intake.now.image.now c.args.intake.now.right c.loop-node.node c.run.result.words.now c.run.ensures.words

pub enter_run-requires-clause-short : goal.enter_run-requires-clause-short
enter_run-requires-clause-short g c =
    let (k, e, l, w) = c.loop-node.invariant.upto in
    run_short c.args.intake.now.image.now c.args.intake.now.right c.loop-node.node c.run.result.words.now c.run.ensures.words k e

pub loop-node-preserved : goal.loop-node-preserved
loop-node-preserved g c =
    let (k, e, l, w) = c.loop-node.invariant.upto in
    record {
      upto = (
        suc k,
        omega arith,
        omega (arith, c.top-node-end.ensures.answer),
        entered_more c.args.intake.now.image.now c.args.intake.now.frozen (g.S.Lists.meaning c.args.store) k c.loop-node.node c.run.result.words.now (work_of g.S.Lists.meaning c.loop-node.s [])
            (work_of g.S.Lists.meaning c.enter_run.new.s []) e c.run.ensures.words w c.enter_run.ensures.entered,
      );
      none_out = c.enter_run.ensures.none_out ∙ c.loop-node.invariant.none_out;
    }

pub returns-clause-started : goal.returns-clause-started
returns-clause-started g c =
    let (k, e, l, w) = c.loop-node.invariant.upto in
    entered_all c.args.intake.now.image.now c.args.intake.now.frozen (g.S.Lists.meaning c.args.store) k (work_of g.S.Lists.meaning c.loop-node.s []) (omega (arith, c.top-node-end.ensures.answer)) w
