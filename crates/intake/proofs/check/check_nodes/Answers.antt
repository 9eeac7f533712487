use Rattle.std.proofs.Common.{◌≡◌, ◌<◌, suc, refl, sym, ap, ◌∙◌, arith}
use Rattle.std.proofs.lemmas.Result.{err_from_is_err_and}
use Rattle.image.specs.Headers.{top}
use Rattle.intake.specs.Answers.{nodes_answer}
use Rattle.image.proofs.Heads.{head_from}
use Rattle.intake.proofs.Steps.{nodes_none, node_here, counting_on, counting_stop}
use Rattle.intake.proofs.check.check_nodes.Goals as goal

pub loop-node-init : goal.loop-node-init
loop-node-init c = (0, refl, omega arith, (nodes_none _, omega arith))

pub overflow_add-count : goal.overflow_add-count
overflow_add-count c =
    let (k, e, m, i) = c.loop-node.invariant in
    let l : k < top c.args.words.now = omega (arith, c.loop-node-test.true, c.requires.all, e) in
    let p = counting_on c.args.words.now k _ _ (head_from _ c.requires.head) l i (c.in_ok-count.ensures ∙ node_here c.args.words.now _ c.loop-node.node _ k c.run_of.ensures.words c.run_of.ensures.node e) in
    omega (arith, p.1)

pub loop-node-preserved : goal.loop-node-preserved
loop-node-preserved c =
    let (k, e, m, i) = c.loop-node.invariant in
    let l : k < top c.args.words.now = omega (arith, c.loop-node-test.true, c.requires.all, e) in
    let p = counting_on c.args.words.now k _ _ (head_from _ c.requires.head) l i (c.in_ok-count.ensures ∙ node_here c.args.words.now _ c.loop-node.node _ k c.run_of.ensures.words c.run_of.ensures.node e) in
    (suc k, omega arith, omega arith, p.0)

pub returns-in_err-count : goal.returns-in_err-count
returns-in_err-count c =
    let (k, e, m, i) = c.loop-node.invariant in
    let p = err_from_is_err_and c.from_residual.result c.from_residual.ensures.1 in
    rw (p.1, p.2) (counting_stop c.args.words.now k _ c.args.top _ (omega arith) i (c.in_err-count.ensures ∙ node_here c.args.words.now _ c.loop-node.node _ k c.run_of.ensures.words c.run_of.ensures.node e))

pub returns-in_ok-count : goal.returns-in_ok-count
returns-in_ok-count c =
    let (k, e, m, i) = c.loop-node.invariant in
    let l : k < top c.args.words.now = omega (arith, c.loop-node-test.true, c.requires.all, e) in
    let p = counting_on c.args.words.now k _ _ (head_from _ c.requires.head) l i (c.in_ok-count.ensures ∙ node_here c.args.words.now _ c.loop-node.node _ k c.run_of.ensures.words c.run_of.ensures.node e) in
    let j : suc k ≡ c.args.top = omega arith in sym p.0.0 ∙ ap (nodes_answer c.args.words.now) j
