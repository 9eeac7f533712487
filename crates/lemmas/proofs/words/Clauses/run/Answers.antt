use Rattle.std.proofs.Common.{arith}
use Rattle.std.proofs.lemmas.Bool.{not-true, not-false}
use Rattle.lemmas.proofs.Sweeps.{run_end, run_again, run_on, turned_less}
use Rattle.lemmas.proofs.Marks.{numbered_from}
use Rattle.lemmas.proofs.words.Clauses.run.Goals as goal

pub sweep-turn-requires-clause-numbered : goal.sweep-turn-requires-clause-numbered
sweep-turn-requires-clause-numbered c p h = let k = numbered_from _ _ _ _ _ c.loop-at.invariant.run.from c.requires.numbered p h in omega (arith, c.loop-at.auto.marks)

pub loop-at-preserved-then-not-turn : goal.loop-at-preserved-then-not-turn
loop-at-preserved-then-not-turn c = record { run = run_on c.loop-at.invariant.run (omega arith) c.sweep-turn.ensures.turned (not-true _ c.if-not-turn.true); marked = c.sweep-turn.ensures.marked }

pub loop-at-smaller : goal.loop-at-smaller
loop-at-smaller c =
    let z = turned_less c.loop-at.invariant.run.lined.within (not-false _ c.if-not-turn.false) c.sweep-turn.ensures.turned in
    omega (arith, c.sweep-turn.ensures.turned.low)

pub loop-at-preserved : goal.loop-at-preserved
loop-at-preserved c = record { run = run_again c.loop-at.invariant.run (omega arith) c.sweep-turn.ensures.turned (not-false _ c.if-not-turn.false); marked = c.sweep-turn.ensures.marked }

pub returns-clause-ran : goal.returns-clause-ran
returns-clause-ran c = run_end c.loop-at.invariant.run c.requires.lined.within (omega arith)
