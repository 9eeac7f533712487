use Rattle.std.proofs.Common.{arith}
use Rattle.lemmas.proofs.Sweeps.{sweep_start, sweep_end, later_stands, later_below, pair_apart, sweep_goes, sweep_joins, sweep_stays}
use Rattle.lemmas.proofs.words.Clauses.sweep.Goals as goal
use Rattle.lemmas.proofs.words.Clauses.sweep.Goals.{in-Stays, in-Goes, in-Joins}

pub loop-j-init : goal.loop-j-init
loop-j-init c = record { turn = sweep_start c.requires.within c.requires.lined; marked = c.requires.marked }

pub meet-requires-clause-later : goal.meet-requires-clause-later
meet-requires-clause-later c = later_stands c.requires.within c.requires.lined c.loop-j.invariant.turn (omega arith)

pub meet-requires-clause-apart : goal.meet-requires-clause-apart
meet-requires-clause-apart c = pair_apart c.requires.within c.requires.lined c.loop-j.invariant.turn (omega arith)

pub meet-requires-clause-later_in : goal.meet-requires-clause-later_in
meet-requires-clause-later_in c = let h = later_below c.requires.within c.requires.lined c.loop-j.invariant.turn (omega arith) c.requires.numbered in omega (arith, c.loop-j.auto.marks)

pub loop-j-preserved : goal.loop-j-preserved
loop-j-preserved c =
    let s = c.loop-j.invariant.turn in
    let m = c.meet in
    elim c.match-meet.branch [
      | in-Stays w ↦ record { turn = rw (w.order-is, w.left-is, w.again-is) (sweep_stays c.requires.within c.requires.lined s (omega arith) m.ensures.wrote m.result m.ensures.met w.in-Stays.is); marked = m.ensures.marked }
      | in-Goes w ↦ record { turn = rw (w.order-is, w.left-is, w.again-is) (sweep_goes c.requires.within c.requires.lined s (omega arith) m.ensures.wrote m.result m.ensures.met w.in-Goes.is); marked = m.ensures.marked }
      | in-Joins w ↦ record { turn = rw (w.order-is, w.left-is, w.again-is) (sweep_joins c.requires.within c.requires.lined s (omega arith) m.ensures.wrote m.result m.ensures.met w.in-Joins.is); marked = m.ensures.marked }
    ]

pub returns-clause-turned : goal.returns-clause-turned
returns-clause-turned c = sweep_end c.requires.within c.requires.lined c.loop-j.invariant.turn (omega arith) (omega arith)
