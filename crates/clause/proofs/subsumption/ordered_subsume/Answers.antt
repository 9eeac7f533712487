use Rattle.std.proofs.Common.{get_or, drop, sym, ◌∙◌, arith}
use Rattle.network.proofs.Fits.{longer_no_part}
use Rattle.clause.proofs.Rests.{behind, first_behind}
use Rattle.clause.proofs.Walks.{part_done, part_over, part_same, part_past, part_miss}
use Rattle.clause.proofs.subsumption.ordered_subsume.Goals as goal
use Rattle.clause.proofs.subsumption.ordered_subsume.Goals.{then-c-d, else-c-d+else-c-d-2}

pub returns-then-a-b : goal.returns-then-a-b
returns-then-a-b c = sym (longer_no_part c.args.a.now c.args.b.now (omega arith))

pub returns-in_default : goal.returns-in_default
returns-in_default c =
    let l = c.loop-d in
    sym (part_done l.rest.now (drop l.d-index c.args.b.now) (omega arith)) ∙ l.invariant

pub returns-then-c-d-2 : goal.returns-then-c-d-2
returns-then-c-d-2 c =
    let l = c.loop-d in
    let r = first_behind l.rest.now (omega arith) in
    let e = part_miss (get_or l.rest.now 0 0) (behind l.rest.now) c.args.b.now l.d-index (omega arith) (omega arith) in
    cc

pub loop-d-preserved : goal.loop-d-preserved
loop-d-preserved c =
    let b = c.args.b.now in
    let l = c.loop-d in
    let d = get_or l.rest.now 0 0 in
    let r = first_behind l.rest.now (omega arith) in
    elim c.if-c-d.branch [
      | then-c-d w ↦ let e = part_same d (behind l.rest.now) b l.d-index (omega arith) w.if-c-d.true in rw w.rest-is cc
      | else-c-d+else-c-d-2 w ↦ let e = part_past d (behind l.rest.now) b l.d-index (omega arith) (omega (arith, w.if-c-d.false, w.if-c-d-2.false)) in rw w.rest-is cc
    ]

pub returns : goal.returns
returns c =
    let l = c.loop-d in
    c.is_empty.ensures ∙ sym (part_over l.rest.now c.args.b.now l.d-index (omega arith)) ∙ l.invariant
