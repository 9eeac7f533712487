use Rattle.std.proofs.Common.{◌≡◌, ◌+◌, length, get_or, drop, true, false, Some, sym, ap, ◌∙◌, arith}
use Rattle.network.specs.Values.{literal, simplified}
use Rattle.clause.specs.Types.{told, values_of}
use Rattle.clause.proofs.Fronts.{sofar_same, sofar_more, sofar_fails, sofar_ends, room_enough}
use Rattle.clause.proofs.Simps.{simp_more, simp_kept, simp_end}
use Rattle.clause.proofs.values.ordered_simp.Goals as goal
use Rattle.clause.proofs.values.ordered_simp.Goals.{After-value_of, in-False, in-Unknown}

-- what is known of a literal
known : (c : After-value_of) → literal (values_of c.args.values.now) (get_or c.args.clause.now c.loop-l.l-index 0) ≡ told c.value_of.result
known c = sym (c.value_of.ensures ∙ ap (literal (values_of c.args.values.now)) c.from.ensures)

pub returns-in-True : goal.returns-in-True
returns-in-True c =
    let C = c.args.clause.now in
    let V = values_of c.args.values.now in
    let l = c.loop-l in
    room_enough (omega arith)
    (sofar_fails l.invariant.1 (length C) (omega arith) (simp_more V C l.l-index (Some true) (omega arith) (known (goal.at.returns-in-True c).After-value_of ∙ ap told c.in-True.is)))

pub loop-l-preserved : goal.loop-l-preserved
loop-l-preserved c =
    let C = c.args.clause.now in
    let V = values_of c.args.values.now in
    let l = c.loop-l in
    let k = known (goal.at.loop-l-preserved c).After-value_of in
    let next = simplified V (drop (l.l-index + 1) C) in
    elim c.match-value_of.branch [
      | in-False w ↦ rw (w.out-is, w.n-is) (omega arith, sofar_same l.invariant.1 next (simp_more V C l.l-index (Some false) (omega arith) (k ∙ ap told w.in-False.is)))
      | in-Unknown w ↦
          rw (w.out-is, w.n-is)
          (omega arith, sofar_more l.invariant.1 next (get_or C l.l-index 0) (omega arith) (simp_kept V C l.l-index (omega arith) (k ∙ ap told w.in-Unknown.is)))
    ]

pub returns : goal.returns
returns c =
    let C = c.args.clause.now in
    let l = c.loop-l in
    room_enough (omega arith) (sofar_ends l.invariant.1 (length C) (simp_end (values_of c.args.values.now) C l.l-index (omega arith)))
