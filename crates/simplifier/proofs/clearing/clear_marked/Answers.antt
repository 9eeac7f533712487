use Rattle.std.proofs.Common.{◌-◌, ◌<◌, length, arith, ap, sym, ◌∙◌}
use Rattle.rules.specs.Store.{removed}
use Rattle.rules.specs.Work.{cleared}
use Rattle.rules.proofs.Index.{removed_length}
use Rattle.simplifier.proofs.Clearings.{marks_below, begins, marked_step, other_step, ends}
use Rattle.simplifier.proofs.Cursors.{on_some, on_none, on_removed}
use Rattle.simplifier.proofs.clearing.clear_marked.Given.{Over}
use Rattle.simplifier.proofs.clearing.clear_marked.Goals as goal
use Rattle.simplifier.proofs.clearing.clear_marked.Goals.{In-Some}

-- where the handle stands
here : (g : Over) (c : In-Some g) → (g.S.Lists.at c.loop-at.store c.in-Some.h c.args.l c.loop-at.i) × (c.loop-at.i < length ((g.S.Lists.meaning c.loop-at.store).own c.args.l))
here g c = on_some (g.S.Lists.at c.loop-at.store) (g.S.Lists.meaning c.loop-at.store) c.args.l c.loop-at.i c.loop-at.at c.in-Some.h c.in-Some.is c.loop-at.invariant.2

pub loop-at-init : goal.loop-at-init
loop-at-init g c =
    (begins c.args.l (g.S.Lists.meaning c.args.store.now) c.args.marks.now c.max-left.result (omega arith), omega arith, c.first-at.ensures)

pub loop-at-smaller-then-is_marked : goal.loop-at-smaller-then-is_marked
loop-at-smaller-then-is_marked g c =
    let M = g.S.Lists.meaning c.loop-at.store in
    let (at, lt) = here g (goal.at.loop-at-smaller-then-is_marked g c).In-Some in
    let e = ap (λ N. length (N.own c.args.l)) (c.remove_at.ensures.makes c.args.l c.loop-at.i at) in
    omega (arith, removed_length M c.args.l c.loop-at.i)

pub loop-at-preserved-then-is_marked : goal.loop-at-preserved-then-is_marked
loop-at-preserved-then-is_marked g c =
    let M = g.S.Lists.meaning c.loop-at.store in
    let (at, lt) = here g (goal.at.loop-at-preserved-then-is_marked g c).In-Some in
    let e = c.remove_at.ensures.makes c.args.l c.loop-at.i at in
    let n = ap (λ N. length (N.own c.args.l)) e in
    let step = marked_step c.args.l M c.loop-at.i lt c.loop-at.left c.loop-at.marks c.loop-at.invariant.1 (sym c.is_marked.ensures ∙ c.if-is_marked.true) in (
      ap (λ N. cleared (length (N.own c.args.l) - c.loop-at.i) c.args.l c.loop-at.i (marks_below (c.loop-at.left - 1) c.move_mark.new.marks) N) e
          ∙ ap (λ ws. cleared (length ((removed c.args.l c.loop-at.i M).own c.args.l) - c.loop-at.i) c.args.l c.loop-at.i (marks_below (c.loop-at.left - 1) ws) (removed c.args.l c.loop-at.i M)) c.move_mark.ensures
          ∙ sym step ∙ c.loop-at.invariant.0,
      omega (arith, removed_length M c.args.l c.loop-at.i),
      on_removed (g.S.Lists.at c.remove_at.new.self) (g.S.Lists.meaning c.remove_at.new.self) c.args.l c.loop-at.i c.remove_at.result c.flatten-at.result c.flatten-at.ensures (c.remove_at.ensures.then c.args.l c.loop-at.i at),
    )

pub loop-at-preserved : goal.loop-at-preserved
loop-at-preserved g c =
    let M = g.S.Lists.meaning c.loop-at.store in
    let (at, lt) = here g (goal.at.loop-at-preserved g c).In-Some in
    let step = other_step c.args.l M c.loop-at.i lt c.loop-at.left c.loop-at.marks c.loop-at.invariant.1 (sym c.is_marked.ensures ∙ c.if-is_marked.false) in
    (ap (λ k. cleared (length (M.own c.args.l) - k) c.args.l k (marks_below c.loop-at.left c.loop-at.marks) M) (omega arith) ∙ sym step ∙ c.loop-at.invariant.0, c.loop-at.invariant.1, c.next-at.ensures c.args.l c.loop-at.i at)

pub returns : goal.returns
returns g c =
    let M = g.S.Lists.meaning c.loop-at.store in
    sym (ends c.args.l M c.loop-at.i (marks_below c.loop-at.left c.loop-at.marks) (on_none (g.S.Lists.at c.loop-at.store) M c.args.l c.loop-at.i c.loop-at.at c.in_default.is c.loop-at.invariant.2))
    ∙ c.loop-at.invariant.0
