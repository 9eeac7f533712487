use Rattle.std.proofs.Common.{◌<◌, length, arith, ap, refl, sym, ◌∙◌}
use Rattle.rules.specs.Work.{clear_all}
use Rattle.rules.proofs.Index.{removed_length}
use Rattle.simplifier.proofs.Clearings.{all_step, all_done}
use Rattle.simplifier.proofs.Cursors.{on_some, on_none, on_removed}
use Rattle.simplifier.proofs.clearing.clear_whole.Given.{Over}
use Rattle.simplifier.proofs.clearing.clear_whole.Goals as goal
use Rattle.simplifier.proofs.clearing.clear_whole.Goals.{In-Some}

-- where the handle stands
here : (g : Over) (c : In-Some g) → (g.S.Lists.at c.loop-first.store c.in-Some.h c.args.l 0) × (0 < length ((g.S.Lists.meaning c.loop-first.store).own c.args.l))
here g c = on_some (g.S.Lists.at c.loop-first.store) (g.S.Lists.meaning c.loop-first.store) c.args.l 0 c.loop-first.first c.in-Some.h c.in-Some.is c.loop-first.invariant.1

pub loop-first-init : goal.loop-first-init
loop-first-init g c = (refl, c.first-first.ensures)

pub loop-first-smaller : goal.loop-first-smaller
loop-first-smaller g c =
    let M = g.S.Lists.meaning c.loop-first.store in
    let (at, lt) = here g (goal.at.loop-first-smaller g c).In-Some in
    let e = ap (λ N. length (N.own c.args.l)) (c.remove_at.ensures.makes c.args.l 0 at) in
    omega (arith, removed_length M c.args.l 0)

pub loop-first-preserved : goal.loop-first-preserved
loop-first-preserved g c =
    let M = g.S.Lists.meaning c.loop-first.store in
    let (at, lt) = here g (goal.at.loop-first-preserved g c).In-Some in (
      ap (clear_all c.args.l) (c.remove_at.ensures.makes c.args.l 0 at) ∙ sym (all_step c.args.l M lt) ∙ c.loop-first.invariant.0,
      on_removed (g.S.Lists.at c.remove_at.new.self) (g.S.Lists.meaning c.remove_at.new.self) c.args.l 0 c.remove_at.result c.flatten-first.result c.flatten-first.ensures (c.remove_at.ensures.then c.args.l 0 at),
    )

pub returns : goal.returns
returns g c =
    let M = g.S.Lists.meaning c.loop-first.store in
    sym (all_done c.args.l M (on_none (g.S.Lists.at c.loop-first.store) M c.args.l 0 c.loop-first.first c.in_default.is c.loop-first.invariant.1)) ∙ c.loop-first.invariant.0
