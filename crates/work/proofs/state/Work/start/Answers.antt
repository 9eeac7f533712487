use Rattle.std.proofs.Common.{◌≡◌, Ok, sym, refl, ◌∙◌, subst}
use Rattle.rules.specs.Calls.{start, started}
use Rattle.work.specs.Shown.{Underway}
use Rattle.work.proofs.Reaching.{start_is, each_frozen, none_marked, shown_started, underway_started, half_free}
use Rattle.work.proofs.state.Work.start.Given.{Over}
use Rattle.work.proofs.state.Work.start.Goals as goal
use Rattle.work.proofs.state.Work.start.Goals.{After-begin-simplifier}

-- the rules start what was started
granted : (g : Over) (c : After-begin-simplifier g)
    → start c.args.intake.image.now c.args.intake.frozen (g.S.Lists.meaning c.args.store) ≡ Ok (started c.args.intake.image.now c.args.intake.frozen (g.S.Lists.meaning c.args.store))
granted g c = start_is c.args.intake.image.now c.args.intake.frozen (g.S.Lists.meaning c.args.store) c.in_default.field-0 (sym c.in_default.is ∙ c.refusal.ensures)

pub invariant_of-result : goal.invariant_of-result
invariant_of-result g c =
    let U = underway_started _ _ _ _ _ c.begin-simplifier.ensures.started c.begin-simplifier.ensures.none_out c.args.intake.right c.args.intake.zero (granted g (goal.at.invariant_of-result g c).After-begin-simplifier) in
    record { reached = ∣ subst (λ r. Underway g.S.Lists.meaning r.now c.begin-simplifier.result) (sym c.image.ensures) U ∣₁ }

pub returns-clause-answer : goal.returns-clause-answer
returns-clause-answer g c = rw (granted g (goal.at.returns-clause-answer g c).After-begin-simplifier) refl

pub returns-clause-work : goal.returns-clause-work
returns-clause-work g c =
    rw (granted g (goal.at.returns-clause-work g c).After-begin-simplifier)
    (shown_started g.S.Lists.meaning _ _ _ c.begin-simplifier.result c.begin-simplifier.ensures.started c.begin-simplifier.ensures.none_out)

pub returns-clause-frozen : goal.returns-clause-frozen
returns-clause-frozen g c =
    each_frozen g.S.Lists.meaning _ _ _ c.begin-simplifier.result c.begin-simplifier.ensures.started c.begin-simplifier.ensures.none_out c.args.intake.right c.args.intake.zero
    (granted g (goal.at.returns-clause-frozen g c).After-begin-simplifier)

pub returns-clause-none_out : goal.returns-clause-none_out
returns-clause-none_out g c = none_marked g.S.Lists.meaning _ _ _ c.begin-simplifier.result c.begin-simplifier.ensures.started c.begin-simplifier.ensures.none_out

pub returns-clause-half_free : goal.returns-clause-half_free
returns-clause-half_free g c =
    half_free g.S.Lists.meaning _ _ _ c.begin-simplifier.result c.begin-simplifier.ensures.started c.begin-simplifier.ensures.none_out c.args.intake.right c.args.intake.zero
    (granted g (goal.at.returns-clause-half_free g c).After-begin-simplifier)
