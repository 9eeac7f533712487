use Rattle.std.proofs.Common.{sym, ◌∙◌}
use Rattle.image.proofs.Shapes.{pass_none, pass_cut, pass_on, pass_stop}
use Rattle.image.proofs.Walks.{fits_clause, fits_all, fits_cut}
use Rattle.image.proofs.shape.check_clauses.Goals as goal

pub returns-then-not-passes : goal.returns-then-not-passes
returns-then-not-passes g c =
    let f = fits_clause c.loop-clause.walk c.next.new.self _ c.next.ensures.steps _ c.in-Some.is in
    sym (pass_stop _ _ _ _ _ _ f (sym c.if-not-passes.ensures)) ∙ c.loop-clause.invariant

pub loop-clause-preserved : goal.loop-clause-preserved
loop-clause-preserved g c =
    let f = fits_clause c.loop-clause.walk c.next.new.self _ c.next.ensures.steps _ c.in-Some.is in
    sym (pass_on _ _ _ _ _ _ f (sym c.if-not-passes.ensures)) ∙ c.loop-clause.invariant

pub returns-then-not-is_empty : goal.returns-then-not-is_empty
returns-then-not-is_empty g c =
    let e = fits_cut c.loop-clause.walk c.next.new.self _ c.next.ensures.steps c.in_default.is (sym c.if-not-is_empty.ensures) in
    sym (pass_cut _ _ _ _ _ c.at.ensures e) ∙ c.loop-clause.invariant

pub returns : goal.returns
returns g c =
    sym (pass_none _ _ _ _ (fits_all c.loop-clause.walk c.next.new.self _ c.next.ensures.steps c.in_default.is (sym c.if-not-is_empty.ensures))) ∙ c.loop-clause.invariant
