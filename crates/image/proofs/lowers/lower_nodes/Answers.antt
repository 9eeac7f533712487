use Rattle.std.proofs.Common.{sym, ◌∙◌, inl, inr}
use Rattle.std.proofs.lemmas.Result.{err_from_is_err_and}
use Rattle.image.proofs.Notes.{noting_on, noting_full, noting_end}
use Rattle.image.proofs.Walks.{cut_whole, fits_clause, fits_all, fits_cut}
use Rattle.image.proofs.lowers.lower_nodes.Goals as goal

pub loop-clause-preserved : goal.loop-clause-preserved
loop-clause-preserved c =
    let f = fits_clause c.loop-clause.walk c.next.new.self _ c.next.ensures.steps _ c.in-Some.is in
    noting_on c.args.run.node _ _ _ _ _ f c.loop-clause.invariant _ c.in_ok-note_clause.ensures

pub returns-in_err-note_clause : goal.returns-in_err-note_clause
returns-in_err-note_clause c =
    let p = err_from_is_err_and c.from_residual.result c.from_residual.ensures.1 in
    let f = fits_clause c.loop-clause.walk c.next.new.self _ c.next.ensures.steps _ c.in-Some.is in
    let e = c.in_err-note_clause.ensures in
    rw (p.1, p.2) (inl (e.0, noting_full c.args.run.node _ _ _ _ _ f c.loop-clause.invariant e.1))

pub returns-then-not-is_empty : goal.returns-then-not-is_empty
returns-then-not-is_empty c =
    let e = fits_cut c.loop-clause.walk c.next.new.self _ c.next.ensures.steps c.in_default.is (sym c.if-not-is_empty.ensures) in
    inr (c.at.ensures, sym c.loop-clause.invariant.0 ∙ cut_whole _ e)

pub returns : goal.returns
returns c =
    noting_end c.args.run.node _ _ _ (fits_all c.loop-clause.walk c.next.new.self _ c.next.ensures.steps c.in_default.is (sym c.if-not-is_empty.ensures)) c.loop-clause.invariant
