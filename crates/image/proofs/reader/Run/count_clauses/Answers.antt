use Rattle.std.proofs.Common.{sym, ◌∙◌}
use Rattle.std.proofs.lemmas.Bool.{cond-false}
use Rattle.image.proofs.Walks.{count_on, count_all, cut_whole, fits_clause, fits_all, fits_cut}
use Rattle.image.proofs.reader.Run.count_clauses.Goals as goal

pub loop-count-preserved : goal.loop-count-preserved
loop-count-preserved c =
    count_on _ _ _ _ _ (fits_clause c.loop-count.walk c.next.new.self _ c.next.ensures.steps _ c.in-Some.is) c.loop-count.invariant

pub returns : goal.returns
returns c =
    count_all _ _ _ _ (fits_all c.loop-count.walk c.next.new.self _ c.next.ensures.steps c.in_default.is (sym c.if-not-is_empty.ensures)) c.loop-count.invariant

pub returns-then-not-is_empty : goal.returns-then-not-is_empty
returns-then-not-is_empty c =
    let e = fits_cut c.loop-count.walk c.next.new.self _ c.next.ensures.steps c.in_default.is (sym c.if-not-is_empty.ensures) in
    rw c.at.ensures (sym (cond-false _ _ _ (sym c.loop-count.invariant.0 ∙ cut_whole _ e)))
