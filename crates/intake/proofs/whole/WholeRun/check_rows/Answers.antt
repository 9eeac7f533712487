use Rattle.std.proofs.Common.{⊎_elim}
use Rattle.std.proofs.lemmas.Bool.{both_ways}
use Rattle.std.proofs.lemmas.Result.{err_from_is_err_and}
use Rattle.intake.proofs.Steps.{rows_wide, rows_narrow}
use Rattle.intake.proofs.whole.WholeRun.check_rows.Goals as goal

pub returns-in_err-low : goal.returns-in_err-low
returns-in_err-low c =
    let p = err_from_is_err_and c.from_residual.result c.from_residual.ensures.1 in
    let e = c.in_err-low.ensures in
    rw (p.1, p.2) (⊎_elim (λ w. rows_wide c.args.self.run.node c.args.self.run.words.now _ w.0 w.1) (λ w. absurd (both_ways _ w.1 c.args.self.whole)) e)

pub returns : goal.returns
returns c = rows_narrow c.args.self.run.node c.args.self.run.words.now _ _ _ c.search_rows.ensures c.as_slice.ensures.nodes c.in_ok-low.ensures.1 c.as_slice.ensures.few
