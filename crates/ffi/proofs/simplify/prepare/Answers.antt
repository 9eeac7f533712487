use Rattle.std.proofs.lemmas.Result.{err_from_is_err_and}
use Rattle.ffi.proofs.Steps.{opening_passes, opening_stops}
use Rattle.ffi.proofs.simplify.prepare.Goals as goal

pub returns-in_err-open_image-clause-answer : goal.returns-in_err-open_image-clause-answer
returns-in_err-open_image-clause-answer c =
    let p = err_from_is_err_and c.from_residual.result c.from_residual.ensures.1 in
    rw (p.1, p.2) (opening_stops c.args.indexed c.args.image.now c.args.frozen.now c.args.room c.args.words _ c.in_err-open_image.ensures.answer)

pub returns-in_err-check-clause-answer : goal.returns-in_err-check-clause-answer
returns-in_err-check-clause-answer c =
    let p = err_from_is_err_and c.from_residual-in_err-check.result c.from_residual-in_err-check.ensures.1 in
    rw (p.1, p.2) (opening_passes c.args.indexed c.args.image.now c.args.frozen.now c.args.room c.args.words _ _ c.in_ok-open_image.ensures.answer c.in_err-check.ensures)

pub returns-clause-answer : goal.returns-clause-answer
returns-clause-answer c = opening_passes c.args.indexed c.args.image.now c.args.frozen.now c.args.room c.args.words _ _ c.in_ok-open_image.ensures.answer c.in_ok-check.ensures
