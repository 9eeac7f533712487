use Rattle.std.proofs.lemmas.Result.{err_from_is_err_and}
use Rattle.input.proofs.Readings.{input_split, input_all}
use Rattle.input.proofs.opening.open_input.Goals as goal

pub returns-in_err-nodes-clause-answer : goal.returns-in_err-nodes-clause-answer
returns-in_err-nodes-clause-answer c =
    let p = err_from_is_err_and c.from_residual.result c.from_residual.ensures.1 in
    rw (p.1, p.2) (input_split c.args.words.now _ c.in_err-nodes.ensures)

pub returns-clause-answer : goal.returns-clause-answer
returns-clause-answer c = input_all c.args.words.now _ _ c.in_ok-nodes.ensures _ c.open_image.ensures.answer
