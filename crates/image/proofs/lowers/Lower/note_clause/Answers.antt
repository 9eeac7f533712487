use Rattle.std.proofs.Common.{arith}
use Rattle.std.proofs.lemmas.Result.{err_from_is_err_and}
use Rattle.image.proofs.Notes.{note_full}
use Rattle.image.proofs.lowers.Lower.note_clause.Goals as goal

pub returns-in_err-note : goal.returns-in_err-note
returns-in_err-note c =
    let p = err_from_is_err_and c.from_residual.result c.from_residual.ensures.1 in
    let e = c.in_err-note.ensures in
    rw (p.1, p.2) (e.0, note_full c.args.owner _ c.args.clause.now _ c.loop-l.l-index c.loop-l.invariant (omega arith) e.1)
