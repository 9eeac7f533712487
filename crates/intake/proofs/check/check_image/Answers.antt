use Rattle.std.proofs.Common.{◌≡◌, ℕ, List, Err, Result, sym, ap, ◌∙◌, subst, arith}
use Rattle.intake.specs.Answers.{take_in_answer}
use Rattle.image.specs.declared.fault.Fault.{Fault}
use Rattle.intake.specs.Accepted.{Answers}
use Rattle.intake.proofs.Meanings.{answer_means}
use Rattle.intake.proofs.Exactness.{exactly}
use Rattle.image.proofs.Heads.{head_from}
use Rattle.intake.proofs.Steps.{head_came, answer_head, answer_nodes, answer_count, answer_open}
use Rattle.std.proofs.lemmas.Result.{err_from_is_err_and}
use Rattle.intake.proofs.check.check_image.Goals as goal

-- an answer as take-in-answer means what it says
answered : (ws : List ℕ) (r : Result (Unit {0}) Fault) → r ≡ take_in_answer ws → record { answer : r ≡ take_in_answer ws; means : Answers ws r; only : (s : Result (Unit {0}) Fault) → Answers ws s → r ≡ s }
answered ws r e = record { answer = e; means = subst (Answers ws) (sym e) (answer_means ws); only = λ s a. e ∙ (exactly ws s).1 a }

pub returns-in_err-top : goal.returns-in_err-top
returns-in_err-top c =
    let p = err_from_is_err_and c.from_residual.result c.from_residual.ensures.1 in
    answered _ _ (p.1 ∙ ap Err p.2 ∙ answer_head c.args.words.now _ c.in_err-top.ensures)

pub returns-in_err-count : goal.returns-in_err-count
returns-in_err-count c =
    let p = err_from_is_err_and c.from_residual-in_err-count.result c.from_residual-in_err-count.ensures.1 in
    answered _ _ (p.1 ∙ ap Err p.2 ∙ answer_nodes c.args.words.now _ _ c.in_ok-top.ensures c.in_err-count.ensures)

pub bounds-words-1 : goal.bounds-words-1
bounds-words-1 c = let p = head_came c.args.words.now _ c.in_ok-top.ensures in let h = head_from _ p.0 in omega (arith, h.three)

pub returns-then-words-count : goal.returns-then-words-count
returns-then-words-count c = answered _ _ (ap Err c.at.ensures ∙ answer_count c.args.words.now _ _ c.in_ok-top.ensures c.in_ok-count.ensures c.if-words-count.true)

pub returns : goal.returns
returns c = answered _ _ (answer_open c.args.words.now _ _ c.in_ok-top.ensures c.in_ok-count.ensures c.if-words-count.false)
