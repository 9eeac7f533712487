use Rattle.std.proofs.Common.{◌≡◌, ℕ, length, Ok, Err, Result, ap, sym, ◌∙◌, rules}
use Rattle.image.specs.declared.fault.Fault.{Fault}
use Rattle.rules.specs.Work.{storing}
use Rattle.rules.specs.Calls.{with_live}
use Rattle.simplifier.specs.Shown.{work_of}
use Rattle.constants.proofs.Calls.{short, crowded, answered, in_parts}
use Rattle.constants.proofs.pass.const_simplify.Goals as goal

pub returns-in_err-check_lent-clause-makes : goal.returns-in_err-check_lent-clause-makes
returns-in_err-check_lent-clause-makes g c out =
    let W = work_of g.S.Lists.meaning c.args.s.now out in
    let r : c.from_residual.result ≡ Err c.in_err-check_lent.field-0.0 = search rules in
    ap (λ (x : Result ℕ Fault). (W, x)) r ∙ sym (short (length c.args.words.now) W c.in_err-check_lent.field-0.0 c.in_err-check_lent.ensures)

pub returns-in_err-check_half-clause-makes : goal.returns-in_err-check_half-clause-makes
returns-in_err-check_half-clause-makes g c out =
    let W = work_of g.S.Lists.meaning c.args.s.now out in
    let r : c.from_residual-in_err-check_half.result ≡ Err c.in_err-check_half.field-0.0 = search rules in
    ap (λ (x : Result ℕ Fault). (W, x)) r
    ∙ sym (crowded (length c.args.words.now) W c.in_ok-check_lent.field-0 c.in_ok-check_lent.ensures c.in_err-check_half.field-0.0 c.in_err-check_half.ensures)

pub returns-clause-makes : goal.returns-clause-makes
returns-clause-makes g c out =
    let W = work_of g.S.Lists.meaning c.args.s.now out in
    ap (λ k. (work_of g.S.Lists.meaning c.drop_all_valued.new.s out, Ok k)) c.live.ensures
    ∙ ap with_live (in_parts W (storing W (g.S.Lists.meaning c.index_off.new.self)) (work_of g.S.Lists.meaning c.take_turns.new.s out) (work_of g.S.Lists.meaning c.drop_all_valued.new.s out)
    (ap (storing W) c.index_off.ensures.makes) (c.take_turns.ensures.makes out) (c.drop_all_valued.ensures.makes out))
    ∙ sym (answered (length c.args.words.now) W c.in_ok-check_lent.field-0 c.in_ok-check_lent.ensures c.in_ok-check_half.field-0 c.in_ok-check_half.ensures)
