use Rattle.std.proofs.Common.{◌≡◌, ◌+◌, ◌*◌, length, refl, ap, sym, ◌∙◌, subst, arith, rules}
use Rattle.rules.specs.Index.{Indexed}
use Rattle.rules.specs.Work.{storing}
use Rattle.rules.proofs.Passes.{index_on_keeps}
use Rattle.simplifier.specs.Shown.{work_of}
use Rattle.elimination.proofs.Calls.{lent_enough, put_on, refused, stood, passed}
use Rattle.elimination.proofs.pass.bve_simplify.Goals as goal

pub returns-in_err-check_lent-clause-makes : goal.returns-in_err-check_lent-clause-makes
returns-in_err-check_lent-clause-makes g c out flagged =
    refused g.S.Lists.meaning (length c.args.words.now) c.args.s.now out flagged c.in_err-check_lent.field-0.0 c.from_residual.result (search rules) c.in_err-check_lent.ensures

pub returns-then-indexed-clause-makes : goal.returns-then-indexed-clause-makes
returns-then-indexed-clause-makes g c out flagged =
    stood g.S.Lists.meaning (length c.args.words.now) c.args.s.now out flagged c.in_ok-check_lent.field-0 c.in_ok-check_lent.ensures (sym c.indexed.ensures ∙ c.if-indexed.true) c.live.result c.live.ensures

pub attempt_nodes-count-requires-clause-indexed : goal.attempt_nodes-count-requires-clause-indexed
attempt_nodes-count-requires-clause-indexed g c =
    let M = g.S.Lists.meaning c.args.s.now.store in
    subst Indexed (sym c.index_on.ensures.makes) (put_on M (g.met.S.Lists.lawful c.args.s.now.store) (sym c.indexed.ensures ∙ c.if-indexed.false))

pub attempt_nodes-count-requires-clause-enough : goal.attempt_nodes-count-requires-clause-enough
attempt_nodes-count-requires-clause-enough g c =
    let M = g.S.Lists.meaning c.args.s.now.store in
    let room : (g.S.Lists.meaning c.index_on.new.self).room ≡ M.room = ap (λ N. N.room) c.index_on.ensures.makes ∙ (index_on_keeps M (g.met.S.Lists.lawful c.args.s.now.store)).1 in
    omega (arith, room, lent_enough (length c.args.words.now) (64 * M.room + 8192) c.in_ok-check_lent.field-0 c.in_ok-check_lent.ensures)

pub returns-clause-makes : goal.returns-clause-makes
returns-clause-makes g c out flagged =
    let W = work_of g.S.Lists.meaning c.args.s.now out in
    passed g.S.Lists.meaning (length c.args.words.now) c.args.s.now out flagged c.in_ok-check_lent.field-0 c.in_ok-check_lent.ensures (sym c.indexed.ensures ∙ c.if-indexed.false)
    _ c.attempt_nodes-count.new.s c.attempt_nodes-count.result c.live-2.result refl refl (ap (storing W) c.index_on.ensures.makes) c.attempt_nodes-count.ensures c.live-2.ensures
