use Rattle.std.proofs.Common.{below_more, length, ◌≡◌, ◌+◌, ◌*◌, ◌<◌, get_or, set, sym, ◌∙◌, arith}
use Rattle.std.proofs.lemmas.List.{get_or-set_other, get_or-set_same}
use Rattle.rules.specs.Subsume.{around_size}
use Rattle.subsumption_pass.proofs.Shapes.{around_both}
use Rattle.subsumption_pass.proofs.pass.surround.Goals as goal

pub loop-n-preserved : goal.loop-n-preserved
loop-n-preserved g c =
    let M = g.S.Lists.meaning c.args.s.now in
    let n = c.loop-n.n in
    let w = c.clauses_with.result + c.clauses_with-in-loop-n.result in
    let there : n < length c.loop-n.around = omega (arith, c.requires, c.loop-n.auto.around, c.loop-n-test.true) in
    below_more (λ m. get_or (set c.loop-n.around n w) m 0 ≡ around_size M (2 * m)) n
    (λ m h. get_or-set_other c.loop-n.around n m w 0 (λ e. absurd (omega (arith, e, h))) ∙ c.loop-n.invariant m h)
    (get_or-set_same c.loop-n.around n w 0 there ∙ sym (around_both M n ∙ omega (arith, c.clauses_with.ensures.sum, c.clauses_with-in-loop-n.ensures.sum)))
