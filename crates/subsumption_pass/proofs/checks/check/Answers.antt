use Rattle.std.proofs.Common.{◌+◌, ap, ◌∙◌, arith}
use Rattle.subsumption_pass.proofs.Steps.{next_found}
use Rattle.subsumption_pass.proofs.Whole.{literals_small, checked_lost, checked_through}
use Rattle.rules.specs.Subsume.{best}
use Rattle.subsumption_pass.proofs.checks.check.Goals as goal

pub best_of-best-requires : goal.best_of-best-requires
best_of-best-requires g c x h =
    let (l, p) = c.requires.live in let (i, a) = p in
    let s = literals_small (g.S.Lists.meaning c.args.s.now) (g.met.S.Lists.lawful c.args.s.now) l i a.1 c.clause.result.now (c.clause.ensures l i a.0) x h in
    let w = c.requires.around.long in
    omega (arith, s, w)

pub returns-in-Ok-clause-checks : goal.returns-in-Ok-clause-checks
returns-in-Ok-clause-checks g c l i a =
    let M = g.S.Lists.meaning c.args.s.now in let N = g.S.Lists.meaning c.against_all.new.s in
    let at = g.S.Lists.at c.against_all.new.s in
    let e = c.clause.ensures l i a.0 in
    let b = c.best_of-best.ensures M c.requires.around (literals_small M (g.met.S.Lists.lawful c.args.s.now) l i a.1 c.clause.result.now e) ∙ ap (best M) e in
    checked_through l i M c.best_of-best.result.word b at N c.args.one c.next.result (c.in-Ok.ensures.goes l i a) (λ i₁ s. next_found at N l (i₁ + 1) c.next.result (c.next.ensures l i₁ s))

pub returns-in-Err-clause-checks : goal.returns-in-Err-clause-checks
returns-in-Err-clause-checks g c l i a =
    let M = g.S.Lists.meaning c.args.s.now in let N = g.S.Lists.meaning c.against_all.new.s in
    let e = c.clause.ensures l i a.0 in
    let b = c.best_of-best.ensures M c.requires.around (literals_small M (g.met.S.Lists.lawful c.args.s.now) l i a.1 c.clause.result.now e) ∙ ap (best M) e in
    checked_lost l i M c.best_of-best.result.word b (g.S.Lists.at c.against_all.new.s) N c.in-Err.lost.next (c.in-Err.ensures.goes l i a)
