use Rattle.std.proofs.Common.{rules, ◌≡◌, ℕ, [], sym, subst, Err}
use Rattle.rules.specs.Store.{Meaning}
use Rattle.rules.specs.Subsume.{refs_of}
use Rattle.subsumption_pass.specs.Checks.{Stands}
use Rattle.subsumption_pass.specs.Candidates.{Goes, Reaches}
use Rattle.subsumption_pass.proofs.Steps.{reaches_more, ends_before}
use Rattle.subsumption_pass.proofs.Stages.{own_left, owns_left, uses_left, all_left, left_follow, owns_follow, all_goes, then_run, then_lost, then_goes}
use Rattle.subsumption_pass.proofs.Refs.{own_follows}
use Rattle.subsumption_pass.proofs.candidates.against_all.Goals as goal
use Rattle.subsumption_pass.proofs.candidates.against_all.Goals.{In_ok-against_uses, In_ok-against_uses-2, In_ok-against_own}
use Rattle.subsumption_pass.proofs.candidates.against_all.Given.{Over}

-- past the uses of x
past_uses : (g : Over) (c : In_ok-against_uses g) (l i : ℕ) → Stands (g.S.Lists.at c.args.s.now) (g.S.Lists.meaning c.args.s.now) c.args.one l i
    → Reaches (g.S.Lists.at c.against_uses.new.s) c.args.one l i (all_left c.args.x.word c.opposite-opposite.result.word) (uses_left c.args.x.word c.opposite-opposite.result.word) (g.S.Lists.meaning c.args.s.now) (g.S.Lists.meaning c.against_uses.new.s)
past_uses g c l i a =
    let x = c.args.x.word in let y = c.opposite-opposite.result.word in
    reaches_more (g.S.Lists.at c.against_uses.new.s) l i (λ (M : Meaning). M.uses x) (uses_left x y) (g.S.Lists.meaning c.args.s.now) (g.S.Lists.meaning c.against_uses.new.s) (left_follow x y) c.args.one (c.in_ok-against_uses.ensures.goes l i a)

-- and those of its opposite
past_both : (g : Over) (c : In_ok-against_uses-2 g) (l i : ℕ)
    → Reaches (g.S.Lists.at c.against_uses.new.s) c.args.one l i (all_left c.args.x.word c.opposite-opposite.result.word) (uses_left c.args.x.word c.opposite-opposite.result.word) (g.S.Lists.meaning c.args.s.now) (g.S.Lists.meaning c.against_uses.new.s)
    → Reaches (g.S.Lists.at c.against_uses-2.new.s) c.args.one l i (all_left c.args.x.word c.opposite-opposite.result.word) (owns_left c.args.x.word c.opposite-opposite.result.word) (g.S.Lists.meaning c.args.s.now) (g.S.Lists.meaning c.against_uses-2.new.s)
past_both g c l i h =
    let x = c.args.x.word in let y = c.opposite-opposite.result.word in
    then_run c.args.one l i (all_left x y) (λ (M : Meaning). M.uses y) (owns_left x y) (owns_follow x y) (g.S.Lists.at c.against_uses.new.s) (g.S.Lists.at c.against_uses-2.new.s)
    (g.S.Lists.meaning c.args.s.now) (g.S.Lists.meaning c.against_uses.new.s) (g.S.Lists.meaning c.against_uses-2.new.s) h (c.in_ok-against_uses-2.ensures.goes l)

-- and the own clauses of x
past_own : (g : Over) (c : In_ok-against_own g) (l i : ℕ)
    → Reaches (g.S.Lists.at c.against_uses-2.new.s) c.args.one l i (all_left c.args.x.word c.opposite-opposite.result.word) (owns_left c.args.x.word c.opposite-opposite.result.word) (g.S.Lists.meaning c.args.s.now) (g.S.Lists.meaning c.against_uses-2.new.s)
    → Reaches (g.S.Lists.at c.against_own.new.s) c.args.one l i (all_left c.args.x.word c.opposite-opposite.result.word) (own_left c.opposite-opposite.result.word) (g.S.Lists.meaning c.args.s.now) (g.S.Lists.meaning c.against_own.new.s)
past_own g c l i h =
    let x = c.args.x.word in let y = c.opposite-opposite.result.word in
    then_run c.args.one l i (all_left x y) (λ (M : Meaning). refs_of M x) (own_left y) (own_follows y) (g.S.Lists.at c.against_uses-2.new.s) (g.S.Lists.at c.against_own.new.s)
    (g.S.Lists.meaning c.args.s.now) (g.S.Lists.meaning c.against_uses-2.new.s) (g.S.Lists.meaning c.against_own.new.s) h (c.in_ok-against_own.ensures.goes l)

pub returns-in_err-against_uses-clause-goes : goal.returns-in_err-against_uses-clause-goes
returns-in_err-against_uses-clause-goes g c l i a =
    let x = c.args.x.word in let y = c.opposite-opposite.result.word in
    let M = g.S.Lists.meaning c.args.s.now in let N = g.S.Lists.meaning c.against_uses.new.s in
    let at = g.S.Lists.at c.against_uses.new.s in
    let lost = c.in_err-against_uses.field-0.0 in
    let e : c.from_residual.result ≡ Err lost = search rules in
    all_goes at c.args.one l i x y M N c.from_residual.result c.opposite-opposite.ensures
    (subst (Goes at c.args.one l i (all_left x y) (λ (M : Meaning). []) M N) (sym e)
    (ends_before at l i (λ (M : Meaning). M.uses x) (uses_left x y) M N (left_follow x y) lost.next (c.in_err-against_uses.ensures.goes l i a)))

pub returns-in_err-against_uses-2-clause-goes : goal.returns-in_err-against_uses-2-clause-goes
returns-in_err-against_uses-2-clause-goes g c l i a =
    let x = c.args.x.word in let y = c.opposite-opposite.result.word in
    let M = g.S.Lists.meaning c.args.s.now in let N = g.S.Lists.meaning c.against_uses-2.new.s in
    let at = g.S.Lists.at c.against_uses-2.new.s in
    let lost = c.in_err-against_uses-2.field-0.0 in
    let e : c.from_residual-in_err-against_uses-2.result ≡ Err lost = search rules in
    let h = past_uses g (goal.at.returns-in_err-against_uses-2-clause-goes g c).In_ok-against_uses l i a in
    all_goes at c.args.one l i x y M N c.from_residual-in_err-against_uses-2.result c.opposite-opposite.ensures
    (subst (Goes at c.args.one l i (all_left x y) (λ (M : Meaning). []) M N) (sym e)
    (then_lost c.args.one l i (all_left x y) (λ (M : Meaning). M.uses y) (owns_left x y) (owns_follow x y) (g.S.Lists.at c.against_uses.new.s) at M (g.S.Lists.meaning c.against_uses.new.s) N h lost.next (c.in_err-against_uses-2.ensures.goes l)))

pub returns-in_err-against_own-clause-goes : goal.returns-in_err-against_own-clause-goes
returns-in_err-against_own-clause-goes g c l i a =
    let x = c.args.x.word in let y = c.opposite-opposite.result.word in
    let M = g.S.Lists.meaning c.args.s.now in let N = g.S.Lists.meaning c.against_own.new.s in
    let at = g.S.Lists.at c.against_own.new.s in
    let lost = c.in_err-against_own.field-0.0 in
    let e : c.from_residual-in_err-against_own.result ≡ Err lost = search rules in
    let s = goal.at.returns-in_err-against_own-clause-goes g c in
    let h = past_both g s.In_ok-against_uses-2 l i (past_uses g s.In_ok-against_uses l i a) in
    all_goes at c.args.one l i x y M N c.from_residual-in_err-against_own.result c.opposite-opposite.ensures
    (subst (Goes at c.args.one l i (all_left x y) (λ (M : Meaning). []) M N) (sym e)
    (then_lost c.args.one l i (all_left x y) (λ (M : Meaning). refs_of M x) (own_left y) (own_follows y) (g.S.Lists.at c.against_uses-2.new.s) at M (g.S.Lists.meaning c.against_uses-2.new.s) N h lost.next (c.in_err-against_own.ensures.goes l)))

pub returns-clause-goes : goal.returns-clause-goes
returns-clause-goes g c l i a =
    let x = c.args.x.word in let y = c.opposite-opposite.result.word in
    let M = g.S.Lists.meaning c.args.s.now in let N = g.S.Lists.meaning c.against_own-2.new.s in
    let at = g.S.Lists.at c.against_own-2.new.s in
    let s = goal.at.returns-clause-goes g c in
    let h = past_own g s.In_ok-against_own l i (past_both g s.In_ok-against_uses-2 l i (past_uses g s.In_ok-against_uses l i a)) in
    all_goes at c.args.one l i x y M N c.against_own-2.result c.opposite-opposite.ensures
    (then_goes c.args.one l i (all_left x y) (own_left y) (g.S.Lists.at c.against_own.new.s) at M (g.S.Lists.meaning c.against_own.new.s) N h c.against_own-2.result (c.against_own-2.ensures.goes l))
