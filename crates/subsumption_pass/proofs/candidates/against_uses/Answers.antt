use Rattle.std.proofs.Common.{rules, ◌≡◌, ◌+◌, [], drop, sym, subst, arith, Err}
use Rattle.std.proofs.Math.ListN.{drop_of_length-le}
use Rattle.rules.specs.Store.{Meaning, count}
use Rattle.subsumption_pass.proofs.Whole.{sizes_few}
use Rattle.subsumption_pass.specs.Candidates.{Goes}
use Rattle.subsumption_pass.proofs.Steps.{stays_put, reaches_on, reaches_end}
use Rattle.subsumption_pass.proofs.candidates.against_uses.Goals as goal

pub returns-in_err-against_use-clause-goes : goal.returns-in_err-against_use-clause-goes
returns-in_err-against_use-clause-goes g c l i a =
    let e : c.from_residual.result ≡ Err c.in_err-against_use.field-0.0 = search rules in
    subst (Goes (g.S.Lists.at c.against_use.new.s) c.args.one l i (λ (M : Meaning). M.uses c.args.x) (λ (M : Meaning). []) (g.S.Lists.meaning c.args.s.now) (g.S.Lists.meaning c.against_use.new.s)) (sym e)
    (let p = rw c.in-Some.is at c.loop-at.invariant.stands in
    reaches_end c.args.one l i (λ (M : Meaning). M.uses c.args.x) (λ (M : Meaning). drop c.loop-at.place (M.uses c.args.x)) (g.S.Lists.meaning c.args.s.now)
    (g.S.Lists.at c.loop-at.s) (g.S.Lists.at c.against_use.new.s) c.in_err-against_use.field-0.0.next (g.S.Lists.meaning c.loop-at.s) (g.S.Lists.meaning c.against_use.new.s)
    (c.loop-at.invariant.reaches l i a) (λ i₁ b. c.in_err-against_use.ensures.goes c.args.x c.loop-at.place l i₁ p.0 p.1 b))

pub overflow_add-place : goal.overflow_add-place
overflow_add-place g c =
    let p = rw c.in-Some.is at c.loop-at.invariant.stands in
    let f = sizes_few (g.S.Lists.meaning c.loop-at.s) (g.met.S.Lists.lawful c.loop-at.s) (g.met.S.Lists.small c.loop-at.s) c.args.x in
    omega (arith, p.1, f.0)

pub loop-at-smaller : goal.loop-at-smaller
loop-at-smaller g c =
    let p = rw c.in-Some.is at c.loop-at.invariant.stands in
    let e = c.in_ok-against_use.ensures.counts c.args.x in
    omega (arith, p.1, e)

pub loop-at-preserved : goal.loop-at-preserved
loop-at-preserved g c =
    let p = rw c.in-Some.is at c.loop-at.invariant.stands in
    record {
      around = c.against_use.ensures.around;
      stands = c.next_use-at.ensures c.loop-at.place (c.against_use.ensures.keeps c.in-Some.usage c.args.x c.loop-at.place p.0);
      reaches = λ l i a. reaches_on c.args.one l i (λ (M : Meaning). M.uses c.args.x) (λ (M : Meaning). drop c.loop-at.place (M.uses c.args.x)) (g.S.Lists.meaning c.args.s.now)
          (g.S.Lists.at c.loop-at.s) (g.S.Lists.at c.against_use.new.s) (λ (M : Meaning). drop (c.loop-at.place + 1) (M.uses c.args.x)) (g.S.Lists.meaning c.loop-at.s) (g.S.Lists.meaning c.against_use.new.s)
          (c.loop-at.invariant.reaches l i a) (λ i₁ b. c.in_ok-against_use.ensures.goes c.args.x c.loop-at.place l i₁ p.0 p.1 b);
    }

pub returns-clause-goes : goal.returns-clause-goes
returns-clause-goes g c l i a =
    let q : count (g.S.Lists.meaning c.loop-at.s) c.args.x ≡ c.loop-at.place = rw c.in_default.is at c.loop-at.invariant.stands in
    reaches_on c.args.one l i (λ (M : Meaning). M.uses c.args.x) (λ (M : Meaning). drop c.loop-at.place (M.uses c.args.x)) (g.S.Lists.meaning c.args.s.now)
    (g.S.Lists.at c.loop-at.s) (g.S.Lists.at c.loop-at.s) (λ (M : Meaning). []) (g.S.Lists.meaning c.loop-at.s) (g.S.Lists.meaning c.loop-at.s)
    (c.loop-at.invariant.reaches l i a)
    (λ i₁ b. stays_put (g.S.Lists.at c.loop-at.s) c.args.one l i₁ (λ (M : Meaning). drop c.loop-at.place (M.uses c.args.x)) (λ (M : Meaning). []) (g.S.Lists.meaning c.loop-at.s) b
    (drop_of_length-le ((g.S.Lists.meaning c.loop-at.s).uses c.args.x) (omega (arith, q))))
