use Rattle.std.proofs.Common.{◌≡◌, ℕ, ◌+◌, List, ◌<◌, ◌-◌, length, take, drop, get_or, sym, ap, ◌∙◌, subst, arith}
use Rattle.std.proofs.Math.ListN.{drop_of_length-le}
use Rattle.network.specs.Assignments.{node}
use Rattle.clause.specs.declared.literals.Lit.{Lit}
use Rattle.rules.specs.Bve.{least}
use Rattle.subsumption_pass.proofs.Best.{rest_in, least_fewer, least_stays, best_by_words}
use Rattle.subsumption_pass.proofs.checks.best_of.Goals as goal
use Rattle.subsumption_pass.proofs.checks.best_of.Goals.{then-around-var, else-around-var}

pub bounds-around-var : goal.bounds-around-var
bounds-around-var c = subst (λ n. n < length c.args.around.now) (sym (c.var.ensures ∙ ap node c.from-x.ensures)) (c.requires _ (rest_in c.args.clause.now c.loop-word.word-index c.loop-word-test.true))

pub loop-word-preserved : goal.loop-word-preserved
loop-word-preserved c =
    let f : ℕ → ℕ = λ x. get_or c.args.around.now (node x) 0 in
    let i = c.loop-word.word-index in
    let b = c.loop-word.best.word in
    let x = c.from-x.result.word in
    let rest : List ℕ = take (length c.args.clause.now - 1) (drop 1 c.args.clause.now) in
    let p : f x ≡ get_or c.args.around.now c.var.result.number 0 = ap (λ n. get_or c.args.around.now n 0) (sym c.var.ensures) in
    let q : f b ≡ get_or c.args.around.now c.var-in-loop-word.result.number 0 = ap (λ n. get_or c.args.around.now n 0) (sym c.var-in-loop-word.ensures) in
    elim c.if-around-var.branch [
      | then-around-var w ↦ record {
        within = subst (λ (y : Lit). node y.word < length c.args.around.now) (sym w.best-is)
            (subst (λ y. node y < length c.args.around.now) (sym c.from-x.ensures) (c.requires _ (rest_in c.args.clause.now i c.loop-word-test.true)));
        least = c.loop-word.invariant.least ∙ least_fewer f b x i rest c.loop-word-test.true c.from-x.ensures (omega (arith, p, q, w.if-around-var.true))
            ∙ ap (λ (y : Lit). least f y.word (drop (i + 1) rest)) (sym w.best-is);
      }
      | else-around-var w ↦ record {
        within = subst (λ (y : Lit). node y.word < length c.args.around.now) (sym w.best-is) c.loop-word.invariant.within;
        least = c.loop-word.invariant.least ∙ least_stays f b x i rest c.loop-word-test.true c.from-x.ensures (omega (arith, p, q, w.if-around-var.false))
            ∙ ap (λ (y : Lit). least f y.word (drop (i + 1) rest)) (sym w.best-is);
      }
    ]

pub returns : goal.returns
returns c M S small =
    let rest = take (length c.args.clause.now - 1) (drop 1 c.args.clause.now) in
    let f = λ (x : ℕ). get_or c.args.around.now (node x) 0 in
    sym (ap (λ n. least f n rest) (sym c.from-best.ensures) ∙ c.loop-word.invariant.least ∙ ap (least f c.loop-word.best.word) (drop_of_length-le rest c.loop-word-test.false))
    ∙ best_by_words M c.args.around.now S c.args.clause.now small c.in-len1-up.len_at_least
