use Rattle.std.proofs.Common.{◌≡◌, ◌+◌, ◌∷◌, get_or, drop, Some, sym, ap, ◌∙◌, arith}
use Rattle.network.specs.Clauses.{without}
use Rattle.clause.proofs.Fronts.{sofar_same, sofar_more, so_far_get_or, sofar_ends}
use Rattle.clause.proofs.Merges.{without_kept, without_lost, without_end}
use Rattle.clause.proofs.subsumption.drop_literal.Goals as goal
use Rattle.clause.proofs.subsumption.drop_literal.Goals.{then-l-literal, else-l-literal}

pub loop-i-preserved : goal.loop-i-preserved
loop-i-preserved c =
    let C = c.args.clause.now in
    let x = c.args.literal.word in
    let l = c.loop-i in
    let is : get_or l.clause l.i 0 ≡ get_or C l.i 0 = so_far_get_or l.invariant.1 l.i (omega arith) in
    let next = Some (without x (drop (l.i + 1) C)) in
    elim c.if-l-literal.branch [
      | then-l-literal w ↦ (
        omega (arith, w.n-is),
        rw (w.clause-is, w.n-is)
            (sofar_more l.invariant.1 next (get_or l.clause l.i 0) (omega arith)
            (ap Some (without_kept x C l.i (omega arith) (λ e. w.if-l-literal.true (is ∙ e)) ∙ ap (λ k. k ∷ without x (drop (l.i + 1) C)) (sym is)))),
      )
      | else-l-literal w ↦ (
        omega (arith, w.n-is),
        rw (w.clause-is, w.n-is) (sofar_same l.invariant.1 next (ap Some (without_lost x C l.i (omega arith) (sym is ∙ w.if-l-literal.false)))),
      )
    ]

pub returns : goal.returns
returns c = sofar_ends c.loop-i.invariant.1 0 (ap Some (without_end c.args.literal.word c.args.clause.now c.loop-i.i (omega arith)))
