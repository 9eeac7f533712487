use mir.Val.{bool_byte}
use Rattle.std.proofs.Common.{◌≡◌, ◌∷◌, Bool, true, false, eqb, [], length, take, get_or, refl, arith, ap, sym, ◌∙◌}
use Rattle.std.proofs.lemmas.List.{length-take-le}
use Rattle.rules.specs.Const.{judged}
use Rattle.rules.specs.Store.{clause_at}
use Rattle.simplifier.specs.Shown.{work_of}
use Rattle.simplifier.proofs.Cursors.{on_some, on_none}
use Rattle.constants.proofs.Judges.{grows_chains, list_grows, clause_stays, judging_grows, one_more, none_left}
use Rattle.constants.proofs.judging.judge_first.Goals as goal

-- the mark of an answer
mark_of : (b : Bool) → eqb (bool_byte b) 1 ≡ b
mark_of true = refl
mark_of false = refl

pub returns-in_default-clause-makes : goal.returns-in_default-clause-makes
returns-in_default-clause-makes g c =
    let M = g.S.Lists.meaning c.loop-mark.s.store in
    let (J, grows, cursor, kept) = c.loop-mark.invariant in
    absurd (omega (arith, list_grows (g.S.Lists.meaning c.args.s.now.store) M grows c.args.l, on_none (g.S.Lists.at c.loop-mark.s.store) M c.args.l c.loop-mark.mark-index c.loop-mark.at c.in_default.is cursor))

pub loop-mark-preserved : goal.loop-mark-preserved
loop-mark-preserved g c =
    let M₀ = g.S.Lists.meaning c.args.s.now.store in
    let M = g.S.Lists.meaning c.loop-mark.s.store in
    let l = c.args.l in
    let i = c.loop-mark.mark-index in
    let n = length c.args.marks.now in
    let Cs = take n (M₀.own l) in
    let (J, grows, cursor, kept) = c.loop-mark.invariant in
    let (at, lt) = on_some (g.S.Lists.at c.loop-mark.s.store) M l i c.loop-mark.at c.in-Some.h c.in-Some.is cursor in
    let same : clause_at M l i ≡ get_or Cs i [] = clause_stays M₀ M grows l i n (omega arith) c.requires in (
      λ out. one_more Cs (work_of g.S.Lists.meaning c.args.s.now out) (work_of g.S.Lists.meaning c.loop-mark.s out) (work_of g.S.Lists.meaning c.judge.new.s out) i c.loop-mark.marks (bool_byte c.judge.result) c.judge.result
          (omega (arith, length-take-le n (M₀.own l) c.requires)) (omega arith) (J out) (ap (λ C. judged (C ∷ []) (work_of g.S.Lists.meaning c.loop-mark.s out)) (sym same) ∙ c.judge.ensures.makes l i at out) (mark_of c.judge.result),
      grows_chains.next M₀ M (g.S.Lists.meaning c.judge.new.s.store) grows
          (judging_grows (clause_at M l i ∷ []) (work_of g.S.Lists.meaning c.loop-mark.s []) (work_of g.S.Lists.meaning c.judge.new.s []) (c.judge.result ∷ []) (c.judge.ensures.makes l i at [])),
      c.next-at.ensures l i (c.judge.ensures.stand c.in-Some.h l i at),
      c.judge.ensures.kept ∙ kept,
    )

pub returns-clause-makes : goal.returns-clause-makes
returns-clause-makes g c out =
    let M₀ = g.S.Lists.meaning c.args.s.now.store in
    none_left (take (length c.args.marks.now) (M₀.own c.args.l)) (work_of g.S.Lists.meaning c.args.s.now out) (work_of g.S.Lists.meaning c.loop-mark.s out) c.loop-mark.mark-index c.loop-mark.marks
    (omega (arith, length-take-le (length c.args.marks.now) (M₀.own c.args.l) c.requires)) (omega arith) (c.loop-mark.invariant.0 out)
