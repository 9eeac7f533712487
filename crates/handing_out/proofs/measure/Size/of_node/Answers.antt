use Rattle.std.proofs.Common.{◌+◌, ◌*◌, [], ◌∷◌}
use Rattle.rules.specs.Work.{own_of}
use Rattle.simplifier.specs.Shown.{work_of}
use Rattle.handing_out.proofs.Alone.{handed_is}
use Rattle.handing_out.proofs.Runs.{measures_same, measures_one, measures_both}
use Rattle.handing_out.proofs.measure.Size.of_node.Goals as goal

pub returns-in-Some-clause-measures : goal.returns-in-Some-clause-measures
returns-in-Some-clause-measures g c =
    let l = c.in-Some.field-0.word in
    measures_same (handed_is (work_of g.S.Lists.meaning c.args.s.now []) c.args.node (λ Cs. (l ∷ []) ∷ []) c.in-Some.ensures) (measures_one l)

pub returns-in-None-clause-measures : goal.returns-in-None-clause-measures
returns-in-None-clause-measures g c =
    let W = work_of g.S.Lists.meaning c.args.s.now [] in
    measures_same (handed_is W c.args.node (λ Cs. Cs) c.in-None.ensures)
    (measures_both (own_of W (2 * c.args.node)) (own_of W (2 * c.args.node + 1)) c.of_list-positive.result c.of_list-negative.result c.of_list-positive.ensures.measures c.of_list-negative.ensures.measures)
