use Rattle.std.proofs.Common.{suc, [], refl, arith}
use Rattle.simplifier.specs.Shown.{work_of}
use Rattle.handing_out.proofs.Images.{measured_more, measured_all}
use Rattle.handing_out.proofs.measure.Size.of_image.Goals as goal

pub loop-node-preserved : goal.loop-node-preserved
loop-node-preserved g c =
    let (k, e, l, m) = c.loop-node.invariant in
    let part = c.of_node-part.ensures in
    (suc k, omega arith, omega arith, measured_more (work_of g.S.Lists.meaning c.args.s.now []) k c.loop-node.size c.of_node-part.result _ m (rw e at part.measures) part.few part.counted refl refl)

pub returns : goal.returns
returns g c =
    let (k, e, l, m) = c.loop-node.invariant in
    let all = measured_all (work_of g.S.Lists.meaning c.args.s.now []) k c.loop-node.size (omega arith) m in
    record { words = all.0; clauses = all.1 }
