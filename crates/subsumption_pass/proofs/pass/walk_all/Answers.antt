use Rattle.std.proofs.Common.{sym, ap, ◌∙◌}
use Rattle.rules.specs.Subsume.{walk}
use Rattle.subsumption_pass.proofs.Whole.{each_last}
use Rattle.subsumption_pass.proofs.pass.walk_all.Goals as goal

pub loop-l-preserved : goal.loop-l-preserved
loop-l-preserved g c = record {
  around = c.walk_own.ensures.around;
  walks = c.walk_own.ensures.walks ∙ ap (walk c.loop-l.l) c.loop-l.invariant.walks ∙ sym (each_last walk c.loop-l.l (g.S.Lists.meaning c.args.s.now));
}
