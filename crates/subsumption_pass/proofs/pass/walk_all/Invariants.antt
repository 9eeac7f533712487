use Rattle.std.proofs.Common.{◌≡◌}
use Rattle.rules.specs.Store.{up_to}
use Rattle.rules.specs.Subsume.{walk}
use Rattle.rules.specs.Work.{each}
use Rattle.subsumption_pass.specs.Checks.{Surrounds}
use Rattle.subsumption_pass.proofs.pass.walk_all.Given as goal

abbrev pub invariant-loop-l : goal.invariant-loop-l
invariant-loop-l g l = record {
  around : Surrounds (g.S.Lists.meaning l.s) l.around;
  walks : g.S.Lists.meaning l.s ≡ each walk (up_to l.l) (g.S.Lists.meaning l.fn.s);
}
