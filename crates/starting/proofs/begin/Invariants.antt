use Rattle.std.proofs.Common.{◌≡◌, ℕ, suc, ◌≤◌, false, [], replicate}
use Rattle.image.specs.Headers.{top}
use Rattle.simplifier.specs.Shown.{work_of}
use Rattle.starting.proofs.Nodes.{entered}
use Rattle.starting.proofs.begin.Given as goal

abbrev pub invariant-loop-node : goal.invariant-loop-node
invariant-loop-node g l = record {
  upto : (k : ℕ) × (l.node ≡ suc k) × (k ≤ top l.intake.image.now) × (work_of g.S.Lists.meaning l.s [] ≡ entered l.intake.image.now l.intake.frozen (g.S.Lists.meaning l.fn.store) k);
  none_out : l.s.taken_out ≡ replicate 1024 false;
}
