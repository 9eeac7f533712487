use Rattle.std.proofs.Common.{◌≡◌, ℕ, ◌-◌, length}
use Rattle.rules.specs.Subsume.{walked}
use Rattle.subsumption_pass.specs.Checks.{Next, Surrounds}
use Rattle.subsumption_pass.proofs.checks.walk_own.Given as goal

abbrev pub invariant-loop-k : goal.invariant-loop-k
invariant-loop-k g l = record {
  around : Surrounds (g.S.Lists.meaning l.s) l.around;
  walks : (i : ℕ) × (Next (g.S.Lists.at l.s) (g.S.Lists.meaning l.s) l.at l.l i
      × (walked (length ((g.S.Lists.meaning l.fn.s).own l.l)) l.l 0 (g.S.Lists.meaning l.fn.s) ≡ walked (length ((g.S.Lists.meaning l.fn.s).own l.l) - l._k) l.l i (g.S.Lists.meaning l.s)));
}
