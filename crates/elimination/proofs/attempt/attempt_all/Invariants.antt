use Rattle.std.proofs.Common.{◌≡◌, ◌+◌, ◌-◌}
use Rattle.elimination.specs.Words.{Roomy}
use Rattle.rules.specs.Index.{Indexed}
use Rattle.waiting.specs.Waits.{Counting}
use Rattle.elimination.proofs.Turns.{Under}
use Rattle.elimination.proofs.attempt.attempt_all.Given as goal

abbrev pub invariant-loop-k : goal.invariant-loop-k
invariant-loop-k g l = record {
  under : Under g.S.Lists.meaning (l.fn.s.top + 1 - l._k) l.count l.fn.s l.s l.waiting;
  top : l.s.top ≡ l.fn.s.top;
  index : Indexed (g.S.Lists.meaning l.s.store);
  counts : Counting (g.S.Lists.meaning l.s.store) l.fn.s.top l.waiting;
  roomy : Roomy (g.S.Lists.meaning l.s.store).room l.words;
}
