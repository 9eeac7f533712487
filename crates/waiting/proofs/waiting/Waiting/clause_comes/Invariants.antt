use Rattle.std.proofs.Common.{◌≡◌, ℕ, ◌+◌, ◌-◌, ◌^◌, ◌<◌, min, take}
use Rattle.waiting.specs.Waits.{counts_of, SameWait, times}
use Rattle.waiting.proofs.waiting.Waiting.clause_comes.Given as goal

abbrev pub invariant-loop-literal : goal.invariant-loop-literal
invariant-loop-literal l = record {
  counts : (k : ℕ) → k < 2048 → counts_of l.self k ≡ min (counts_of l.initial.self k + times k (take l.literal-index l.front)) (2 ^ 32 - 1);
  waits : SameWait l.initial.self l.self;
}
