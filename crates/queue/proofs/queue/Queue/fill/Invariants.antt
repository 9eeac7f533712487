use Rattle.std.proofs.Common.{◌-◌, ◌≤◌}
use Rattle.queue.specs.Waiting.{Filled}
use Rattle.queue.proofs.queue.Queue.fill.Given as goal

abbrev pub invariant-loop-number : goal.invariant-loop-number
invariant-loop-number l = (l.number - l.from ≤ l.to - l.from) × Filled l.from (l.number - l.from) l.initial.self l.self
