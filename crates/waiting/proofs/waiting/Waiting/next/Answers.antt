use Rattle.waiting.specs.Waits.{both_counts}
use Rattle.waiting.proofs.Nexts.{next_is}
use Rattle.waiting.proofs.waiting.Waiting.next.Goals as goal

pub returns-clause-next : goal.returns-clause-next
returns-clause-next c = let w = c.args.self.now in next_is (both_counts w) _ w.queue c.first.result w.heap c.first.ensures.popped
