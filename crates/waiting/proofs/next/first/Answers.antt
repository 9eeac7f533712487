use Rattle.queue.specs.Keys.{by_key, count_sum}
use Rattle.queue.specs.Waiting.{waiting}
use Rattle.waiting.proofs.Nexts.{popped_below}
use Rattle.waiting.proofs.next.first.Goals as goal

pub returns-clause-node : goal.returns-clause-node
returns-clause-node c =
    let q = c.args.queue.now in
    popped_below (by_key (count_sum c.args.counts.now)) (waiting q) (waiting c.pop.new.self) q.places.now _ c.pop.result c.pop.ensures.popped q.placed
