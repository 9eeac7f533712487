use Rattle.queue.specs.Keys.{by_key, by_key_orders, count_sum}
use Rattle.queue.proofs.Counts.{count_moves_one}
use Rattle.waiting.proofs.counts.set_count.Goals as goal

pub returns-then-literal-counts-clause-heap : goal.returns-then-literal-counts-clause-heap
returns-then-literal-counts-clause-heap c =
    let was = count_sum c.args.counts.now in
    c.changed.ensures.heap (by_key was) (by_key_orders was) (count_moves_one c.args.counts.now c.args.literal c.args.count)
