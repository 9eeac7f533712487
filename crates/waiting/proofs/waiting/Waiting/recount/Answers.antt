use Rattle.queue.specs.Waiting.{waiting}
use Rattle.waiting.proofs.Waits.{shuffled_same}
use Rattle.waiting.proofs.waiting.Waiting.recount.Goals as goal

pub returns-clause-waits : goal.returns-clause-waits
returns-clause-waits c = shuffled_same (waiting c.args.self.now.queue) (waiting c.set_count.new.queue) c.set_count.ensures.moved.shuffled
