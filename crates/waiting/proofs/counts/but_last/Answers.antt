use Rattle.waiting.proofs.Recounts.{front_take}
use Rattle.waiting.proofs.counts.but_last.Goals as goal

pub returns-in-len1-up : goal.returns-in-len1-up
returns-in-len1-up c = front_take c.args.clause.now
