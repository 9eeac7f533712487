use Rattle.owned.proofs.Asks.{next_says}
use Rattle.owned.proofs.owned.Owned.next.Goals as goal

pub returns-clause-says : goal.returns-clause-says
returns-clause-says c = λ l i a. next_says c.args.self.now c.args.x l i a c.after.result c.after.ensures
