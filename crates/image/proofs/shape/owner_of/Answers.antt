use Rattle.std.proofs.Common.{rules}
use Rattle.image.proofs.Shapes.{owner_at}
use Rattle.image.proofs.shape.owner_of.Goals as goal

pub returns-in-len1-up : goal.returns-in-len1-up
returns-in-len1-up c = owner_at c.args.clause.now _ (search rules)
