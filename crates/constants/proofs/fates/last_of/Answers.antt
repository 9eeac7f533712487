use Rattle.std.proofs.Common.{◌-◌, length, arith}
use Rattle.constants.proofs.Lasts.{last_at}
use Rattle.constants.proofs.fates.last_of.Goals as goal

pub returns-in-len1-up : goal.returns-in-len1-up
returns-in-len1-up c = last_at c.args.clause.now (length c.args.clause.now - 1) (omega arith)
