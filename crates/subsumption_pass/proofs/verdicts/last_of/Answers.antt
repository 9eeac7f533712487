use Rattle.subsumption_pass.proofs.Lists.{last_at}
use Rattle.std.proofs.Common.{◌∙◌}
use Rattle.subsumption_pass.proofs.verdicts.last_of.Goals as goal

pub returns-in-len1-up : goal.returns-in-len1-up
returns-in-len1-up c = c.from.ensures ∙ last_at c.args.clause.now
