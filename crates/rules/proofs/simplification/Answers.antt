use Rattle.rules.proofs.Theorem.{starts_well, always_right, compared_alike}
use Rattle.rules.proofs.simplification.Goals as goal

pub returns : goal.returns
returns c = record { starts = starts_well; right = always_right; compared = compared_alike }
