use Rattle.std.proofs.Common.{rules}
use Rattle.rings.specs.Rings.{cut_out}
use Rattle.rings.proofs.unlink.Goals as goal

pub returns-then-not-knotted_in : goal.returns-then-not-knotted_in
unfolding cut_out
returns-then-not-knotted_in c = search rules

pub returns : goal.returns
unfolding cut_out
returns c = search rules
