use Rattle.std.proofs.Common.{◌∙◌, rules}
use Rattle.owned.proofs.Fills.{cleared_kept}
use Rattle.owned.proofs.owned.Owned.new.Goals as goal

pub invariant_of-result : goal.invariant_of-result
invariant_of-result c = cleared_kept c.if-fits.room c.clear.new.links c.clear.new.texts (search rules) (c.clear.ensures.long ∙ search rules) c.clear.ensures.cleared
