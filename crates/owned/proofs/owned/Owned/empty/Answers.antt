use Rattle.std.proofs.Common.{◌∙◌}
use Rattle.owned.proofs.Fills.{cleared_kept}
use Rattle.owned.proofs.owned.Owned.empty.Goals as goal

pub invariant_of-self : goal.invariant_of-self
invariant_of-self c = let s = c.args.self.now in cleared_kept s.room c.clear.new.links c.clear.new.texts s.small (c.clear.ensures.long ∙ s.exact) c.clear.ensures.cleared
