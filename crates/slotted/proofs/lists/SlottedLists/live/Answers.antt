use Rattle.std.proofs.Common.{◌∙◌}
use Rattle.slotted.proofs.Asks.{live_is}
use Rattle.slotted.proofs.lists.SlottedLists.live.Goals as goal

pub returns : goal.returns
returns g c = c.live.ensures ∙ live_is c.args.self.now.own c.args.self.now.indexed (g.I.Index.used c.args.self.now.index)
