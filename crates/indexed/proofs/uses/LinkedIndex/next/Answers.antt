use Rattle.indexed.specs.Facts.{sound}
use Rattle.indexed.proofs.Asks.{next_use, no_next}
use Rattle.indexed.proofs.uses.LinkedIndex.next.Goals as goal

pub returns-in_default : goal.returns-in_default
returns-in_default c j st = let s = c.args.self.now in no_next s.room s.words.now (sound s.sound) c.args.u.node c.args._k j st c.in_default.ensures

pub returns : goal.returns
returns c j st = let s = c.args.self.now in next_use s.room s.words.now (sound s.sound) c.args.u.node c.args._k j st c.in-Some.node c.in-Some.ensures
