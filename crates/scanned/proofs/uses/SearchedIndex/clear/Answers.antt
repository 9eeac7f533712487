use Rattle.std.proofs.Common.{ap, ◌∙◌}
use Rattle.network.specs.Clauses.{has}
use Rattle.scanned.specs.Facts.{joined_has, sound}
use Rattle.scanned.proofs.uses.SearchedIndex.clear.Goals as goal

pub cut_all-requires : goal.cut_all-requires
cut_all-requires c = sound c.args.self.now.sound

pub returns-clause-joins : goal.returns-clause-joins
returns-clause-joins c y = joined_has c.args.self.now.room c.cut_all.new.ws c.cut_all.ensures.sound y ∙ ap (has y) c.cut_all.ensures.none
