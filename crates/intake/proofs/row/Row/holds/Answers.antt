use Rattle.std.proofs.Common.{rules}
use Rattle.std.proofs.lemmas.Iterator.{YieldsList-from_slice}
use Rattle.std.proofs.lemmas.Iterator.Search.{any_from_yields_List}
use Rattle.network.specs.Assignments.{lit, put}
use Rattle.network.specs.Rows.{row}
use Rattle.intake.proofs.row.Row.holds.Goals as goal

pub returns : goal.returns
returns c =
    any_from_yields_List (lit (put (row c.args.self.low.now c.args.self.number) c.args.self.node c.args.self.value)) _ _ _ c.any.ensures.ran (YieldsList-from_slice c.args.clause.now cc) (λ x b q k. search rules)
