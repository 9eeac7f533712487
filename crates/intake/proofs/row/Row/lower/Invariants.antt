use Rattle.std.proofs.Common.{◌≡◌, drop}
use Rattle.network.specs.Rows.{row}
use Rattle.intake.proofs.row.Row.lower.Given as goal

abbrev pub invariant-loop-x : goal.invariant-loop-x
invariant-loop-x l = row (drop l.x-index l.self.low.now) l.digits l.node ≡ row l.self.low.now l.self.number l.node
