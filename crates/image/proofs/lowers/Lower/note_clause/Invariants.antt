use Rattle.std.proofs.Common.{◌≡◌, drop}
use Rattle.network.specs.Rows.{noted_in}
use Rattle.image.proofs.lowers.Lower.note_clause.Given as goal

abbrev pub invariant-loop-l : goal.invariant-loop-l
invariant-loop-l l = noted_in l.owner l.self.0.items (drop l.l-index l.clause) ≡ noted_in l.owner l.initial.self.0.items l.clause
