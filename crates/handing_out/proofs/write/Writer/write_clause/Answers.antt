use Rattle.std.proofs.Common.{arith}
use Rattle.handing_out.proofs.Laying.{wrote_both, wrote_length}
use Rattle.handing_out.proofs.write.Writer.write_clause.Goals as goal

pub write-requires-2 : goal.write-requires-2
write-requires-2 c = let e = wrote_length (omega arith) c.write.ensures in omega (arith, e)

pub returns : goal.returns
returns c = wrote_both (omega arith) c.write.ensures c.write-2.ensures
