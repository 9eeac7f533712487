use Rattle.network.proofs.Theorems.{basics, rows_tell, resolution, definition_out, fitting, simplification, signatures, lose_both, refine}
use Rattle.network.proofs.laws_stand.Goals as goal

pub returns : goal.returns
returns c = record {
  basics = basics;
  rows = rows_tell;
  resolution = resolution;
  definition = definition_out;
  fitting = fitting;
  simplification = simplification;
  signatures = signatures;
  pair = lose_both;
  refine = refine;
}
