-- Small images, by computation. Assumes nothing.
use Rattle.std.proofs.Common.{refl}
use Rattle.network.specs.Rows.{some_row}
use Rattle.image.specs.Headers.{climbs, headed}
use Rattle.image.specs.Runs.{whole_by, whole, clauses_by, clauses}
use Rattle.intake.specs.Answers.{searched, rows_answer, node_answer, nodes_answer, take_in_answer}
use Rattle.intake.specs.Samples.{Samples}
use Rattle.network.specs.Assignments.{lit, put}

pub samples : Samples
unfolding take_in_answer nodes_answer node_answer rows_answer searched some_row climbs headed whole_by whole clauses_by clauses lit put
samples = record {
  smallest = refl;
  short = refl;
  clash = refl;
  tight = refl;
  never = refl;
  loose = refl;
  cut = refl;
  order = refl;
  owner = refl;
  count = refl;
}
