use Rattle.intake.proofs.Examples.{samples}
use Rattle.intake.proofs.Exactness.{exactly}
use Rattle.intake.proofs.LooseNodes.{every_node_has_a_value, loose_nodes_are_found, ready_to_start}
use Rattle.intake.proofs.Meanings.{read_back}
use Rattle.intake.proofs.laws.laws_stand.Goals as goal

pub returns : goal.returns
returns c = record { exactly = exactly; reads = read_back; valued = every_node_has_a_value; loose = loose_nodes_are_found; ready = ready_to_start; samples = samples }
