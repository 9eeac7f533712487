use Rattle.std.proofs.Common.{refl, arith}
use Rattle.clause.proofs.Merges.{last_node_front, last_node_none}
use Rattle.clause.proofs.resolvents.Merged.push.Goals as goal
use Rattle.clause.proofs.resolvents.Merged.push.Goals.{else-n-gt0-via-then-n-gt0+else-eq, else-n-gt0-via-else-n-gt0}

pub returns-then-eq-clause-added : goal.returns-then-eq-clause-added
returns-then-eq-clause-added c = grind (arith, last_node_front)

pub returns-clause-added : goal.returns-clause-added
returns-clause-added c =
    elim c.else-n-gt0.branch [
      | else-n-gt0-via-then-n-gt0+else-eq w ↦ (λ e. grind (arith, last_node_front, e), refl, refl)
      | else-n-gt0-via-else-n-gt0 w ↦ (λ e. grind (arith, last_node_none, e), refl, refl)
    ]
