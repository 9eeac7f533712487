-- What holds of a work between calls.
-- Assumes nothing.
use Rattle.std.specs.Prelude.{◌≡◌, suc, ◌≤◌, false, Some}
use Rattle.network.specs.Networks.{Network}
use Rattle.network.specs.Clauses.{has}
use Rattle.rules.specs.Kept.{Kept}
use Rattle.rules.specs.Held.{held, Placed}
use Rattle.rules.specs.Work.{Work}

-- the network of the store keeps what the first network says; clauses stand in the lists of their last literals; node 0 is false
pub record Good (first : Network) (W : Work) : Type 0 where
  pub kept : Kept first (held W.store) (suc W.top) W.values (λ k. has k W.out) W.frozen
  pub placed : Placed W.store
  pub small : W.top ≤ 1023
  pub zero_value : W.values 0 ≡ Some false
