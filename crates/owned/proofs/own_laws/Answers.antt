use Rattle.owned.proofs.Laws.{own_laws}
use Rattle.owned.proofs.own_laws.Goals as goal

pub returns : goal.returns
returns c = own_laws
