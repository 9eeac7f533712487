use Rattle.std.proofs.Common.{arith}
use Rattle.std.proofs.lemmas.List.{get_or_default, get_or_past}
use Rattle.network.specs.Values.{literal}
use Rattle.clause.proofs.Words.{flipped_same}
use Rattle.clause.proofs.values.value_of.Goals as goal

pub returns-in-Some : goal.returns-in-Some
unfolding literal
returns-in-Some c = grind (arith, get_or_default, flipped_same)

pub returns-in-Some-2 : goal.returns-in-Some-2
unfolding literal
returns-in-Some-2 c = grind arith

pub returns-in-None : goal.returns-in-None
unfolding literal
returns-in-None c = grind (arith, get_or_past)
