-- What the pass finds of a clause, in the words of the rules. Assumes nothing.
use Rattle.std.specs.Prelude.{ℕ, List, take}
use Rattle.constants.specs.declared.fates.Fate.{Fate}
use Rattle.constants.specs.declared.fates.Fate.TheVariants.{Goes, Shrinks, Stays}
use Rattle.rules.specs.Const as rule

-- the fate that is meant, where a shorter form stands at the front of the words
abbrev pub told_fate : List ℕ → Fate → rule.Fate
told_fate ws Goes = rule.goes
told_fate ws (Shrinks n) = rule.shrinks (take n ws)
told_fate ws Stays = rule.stays

-- how many literals a shorter form has
abbrev pub left_size : Fate → ℕ
left_size Goes = 0
left_size (Shrinks n) = n
left_size Stays = 0
