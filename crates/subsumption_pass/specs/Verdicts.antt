-- The verdicts of the code in the words of the rules. Assumes nothing.
use Rattle.rules.specs.Subsume.{Verdict as Ruled, apart, subsumed, merged, both_lost, long_lost, strengthened}
use Rattle.subsumption_pass.specs.declared.verdicts.Verdict.{Verdict}
use Rattle.subsumption_pass.specs.declared.verdicts.Verdict.TheVariants.{Apart, Subsumed, Merged, BothLost, LongLost, Strengthened}

-- the verdict that a value stands for
abbrev pub told : Verdict → Ruled
told Apart = apart
told Subsumed = subsumed
told (Merged x) = merged x.word
told BothLost = both_lost
told LongLost = long_lost
told (Strengthened x) = strengthened x.word
