use Rattle.std.proofs.Common.{filter, take}
use Rattle.lemmas.specs.Lines.{clauses_of}
use Rattle.lemmas.specs.Words.{named}
use Rattle.removing.specs.Owed.{stands, Settled}
use Rattle.removing.proofs.debt.settle.Given as goal

abbrev pub invariant-loop-number : goal.invariant-loop-number
invariant-loop-number g l = Settled g.S.Lists.meaning (named (clauses_of l.words) (filter (stands l.words) (take l.number-index l.line))) l.initial.s l.s l.initial.waiting l.waiting
