-- What a refused start answers. Assumes nothing.
use Rattle.std.specs.Prelude.{Ok, Err, Result}
use Rattle.image.specs.declared.fault.Fault.{Fault}
use Rattle.rules.specs.Work.{Work}

-- the refusal alone, without the work
abbrev pub refused : Result Work Fault → Result (Unit {0}) Fault
refused (Ok W) = Ok tt
refused (Err f) = Err f
