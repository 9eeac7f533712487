use Rattle.std.proofs.Common.{refl}
use Rattle.intake.proofs.Steps.{accepts_from}
use Rattle.intake.proofs.taken.take_in.Goals as goal

pub invariant_of-into : goal.invariant_of-into
invariant_of-into c = record { right = accepts_from c.args.words.now _ c.in_ok-check_image.ensures.answer; zero = refl }
