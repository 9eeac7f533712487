use Rattle.std.proofs.Common.{length, refl, ap, ◌∙◌, arith}
use Rattle.handing_out.specs.Writing.{laid}
use Rattle.handing_out.proofs.Laying.{put_laid}
use Rattle.handing_out.proofs.write.Writer.write.Goals as goal

pub returns : goal.returns
returns c =
    let self = c.args.self.now in
    let after = c.copy_from_slice.ensures.after in
    record {
      same_reference = refl;
      at = refl;
      words = put_laid self.at _ self.words.now c.copy_from_slice.new.self (omega (arith, ap length after)) ∙ ap (λ xs. laid self.at xs self.words.now) after;
    }
