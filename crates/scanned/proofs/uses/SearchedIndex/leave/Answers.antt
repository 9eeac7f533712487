use Rattle.std.proofs.Common.{ap, ◌∙◌}
use Rattle.rings.specs.Rings.{cut_out}
use Rattle.scanned.specs.Facts.{sound}
use Rattle.scanned.proofs.Changes.{left_joined, left_sound, left_used, stranger_joined, stranger_used}
use Rattle.scanned.proofs.uses.SearchedIndex.leave.Goals as goal

pub invariant_of-self : goal.invariant_of-self
invariant_of-self c =
    let s = c.args.self.now in
    record { small = s.small; sound = ∣ left_sound s.room s.words.now (sound s.sound) c.args.x c.in-Some.ensures.0 c.unlink.new.ws (c.unlink.ensures ∙ ap (cut_out s.words.now) c.in-Some.ensures.1) ∣₁ }

pub returns-in-Some-clause-uses : goal.returns-in-Some-clause-uses
returns-in-Some-clause-uses c =
    let s = c.args.self.now in
    left_used s.room s.words.now (sound s.sound) c.args.x c.in-Some.ensures.0 c.unlink.new.ws (c.unlink.ensures ∙ ap (cut_out s.words.now) c.in-Some.ensures.1)

pub returns-in-Some-clause-joins : goal.returns-in-Some-clause-joins
returns-in-Some-clause-joins c =
    let s = c.args.self.now in
    left_joined s.room s.words.now (sound s.sound) c.args.x c.in-Some.ensures.0 c.unlink.new.ws (c.unlink.ensures ∙ ap (cut_out s.words.now) c.in-Some.ensures.1)

pub returns-in_default-clause-uses : goal.returns-in_default-clause-uses
returns-in_default-clause-uses c = let s = c.args.self.now in stranger_used s.room s.words.now (sound s.sound) c.args.x c.in_default.ensures

pub returns-in_default-clause-joins : goal.returns-in_default-clause-joins
returns-in_default-clause-joins c = let s = c.args.self.now in stranger_joined s.room s.words.now (sound s.sound) c.args.x c.in_default.ensures
