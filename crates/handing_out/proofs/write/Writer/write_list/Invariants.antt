use Rattle.std.proofs.Common.{ℕ, ◌+◌, ◌-◌, length, take}
use Rattle.image.specs.Runs.{written}
use Rattle.handing_out.specs.Writing.{Wrote}
use Rattle.handing_out.proofs.Places.{Place}
use Rattle.handing_out.proofs.write.Writer.write_list.Given as goal

abbrev pub invariant-loop-at : goal.invariant-loop-at
invariant-loop-at g l =
    let own = (g.S.Lists.meaning l.store).own l.l in
    (i : ℕ) × Place (λ h i. g.S.Lists.at l.store h l.l i) (length own) l.at i × Wrote (written (take i own)) l.initial.self l.self

abbrev pub decreases-loop-at : goal.decreases-loop-at
decreases-loop-at g l = l.initial.self.at + length (written ((g.S.Lists.meaning l.store).own l.l)) - l.self.at
