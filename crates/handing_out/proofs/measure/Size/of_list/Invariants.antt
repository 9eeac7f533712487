use Rattle.std.proofs.Common.{◌≡◌, ◌-◌, ◌*◌, ◌≤◌, length, take}
use Rattle.image.specs.Runs.{written}
use Rattle.handing_out.proofs.Places.{Place}
use Rattle.handing_out.proofs.measure.Size.of_list.Given as goal

abbrev pub invariant-loop-at : goal.invariant-loop-at
invariant-loop-at g l =
    let own = (g.S.Lists.meaning l.store).own l.l in
    record {
      words : l.size.words ≡ length (written (take l.size.clauses own));
      few : l.size.words ≤ 33 * l.size.clauses;
      counted : l.size.clauses ≤ l.size.words;
      place : Place (λ h i. g.S.Lists.at l.store h l.l i) (length own) l.at l.size.clauses;
    }

abbrev pub decreases-loop-at : goal.decreases-loop-at
decreases-loop-at g l = length ((g.S.Lists.meaning l.store).own l.l) - l.size.clauses
