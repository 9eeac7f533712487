use Rattle.std.proofs.Common.{◌≡◌, ℕ, ◌*◌, ◌<◌, get_or}
use Rattle.rules.specs.Subsume.{around_size}
use Rattle.subsumption_pass.proofs.pass.surround.Given as goal

abbrev pub invariant-loop-n : goal.invariant-loop-n
invariant-loop-n g l = (m : ℕ) → m < l.n → get_or l.around m 0 ≡ around_size (g.S.Lists.meaning l.s) (2 * m)
