use Rattle.std.proofs.Common.{◌≡◌, ◌*◌, ◌≤◌, map, length}
use Rattle.rules.specs.Store.{sum_of, from}
use Rattle.store.proofs.walk.walked_all.Given as goal

abbrev pub invariant-loop-l : goal.invariant-loop-l
invariant-loop-l g l = (l.n ≡ sum_of (map (λ k. length ((g.S.Lists.meaning l.s).own k)) (from 0 l.l))) × (l.n ≤ 4294967296 * l.l)
