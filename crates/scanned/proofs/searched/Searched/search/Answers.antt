use Rattle.std.proofs.Common.{ℕ, map, sym, ap, ◌∙◌, arith}
use Rattle.std.specs.List.{AllByRecursion}
use Rattle.rings.specs.Left.{slots_left}
use Rattle.scanned.specs.Facts.{sound}
use Rattle.scanned.specs.Firsts.{first_of}
use Rattle.owned.specs.Lists.{listed}
use Rattle.scanned.specs.Sequence.{listed_at, slot_of}
use Rattle.scanned.proofs.Sequences.{behind_low, first_here, listed_on, walk_low}
use Rattle.scanned.proofs.searched.Searched.search.Goals as goal

pub loop-m-init : goal.loop-m-init
loop-m-init c =
    let s = c.args.self.now in
    let e = ap slots_left c.into_iter-m-iterator.ensures.into_iter_gives ∙ c.behind-m-items.ensures in
    (tt, tt, rw e (behind_low s.room s.words.now (sound s.sound) c.args.n c.requires), ap (λ xs. first_of (listed_at (listed c.args.own.now) c.args.k (map slot_of xs))) e)

pub overflow_add-x : goal.overflow_add-x
overflow_add-x c =
    let s = c.args.self.now in
    let z = s.small in
    let a = (walk_low _ _ _ _ c.in-Some.ensures.steps c.loop-m.invariant.2).0 in
    omega arith
