use Rattle.std.proofs.Common.{ℕ, ◌+◌, length, map, sym, ap, ◌∙◌, arith}
use Rattle.rings.specs.Left.{slots_left}
use Rattle.scanned.specs.Facts.{sound, used_few}
use Rattle.owned.specs.Lists.{listed}
use Rattle.scanned.specs.Sequence.{listed_at, slot_of}
use Rattle.scanned.proofs.Sequences.{behind_low, listed_one, walk_low}
use Rattle.scanned.proofs.uses.SearchedIndex.count.Goals as goal

pub loop-m-init : goal.loop-m-init
loop-m-init c =
    let s = c.args.self.now in
    let e = ap slots_left c.into_iter-m-iterator.ensures.into_iter_gives ∙ c.behind-m-items.ensures in
    let q = ap (λ xs. length (listed_at (listed c.args.own.now) c.args.k (map slot_of xs))) e in
    (tt, tt, rw e (behind_low s.room s.words.now (sound s.sound) 0 (omega arith)), omega (arith, q))

pub overflow_add-n : goal.overflow_add-n
overflow_add-n c =
    let s = c.args.self.now in
    let z = s.small in
    let few = used_few s.room s.words.now (sound s.sound) (listed c.args.own.now) c.args.k in
    let one = listed_one (listed c.args.own.now) c.args.k _ _ _ c.in-Some.ensures.steps (sym c.if-lists.ensures) in
    let i = c.loop-m.invariant.3 in
    omega arith
