use Rattle.std.proofs.Common.{◌≡◌, ◌+◌, [], get_or, arith}
use Rattle.simplifier.proofs.Cursors.{on_some, on_none}
use Rattle.removing.proofs.Clears.{going_starts, going_ends, cleared_same, clause_stays, clause_goes}
use Rattle.removing.proofs.clear.clear_named.Goals as goal
use Rattle.removing.proofs.clear.clear_named.Goals.{then-names, else-names}

pub loop-k-init : goal.loop-k-init
loop-k-init g c =
    let s = c.args.store.now in
    (0, c.first-at.ensures, going_starts c.args.node c.args.l (g.S.Lists.meaning s) c.args.waiting.now)

pub loop-k-preserved : goal.loop-k-preserved
loop-k-preserved g c =
    let m = g.S.Lists.meaning in
    let at = g.S.Lists.at in
    let n = c.args.node in
    let l = c.args.l in
    let M = m c.args.store.now in
    let v = c.args.waiting.now in
    let s = c.loop-k.store in
    let k = c.loop-k._k in
    let (i, r, w) = c.loop-k.invariant in
    let h = c.in-Some.h in
    let C = c.clause-clause.result.now in
    let here = on_some (at s) (m s) l i c.loop-k.at h c.in-Some.is r in
    let is : C ≡ get_or ((m s).own l) i [] = c.clause-clause.ensures l i here.0 in
    elim c.if-names.branch [
      | then-names u ↦
          let t = u.remove_at in
          let x = u.clause_goes in
          cleared_same m at n l (k + 1) M v t.new.self c.if-names.store x.new.self c.if-names.waiting u.flatten-at.result c.if-names.at u.store-is u.waiting-is u.at-is
          (clause_goes m at n l k M v c.loop-k.waiting s h i here w C is c.names.result c.names.ensures u.if-names.true g.met.S.Lists.lawful t.new.self x.new.self (t.ensures.makes l i here.0) x.ensures.waits x.ensures.counts t.result u.flatten-at.result u.flatten-at.ensures (t.ensures.then l i here.0))
      | else-names u ↦
          cleared_same m at n l (k + 1) M v s c.if-names.store c.loop-k.waiting c.if-names.waiting u.next-at.result c.if-names.at u.store-is u.waiting-is u.at-is
          (clause_stays m at n l k M v c.loop-k.waiting s h i here w C is c.names.result c.names.ensures u.if-names.false u.next-at.result (u.next-at.ensures l i here.0))
    ]

pub returns-in_default : goal.returns-in_default
returns-in_default g c =
    let M = g.S.Lists.meaning c.args.store.now in
    let s = c.loop-k.store in
    let (i, r, w) = c.loop-k.invariant in
    record {
      makes = going_ends c.args.node c.args.l i c.loop-k._k M (g.S.Lists.meaning s) c.args.waiting.now c.loop-k.waiting w (omega (arith, on_none (g.S.Lists.at s) (g.S.Lists.meaning s) c.args.l i c.loop-k.at c.in_default.is r));
      follows = w.follows;
    }

pub returns : goal.returns
returns g c =
    let M = g.S.Lists.meaning c.args.store.now in
    let (i, r, w) = c.loop-k.invariant in
    record {
      makes = going_ends c.args.node c.args.l i c.loop-k._k M (g.S.Lists.meaning c.loop-k.store) c.args.waiting.now c.loop-k.waiting w (omega (arith, w.far, c.own_len-k-end.ensures, c.loop-k-test.false));
      follows = w.follows;
    }
