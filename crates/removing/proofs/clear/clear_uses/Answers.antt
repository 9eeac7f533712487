use Rattle.std.proofs.Common.{◌+◌, sym, subst, arith}
use Rattle.removing.proofs.Sweeps.{Swept, swept_starts, swept_gone, swept_stays, swept_ends}
use Rattle.removing.proofs.clear.clear_uses.Goals as goal
use Rattle.removing.proofs.clear.clear_uses.Goals.{then-flags-l, else-flags-l}

pub loop-l-init : goal.loop-l-init
loop-l-init g c = swept_starts c.args.node (g.S.Lists.meaning c.args.store.now) c.args.waiting.now

pub loop-l-preserved : goal.loop-l-preserved
loop-l-preserved g c =
    let n = c.args.node in
    let l = c.loop-l.l in
    let meaning = g.S.Lists.meaning in
    let M = meaning c.args.store.now in
    let v = c.args.waiting.now in
    let N = meaning c.loop-l.store in
    let flag = c.users-flags.ensures l (omega (arith, c.requires, c.loop-l-test.true)) in
    elim c.if-flags-l.branch [
      | then-flags-l w ↦
          let e = w.clear_named.ensures in
          subst (λ s. Swept n (l + 1) M (meaning s) v c.if-flags-l.waiting) (sym w.store-is)
          (subst (Swept n (l + 1) M (meaning w.clear_named.new.store) v) (sym w.waiting-is)
          (swept_gone n l M N v c.loop-l.waiting c.loop-l.invariant c.loop-l.auto.l _ flag w.if-flags-l.true (meaning w.clear_named.new.store) w.clear_named.new.waiting e.makes e.follows))
      | else-flags-l w ↦
          subst (λ s. Swept n (l + 1) M (meaning s) v c.if-flags-l.waiting) (sym w.store-is)
          (subst (Swept n (l + 1) M N v) (sym w.waiting-is) (swept_stays n l M N v c.loop-l.waiting c.loop-l.invariant c.loop-l.auto.l _ flag w.if-flags-l.false))
    ]

pub returns : goal.returns
returns g c =
    let s = c.loop-l.invariant in
    record {
      makes = swept_ends c.args.node c.loop-l.l c.args.top (g.S.Lists.meaning c.args.store.now) (g.S.Lists.meaning c.loop-l.store) c.args.waiting.now c.loop-l.waiting s (omega (arith, c.requires, c.loop-l.auto.l-end)) (omega (arith, c.requires));
      follows = s.follows;
    }
