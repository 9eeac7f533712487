use Rattle.std.proofs.Common.{◌+◌}
use Rattle.slotted.proofs.Fills.{filled_first, filled_now, filled_then}
use Rattle.slotted.proofs.fill.fill.Goals as goal

pub loop-l-init : goal.loop-l-init
loop-l-init g c = let i = c.args.index.now in filled_first c.args.own.now (g.I.Index.slots i) (g.I.Index.joined i) (g.I.Index.used i) c.requires

pub fill_from-requires : goal.fill_from-requires
fill_from-requires g c = let i = c.loop-l.index in filled_now c.args.own.now c.loop-l.own c.loop-l.l (g.I.Index.slots i) (g.I.Index.joined i) (g.I.Index.used i) c.loop-l.invariant

pub loop-l-preserved : goal.loop-l-preserved
loop-l-preserved g c =
    let i = c.fill_from.new.index in
    filled_then c.args.own.now c.loop-l.own c.fill_from.new.own (c.loop-l.l + 1) (g.I.Index.slots i) (g.I.Index.joined i) (g.I.Index.used i) c.loop-l.invariant.1 c.fill_from.ensures.filled c.fill_from.ensures.same
