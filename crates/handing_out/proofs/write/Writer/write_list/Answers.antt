use Rattle.std.proofs.Common.{◌+◌, arith}
use Rattle.image.specs.Runs.{written}
use Rattle.handing_out.proofs.Laying.{wrote_nothing}
use Rattle.handing_out.proofs.Listing.{clause_fits, clause_room, clause_wrote}
use Rattle.handing_out.proofs.Runs.{own_short}
use Rattle.handing_out.proofs.write.Writer.write_list.Goals as goal

pub loop-at-init : goal.loop-at-init
loop-at-init g c =
    let own = (g.S.Lists.meaning c.args.store.now).own c.args.l in
    (0, c.first-at.ensures, unfold written in (wrote_nothing c.args.self.now))

pub write_clause-requires-clause-room : goal.write_clause-requires-clause-room
write_clause-requires-clause-room g c =
    let own = (g.S.Lists.meaning c.args.store.now).own c.args.l in
    let (i, p, w) = c.loop-at.invariant in
    let here = rw c.in-Some.is at p in
    clause_room own i c.clause.result.now here.1 (c.clause.ensures c.args.l i here.0) c.args.self.now c.loop-at.self c.requires w

pub write_clause-requires-clause-short : goal.write_clause-requires-clause-short
write_clause-requires-clause-short g c =
    let (i, p, w) = c.loop-at.invariant in
    let here = rw c.in-Some.is at p in
    rw (c.clause.ensures c.args.l i here.0) (own_short (g.S.Lists.meaning c.args.store.now) (g.met.S.Lists.lawful c.args.store.now) c.args.l i here.1)

pub loop-at-smaller : goal.loop-at-smaller
loop-at-smaller g c =
    let own = (g.S.Lists.meaning c.args.store.now).own c.args.l in
    let (i, p, w) = c.loop-at.invariant in
    let here = rw c.in-Some.is at p in
    let f = clause_fits own i c.clause.result.now here.1 (c.clause.ensures c.args.l i here.0) in
    omega (arith, f, w.at, c.write_clause.ensures.at)

pub loop-at-preserved : goal.loop-at-preserved
loop-at-preserved g c =
    let own = (g.S.Lists.meaning c.args.store.now).own c.args.l in
    let (i, p, w) = c.loop-at.invariant in
    let here = rw c.in-Some.is at p in (
      i + 1,
      c.next-at.ensures c.args.l i here.0,
      clause_wrote own i c.clause.result.now here.1 (c.clause.ensures c.args.l i here.0) c.args.self.now c.loop-at.self c.requires w c.write_clause.new.self c.write_clause.ensures,
    )
