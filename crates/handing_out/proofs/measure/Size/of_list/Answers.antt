use Rattle.std.proofs.Common.{◌≤◌, length, refl, arith}
use Rattle.image.specs.Runs.{written}
use Rattle.handing_out.proofs.Runs.{size_more, own_bounded, own_short}
use Rattle.handing_out.proofs.Places.{within}
use Rattle.handing_out.proofs.measure.Size.of_list.Goals as goal

pub loop-at-init : goal.loop-at-init
loop-at-init g c = record { words = unfold written in refl; few = omega arith; counted = omega arith; place = c.first-at.ensures }

pub add-requires-clause-few : goal.add-requires-clause-few
add-requires-clause-few g c =
    let here = rw c.in-Some.is at c.loop-at.invariant.place in
    let store = c.args.store.now in
    omega (arith, here.1, own_bounded (g.S.Lists.meaning store) (g.met.S.Lists.lawful store) (g.met.S.Lists.small store) c.args.l)

pub add-requires-clause-counted : goal.add-requires-clause-counted
add-requires-clause-counted g c = c.loop-at.invariant.counted

pub add-requires-clause-short : goal.add-requires-clause-short
add-requires-clause-short g c =
    let M = g.S.Lists.meaning c.args.store.now in
    let here = rw c.in-Some.is at c.loop-at.invariant.place in
    rw (c.clause.ensures c.args.l c.loop-at.size.clauses here.0) (own_short M (g.met.S.Lists.lawful c.args.store.now) c.args.l c.loop-at.size.clauses here.1)

pub loop-at-preserved : goal.loop-at-preserved
loop-at-preserved g c =
    let own = (g.S.Lists.meaning c.args.store.now).own c.args.l in
    let i = c.loop-at.size.clauses in
    let here = rw c.in-Some.is at c.loop-at.invariant.place in
    let v = c.loop-at.invariant in
    let s : length c.clause.result.now ≤ 32 = rw (c.clause.ensures c.args.l i here.0) (own_short (g.S.Lists.meaning c.args.store.now) (g.met.S.Lists.lawful c.args.store.now) c.args.l i here.1) in
    rw c.add.ensures.clauses
    (record {
      words = size_more own i c.loop-at.size.words _ c.clause.result.now here.1 (c.clause.ensures c.args.l i here.0) v.words c.add.ensures.words;
      few = omega arith;
      counted = omega arith;
      place = c.next-at.ensures c.args.l i here.0;
    })

pub returns-clause-few : goal.returns-clause-few
returns-clause-few g c =
    let store = c.args.store.now in
    let w = within (λ h i. g.S.Lists.at store h c.args.l i) (length ((g.S.Lists.meaning store).own c.args.l)) c.loop-at.at c.loop-at.size.clauses c.loop-at.invariant.place in
    omega (arith, w, own_bounded (g.S.Lists.meaning store) (g.met.S.Lists.lawful store) (g.met.S.Lists.small store) c.args.l)
