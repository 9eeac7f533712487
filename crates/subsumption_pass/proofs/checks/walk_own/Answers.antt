use Rattle.std.proofs.Common.{◌-◌, ◌<◌, length, ap, arith}
use Rattle.rules.specs.Subsume.{walk, walked}
use Rattle.subsumption_pass.proofs.Steps.{next_found}
use Rattle.subsumption_pass.proofs.Whole.{walk_ends, walk_done, walk_step}
use Rattle.subsumption_pass.proofs.checks.walk_own.Goals as goal

pub loop-k-init : goal.loop-k-init
loop-k-init g c =
    let M = g.S.Lists.meaning c.args.s.now in
    record {
      around = c.requires.around;
      walks = (0, (next_found (g.S.Lists.at c.args.s.now) M c.args.l 0 c.first-at.result c.first-at.ensures, ap (λ n. walked n c.args.l 0 M) (omega arith)));
    }

pub loop-k-preserved : goal.loop-k-preserved
loop-k-preserved g c =
    let (i, q) = c.loop-k.invariant.walks in
    let s = rw c.in-Some.is at q.0 in
    let (p, r) = c.check-at.ensures.checks c.args.l i s in
    let k : c.loop-k._k < length ((g.S.Lists.meaning c.args.s.now).own c.args.l) = (let e = c.own_len-k-end.ensures in omega (arith, e, c.loop-k-test.true)) in
    record {
      around = c.check-at.ensures.around;
      walks = (p, (r.0, walk_step (length ((g.S.Lists.meaning c.args.s.now).own c.args.l)) c.loop-k._k c.args.l i p (g.S.Lists.meaning c.loop-k.s) (g.S.Lists.meaning c.check-at.new.s) (walked (length ((g.S.Lists.meaning c.args.s.now).own c.args.l)) c.args.l 0 (g.S.Lists.meaning c.args.s.now)) k s.1 r.1 q.1));
    }

pub returns-after-loop-k-clause-walks : goal.returns-after-loop-k-clause-walks
returns-after-loop-k-clause-walks g c =
    let (i, q) = c.loop-k.invariant.walks in
    let e = c.own_len-k-end.ensures in
    walk_done (length ((g.S.Lists.meaning c.args.s.now).own c.args.l) - c.loop-k._k) c.args.l i (g.S.Lists.meaning c.loop-k.s) (walk c.args.l (g.S.Lists.meaning c.args.s.now))
    (omega (arith, e, c.loop-k-test.false)) q.1

pub returns-in_default-clause-walks : goal.returns-in_default-clause-walks
returns-in_default-clause-walks g c =
    let (i, q) = c.loop-k.invariant.walks in
    let s = rw c.in_default.is at q.0 in
    walk_ends (length ((g.S.Lists.meaning c.args.s.now).own c.args.l) - c.loop-k._k) c.args.l i (g.S.Lists.meaning c.loop-k.s) (walk c.args.l (g.S.Lists.meaning c.args.s.now)) s q.1
