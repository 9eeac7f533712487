use Rattle.std.proofs.Common.{◌≡◌, ◌+◌, ◌*◌, get_or, arith}
use Rattle.owned.proofs.Asks.{back_start, back_in, back_done, back_more, back_short}
use Rattle.owned.proofs.owned.Owned.standing.Goals as goal

pub loop-i-init : goal.loop-i-init
loop-i-init c = back_start c.args.self.now c.args.x

pub loop-i-preserved : goal.loop-i-preserved
loop-i-preserved c =
    λ l j a.
    let s = c.args.self.now in
    let y : c.in_ok-y.field-0.now ≡ get_or s.links.now (2 * c.loop-i.at + 1) 0 = c.in_ok-y.ensures.lookup.3.1 0 in
    let p = back_more s c.args.x c.loop-i.i c.loop-i.at c.loop-i.invariant (let q = c.if-y-lt-HEADS.false in omega arith) l j a in
    (p.0, cc)

pub returns-in_err-y-clause-stands : goal.returns-in_err-y-clause-stands
returns-in_err-y-clause-stands c = λ l j a. absurd (let p = back_in c.args.self.now c.args.x c.loop-i.i c.loop-i.at c.loop-i.invariant l j a in omega (arith, c.in_err-y.ensures.lookup))

pub returns-then-y-lt-HEADS-clause-stands : goal.returns-then-y-lt-HEADS-clause-stands
returns-then-y-lt-HEADS-clause-stands c =
    λ l j a.
    let s = c.args.self.now in
    let y : c.in_ok-y.field-0.now ≡ get_or s.links.now (2 * c.loop-i.at + 1) 0 = c.in_ok-y.ensures.lookup.3.1 0 in
    let p = back_done s c.args.x c.loop-i.i c.loop-i.at c.loop-i.invariant l j a (let q = c.if-y-lt-HEADS.true in omega arith) in
    cc

pub returns-clause-stands : goal.returns-clause-stands
returns-clause-stands c = λ l j a. absurd (let p = back_short c.args.self.now c.args.x c.loop-i.i c.loop-i.at c.loop-i.invariant l j a in omega arith)
