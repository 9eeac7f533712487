use Rattle.std.proofs.Common.{◌≡◌, ℕ, ◌+◌, length, subst, arith}
use Rattle.std.proofs.Math.Seq.{take-suc}
use Rattle.indexed.specs.Turns.{Joining}
use Rattle.indexed.proofs.Turns.{fair_fresh, fair_low, join_none, join_one, range_is}
use Rattle.indexed.proofs.links.put_in_all.Goals as goal

pub loop-j-init : goal.loop-j-init
loop-j-init c =
    let r = range_is c.args.room c.args.x c.requires.2 in
    join_none c.args.room c.args.ws.now c.args.x c.args.literals.now c.requires.0 r.0 r.1 c.requires.4

pub loop-j-preserved : goal.loop-j-preserved
loop-j-preserved c =
    let r = range_is c.args.room c.args.x c.requires.2 in
    let ks = c.args.literals.now in
    let j = c.loop-j.j in
    let few = c.requires.3.0 in
    let one = join_one c.args.room c.args.ws.now c.args.x ks c.requires.0 r.0 r.1 j _ c.loop-j.ws c.link.new.ws c.loop-j.invariant (omega arith) (fair_low ks c.requires.3 j (omega arith)) (fair_fresh ks c.requires.3 j (omega arith)) (take-suc ks j 0 (omega arith)) c.link.ensures in
    subst (λ (i : ℕ). Joining c.args.room c.args.ws.now c.args.x ks i c.link.new.ws) (omega arith) one

pub returns : goal.returns
returns c =
    let e : c.loop-j.j ≡ length c.args.literals.now = omega arith in
    subst (λ (i : ℕ). Joining c.args.room c.args.ws.now c.args.x c.args.literals.now i c.loop-j.ws) e c.loop-j.invariant
