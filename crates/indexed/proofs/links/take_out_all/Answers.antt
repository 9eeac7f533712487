use Rattle.std.proofs.Common.{◌≡◌, ℕ, ◌+◌, ◌-◌, ◌*◌, slice_index_or, sym, ap, ◌∙◌, subst, arith}
use Rattle.rings.specs.Rings.{cut_out}
use Rattle.indexed.specs.Links.{first_node}
use Rattle.indexed.specs.Turns.{Leaving}
use Rattle.indexed.proofs.Turns.{leave_none, leave_one, leave_rest, range_is}
use Rattle.indexed.proofs.links.take_out_all.Goals as goal

pub loop-m-init : goal.loop-m-init
loop-m-init c =
    let r = range_is c.args.room c.args.x c.requires.2 in
    let e : 0 ≡ first_node c.args.x - first_node c.args.x = omega arith in
    subst (λ (i : ℕ). Leaving c.args.room c.args.ws.now c.args.x i c.args.ws.now) e (leave_none c.args.room c.args.ws.now c.args.x c.requires.0 r.0 r.1)

pub returns-then-ws-m : goal.returns-then-ws-m
returns-then-ws-m c =
    let r = range_is c.args.room c.args.x c.requires.2 in
    let m = c.loop-m.m in
    let e : m ≡ first_node c.args.x + (m - first_node c.args.x) = omega arith in
    leave_rest c.args.room c.args.ws.now c.args.x c.requires.0 r.0 r.1 (m - first_node c.args.x) c.loop-m.ws c.loop-m.invariant (omega arith) (subst (λ (n : ℕ). slice_index_or c.loop-m.ws (2 * n) 0 ≡ n) e c.if-ws-m.true)

pub loop-m-preserved : goal.loop-m-preserved
loop-m-preserved c =
    let r = range_is c.args.room c.args.x c.requires.2 in
    let m = c.loop-m.m in
    let e : m ≡ first_node c.args.x + (m - first_node c.args.x) = omega arith in
    let one = leave_one c.args.room c.args.ws.now c.args.x c.requires.0 r.0 r.1 (m - first_node c.args.x) c.loop-m.ws c.unlink.new.ws c.loop-m.invariant (omega arith) (c.unlink.ensures ∙ ap (cut_out c.loop-m.ws) e) in
    subst (λ (i : ℕ). Leaving c.args.room c.args.ws.now c.args.x i c.unlink.new.ws) (omega arith) one

pub returns : goal.returns
returns c =
    let e : c.loop-m.m - first_node c.args.x ≡ 31 = omega arith in
    subst (λ (i : ℕ). Leaving c.args.room c.args.ws.now c.args.x i c.loop-m.ws) e c.loop-m.invariant
