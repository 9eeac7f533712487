use Rattle.std.proofs.Common.{◌∙◌}
use Rattle.removing.proofs.Following.{follows_two}
use Rattle.simplifier.specs.Shown.{work_of}
use Rattle.removing.proofs.Ruled.{named_out_steps, named_taken_out}
use Rattle.removing.proofs.debt.take_out.Goals as goal

pub returns-clause-makes : goal.returns-clause-makes
returns-clause-makes g c le out =
    let m = g.S.Lists.meaning in
    named_out_steps c.args.node (work_of m c.args.s.now out) (m c.clear_uses.new.store) (m c.clear_named.new.store) (m c.clear_named-2.new.store) c.clear_uses.ensures.makes c.clear_named.ensures.makes c.clear_named-2.ensures.makes

pub returns-clause-ruled : goal.returns-clause-ruled
returns-clause-ruled g c le I out = returns-clause-makes g c le out ∙ named_taken_out c.args.node (work_of g.S.Lists.meaning c.args.s.now out) I (g.met.S.Lists.lawful c.args.s.now.store) le

pub returns-clause-follows : goal.returns-clause-follows
returns-clause-follows g c =
    let m = g.S.Lists.meaning in
    let M = m c.args.s.now.store in
    let P = m c.clear_named.new.store in
    let v = c.args.waiting.now in
    let x = c.clear_named.new.waiting in
    follows_two M P (m c.clear_named-2.new.store) v x c.clear_named-2.new.waiting (follows_two M (m c.clear_uses.new.store) P v c.clear_uses.new.waiting x c.clear_uses.ensures.follows c.clear_named.ensures.follows) c.clear_named-2.ensures.follows
