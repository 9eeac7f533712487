use Rattle.std.proofs.Common.{◌≡◌, ◌<◌, length, get_or, slice_set, ap, sym, ◌∙◌, rules}
use Rattle.network.specs.Assignments.{node}
use Rattle.network.specs.Values.{sign, with_value}
use Rattle.clause.specs.Types.{values_of}
use Rattle.rules.specs.Work.{storing, valuing, known_by}
use Rattle.simplifier.specs.Shown.{work_of}
use Rattle.simplifier.proofs.Entries.{refused, taken, value_set, single_tells, others_tell_nothing}
use Rattle.simplifier.proofs.state.Simplifier.enter_left.Goals as goal

pub returns-then-not-enter-clause-makes : goal.returns-then-not-enter-clause-makes
returns-then-not-enter-clause-makes g c out =
    refused c.args.clause.now (work_of g.S.Lists.meaning c.args.self.now out) (g.S.Lists.meaning c.enter.new.self) c.enter.result c.enter.ensures.when c.enter.ensures.makes c.if-not-enter.true

pub returns-then-clause-eq1-clause-makes : goal.returns-then-clause-eq1-clause-makes
returns-then-clause-eq1-clause-makes g c out =
    let C = c.args.clause.now in
    let W = work_of g.S.Lists.meaning c.args.self.now out in
    let n : c.var.result.number ≡ node (get_or C 0 0) = cc in
    let b : c.polarity.result ≡ sign (get_or C 0 0) = cc in
    let lt : c.var.result.number < length c.args.self.now.values = search rules in
    let V : values_of (slice_set c.args.self.now.values c.var.result.number c.from.result) ≡ known_by C W.values =
    value_set c.args.self.now.values c.var.result.number c.from.result c.polarity.result lt c.from.ensures
    ∙ ap (λ k. with_value W.values k c.polarity.result) n ∙ ap (with_value W.values (node (get_or C 0 0))) b ∙ sym (single_tells C W.values c.if-clause-eq1.true) in
    ap (valuing (storing W (g.S.Lists.meaning c.enter.new.self))) V
    ∙ taken C W (g.S.Lists.meaning c.enter.new.self) c.enter.result c.enter.ensures.when c.enter.ensures.makes c.if-not-enter.false

pub returns-else-clause-eq1-clause-makes : goal.returns-else-clause-eq1-clause-makes
returns-else-clause-eq1-clause-makes g c out =
    let C = c.args.clause.now in
    let W = work_of g.S.Lists.meaning c.args.self.now out in
    ap (valuing (storing W (g.S.Lists.meaning c.enter.new.self))) (sym (others_tell_nothing C W.values c.if-clause-eq1.false))
    ∙ taken C W (g.S.Lists.meaning c.enter.new.self) c.enter.result c.enter.ensures.when c.enter.ensures.makes c.if-not-enter.false
