use Rattle.std.proofs.Common.{length, refl, ap, sym, ◌∙◌}
use Rattle.network.specs.Values.{simplified}
use Rattle.rules.specs.Work.{add, add_simplified}
use Rattle.simplifier.specs.Shown.{work_of}
use Rattle.simplifier.proofs.Entries.{written_some, written_none}
use Rattle.removing.proofs.Following.{follows_none}
use Rattle.removing.proofs.enter.enter_counted.Goals as goal

pub returns-in-Some : goal.returns-in-Some
unfolding add
returns-in-Some g c =
    let C = c.args.clause.now in
    let m = g.S.Lists.meaning in
    let e = c.enter_told.ensures in
    record {
      made = λ out. let W = work_of m c.args.s.now out in e.makes out ∙ ap (λ o. add_simplified o W) (sym (written_some (length C) c.in-Some.n (simplified W.values C) _ c.left_of.new.out c.in-Some.ensures));
      flags = e.kept;
      follows = e.follows;
    }

pub returns-in_default : goal.returns-in_default
unfolding add
returns-in_default g c =
    let C = c.args.clause.now in
    let m = g.S.Lists.meaning in
    record {
      made = λ out. let W = work_of m c.args.s.now out in ap (λ o. add_simplified o W) (sym (written_none (length C) (simplified W.values C) _ c.left_of.new.out c.in_default.ensures c.requires));
      flags = refl;
      follows = follows_none (m c.args.s.now.store) c.args.waiting.now;
    }
