use Rattle.std.proofs.Common.{◌≡◌, sym, ◌∙◌, arith}
use Rattle.std.proofs.lemmas.Grind.{common_steps}
use Rattle.rules.specs.Theorem.{flags}
use Rattle.work.proofs.Reaching.{all_gone}
use Rattle.work.proofs.state.Work.is_taken_out.Goals as goal

pub returns-clause-gone : goal.returns-clause-gone
returns-clause-gone g c e =
    let w = c.args.self.now in
    let q : c.is_some_and.result ≡ flags w.simplifier.taken_out c.args.node = grind (arith, common_steps) in
    all_gone g.S.Lists.meaning w.image.now w.simplifier w.reached c.args.node (sym q ∙ e)
