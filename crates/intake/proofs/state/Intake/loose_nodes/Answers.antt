use Rattle.std.proofs.Common.{◌∙◌, rules}
use Rattle.std.proofs.lemmas.Iterator.{items_from_collect}
use Rattle.std.proofs.lemmas.Iterator.Consumers.{YieldsList-at, YieldsList-from_filter}
use Rattle.image.specs.Headers.{top}
use Rattle.intake.proofs.LooseNodes.{counts, loose_are, up_to}
use Rattle.intake.proofs.state.Intake.loose_nodes.Goals as goal

pub returns : goal.returns
returns c =
    rw (loose_are c.args.self.now.image.now c.args.self.now.frozen (top c.args.self.now.image.now))
    (items_from_collect c.collect.result c.collect.ensures.ran (YieldsList-from_filter {s = c.filter.result} _ (counts c.args.self.now.image.now c.args.self.now.frozen) (YieldsList-at c.filter.ensures.source (up_to c.new.result (top c.args.self.now.image.now) c.new.ensures.start (c.new.ensures.end ∙ c.top.ensures.answer) c.new.ensures.exhausted)) c.filter.ensures.closure (λ x b q k. search rules)))
