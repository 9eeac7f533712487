use Rattle.std.proofs.Common.{sym, ap, ◌∙◌, rules}
use Rattle.std.proofs.lemmas.Iterator.Adapters.{option_map_id}
use Rattle.std.proofs.lemmas.Iterator.Search.{find_from_yields_List}
use Rattle.image.specs.Headers.{top}
use Rattle.intake.specs.Answers.{first_of}
use Rattle.intake.proofs.LooseNodes.{counts, find_first, loose_are, up_to}
use Rattle.intake.proofs.state.Intake.loose.Goals as goal

pub returns : goal.returns
returns c =
    sym (option_map_id c.find.result)
    ∙ find_from_yields_List (counts c.args.self.now.image.now c.args.self.now.frozen) _ _ c.find.result c.find.ensures.ran (up_to c.new.result (top c.args.self.now.image.now) c.new.ensures.start (c.new.ensures.end ∙ c.top.ensures.answer) c.new.ensures.exhausted) (λ x b q k. search rules)
    ∙ find_first (counts c.args.self.now.image.now c.args.self.now.frozen) _ ∙ ap first_of (sym (loose_are c.args.self.now.image.now c.args.self.now.frozen (top c.args.self.now.image.now)))
