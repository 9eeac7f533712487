use Rattle.rules.proofs.Passes.{changes_lawful, passes_lawful}
use Rattle.rules.proofs.Costs.{sizes_small}
use Rattle.rules.proofs.Working.{words_suffice}
use Rattle.rules.proofs.store_laws.Goals as goal

pub returns : goal.returns
returns c = record { changes = changes_lawful; passes = passes_lawful; sizes = sizes_small; working = words_suffice }
