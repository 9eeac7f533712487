use Rattle.rules.proofs.Runs.{sample_runs, passes_apart}
use Rattle.rules.proofs.sample_runs.Goals as goal

pub returns : goal.returns
returns c = record { runs = sample_runs; apart = passes_apart }
