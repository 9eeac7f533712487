use Rattle.rules.proofs.Theorem.{calls_lead_on}
use Rattle.rules.proofs.Refused.{refusals}
use Rattle.rules.proofs.call_laws.Goals as goal

pub returns : goal.returns
returns c = record { leads = calls_lead_on; refusals = refusals }
