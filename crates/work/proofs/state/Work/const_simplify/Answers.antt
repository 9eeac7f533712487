use Rattle.std.proofs.Common.{length}
use Rattle.rules.specs.Calls.{const_answer, const_call, called}
use Rattle.work.specs.Shown.{Leads}
use Rattle.work.proofs.Answering.{leads_same}
use Rattle.work.proofs.Reaching.{keeps, underway}
use Rattle.work.proofs.state.Work.const_simplify.Given.{Over}
use Rattle.work.proofs.state.Work.const_simplify.Goals as goal
use Rattle.work.proofs.state.Work.const_simplify.Goals.{After-const_simplify}

-- the call leads on as its rule does
leads : (g : Over) (c : After-const_simplify g) → Leads g.S.Lists.meaning (const_answer (length c.args.words.now)) c.args.self.now.simplifier c.const_simplify.new.s c.const_simplify.result
leads g c = leads_same _ _ _ _ _ c.const_simplify.ensures.makes c.const_simplify.ensures.kept

pub invariant_of-self : goal.invariant_of-self
unfolding called
invariant_of-self g c = record { reached = underway _ _ _ _ (const_call (length c.args.words.now)) (leads g c).work c.args.self.now.reached }

pub returns-clause-keeps : goal.returns-clause-keeps
unfolding called
returns-clause-keeps g c = keeps _ _ _ _ (const_call (length c.args.words.now)) (leads g (goal.at.returns-clause-keeps g c).After-const_simplify).work c.args.self.now.reached
