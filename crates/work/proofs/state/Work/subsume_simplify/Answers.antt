use Rattle.std.proofs.Common.{length}
use Rattle.rules.specs.Calls.{subsume_answer, subsume_call, called}
use Rattle.work.specs.Shown.{Leads}
use Rattle.work.proofs.Answering.{leads_same}
use Rattle.work.proofs.Reaching.{keeps, underway}
use Rattle.work.proofs.state.Work.subsume_simplify.Given.{Over}
use Rattle.work.proofs.state.Work.subsume_simplify.Goals as goal
use Rattle.work.proofs.state.Work.subsume_simplify.Goals.{After-subsume_simplify}

-- the call leads on as its rule does
leads : (g : Over) (c : After-subsume_simplify g) → Leads g.S.Lists.meaning (subsume_answer (length c.args.words.now)) c.args.self.now.simplifier c.subsume_simplify.new.s c.subsume_simplify.result
leads g c = leads_same _ _ _ _ _ c.subsume_simplify.ensures.answer c.subsume_simplify.ensures.taken_out

pub invariant_of-self : goal.invariant_of-self
unfolding called
invariant_of-self g c = record { reached = underway _ _ _ _ (subsume_call (length c.args.words.now)) (leads g c).work c.args.self.now.reached }

pub returns-clause-keeps : goal.returns-clause-keeps
unfolding called
returns-clause-keeps g c = keeps _ _ _ _ (subsume_call (length c.args.words.now)) (leads g (goal.at.returns-clause-keeps g c).After-subsume_simplify).work c.args.self.now.reached
