use Rattle.std.proofs.Common.{length}
use Rattle.rules.specs.Calls.{bve_answer, bve_call, called}
use Rattle.work.specs.Shown.{Leads, Underway}
use Rattle.work.proofs.Answering.{leads_answered, fewer}
use Rattle.work.proofs.Reaching.{all_gone, keeps, small_turns, underway}
use Rattle.work.proofs.state.Work.bve_simplify.Given.{Over}
use Rattle.work.proofs.state.Work.bve_simplify.Goals as goal
use Rattle.work.proofs.state.Work.bve_simplify.Goals.{After-bve_simplify}

-- the call leads on as its rule does
leads : (g : Over) (c : After-bve_simplify g) → Leads g.S.Lists.meaning (bve_answer (length c.args.words.now)) c.args.self.now.simplifier c.bve_simplify.new.s c.bve_simplify.result
leads g c = leads_answered _ _ _ _ _ c.bve_simplify.ensures.makes

-- what it leaves is underway
goes_on : (g : Over) (c : After-bve_simplify g) → ∥ Underway g.S.Lists.meaning c.args.self.now.image.now c.bve_simplify.new.s ∥₁
unfolding called
goes_on g c = underway _ _ _ _ (bve_call (length c.args.words.now)) (leads g c).work c.args.self.now.reached

pub invariant_of-self : goal.invariant_of-self
invariant_of-self g c = record { reached = goes_on g c }

pub returns-clause-keeps : goal.returns-clause-keeps
unfolding called
returns-clause-keeps g c = keeps _ _ _ _ (bve_call (length c.args.words.now)) (leads g (goal.at.returns-clause-keeps g c).After-bve_simplify).work c.args.self.now.reached

pub returns-clause-gone : goal.returns-clause-gone
returns-clause-gone g c = all_gone _ _ _ (goes_on g (goal.at.returns-clause-gone g c).After-bve_simplify)

pub returns-clause-turns : goal.returns-clause-turns
returns-clause-turns g c = let w = c.args.self.now in small_turns g.S.Lists.meaning w.image.now w.simplifier w.reached

pub returns-clause-fewer : goal.returns-clause-fewer
returns-clause-fewer g c = fewer _ _ _ _ _ _ (leads g (goal.at.returns-clause-fewer g c).After-bve_simplify) c.args.self.now.reached
