use Rattle.std.proofs.Common.{ap, arith}
use Rattle.image.specs.Headers.{offset}
use Rattle.intake.proofs.Counts.{fewer_clauses}
use Rattle.intake.proofs.Meanings.{accepted_iff}
use Rattle.intake.proofs.Steps.{accepted_parts, accepted_answer}
use Rattle.intake.proofs.state.Intake.clause_count.Goals as goal

pub bounds-self-1 : goal.bounds-self-1
bounds-self-1 c = let h = (accepted_parts _ c.args.self.now.right).head in omega (arith, h.three)

pub returns-clause-count : goal.returns-clause-count
returns-clause-count c = ((accepted_iff _).0 (accepted_answer _ c.args.self.now.right)).count

pub bounds-self-top : goal.bounds-self-top
bounds-self-top c = let h = (accepted_parts _ c.args.self.now.right).head in omega (arith, h.long)

pub prove-unreachable-requires : goal.prove-unreachable-requires
prove-unreachable-requires c =
    let ws = c.args.self.now.image.now in
    let few = fewer_clauses ws ((accepted_iff ws).0 (accepted_answer ws c.args.self.now.right)) in
    absurd (omega (arith, few, ap (offset ws) c.top.ensures.answer))
