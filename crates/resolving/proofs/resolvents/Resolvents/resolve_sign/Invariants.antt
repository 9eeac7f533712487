use Rattle.std.proofs.Common.{length}
use Rattle.network.specs.Assignments.{opposite}
use Rattle.resolving.specs.Collected.{resolvents_with}
use Rattle.resolving.proofs.Walks.{Walked, Here}
use Rattle.resolving.proofs.resolvents.Resolvents.resolve_sign.Given as goal

abbrev pub invariant-loop-k : goal.invariant-loop-k
invariant-loop-k g l = record {
  so_far : Walked (resolvents_with (g.S.Lists.meaning l.store) l.pivot.word ((g.S.Lists.meaning l.store).uses (opposite l.pivot.word))) ((g.S.Lists.meaning l.store).own l.pivot.word) l._k l.initial.self l.self;
  here : Here l.at (λ h. g.S.Lists.at l.store h l.pivot.word l._k) (length ((g.S.Lists.meaning l.store).own l.pivot.word)) l._k;
}
