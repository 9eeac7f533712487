use Rattle.std.proofs.Common.{length}
use Rattle.resolving.specs.Collected.{resolvent_with}
use Rattle.resolving.proofs.Walks.{Walked, Here}
use Rattle.resolving.proofs.resolvents.Resolvents.resolve_clause.Given as goal

abbrev pub invariant-loop-k : goal.invariant-loop-k
invariant-loop-k g l = record {
  so_far : Walked (resolvent_with (g.S.Lists.meaning l.store) l.pivot.word l.clause) ((g.S.Lists.meaning l.store).uses l.against) l._k l.initial.self l.self;
  here : Here l.at (λ u. g.S.Store.usage l.store u l.against l._k) (length ((g.S.Lists.meaning l.store).uses l.against)) l._k;
}
