use Rattle.std.proofs.Common.{◌≡◌, ◌<◌, [], false, true, length, ap, subst, arith}
use Rattle.network.specs.Assignments.{opposite}
use Rattle.rules.specs.Store.{clause_at}
use Rattle.rules.specs.Bve.{resolvents}
use Rattle.resolving.specs.Collected.{Added, resolvents_with}
use Rattle.resolving.proofs.Sizes.{clause_short}
use Rattle.resolving.proofs.Walks.{here_some, added_none, walked_more, walked_less, walked_all}
use Rattle.resolving.proofs.resolvents.Resolvents.resolve_sign.Goals as goal
use Rattle.resolving.proofs.resolvents.Resolvents.resolve_sign.Goals.{After-clause}

module _ (g : _) (c : After-clause g) where
  -- the handle stands at the walk's place
  standing : g.S.Lists.at c.args.store.now c.in_ok-handle.handle c.args.pivot.word c.loop-k._k × (c.loop-k._k < length ((g.S.Lists.meaning c.args.store.now).own c.args.pivot.word))
  standing = here_some c.loop-k.at c.in_ok-handle.handle (λ h. g.S.Lists.at c.args.store.now h c.args.pivot.word c.loop-k._k) (length ((g.S.Lists.meaning c.args.store.now).own c.args.pivot.word)) c.loop-k._k c.in_ok-handle.was c.loop-k.invariant.here

  is : c.clause.result.now ≡ clause_at (g.S.Lists.meaning c.args.store.now) c.args.pivot.word c.loop-k._k
  is = c.clause.ensures c.args.pivot.word c.loop-k._k standing.0

pub loop-k-init : goal.loop-k-init
loop-k-init g c = record { so_far = added_none c.args.self.now; here = c.first-at.ensures }

pub resolve_clause-requires : goal.resolve_clause-requires
resolve_clause-requires g c =
    let s = c.args.store.now in
    omega (arith, ap length (is g (goal.at.resolve_clause-requires g c).After-clause), clause_short (g.S.Lists.meaning s) (g.met.S.Lists.lawful s) c.args.pivot.word c.loop-k._k)

pub returns-in_err-resolve_clause : goal.returns-in_err-resolve_clause
unfolding resolvents
returns-in_err-resolve_clause g c =
    let at = (goal.at.returns-in_err-resolve_clause g c).After-clause in
    let M = g.S.Lists.meaning c.args.store.now in
    let p = c.args.pivot.word in
    let f = resolvents_with M p (M.uses (opposite p)) in
    rw c.from_residual-in_err-resolve_clause.ensures
    (walked_less f (M.own p) c.loop-k._k [] (standing g at).1 c.loop-k.invariant.so_far
    (subst (λ C. Added (f C) false c.loop-k.self c.resolve_clause.new.self) (is g at) c.in_err-resolve_clause.ensures))

pub loop-k-preserved : goal.loop-k-preserved
loop-k-preserved g c =
    let at = (goal.at.loop-k-preserved g c).After-clause in
    let M = g.S.Lists.meaning c.args.store.now in
    let p = c.args.pivot.word in
    let f = resolvents_with M p (M.uses (opposite p)) in
    record {
      so_far =
          walked_more f (M.own p) c.loop-k._k [] (standing g at).1 c.loop-k.invariant.so_far
          (subst (λ C. Added (f C) true c.loop-k.self c.resolve_clause.new.self) (is g at) c.in_ok-resolve_clause.ensures);
      here = c.next-at.ensures p c.loop-k._k (standing g at).0;
    }

pub returns : goal.returns
unfolding resolvents
returns g c =
    let M = g.S.Lists.meaning c.args.store.now in
    let p = c.args.pivot.word in
    walked_all (resolvents_with M p (M.uses (opposite p))) (M.own p) c.loop-k._k (omega (arith, c.own_len-k-end.ensures)) c.loop-k.invariant.so_far
