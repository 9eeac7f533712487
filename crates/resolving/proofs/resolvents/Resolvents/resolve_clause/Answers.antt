use Rattle.std.proofs.Common.{◌≡◌, ◌<◌, false, true, length, get_or, ap, subst, arith}
use Rattle.std.specs.Prelude.{option_to_list}
use Rattle.network.specs.Resolution.{resolve}
use Rattle.rules.specs.Store.{dead}
use Rattle.rules.specs.Bve.{referred_clause}
use Rattle.resolving.specs.Collected.{Added, resolvent_with}
use Rattle.resolving.proofs.Sizes.{referred_short}
use Rattle.resolving.proofs.Walks.{here_some, added_none, walked_more, walked_less, walked_all}
use Rattle.resolving.proofs.resolvents.Resolvents.resolve_clause.Goals as goal
use Rattle.resolving.proofs.resolvents.Resolvents.resolve_clause.Goals.{After-used_clause}

module _ (g : _) (c : After-used_clause g) where
  -- the use stands at the walk's place
  standing : g.S.Store.usage c.args.store.now c.in_ok-user.user c.opposite-against.result.word c.loop-k._k × (c.loop-k._k < length ((g.S.Lists.meaning c.args.store.now).uses c.opposite-against.result.word))
  standing = here_some c.loop-k.at c.in_ok-user.user (λ u. g.S.Store.usage c.args.store.now u c.opposite-against.result.word c.loop-k._k) (length ((g.S.Lists.meaning c.args.store.now).uses c.opposite-against.result.word)) c.loop-k._k c.in_ok-user.was c.loop-k.invariant.here

  is : c.used_clause.result.now ≡ referred_clause (g.S.Lists.meaning c.args.store.now) (get_or ((g.S.Lists.meaning c.args.store.now).uses c.opposite-against.result.word) c.loop-k._k dead)
  is = c.used_clause.ensures c.opposite-against.result.word c.loop-k._k standing.0

pub loop-k-init : goal.loop-k-init
loop-k-init g c = record { so_far = added_none c.args.self.now; here = c.first_use-at.ensures }

pub add-requires : goal.add-requires
add-requires g c =
    let s = c.args.store.now in
    let M = g.S.Lists.meaning s in
    omega (arith, c.requires, ap length (is g (goal.at.add-requires g c).After-used_clause), referred_short M (g.met.S.Lists.lawful s) (get_or (M.uses c.opposite-against.result.word) c.loop-k._k dead))

pub returns-in_err-add : goal.returns-in_err-add
returns-in_err-add g c =
    let at = (goal.at.returns-in_err-add g c).After-used_clause in
    let M = g.S.Lists.meaning c.args.store.now in
    let p = c.args.pivot.word in
    let C = c.args.clause.now in
    rw (c.from_residual-in_err-add.ensures, ← c.opposite-against.ensures)
    (walked_less (resolvent_with M p C) (M.uses c.opposite-against.result.word) c.loop-k._k dead (standing g at).1 c.loop-k.invariant.so_far
    (subst (λ D. Added (option_to_list (resolve p C D)) false c.loop-k.self c.add.new.self) (is g at) c.in_err-add.ensures))

pub loop-k-preserved : goal.loop-k-preserved
loop-k-preserved g c =
    let at = (goal.at.loop-k-preserved g c).After-used_clause in
    let M = g.S.Lists.meaning c.args.store.now in
    let p = c.args.pivot.word in
    let C = c.args.clause.now in
    record {
      so_far =
          walked_more (resolvent_with M p C) (M.uses c.opposite-against.result.word) c.loop-k._k dead (standing g at).1 c.loop-k.invariant.so_far
          (subst (λ D. Added (option_to_list (resolve p C D)) true c.loop-k.self c.add.new.self) (is g at) c.in_ok-add.ensures);
      here = c.next_use-at.ensures c.loop-k._k (standing g at).0;
    }

pub returns : goal.returns
returns g c =
    let M = g.S.Lists.meaning c.args.store.now in
    rw (← c.opposite-against.ensures)
    (walked_all (resolvent_with M c.args.pivot.word c.args.clause.now) (M.uses c.opposite-against.result.word) c.loop-k._k (omega (arith, c.count-k-end.ensures)) c.loop-k.invariant.so_far)
