use Rattle.std.proofs.Common.{true, false, get_or, set, ap, ◌∙◌, subst, arith}
use Rattle.removing.proofs.Flags.{UseAt, use_small, flag_dead, flag_live}
use Rattle.removing.proofs.clear.flag_users.Goals as goal
use Rattle.removing.proofs.clear.flag_users.Goals.{in-Some-user, in_default-user}

pub bounds-flags-place : goal.bounds-flags-place
bounds-flags-place g c =
    let M = g.S.Lists.meaning c.args.store.now in
    let j = c.loop-j._j in
    let u = subst (UseAt (g.S.Store.usage c.args.store.now) M c.args.x j) c.in-Some.is c.loop-j.invariant.at in
    let (l, i, at, e) = c.in-Some-user.ensures c.args.x j u.0 in
    omega (arith, c.place.ensures l i at, use_small M (g.met.S.Lists.lawful c.args.store.now) c.args.x j l i u.1 e)

pub loop-j-preserved : goal.loop-j-preserved
loop-j-preserved g c =
    let M = g.S.Lists.meaning c.args.store.now in
    let rs = M.uses c.args.x in
    let j = c.loop-j._j in
    let u = subst (UseAt (g.S.Store.usage c.args.store.now) M c.args.x j) c.in-Some.is c.loop-j.invariant.at in
    record {
      long = c.match-user.array_long;
      at = c.next_use-at.ensures j u.0;
      flags = λ k kl.
          let so_far = c.loop-j.invariant.flags k kl in
          elim c.match-user.branch [
            | in-Some-user w ↦
                let (l, i, at, e) = w.in-Some-user.ensures c.args.x j u.0 in
                let place = (w.place.ensures l i at).0 in
                ap (λ fs. get_or fs k false) (w.flags-is ∙ ap (λ m. set c.loop-j.flags m true) place) ∙ flag_live rs j u.1 k (get_or c.args.flags.now k false) c.loop-j.flags so_far l i e (omega (arith, c.loop-j.invariant.long))
            | in_default-user w ↦ ap (λ fs. get_or fs k false) w.flags-is ∙ flag_dead rs j u.1 k (get_or c.args.flags.now k false) c.loop-j.flags so_far (w.in_default-user.ensures c.args.x j u.0)
          ];
    }
