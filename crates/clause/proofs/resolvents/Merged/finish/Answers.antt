use Rattle.std.proofs.Common.{◌+◌, [], ◌∷◌, length, get_or, drop, arith}
use Rattle.network.specs.Clauses.{without}
use Rattle.clause.proofs.Merges.{without_kept, without_lost, without_end, merging_of, merging_more, merging_fails, merging_ends}
use Rattle.clause.proofs.resolvents.Merged.finish.Goals as goal
use Rattle.clause.proofs.resolvents.Merged.finish.Goals.{then-l-literal+in_ok-push, else-l-literal}

pub returns-in_err-push-clause-added : goal.returns-in_err-push-clause-added
returns-in_err-push-clause-added c =
    let v = c.loop-l in
    let l = get_or c.args.src.now v.l-index 0 in
    let rest = without c.args.literal (drop (v.l-index + 1) c.args.src.now) in
    rw c.from_residual.ensures
    (merging_fails l rest (merging_of (l ∷ rest) (without_kept c.args.literal c.args.src.now v.l-index (omega arith) c.if-l-literal.true) v.invariant.so_far)
    (c.args.self.now.len + length c.args.src.now) c.push.new.self.out.now (omega arith) c.in_err-push.ensures.added)

pub loop-l-preserved : goal.loop-l-preserved
loop-l-preserved c =
    let v = c.loop-l in
    let src = c.args.src.now in
    let l = get_or src v.l-index 0 in
    let rest = without c.args.literal (drop (v.l-index + 1) src) in
    elim c.if-l-literal.branch [
      | then-l-literal+in_ok-push w ↦
          rw w.self-is
          (record {
            same_reference = cc (w.in_ok-push.ensures.same_reference);
            few = omega (arith, w.in_ok-push.ensures.added.1);
            so_far =
                merging_more l rest (merging_of (l ∷ rest) (without_kept c.args.literal src v.l-index (omega arith) w.if-l-literal.true) v.invariant.so_far)
                w.push.new.self (omega (arith, v.invariant.so_far.same_length)) w.in_ok-push.ensures.added;
          })
      | else-l-literal w ↦
          rw w.self-is
          (record {
            same_reference = v.invariant.same_reference;
            few = omega arith;
            so_far = merging_of rest (without_lost c.args.literal src v.l-index (omega arith) w.if-l-literal.false) v.invariant.so_far;
          })
    ]

pub returns-clause-added : goal.returns-clause-added
returns-clause-added c =
    let v = c.loop-l in
    merging_ends (c.args.self.now.len + length c.args.src.now) (merging_of [] (without_end c.args.literal c.args.src.now v.l-index (omega arith)) v.invariant.so_far)
