use Rattle.std.proofs.Common.{◌≡◌, ◌+◌, ◌-◌, ◌<◌, ◌≤◌, ◌∷◌, length, take, drop, get_or, sym, ap, ◌∙◌, arith, rules}
use Rattle.std.proofs.lemmas.Bool.Decides.{nat_tests}
use Rattle.std.proofs.lemmas.List.{take_rest}
use Rattle.network.specs.Clauses.{without}
use Rattle.network.specs.Resolution.{merge}
use Rattle.clause.proofs.Fronts.{room_enough, writes_same}
use Rattle.clause.proofs.Rests.{behind}
use Rattle.clause.proofs.Merges.{take_left, take_right, take_both, resolve_merge, merge_nothing, merge_alone, merging_of, merging_more, merging_fails, merging_finished, without_end}
use Rattle.clause.proofs.resolvents.ordered_resolvent.Goals as goal
use Rattle.clause.proofs.resolvents.ordered_resolvent.Goals.{Joined-rest-lt1-2, then-rest-lt1, in-len1-up+else-d-c, then-d-y, else-d-y, in-len1-up-rest+then-d-c-2, else-rest-lt1-2, else-rest-lt1-2-via-then-rest-lt1-2, else-rest-lt1-2-via-in-len1-up-rest+else-d-c-2}

-- where the inner loop stops
stops : (c : Joined-rest-lt1-2) → 0 < length c.loop-rest.rest.now → (get_or c.loop-rest.rest.now 0 0 ≡ c.opposite.result.word → ⊥) × (get_or c.args.a.now c.loop-k.k 0 ≤ get_or c.loop-rest.rest.now 0 0)
stops c h =
    elim c.if-rest-lt1.branch [
      | then-rest-lt1 w ↦ absurd (grind (arith, nat_tests))
      | in-len1-up+else-d-c w ↦ elim w.if-d-y.branch [ then-d-y w' ↦ absurd (grind (arith, nat_tests)) | else-d-y w' ↦ (w'.if-d-y.false, grind (arith, nat_tests)) ]
    ]

-- the word of `a` comes next
passes : (c : Joined-rest-lt1-2) → merge (get_or c.args.a.now c.loop-k.k 0 ∷ without c.args.pivot.word (drop (c.loop-k.k + 1) c.args.a.now)) (without c.opposite.result.word c.loop-rest.rest.now)
    ≡ get_or c.args.a.now c.loop-k.k 0 ∷ merge (without c.args.pivot.word (drop (c.loop-k.k + 1) c.args.a.now)) (without c.opposite.result.word c.if-rest-lt1-2.rest.now)
passes c =
    let y = c.opposite.result.word in
    let k = get_or c.args.a.now c.loop-k.k 0 in
    let rest = without c.args.pivot.word (drop (c.loop-k.k + 1) c.args.a.now) in
    let D = c.loop-rest.rest.now in
    elim c.if-rest-lt1-2.branch [
      | in-len1-up-rest+then-d-c-2 w ↦ rw w.rest-is (take_both y k rest D (omega arith) (λ e. (stops c (omega arith)).0 (w.if-d-c-2.true ∙ e)) w.if-d-c-2.true)
      | else-rest-lt1-2 w ↦
          rw w.rest-is
          (take_left y k rest D (λ h.
          let s = stops c h in (
            s.0,
            elim w.else-rest-lt1-2.branch [
              | else-rest-lt1-2-via-then-rest-lt1-2 w' ↦ absurd (grind (arith, nat_tests))
              | else-rest-lt1-2-via-in-len1-up-rest+else-d-c-2 w' ↦ omega (arith, s.1, w'.if-d-c-2.false)
            ],
          )))
    ]

no_longer : (c : Joined-rest-lt1-2) → length c.if-rest-lt1-2.rest.now ≤ length c.loop-rest.rest.now
no_longer c = elim c.if-rest-lt1-2.branch [ in-len1-up-rest+then-d-c-2 w ↦ rw w.rest-is (omega arith) | else-rest-lt1-2 w ↦ rw w.rest-is (omega arith) ]

pub returns-in_err-push : goal.returns-in_err-push
returns-in_err-push c =
    let a = c.args.a.now in
    let b = c.args.b.now in
    let y = c.opposite.result.word in
    let v = c.loop-rest in
    let D = v.rest.now in
    let d = get_or D 0 0 in
    let k = get_or a c.loop-k.k 0 in
    let C = without c.args.pivot.word (drop (c.loop-k.k + 1) a) in
    let rest = merge (k ∷ C) (without y (behind D)) in
    let less : d < k = elim c.if-d-y.branch [ then-d-y w ↦ absurd (c.if-d-y-2.true w.if-d-y.true) | else-d-y w ↦ grind (arith, nat_tests) ] in
    writes_same c.push.new.self.out.now (search rules)
    (rw (c.from_residual.ensures, resolve_merge c.args.pivot.word y a b c.opposite.ensures)
    (room_enough (omega arith)
    (merging_fails d rest (merging_of (d ∷ rest) (take_right y k C D (omega arith) c.if-d-y-2.true less) v.invariant.so_far) (length a + length b) c.push.new.self.out.now (omega arith) c.in_err-push.ensures.added)))

pub loop-rest-preserved-in_ok-push : goal.loop-rest-preserved-in_ok-push
loop-rest-preserved-in_ok-push c =
    let a = c.args.a.now in
    let y = c.opposite.result.word in
    let v = c.loop-rest in
    let D = v.rest.now in
    let d = get_or D 0 0 in
    let k = get_or a c.loop-k.k 0 in
    let C = without c.args.pivot.word (drop (c.loop-k.k + 1) a) in
    let rest = merge (k ∷ C) (without y (behind D)) in
    let less : d < k = elim c.if-d-y.branch [ then-d-y w ↦ absurd (c.if-d-y-2.true w.if-d-y.true) | else-d-y w ↦ grind (arith, nat_tests) ] in
    record {
      same_reference = cc (c.in_ok-push.ensures.same_reference);
      few = omega (arith, c.in_ok-push.ensures.added.1);
      so_far =
          merging_more d rest (merging_of (d ∷ rest) (take_right y k C D (omega arith) c.if-d-y-2.true less) v.invariant.so_far) c.push.new.self
          (omega (arith, v.invariant.so_far.same_length)) c.in_ok-push.ensures.added;
    }

pub returns-in_err-push-2 : goal.returns-in_err-push-2
returns-in_err-push-2 c =
    let a = c.args.a.now in
    let b = c.args.b.now in
    let v = c.loop-rest in
    let k = get_or a c.loop-k.k 0 in
    let rest = merge (without c.args.pivot.word (drop (c.loop-k.k + 1) a)) (without c.opposite.result.word c.if-rest-lt1-2.rest.now) in
    writes_same c.push-in-loop-k.new.self.out.now (search rules)
    (rw (c.from_residual-in_err-push-2.ensures, resolve_merge c.args.pivot.word c.opposite.result.word a b c.opposite.ensures)
    (room_enough (omega arith)
    (merging_fails k rest (merging_of (k ∷ rest) (passes (goal.at.returns-in_err-push-2 c).Joined-rest-lt1-2) v.invariant.so_far) (length a + length b)
    c.push-in-loop-k.new.self.out.now (omega arith) c.in_err-push-2.ensures.added)))

pub loop-k-preserved : goal.loop-k-preserved
loop-k-preserved c =
    let a = c.args.a.now in
    let v = c.loop-rest in
    let k = get_or a c.loop-k.k 0 in
    let rest = merge (without c.args.pivot.word (drop (c.loop-k.k + 1) a)) (without c.opposite.result.word c.if-rest-lt1-2.rest.now) in
    record {
      same_reference = cc (c.in_ok-push-2.ensures.same_reference);
      few = omega (arith, c.in_ok-push-2.ensures.added.1, no_longer (goal.at.loop-k-preserved c).Joined-rest-lt1-2);
      so_far = merging_more k rest (merging_of (k ∷ rest) (passes (goal.at.loop-k-preserved c).Joined-rest-lt1-2) v.invariant.so_far) c.push-in-loop-k.new.self (omega (arith, v.invariant.so_far.same_length)) c.in_ok-push-2.ensures.added;
    }

pub returns-then-is_empty : goal.returns-then-is_empty
returns-then-is_empty c =
    let x = c.args.pivot.word in
    let y = c.opposite.result.word in
    let a = c.args.a.now in
    let b = c.args.b.now in
    let v = c.loop-k in
    let left = take (length a - v.k) (drop v.k a) in
    writes_same c.finish.new.self.out.now (search rules)
    (rw (resolve_merge x y a b c.opposite.ensures)
    (room_enough (omega arith)
    (merging_finished c.finish.result c.finish.new.self.out.now (length a + length b) (v.merged.len + length left) (omega arith) (omega arith)
    (merging_of (without x left) (merge_alone y (without x (drop v.k a)) v.rest.now (grind (arith, nat_tests)) ∙ ap (without x) (sym (take_rest a v.k))) v.invariant.so_far) c.finish.ensures.added)))

pub returns : goal.returns
returns c =
    let x = c.args.pivot.word in
    let y = c.opposite.result.word in
    let a = c.args.a.now in
    let b = c.args.b.now in
    let v = c.loop-k in
    let D = without y v.rest.now in
    writes_same c.finish-2.new.self.out.now (search rules)
    (rw (resolve_merge x y a b c.opposite.ensures)
    (room_enough (omega arith)
    (merging_finished c.finish-2.result c.finish-2.new.self.out.now (length a + length b) (v.merged.len + length v.rest.now) (omega arith) (omega arith)
    (merging_of D (ap (λ C. merge C D) (without_end x a v.k (omega arith)) ∙ merge_nothing y v.rest.now) v.invariant.so_far) c.finish-2.ensures.added)))
