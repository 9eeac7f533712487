use Rattle.std.proofs.Common.{◌≡◌, ◌+◌, ◌*◌, ◌≤◌, [], length, take, arith, ap, sym, ◌∙◌}
use Rattle.std.proofs.lemmas.List.{length-take-le}
use Rattle.rules.specs.Const.{judged}
use Rattle.rules.specs.Work.{storing, own_of, clear}
use Rattle.rules.proofs.Lawful.{own_few}
use Rattle.simplifier.specs.Marks.{marked}
use Rattle.simplifier.specs.Shown.{work_of}
use Rattle.constants.proofs.Judges.{Grows, grows_chains, judging_grows, list_grows}
use Rattle.constants.proofs.Nodes.{list_was, node_turn}
use Rattle.constants.proofs.pass.take_turn.Given.{Over}
use Rattle.constants.proofs.pass.take_turn.Goals as goal
use Rattle.constants.proofs.pass.take_turn.Goals.{After-own_len, After-judge_first}

-- the words have room for both lists of marks
room_for : (g : Over) (c : After-own_len g) → c.own_len-first.result + c.own_len.result ≤ length c.args.words.now
room_for g c =
    let M = g.S.Lists.meaning c.args.s.now.store in
    let L = g.met.S.Lists.lawful c.args.s.now.store in
    omega (arith, own_few M L (2 * c.args.n), own_few M L (2 * c.args.n + 1))

pub slice_bounds-split_at_mut-end : goal.slice_bounds-split_at_mut-end
slice_bounds-split_at_mut-end g c = room_for g c

pub slice_bounds-split_at_mut-end-2 : goal.slice_bounds-split_at_mut-end-2
slice_bounds-split_at_mut-end-2 g c = sym (length-take-le (c.own_len-first.result + c.own_len.result) c.args.words.now (room_for g (goal.at.slice_bounds-split_at_mut-end-2 g c).After-own_len))

pub split_at_mut-marks-requires : goal.split_at_mut-marks-requires
split_at_mut-marks-requires g c = omega (arith, length-take-le (c.own_len-first.result + c.own_len.result) c.args.words.now (room_for g (goal.at.split_at_mut-marks-requires g c).After-own_len))

-- the first list judged has let own lists grow
grew : (g : Over) (c : After-judge_first g) → Grows (g.S.Lists.meaning c.args.s.now.store) (g.S.Lists.meaning c.judge_first.new.s.store)
grew g c =
    judging_grows (take (length c.split_at_mut-marks.result.0.now) ((g.S.Lists.meaning c.args.s.now.store).own (2 * c.args.n)))
    (work_of g.S.Lists.meaning c.args.s.now []) (work_of g.S.Lists.meaning c.judge_first.new.s []) (marked c.judge_first.new.marks) (c.judge_first.ensures.makes [])

pub judge_first-requires-2 : goal.judge_first-requires-2
judge_first-requires-2 g c =
    omega (
      arith,
      list_grows (g.S.Lists.meaning c.args.s.now.store) (g.S.Lists.meaning c.judge_first.new.s.store) (grew g (goal.at.judge_first-requires-2 g c).After-judge_first) (2 * c.args.n + 1),
      length-take-le (c.own_len-first.result + c.own_len.result) c.args.words.now (room_for g (goal.at.judge_first-requires-2 g c).After-own_len),
    )

pub returns-clause-makes : goal.returns-clause-makes
returns-clause-makes g c out =
    let at = goal.at.returns-clause-makes g c in
    let M = g.S.Lists.meaning c.args.s.now.store in
    let n = c.args.n in
    let W = work_of g.S.Lists.meaning c.args.s.now out in
    let V = work_of g.S.Lists.meaning c.judge_first.new.s out in
    let U = work_of g.S.Lists.meaning c.judge_first-2.new.s out in
    let wide = length-take-le (c.own_len-first.result + c.own_len.result) c.args.words.now (room_for g at.After-own_len) in
    let p : judged (own_of W (2 * n)) W ≡ (marked c.judge_first.new.marks, V) =
    ap (λ Cs. judged Cs W) (sym (list_was M M (grows_chains.same M) (2 * n) (length c.split_at_mut-marks.result.0.now) (omega arith))) ∙ c.judge_first.ensures.makes out in
    let q : judged (own_of W (2 * n + 1)) V ≡ (marked c.judge_first-2.new.marks, U) =
    ap (λ Cs. judged Cs V) (sym (list_was M (g.S.Lists.meaning c.judge_first.new.s.store) (grew g at.After-judge_first) (2 * n + 1) (length c.split_at_mut-marks.result.1.now) (omega arith))) ∙ c.judge_first-2.ensures.makes out in
    c.clear-2.ensures.makes out
    ∙ ap (λ T. storing T (clear (2 * n + 1) (marked c.judge_first-2.new.marks) T.store)) (c.clear.ensures.makes out)
    ∙ sym (node_turn n W V U (marked c.judge_first.new.marks) (marked c.judge_first-2.new.marks) p q)
