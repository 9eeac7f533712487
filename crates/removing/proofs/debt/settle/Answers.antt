use Rattle.std.proofs.Common.{[], ◌∷◌, ◌++◌, filter, take, ap, sym, ◌∙◌, subst}
use Rattle.std.proofs.lemmas.List.{take_all, take_min}
use Rattle.lemmas.specs.Lines.{clauses_of}
use Rattle.lemmas.specs.Words.{lemma_at, named}
use Rattle.removing.specs.Owed.{stands, Settled}
use Rattle.removing.proofs.Settles.{settled_none, settled_more, settled_same, line_taken, line_passed}
use Rattle.removing.proofs.debt.settle.Goals as goal
use Rattle.removing.proofs.debt.settle.Goals.{in-Some, in_default}

pub loop-number-init : goal.loop-number-init
loop-number-init g c = settled_none g.S.Lists.meaning c.args.s.now c.args.waiting.now

pub loop-number-preserved : goal.loop-number-preserved
loop-number-preserved g c =
    let m = g.S.Lists.meaning in
    let s = c.args.s.now in
    let v = c.args.waiting.now in
    let l = c.loop-number in
    let words = c.args.words.now in
    let line = take c.min.result words.order.now in
    let Cs = named (clauses_of words) (filter (stands words) (take l.number-index line)) in
    elim c.match-owed_clause.branch [
      | in-Some w ↦
          let (t, is) = w.in-Some.ensures in
          let e = w.enter_counted in
          settled_same m (Cs ++ (w.in-Some.clause.now ∷ [])) _ s e.new.s c.match-owed_clause.s v e.new.waiting c.match-owed_clause.waiting
          (line_taken (lemma_at (clauses_of words)) (stands words) line l.number-index c.loop-number-test.true t ∙ ap (λ C. Cs ++ (C ∷ [])) (sym is)) w.s-is w.waiting-is
          (settled_more m Cs (w.in-Some.clause.now ∷ []) s l.s e.new.s v l.waiting e.new.waiting l.invariant e.ensures)
      | in_default w ↦
          settled_same m Cs _ s l.s c.match-owed_clause.s v l.waiting c.match-owed_clause.waiting
          (line_passed (lemma_at (clauses_of words)) (stands words) line l.number-index c.loop-number-test.true w.in_default.ensures) w.s-is w.waiting-is l.invariant
    ]

pub returns : goal.returns
returns g c =
    let words = c.args.words.now in
    let line = take c.min.result words.order.now in
    let all = take_all c.loop-number.number-index line c.loop-number-test.false ∙ ap (λ n. take n words.order.now) c.min.ensures ∙ take_min c.args.count words.order.now in
    subst (λ xs. Settled g.S.Lists.meaning (named (clauses_of words) (filter (stands words) xs)) c.args.s.now c.loop-number.s c.args.waiting.now c.loop-number.waiting) all c.loop-number.invariant
