use Rattle.std.proofs.Common.{◌≡◌, ◌≢◌, ◌+◌, ◌<◌, ◌≤◌, length, get_or, drop, sym, ◌∙◌, arith}
use Rattle.std.proofs.lemmas.Bool.Decides.{nat_tests}
use Rattle.network.specs.Assignments.{node}
use Rattle.network.specs.Subsumption.{fits_from}
use Rattle.network.proofs.Fits.{longer_unfit}
use Rattle.clause.proofs.Rests.{behind, first_behind}
use Rattle.clause.proofs.Walks.{word_of, fits_done, fits_over, fits_same, fits_opposite, fits_past, fits_miss, noted_first, refused, refused_noted, answered}
use Rattle.clause.proofs.subsumption.ordered_subsume_execpt_one.Goals as goal
use Rattle.clause.proofs.subsumption.ordered_subsume_execpt_one.Goals.{then-eq, else-eq+then-eq-2+else-is_some, else-eq+else-eq-2+else-c-d, else-loop-word-test, then-loop-word-test+in_default}

pub returns-then-a-b : goal.returns-then-a-b
returns-then-a-b c = sym (longer_unfit c.args.a.now c.args.b.now (omega arith))

pub returns-then-is_some : goal.returns-then-is_some
returns-then-is_some c =
    let a = c.args.a.now in
    let b = c.args.b.now in
    let l = c.loop-word in
    let first = get_or l.rest.now 0 0 in
    let after = behind l.rest.now in
    let r = first_behind l.rest.now (omega arith) in
    let other : first ≢ get_or b l.word-index 0 = grind (arith, nat_tests) in
    let same : node first ≡ node (get_or b l.word-index 0) = grind (arith, nat_tests) in
    let e = fits_opposite first after b l.word-index (omega arith) (word_of l.noted) other same in
    refused_noted a b first l.noted (λ p. fits_from p after (drop (l.word-index + 1) b)) (sym c.is_some.ensures ∙ c.if-is_some.true) cc

pub returns-then-c-d : goal.returns-then-c-d
returns-then-c-d c =
    let a = c.args.a.now in
    let b = c.args.b.now in
    let l = c.loop-word in
    let first = get_or l.rest.now 0 0 in
    let r = first_behind l.rest.now (omega arith) in
    let less : first < get_or b l.word-index 0 = omega arith in
    let apart : node first ≢ node (get_or b l.word-index 0) = grind (arith, nat_tests) in
    let e = fits_miss first (behind l.rest.now) b l.word-index (omega arith) (word_of l.noted) (λ e. omega arith) apart less in
    refused a b (word_of l.noted) cc

pub loop-word-preserved : goal.loop-word-preserved
loop-word-preserved c =
    let a = c.args.a.now in
    let b = c.args.b.now in
    let l = c.loop-word in
    let o = word_of l.noted in
    let first = get_or l.rest.now 0 0 in
    let after = behind l.rest.now in
    let r = first_behind l.rest.now (omega arith) in
    elim c.if-eq.branch [
      | then-eq w ↦
          let same : first ≡ get_or b l.word-index 0 = grind (arith, nat_tests) in
          let e = fits_same first after b l.word-index (omega arith) o same in
          rw (w.rest-is, w.noted-is) cc
      | else-eq+then-eq-2+else-is_some w ↦
          let other : first ≢ get_or b l.word-index 0 = grind (arith, nat_tests) in
          let same : node first ≡ node (get_or b l.word-index 0) = grind (arith, nat_tests) in
          let e = fits_opposite first after b l.word-index (omega arith) o other same in
          let f = noted_first first l.noted (λ p. fits_from p after (drop (l.word-index + 1) b)) (sym w.is_some.ensures ∙ w.if-is_some.false) in
          rw (w.rest-is, w.noted-is, c.from-c.ensures) cc
      | else-eq+else-eq-2+else-c-d w ↦
          let apart : node first ≢ node (get_or b l.word-index 0) = grind (arith, nat_tests) in
          let more : get_or b l.word-index 0 < first = grind (arith, nat_tests) in
          let e = fits_past first after b l.word-index (omega arith) o (λ e. omega arith) apart more in
          rw (w.rest-is, w.noted-is) cc
    ]

pub returns-then-not-is_empty : goal.returns-then-not-is_empty
returns-then-not-is_empty c =
    let a = c.args.a.now in
    let b = c.args.b.now in
    let l = c.loop-word in
    let some : 0 < length l.rest.now = grind (arith, nat_tests) in
    let over : length b ≤ l.word-index = elim c.loop-word-test.branch [ else-loop-word-test w ↦ omega (arith, w.loop-word-test.false) | then-loop-word-test+in_default w ↦ omega (arith, w.in_default.len_below) ] in
    refused a b (word_of l.noted) (sym l.invariant ∙ fits_over (word_of l.noted) l.rest.now b l.word-index some over)

pub returns : goal.returns
returns c =
    let a = c.args.a.now in
    let b = c.args.b.now in
    let l = c.loop-word in
    answered a b l.noted c.is_none.result c.is_none.ensures (sym l.invariant ∙ fits_done (word_of l.noted) l.rest.now (drop l.word-index b) (grind (arith, nat_tests)))
