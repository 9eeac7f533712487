use Rattle.std.proofs.Common.{◌≤◌, length, rules, arith, refl, ◌∙◌}
use Rattle.std.proofs.lemmas.List.{length-take-le}
use Rattle.lemmas.proofs.Sorts.{sorted_lined, lined_alike, stands_alike, admitted_stands, sorted_below, simplified_all}
use Rattle.lemmas.proofs.Marks.{marks_within}
use Rattle.lemmas.proofs.simplify.Lemmas.lemmas_subsume_simplify.Goals as goal

pub sign-requires-clause-stand : goal.sign-requires-clause-stand
sign-requires-clause-stand c k h = stands_alike _ _ refl refl (admitted_stands (c.admits.ensures.0 c.if-not-admits.false) k h)

pub run-requires-clause-lined : goal.run-requires-clause-lined
run-requires-clause-lined c = lined_alike _ _ refl refl (sorted_lined (c.admits.ensures.0 c.if-not-admits.false) c.sort.ensures c.sort.auto.order)

pub run-requires-clause-numbered : goal.run-requires-clause-numbered
run-requires-clause-numbered c p h =
    let a = c.admits.ensures.0 c.if-not-admits.false in
    let E = c.sort.new.entries in
    let room : c.args.count ≤ length E = omega (arith, c.sort.auto.entries, a.entries) in
    let low = sorted_below a c.sort.ensures c.sort.auto.order p h in
    omega (arith, c.sign.auto.marks, length-take-le c.args.count E room)

pub returns-clause-answer : goal.returns-clause-answer
returns-clause-answer c =
    let a = c.admits.ensures.0 c.if-not-admits.false in
    let E = c.sort.new.entries in
    let room : c.args.count ≤ length E = omega (arith, c.sort.auto.entries, a.entries) in
    let entries = marks_within E c.run.new.marks c.args.count room (c.run.auto.marks ∙ c.sign.auto.marks) ∙ c.sort.auto.entries in
    simplified_all a c.sort.ensures c.sort.auto.order refl refl (search rules) (search rules) refl refl (c.run.auto.order ∙ c.sort.auto.order) entries c.sort.auto.places c.run.ensures.ran
