use Rattle.std.proofs.Common.{length, not, ◌&&◌}
use Rattle.rules.specs.Bve.{all_resolvents}
use Rattle.resolving.specs.Answers.{suffice}
use Rattle.resolving.specs.Collected.{too_much}
use Rattle.resolving.proofs.Simplifying.{left_number, left_named, lent_on}
use Rattle.resolving.proofs.collection.lemmas_of.Goals as goal

pub returns-clause-number : goal.returns-clause-number
returns-clause-number g c =
    let Rs = all_resolvents (g.S.Lists.meaning c.args.store.now) c.args.node in
    let o = c.lemmas_subsume_simplify in
    left_number c.in_ok-count.count c.collect.new.words o.new.self c.in_ok-count.ensures.stand (suffice c.args.most c.args.words.now && not (too_much c.args.most Rs)) (length Rs) o.result c.in_ok-count.ensures.number o.ensures.when o.ensures.answer

pub returns-clause-left : goal.returns-clause-left
returns-clause-left g c = let o = c.lemmas_subsume_simplify in left_named c.in_ok-count.count c.collect.new.words o.new.self c.in_ok-count.ensures.stand o.result o.ensures.answer

pub returns-clause-lent : goal.returns-clause-lent
returns-clause-lent g c = let o = c.lemmas_subsume_simplify in lent_on c.in_ok-count.count c.args.words.now c.collect.new.words o.new.self c.in_ok-count.ensures.lent o.ensures.order o.ensures.entries o.ensures.places o.result o.ensures.answer
