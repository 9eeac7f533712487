use Rattle.std.proofs.Common.{◌≡◌, [], ◌∷◌, refl, ap, sym, ◌∙◌}
use Rattle.network.specs.Lemmas.{lemmas}
use Rattle.rules.specs.Bve.{all_resolvents}
use Rattle.rules.specs.Work.{Work, add, each}
use Rattle.rules.proofs.Passes.{attempt_keeps}
use Rattle.simplifier.specs.Shown.{work_of}
use Rattle.waiting.proofs.Waits.{same_trans}
use Rattle.removing.specs.Owed.{owed}
use Rattle.removing.proofs.Settles.{owed_lined}
use Rattle.elimination.proofs.Attempts.{enough, roomy_on, attempt_top, over, cost_is, gives_up, takes}
use Rattle.elimination.proofs.attempt.attempt.Given.{Over}
use Rattle.elimination.proofs.attempt.attempt.Goals as goal
use Rattle.elimination.proofs.attempt.attempt.Goals.{After-settle}

pub returns-in_default-clause-makes : goal.returns-in_default-clause-makes
returns-in_default-clause-makes g c out = let W = work_of g.S.Lists.meaning c.args.s.now out in sym (over c.args.node W (c.in_default.ensures W refl refl))

pub returns-in_default-lemmas_of-clause-makes : goal.returns-in_default-lemmas_of-clause-makes
returns-in_default-lemmas_of-clause-makes g c out =
    let M = g.S.Lists.meaning c.args.s.now.store in
    let W = work_of g.S.Lists.meaning c.args.s.now out in
    let n = c.args.node in
    let costs = c.in-Some.ensures W refl refl in
    let k = c.in-Some.cost in
    sym (gives_up n W k costs c.args.words.now (enough M (g.met.S.Lists.lawful c.args.s.now.store) c.requires.indexed n k c.args.words.now (cost_is n W k costs) c.requires.roomy) c.in_default-lemmas_of.ensures.number)

-- the clauses that are owed are what is left of the resolvents
all_owed : (g : Over) (c : After-settle g) → owed c.in-Some-lemmas_of.count c.lemmas_of.new.words ≡ lemmas (all_resolvents (g.S.Lists.meaning c.args.s.now.store) c.args.node)
all_owed g c = let left = c.in-Some-lemmas_of.ensures.left in owed_lined c.in-Some-lemmas_of.count c.lemmas_of.new.words left.lined ∙ left.clauses

pub returns-clause-makes : goal.returns-clause-makes
returns-clause-makes g c out =
    let W = work_of g.S.Lists.meaning c.args.s.now out in
    let n = c.args.node in
    let Rs = all_resolvents W.store n in
    c.settle.ensures.made (n ∷ out)
    ∙ ap (λ Cs. each add Cs (work_of g.S.Lists.meaning c.take_out.new.s (n ∷ out))) (all_owed g (goal.at.returns-clause-makes g c).After-settle)
    ∙ ap (each add (lemmas Rs)) (c.take_out.ensures.ruled c.requires.small c.requires.indexed out)
    ∙ sym (takes n W c.in-Some.cost (c.in-Some.ensures W refl refl) c.args.words.now c.in-Some-lemmas_of.count c.in-Some-lemmas_of.ensures.number)

pub returns-clause-top : goal.returns-clause-top
returns-clause-top g c = ap (λ (W : Work). W.top) (returns-clause-makes g c []) ∙ attempt_top c.args.node (work_of g.S.Lists.meaning c.args.s.now [])

pub returns-clause-waits : goal.returns-clause-waits
returns-clause-waits g c = same_trans c.args.waiting.now c.take_out.new.waiting c.settle.new.waiting c.take_out.ensures.follows.waits c.settle.ensures.follows.waits

pub returns-clause-counts : goal.returns-clause-counts
returns-clause-counts g c top d = c.settle.ensures.follows.counts (c.take_out.ensures.follows.index c.requires.indexed) top (c.take_out.ensures.follows.counts c.requires.indexed top d)

pub returns-clause-lent : goal.returns-clause-lent
returns-clause-lent g c =
    let W = work_of g.S.Lists.meaning c.args.s.now [] in
    roomy_on (g.S.Lists.meaning c.args.s.now.store).room _ c.args.words.now c.lemmas_of.new.words
    (ap (λ (V : Work). V.store.room) (returns-clause-makes g c []) ∙ (attempt_keeps c.args.node W (g.met.S.Lists.lawful c.args.s.now.store)).1) c.in-Some-lemmas_of.ensures.lent c.requires.roomy
