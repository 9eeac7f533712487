use Rattle.std.proofs.Common.{◌≡◌, ◌+◌, ◌*◌, not, is_some, ap, sym, ◌∙◌, rules}
use Rattle.std.proofs.lemmas.List.{get_or_default}
use Rattle.clause.specs.declared.literals.Lbool.TheVariants.{False, Unknown}
use Rattle.clause.specs.Types.{told, values_of}
use Rattle.rules.specs.Work.{storing, clear_all}
use Rattle.simplifier.specs.Shown.{work_of}
use Rattle.constants.proofs.Nodes.{drops, keeps}
use Rattle.constants.proofs.pass.drop_valued.Given.{Over}
use Rattle.constants.proofs.pass.drop_valued.Goals as goal
use Rattle.constants.proofs.pass.drop_valued.Goals.{After-is_none}

-- whether nothing is known of the node
known_not : (g : Over) (c : After-is_none g) → not (is_some (values_of c.args.s.now.values c.args.n)) ≡ c.is_none.result
known_not g c = ap (λ v. not (is_some (told v))) (get_or_default c.args.s.now.values c.args.n Unknown False (search rules)) ∙ sym c.is_none.ensures

pub returns-then-not-is_none-clause-makes : goal.returns-then-not-is_none-clause-makes
returns-then-not-is_none-clause-makes g c out =
    c.clear_all-then-not-is_none.ensures.makes out
    ∙ ap (λ V. storing V (clear_all (2 * c.args.n + 1) V.store)) (c.clear_all.ensures.makes out)
    ∙ sym (drops c.args.n (work_of g.S.Lists.meaning c.args.s.now out) (known_not g (goal.at.returns-then-not-is_none-clause-makes g c).After-is_none ∙ c.if-not-is_none.true))

pub returns-else-not-is_none-clause-makes : goal.returns-else-not-is_none-clause-makes
returns-else-not-is_none-clause-makes g c out =
    sym (keeps c.args.n (work_of g.S.Lists.meaning c.args.s.now out) (known_not g (goal.at.returns-else-not-is_none-clause-makes g c).After-is_none ∙ c.if-not-is_none.false))
