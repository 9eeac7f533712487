use Rattle.std.proofs.Common.{◌≡◌, ℕ, [], cond, refl, sym, ap, ◌∙◌, inl, inr}
use Rattle.std.specs.Bool.{◌==◌}
use Rattle.std.proofs.lemmas.Bool.{cases_eq, cond-true, cond-false, eq-eqb, ne_eqb}
use Rattle.rings.specs.Rings.{ring}
use Rattle.indexed.specs.Links.{node_count}
use Rattle.indexed.proofs.Turns.{first_cut_others, first_cut_shorter, first_cut_tidy, no_node}
use Rattle.indexed.proofs.links.empty_ring.Goals as goal

pub loop-n-init : goal.loop-n-init
loop-n-init c = (c.requires.0, λ m h ne. refl)

pub loop-n-smaller : goal.loop-n-smaller
loop-n-smaller c = first_cut_shorter c.args.room c.loop-n.ws c.loop-n.invariant.0 c.args.k c.requires.1 c.in-Some.n c.in-Some.ensures c.unlink.new.ws c.unlink.ensures

pub loop-n-preserved : goal.loop-n-preserved
loop-n-preserved c =
    let i = c.loop-n.invariant in
    (first_cut_tidy c.args.room c.loop-n.ws i.0 c.args.k c.requires.1 c.in-Some.n c.in-Some.ensures c.unlink.new.ws c.unlink.ensures, λ m h ne. first_cut_others c.args.room c.loop-n.ws i.0 c.args.k c.requires.1 c.in-Some.n c.in-Some.ensures c.unlink.new.ws c.unlink.ensures m h ne ∙ i.1 m h ne)

pub returns-clause-tidy : goal.returns-clause-tidy
returns-clause-tidy c = c.loop-n.invariant.0

pub returns-clause-none : goal.returns-clause-none
returns-clause-none c l h =
    let i = c.loop-n.invariant in
    let old = ring 2048 (node_count c.args.room) c.args.ws.now l in
    elim (cases_eq l c.args.k) [
      | inl e ↦ ap (ring 2048 (node_count c.args.room) c.loop-n.ws) e ∙ no_node c.args.room c.loop-n.ws i.0 c.args.k c.requires.1 c.in_default.ensures ∙ sym (cond-true (l == c.args.k) [] old (eq-eqb l c.args.k e))
      | inr ne ↦ i.1 l h ne ∙ sym (cond-false (l == c.args.k) [] old (ne_eqb l c.args.k ne))
    ]
