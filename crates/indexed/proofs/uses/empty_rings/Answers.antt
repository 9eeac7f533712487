use Rattle.std.proofs.Common.{◌≡◌, ℕ, [], ◌∙◌, inl, inr, arith}
use Rattle.std.specs.Bool.{◌==◌}
use Rattle.std.proofs.lemmas.Bool.{cases_eq, cond-true, cond-false, eq-eqb, ne_eqb}
use Rattle.indexed.specs.Links.{node_count}
use Rattle.rings.specs.Rings.{ring}
use Rattle.indexed.proofs.uses.empty_rings.Goals as goal

pub loop-k-init : goal.loop-k-init
loop-k-init c = ((c.requires (omega arith)).tidy, λ m h g. absurd (omega arith))

pub loop-k-preserved : goal.loop-k-preserved
loop-k-preserved c =
    let k = c.loop-k.k in (
      c.empty_ring.ensures.tidy,
      λ m h g. c.empty_ring.ensures.none m h ∙ elim (cases_eq m k) [
        | inl e ↦ cond-true (m == k) [] (ring 2048 (node_count c.args.room) c.loop-k.ws m) (eq-eqb m k e)
        | inr ne ↦ cond-false (m == k) [] (ring 2048 (node_count c.args.room) c.loop-k.ws m) (ne_eqb m k ne) ∙ c.loop-k.invariant.1 m h (omega arith)
      ],
    )

pub returns : goal.returns
returns c r = record { tidy = c.loop-k.invariant.0; none = λ k h. c.loop-k.invariant.1 k h (omega arith) }
