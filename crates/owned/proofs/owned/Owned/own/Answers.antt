use Rattle.std.proofs.Common.{ℕ, sym, ap, ◌∙◌}
use Rattle.rings.specs.Rings.{ring, walk}
use Rattle.owned.proofs.Wholes.{own_is, own_none, own_bare}
use Rattle.owned.proofs.owned.Owned.own.Goals as goal
use Rattle.owned.proofs.owned.Owned.own.Goals.{then-l-lt-LITERALS+then-self-gt0, else-l-lt-LITERALS, else-l-lt-LITERALS-via-then-l-lt-LITERALS+else-self-gt0, else-l-lt-LITERALS-via-else-l-lt-LITERALS}

pub returns : goal.returns
unfolding ring walk
returns c =
    let s = c.args.self.now in
    let to = λ (n : ℕ). ring 2050 n s.links.now c.args.l in
    c.ring.ensures ∙ elim c.if-l-lt-LITERALS.branch [
      | then-l-lt-LITERALS+then-self-gt0 w ↦ ap to w.nodes-is ∙ sym (own_is s.room s.links.now c.args.l w.if-self-gt0.true w.if-l-lt-LITERALS.true)
      | else-l-lt-LITERALS w ↦ ap to w.nodes-is ∙ sym (elim w.else-l-lt-LITERALS.branch [
        | else-l-lt-LITERALS-via-then-l-lt-LITERALS+else-self-gt0 u ↦ own_bare s.room s.links.now c.args.l u.if-self-gt0.false
        | else-l-lt-LITERALS-via-else-l-lt-LITERALS u ↦ own_none s.room s.links.now c.args.l u.if-l-lt-LITERALS.false
      ])
    ]
