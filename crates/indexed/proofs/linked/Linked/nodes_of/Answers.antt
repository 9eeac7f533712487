use Rattle.std.proofs.Common.{ℕ, sym, ap, ◌∙◌, arith}
use Rattle.rings.specs.Rings.{ring, walk}
use Rattle.indexed.specs.Facts.{nodes_high, nodes_is, nodes_none}
use Rattle.indexed.proofs.Turns.{range_is}
use Rattle.indexed.proofs.linked.Linked.nodes_of.Goals as goal
use Rattle.indexed.proofs.linked.Linked.nodes_of.Goals.{then-k-lt-LITERALS+then-self-gt0, else-k-lt-LITERALS, else-k-lt-LITERALS-via-then-k-lt-LITERALS+else-self-gt0, else-k-lt-LITERALS-via-else-k-lt-LITERALS}

pub returns : goal.returns
unfolding ring walk
returns c =
    let s = c.args.self.now in
    let to = λ (n : ℕ). ring 2048 n s.words.now c.args.k in
    c.ring.ensures ∙ elim c.if-k-lt-LITERALS.branch [
      | then-k-lt-LITERALS+then-self-gt0 w ↦ ap to (w.nodes-is ∙ w.nodes-nodes.ensures) ∙ sym (nodes_is s.room s.words.now c.args.k w.if-self-gt0.true w.if-k-lt-LITERALS.true)
      | else-k-lt-LITERALS w ↦ ap to w.nodes-is ∙ sym (elim w.else-k-lt-LITERALS.branch [
        | else-k-lt-LITERALS-via-then-k-lt-LITERALS+else-self-gt0 u ↦ nodes_none s.room s.words.now c.args.k u.if-self-gt0.false
        | else-k-lt-LITERALS-via-else-k-lt-LITERALS u ↦ nodes_high s.room s.words.now c.args.k u.if-k-lt-LITERALS.false
      ])
    ]
