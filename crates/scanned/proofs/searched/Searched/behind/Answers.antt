use Rattle.std.proofs.Common.{ℕ, sym, ap, ◌∙◌}
use Rattle.rings.specs.Rings.{ring, walk}
use Rattle.scanned.specs.Facts.{behind_is, behind_none}
use Rattle.scanned.proofs.searched.Searched.behind.Goals as goal
use Rattle.scanned.proofs.searched.Searched.behind.Goals.{then-self-gt0, else-self-gt0}

pub returns : goal.returns
unfolding ring walk
returns c =
    let s = c.args.self.now in
    let to = λ (n : ℕ). ring 1 n s.words.now c.args.n in
    c.ring.ensures ∙ elim c.if-self-gt0.branch [
      | then-self-gt0 w ↦ ap to w.nodes-is ∙ sym (behind_is s.room s.words.now c.args.n w.if-self-gt0.true)
      | else-self-gt0 w ↦ ap to w.nodes-is ∙ sym (behind_none s.room s.words.now c.args.n w.if-self-gt0.false)
    ]
