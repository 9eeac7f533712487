use Rattle.std.proofs.Common.{ℕ, map, ap, ◌∙◌, arith}
use Rattle.rings.specs.Rings.{scattered}
use Rattle.indexed.specs.Facts.{nodes_none}
use Rattle.indexed.specs.Links.{slot_of}
use Rattle.indexed.proofs.Asks.{fresh_used, fresh_whole}
use Rattle.indexed.proofs.linked.Linked.new.Goals as goal
use Rattle.indexed.proofs.linked.Linked.new.Goals.{then-room-gt0+then-room-le4096+then-words-nodes, else-room-gt0}

pub invariant_of-result : goal.invariant_of-result
invariant_of-result c =
    elim c.if-room-gt0.branch [
      | then-room-gt0+then-room-le4096+then-words-nodes w ↦
          let a = w.if-room-le4096.true in
          let n = w.nodes.ensures in
          let b = w.if-words-nodes.true in
          let m = w.nodes-then-words-nodes.ensures in
          let e = w.scatter.ensures.alone (omega arith) in
          rw (w.words-is, w.room-is) (record { small = a; sound = ∣ (λ r. fresh_whole c.args.room c.args.words.now w.scatter.new.ws (omega arith) (e ∙ ap (λ (k : ℕ). scattered k c.args.words.now) m)) ∣₁ })
      | else-room-gt0 w ↦ rw (w.words-is, w.room-is) (record { small = omega arith; sound = ∣ (λ r. absurd (omega arith)) ∣₁ })
    ]

pub returns-clause-none : goal.returns-clause-none
returns-clause-none c k =
    elim c.if-room-gt0.branch [
      | then-room-gt0+then-room-le4096+then-words-nodes w ↦
          let n = w.nodes.ensures in
          let b = w.if-words-nodes.true in
          let m = w.nodes-then-words-nodes.ensures in
          let e = w.scatter.ensures.alone (omega arith) in
          rw (w.words-is, w.room-is) (fresh_used c.args.room c.args.words.now w.scatter.new.ws (omega arith) (e ∙ ap (λ (j : ℕ). scattered j c.args.words.now) m) k)
      | else-room-gt0 w ↦ rw (w.words-is, w.room-is) (ap (map slot_of) (nodes_none 0 c.args.words.now k (omega arith)))
    ]
