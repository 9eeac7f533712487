use Rattle.std.proofs.Common.{◌+◌, map, ap, arith}
use Rattle.rings.proofs.Tidies.{scattered_tidy}
use Rattle.scanned.specs.Facts.{behind_none}
use Rattle.scanned.specs.Sequence.{slot_of}
use Rattle.scanned.proofs.Sequences.{scattered_none}
use Rattle.scanned.proofs.searched.Searched.new.Goals as goal
use Rattle.scanned.proofs.searched.Searched.new.Goals.{then-room-gt0+then-room-le4096+then-words-room, else-room-gt0}

pub invariant_of-result : goal.invariant_of-result
invariant_of-result c =
    elim c.if-room-gt0.branch [
      | then-room-gt0+then-room-le4096+then-words-room w ↦
          let a = w.if-room-le4096.true in
          let b = w.if-words-room.true in
          let e = w.scatter.ensures.alone (omega arith) in
          rw (w.words-is, w.room-is) (record { small = a; sound = ∣ (λ r. rw e (scattered_tidy 1 (c.args.room + 1) c.args.words.now (omega arith) (omega arith))) ∣₁ })
      | else-room-gt0 w ↦ rw (w.words-is, w.room-is) (record { small = omega arith; sound = ∣ (λ r. absurd (omega arith)) ∣₁ })
    ]

pub returns-clause-none : goal.returns-clause-none
returns-clause-none c =
    elim c.if-room-gt0.branch [
      | then-room-gt0+then-room-le4096+then-words-room w ↦
          let b = w.if-words-room.true in
          rw (w.words-is, w.room-is) (rw (w.scatter.ensures.alone (omega arith)) (scattered_none c.args.room c.args.words.now (omega arith)))
      | else-room-gt0 w ↦ rw (w.words-is, w.room-is) (ap (map slot_of) (behind_none 0 c.args.words.now 0 (omega arith)))
    ]
