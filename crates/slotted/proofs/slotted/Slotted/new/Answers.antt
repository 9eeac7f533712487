use Rattle.std.proofs.Common.{length, arith}
use Rattle.slotted.specs.Tied.{room_in}
use Rattle.slotted.proofs.Offs.{blank_facts, room_few}
use Rattle.slotted.proofs.slotted.Slotted.new.Goals as goal

pub invariant_of-result : goal.invariant_of-result
invariant_of-result g c =
    let i = c.clear.new.self in
    let n = c.room.result in
    let w = length c.args.links.now in
    let v = length c.args.texts.now in
    blank_facts c.new.result (g.I.Index.joined i) (g.I.Index.used i) c.clear.ensures.joins c.new.ensures.lost c.clear.ensures.uses (room_in n w v) c.new.ensures.room c.new.ensures.none
    (g.I.Index.slots i) (let e = c.room.ensures in let f = room_few n w v in omega arith)
