use Rattle.std.proofs.Common.{map, ap, arith}
use Rattle.scanned.specs.Facts.{behind_none}
use Rattle.scanned.specs.Sequence.{slot_of}
use Rattle.scanned.proofs.Sequences.{cut_first_shorter, cut_first_sound, no_node}
use Rattle.scanned.proofs.uses.cut_all.Goals as goal

pub returns-then-room-eq0-clause-none : goal.returns-then-room-eq0-clause-none
returns-then-room-eq0-clause-none c = ap (map slot_of) (behind_none c.args.room c.args.ws.now 0 (omega arith))

pub loop-n-smaller : goal.loop-n-smaller
loop-n-smaller c = cut_first_shorter c.args.room c.loop-n.ws c.loop-n.invariant (omega arith) c.in-Some.n c.in-Some.ensures c.unlink.new.ws c.unlink.ensures

pub loop-n-preserved : goal.loop-n-preserved
loop-n-preserved c = cut_first_sound c.args.room c.loop-n.ws c.loop-n.invariant (omega arith) c.in-Some.n c.in-Some.ensures c.unlink.new.ws c.unlink.ensures

pub returns-clause-none : goal.returns-clause-none
returns-clause-none c = no_node c.args.room c.loop-n.ws c.loop-n.invariant (omega arith) c.in_default.ensures
