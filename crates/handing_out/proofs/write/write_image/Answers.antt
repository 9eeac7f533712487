use Rattle.std.proofs.Common.{suc, ◌+◌, [], ◌∷◌, refl, ap, rules, arith}
use Rattle.simplifier.specs.Shown.{work_of}
use Rattle.handing_out.proofs.Images.{words_all}
use Rattle.handing_out.proofs.Laying.{wrote_nothing, wrote_same}
use Rattle.handing_out.proofs.Writing.{offset_room, run_room, end_small, node_more, all_written}
use Rattle.handing_out.proofs.write.write_image.Goals as goal

pub split_at_mut-header-requires : goal.split_at_mut-header-requires
split_at_mut-header-requires g c = let e = words_all (work_of g.S.Lists.meaning c.args.s.now []) in omega (arith, e, c.requires.room)

pub loop-node-init : goal.loop-node-init
loop-node-init g c = record {
  begun = record { room = c.requires.room; h0 = _; head = c.split_at_mut-header.ensures.front; head_at = refl; rest = c.split_at_mut-header.ensures.back; rest_at = refl; first = wrote_same (ap (λ n. c.args.s.now.top ∷ n ∷ (c.args.s.now.top + 3) ∷ []) c.requires.counted) c.write.ensures };
  upto = (0, refl, record { below = omega arith; ends = wrote_nothing _; runs = wrote_nothing _ });
}

pub write_node-requires-clause-room : goal.write_node-requires-clause-room
write_node-requires-clause-room g c =
    let (k, e, u) = c.loop-node.invariant.upto in
    rw e (run_room (work_of g.S.Lists.meaning c.args.s.now []) c.loop-node.invariant.begun u (omega arith))

pub end-requires : goal.end-requires
end-requires g c =
    let s = c.args.s.now in
    let (k, e, u) = c.loop-node.invariant.upto in
    let small = end_small (work_of g.S.Lists.meaning s []) c.loop-node.invariant.begun u (omega arith) (rw e at c.write_node.ensures) (g.met.S.Lists.lawful s.store) s.small (g.met.S.Lists.small s.store) in
    omega (arith, small)

pub write-requires-in-loop-node : goal.write-requires-in-loop-node
write-requires-in-loop-node g c =
    let (k, e, u) = c.loop-node.invariant.upto in
    offset_room (work_of g.S.Lists.meaning c.args.s.now []) c.loop-node.invariant.begun u (omega arith)

pub loop-node-preserved : goal.loop-node-preserved
loop-node-preserved g c =
    let (k, e, u) = c.loop-node.invariant.upto in
    record {
      begun = c.loop-node.invariant.begun;
      upto = (suc k, omega arith, node_more (work_of g.S.Lists.meaning c.args.s.now []) c.loop-node.invariant.begun u (omega arith) (rw e at c.write_node.ensures) c.end.result c.end.ensures c.write-in-loop-node.new.self c.write-in-loop-node.ensures);
    }

pub returns : goal.returns
returns g c =
    let (k, e, u) = c.loop-node.invariant.upto in
    all_written (work_of g.S.Lists.meaning c.args.s.now []) c.loop-node.invariant.begun u (omega arith) (search rules)
