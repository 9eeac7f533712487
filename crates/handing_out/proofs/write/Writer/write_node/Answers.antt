use Rattle.std.proofs.Common.{[], length, sym, ap, arith}
use Rattle.simplifier.specs.Shown.{work_of}
use Rattle.handing_out.proofs.Noding.{run_alone, run_lists, lists_length}
use Rattle.handing_out.proofs.Laying.{wrote_both, wrote_length, wrote_same}
use Rattle.handing_out.proofs.write.Writer.write_node.Goals as goal

pub write_clause-requires-clause-room : goal.write_clause-requires-clause-room
write_clause-requires-clause-room g c = omega (arith, ap length (run_alone (work_of g.S.Lists.meaning c.args.s.now []) c.args.node c.in-Some.literal.word c.in-Some.ensures))

pub returns-in-Some : goal.returns-in-Some
returns-in-Some g c = wrote_same (sym (run_alone (work_of g.S.Lists.meaning c.args.s.now []) c.args.node c.in-Some.literal.word c.in-Some.ensures)) c.write_clause.ensures

pub write_list-requires : goal.write_list-requires
write_list-requires g c = omega (arith, lists_length (work_of g.S.Lists.meaning c.args.s.now []) c.args.node c.in-None.ensures)

pub write_list-requires-in-None : goal.write_list-requires-in-None
write_list-requires-in-None g c =
    let n = lists_length (work_of g.S.Lists.meaning c.args.s.now []) c.args.node c.in-None.ensures in
    omega (arith, n, wrote_length (omega (arith, n)) c.write_list.ensures)

pub returns-in-None : goal.returns-in-None
returns-in-None g c =
    let W = work_of g.S.Lists.meaning c.args.s.now [] in
    let n = lists_length W c.args.node c.in-None.ensures in
    wrote_same (sym (run_lists W c.args.node c.in-None.ensures)) (wrote_both (omega (arith, n)) c.write_list.ensures c.write_list-in-None.ensures)
