use Rattle.std.proofs.Common.{◌-◌, subst, arith}
use Rattle.std.specs.List.{ContainsAt as Has}
use Rattle.queue.proofs.Lines.{counting_below, filled_more}
use Rattle.queue.proofs.queue.Queue.fill.Goals as goal

pub append-requires : goal.append-requires
append-requires c =
    let l = c.loop-number in
    let a = c.args.from in
    let f = l.invariant.1 in
    record {
      room = omega (arith, f.len, f.touched.entries);
      indexed = omega (arith, f.touched.places);
      new = λ h. let low = counting_below a (l.number - a) l.number (subst (λ xs. Has xs l.number) f.waits h) in omega arith;
    }

pub loop-number-preserved : goal.loop-number-preserved
loop-number-preserved c = (omega arith, filled_more (omega arith) c.loop-number.invariant.1 c.append.ensures)
