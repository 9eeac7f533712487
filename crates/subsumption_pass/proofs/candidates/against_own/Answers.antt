use Rattle.std.proofs.Common.{◌+◌, arith}
use Rattle.rules.specs.Store.{Meaning}
use Rattle.rules.specs.Subsume.{refs_of}
use Rattle.subsumption_pass.proofs.Whole.{sizes_few}
use Rattle.subsumption_pass.proofs.Refs.{refs_from, refs_after, one_more, after_stays, after_gone, fewer_left}
use Rattle.subsumption_pass.proofs.Steps.{next_found, past_stays, past_gone, ends_lost, reaches_on, reaches_end}
use Rattle.subsumption_pass.proofs.candidates.against_own.Goals as goal

pub overflow_add-place : goal.overflow_add-place
overflow_add-place g c =
    let p = rw c.in-Some.is at c.loop-at.invariant.stands in
    let f = sizes_few (g.S.Lists.meaning c.loop-at.s) (g.met.S.Lists.lawful c.loop-at.s) (g.met.S.Lists.small c.loop-at.s) c.args.x in
    omega (arith, p.1, f.1)

pub loop-at-preserved-in-Stays : goal.loop-at-preserved-in-Stays
loop-at-preserved-in-Stays g c =
    let p = rw c.in-Some.is at c.loop-at.invariant.stands in
    let M = g.S.Lists.meaning c.loop-at.s in
    let N = g.S.Lists.meaning c.meet.new.s in
    record {
      around = c.meet.ensures.around;
      stands =
          let (l, q) = c.requires.live in let (i, a) = q in let (i₁, r) = c.loop-at.invariant.reaches l i a in
          next_found (g.S.Lists.at c.meet.new.s) N c.args.x (c.loop-at.place + 1) c.next-at.result (c.next-at.ensures c.args.x c.loop-at.place (c.in-Stays.ensures.meets l i₁ c.args.x c.loop-at.place r.0 p).1.0);
      reaches = λ l i a. reaches_on c.args.one l i (λ (M : Meaning). refs_of M c.args.x) (refs_from c.args.x c.loop-at.place) (g.S.Lists.meaning c.args.s.now)
          (g.S.Lists.at c.loop-at.s) (g.S.Lists.at c.meet.new.s) (refs_from c.args.x (c.loop-at.place + 1)) M N (c.loop-at.invariant.reaches l i a)
          (λ i₁ b. let h = c.in-Stays.ensures.meets l i₁ c.args.x c.loop-at.place b p in
          past_stays c.args.one l i₁ (refs_from c.args.x c.loop-at.place) (refs_from c.args.x (c.loop-at.place + 1)) M (g.S.Lists.at c.meet.new.s) c.in-Some.other c.args.x c.loop-at.place (refs_after c.args.x c.loop-at.place M) N
          (one_more c.args.x c.loop-at.place M p.1) h (after_stays c.args.x c.loop-at.place M N h.2));
    }

pub loop-at-smaller : goal.loop-at-smaller
loop-at-smaller g c =
    let p = rw c.in-Some.is at c.loop-at.invariant.stands in
    let M = g.S.Lists.meaning c.loop-at.s in
    let N = g.S.Lists.meaning c.meet.new.s in
    let (l, q) = c.requires.live in let (i, a) = q in let (i₁, r) = c.loop-at.invariant.reaches l i a in
    let h = c.in-Gone.ensures.meets l i₁ c.args.x c.loop-at.place r.0 p in
    omega (arith, p.1, fewer_left c.args.x c.loop-at.place M N p.1 h.2)

pub loop-at-preserved : goal.loop-at-preserved
loop-at-preserved g c =
    let p = rw c.in-Some.is at c.loop-at.invariant.stands in
    let M = g.S.Lists.meaning c.loop-at.s in
    let N = g.S.Lists.meaning c.meet.new.s in
    record {
      around = c.meet.ensures.around;
      stands = let (l, q) = c.requires.live in let (i, a) = q in let (i₁, r) = c.loop-at.invariant.reaches l i a in (c.in-Gone.ensures.meets l i₁ c.args.x c.loop-at.place r.0 p).1;
      reaches = λ l i a. reaches_on c.args.one l i (λ (M : Meaning). refs_of M c.args.x) (refs_from c.args.x c.loop-at.place) (g.S.Lists.meaning c.args.s.now)
          (g.S.Lists.at c.loop-at.s) (g.S.Lists.at c.meet.new.s) (refs_from c.args.x c.loop-at.place) M N (c.loop-at.invariant.reaches l i a)
          (λ i₁ b. let h = c.in-Gone.ensures.meets l i₁ c.args.x c.loop-at.place b p in
          past_gone c.args.one l i₁ (refs_from c.args.x c.loop-at.place) (refs_from c.args.x c.loop-at.place) M (g.S.Lists.at c.meet.new.s) c.in-Some.other c.args.x c.loop-at.place (refs_after c.args.x c.loop-at.place M) N
          (one_more c.args.x c.loop-at.place M p.1) c.in-Gone.next h p.1 (after_gone c.args.x c.loop-at.place M N p.1 h.2));
    }

pub returns-in-Lost-clause-goes : goal.returns-in-Lost-clause-goes
returns-in-Lost-clause-goes g c l i a =
    let p = rw c.in-Some.is at c.loop-at.invariant.stands in
    let M = g.S.Lists.meaning c.loop-at.s in
    let N = g.S.Lists.meaning c.meet.new.s in
    reaches_end c.args.one l i (λ (M : Meaning). refs_of M c.args.x) (refs_from c.args.x c.loop-at.place) (g.S.Lists.meaning c.args.s.now)
    (g.S.Lists.at c.loop-at.s) (g.S.Lists.at c.meet.new.s) c.in-Lost.next M N (c.loop-at.invariant.reaches l i a)
    (λ i₁ b. ends_lost c.args.one l i₁ (refs_from c.args.x c.loop-at.place) (refs_from c.args.x c.loop-at.place) M (g.S.Lists.at c.meet.new.s) c.in-Some.other c.args.x c.loop-at.place (refs_after c.args.x c.loop-at.place M) N
    (one_more c.args.x c.loop-at.place M p.1) c.in-Lost.next (c.in-Lost.ensures.meets l i₁ c.args.x c.loop-at.place b p))
