use Rattle.std.proofs.Common.{◌+◌, ◌-◌, ◌^◌, min, ⊎_elim, arith}
use Rattle.waiting.proofs.Waits.{same_trans}
use Rattle.waiting.proofs.Recounts.{times_none, times_whole, recounted}
use Rattle.waiting.proofs.waiting.Waiting.clause_comes.Goals as goal

pub loop-literal-init : goal.loop-literal-init
loop-literal-init c = record { counts = λ k h. omega (arith, times_none k, c.args.self.now.words k (omega (arith, c.args.self.now.many))); waits = λ n. (λ h. h, λ h. h) }

pub loop-literal-preserved : goal.loop-literal-preserved
loop-literal-preserved c =
    let l = c.loop-literal in
    record {
      counts = λ k h.
          let was = l.invariant.counts k h in
          ⊎_elim (λ (a, b). omega (arith, a, b, was)) (λ (a, b). omega (arith, a, b, was))
          (recounted (λ n. min (n + 1) (2 ^ 32 - 1)) l.self.counts.now c.recount.new.self.counts.now c.but_last-front.result.now l.literal-index c.count.result c.saturating_add.result c.count.ensures c.saturating_add.ensures c.recount.ensures.counts c.loop-literal-test.true k (omega (arith, l.self.many)));
      waits = same_trans c.args.self.now l.self c.recount.new.self l.invariant.waits c.recount.ensures.waits;
    }

pub returns-clause-counts : goal.returns-clause-counts
returns-clause-counts c k h = omega (arith, c.loop-literal.invariant.counts k h, times_whole k c.loop-literal.literal-index _ _ c.loop-literal-test.false c.but_last-front.ensures)
