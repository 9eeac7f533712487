use Rattle.std.proofs.Common.{length, get_or, ap, ◌∙◌, arith}
use Rattle.waiting.proofs.Beginnings.{begins}
use Rattle.waiting.proofs.waiting.Waiting.new.Goals as goal

pub returns : goal.returns
returns g c =
    let same = c.build.ensures.counts in
    let f = c.fill.ensures in (
      begins (g.S.Lists.meaning c.args.store.now) c.args.top _ (omega arith) (omega (arith, ap length same, c.fill.auto.counts, c.split_at_mut-counts.ensures.front_len))
          (λ l h k. ap (λ cs. get_or cs l 0) same ∙ f.counts l h k) (λ l h k. ap (λ cs. get_or cs l 0) same ∙ f.none l h k) c.build.ensures.waits,
      omega arith,
      omega arith,
      omega (arith, c.split_at_mut-counts.ensures.back_len, c.split_at_mut-entries.ensures.back_len, c.split_at_mut-places.ensures.back_len),
    )
