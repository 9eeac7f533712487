use Rattle.std.proofs.Common.{map, ◌≡◌, ◌∙◌, sym, ap, refl, ⊎_elim}
use Rattle.rules.specs.Store.{after_retired, retire}
use Rattle.rules.specs.Subsume.{Verdict, place_after, apart, subsumed, merged, both_lost, long_lost, strengthened}
use Rattle.subsumption_pass.specs.Verdicts.{told}
use Rattle.subsumption_pass.specs.Checks.{against}
use Rattle.subsumption_pass.proofs.Shapes.{no_change, surrounds_shape}
use Rattle.subsumption_pass.proofs.Judged.{shortening, shortening_shape, kept_stands, on_clauses, itself, judged, follows_on, gone_shape, gone, both_gone}
use Rattle.subsumption_pass.proofs.meetings.meet.Goals as goal

pub returns-then-same-clause-meets : goal.returns-then-same-clause-meets
returns-then-same-clause-meets g c l i k j a b =
    (a, b, no_change _, λ Rs. itself (g.S.Lists.meaning c.args.s.now) l i k j Rs (sym (c.same.ensures l i k j a.0 b.0) ∙ c.if-same.true))

pub returns-in-Apart-clause-meets : goal.returns-in-Apart-clause-meets
returns-in-Apart-clause-meets g c l i k j a b =
    let q = on_clauses apart _ _ _ _ c.in-Apart.ensures (c.clause.ensures l i a.0) (c.clause-2.ensures k j b.0) in
    (a, b, no_change _, λ Rs. judged (g.S.Lists.meaning c.args.s.now) l i k j Rs (sym (c.same.ensures l i k j a.0 b.0) ∙ c.if-same.false) apart q)

pub returns-in-Subsumed-clause-meets : goal.returns-in-Subsumed-clause-meets
returns-in-Subsumed-clause-meets g c l i k j a b =
    let M = g.S.Lists.meaning c.args.s.now in
    let N = g.S.Lists.meaning c.retire.new.s in
    let e = sym (c.same.ensures l i k j a.0 b.0) ∙ c.if-same.false in
    let r = c.retire.ensures.makes k j b in
    let q = λ (v : Verdict) (w : told c.judge.result ≡ v). on_clauses v _ _ _ _ (sym w ∙ c.judge.ensures) (c.clause.ensures l i a.0) (c.clause-2.ensures k j b.0) in (
      follows_on M M N l i k j a.1 b.1 e (no_change M) r (g.S.Lists.at c.args.s.now) (g.S.Lists.at c.retire.new.s) c.args.one a.0 (c.retire.ensures.follow k j b),
      c.retire.ensures.next k j b,
      gone_shape M M N l i k j a.1 b.1 e (no_change M) r,
      ⊎_elim (λ t. gone M M N l i k j a.1 b.1 e (no_change M) r subsumed (q subsumed (ap told t)) (λ Rs go stop. refl))
          (λ t. gone M M N l i k j a.1 b.1 e (no_change M) r long_lost (q long_lost (ap told t)) (λ Rs go stop. refl)) c.in-Subsumed.is,
    )

pub retire-requires-in-Merged-clause-live : goal.retire-requires-in-Merged-clause-live
retire-requires-in-Merged-clause-live g c =
    let (l, p) = c.requires.one in let (i, a) = p in
    let (k, q) = c.requires.other in let (j, b) = q in
    let s = shortening_shape _ _ l i c.in-Merged.odd.word _ (c.shorten_at.ensures.when l i a.0) (c.shorten_at.ensures.makes l i a.0) in
    (k, (j, kept_stands (g.S.Lists.at c.args.s.now) (g.S.Lists.at c.shorten_at.new.self) _ _ c.args.other k j s c.shorten_at.ensures.follow b))

pub retire-requires-in-Merged-clause-around : goal.retire-requires-in-Merged-clause-around
retire-requires-in-Merged-clause-around g c =
    let (l, p) = c.requires.one in let (i, a) = p in
    surrounds_shape _ _ _ (shortening_shape _ _ l i c.in-Merged.odd.word _ (c.shorten_at.ensures.when l i a.0) (c.shorten_at.ensures.makes l i a.0)) c.requires.around

pub returns-in-Merged-clause-meets : goal.returns-in-Merged-clause-meets
returns-in-Merged-clause-meets g c l i k j a b =
    let M = g.S.Lists.meaning c.args.s.now in
    let M₁ = g.S.Lists.meaning c.shorten_at.new.self in
    let N = g.S.Lists.meaning c.retire-in-Merged.new.s in
    let at₁ = g.S.Lists.at c.shorten_at.new.self in
    let x = c.in-Merged.odd.word in
    let e = sym (c.same.ensures l i k j a.0 b.0) ∙ c.if-same.false in
    let t = shortening M M₁ l i x _ (c.shorten_at.ensures.when l i a.0) (c.shorten_at.ensures.makes l i a.0) in
    let s = shortening_shape M M₁ l i x _ (c.shorten_at.ensures.when l i a.0) (c.shorten_at.ensures.makes l i a.0) in
    let b₁ = kept_stands (g.S.Lists.at c.args.s.now) at₁ M M₁ c.args.other k j s c.shorten_at.ensures.follow b in
    let r = c.retire-in-Merged.ensures.makes k j b₁ in
    let q = on_clauses (merged x) _ _ _ _ c.in-Merged.ensures (c.clause.ensures l i a.0) (c.clause-2.ensures k j b.0) in (
      follows_on M M₁ N l i k j a.1 b.1 e s r at₁ (g.S.Lists.at c.retire-in-Merged.new.s) c.args.one (c.shorten_at.ensures.follow c.args.one l i a.0) (c.retire-in-Merged.ensures.follow k j b₁),
      c.retire-in-Merged.ensures.next k j b₁,
      gone_shape M M₁ N l i k j a.1 b.1 e s r,
      gone M M₁ N l i k j a.1 b.1 e s r (merged x) q (λ Rs go stop. ap (λ N. go (place_after k j l i) (map (after_retired k j) Rs) (retire k j N).0) (sym t)),
    )

pub retire-requires-in-BothLost-2-clause-live : goal.retire-requires-in-BothLost-2-clause-live
retire-requires-in-BothLost-2-clause-live g c =
    let M = g.S.Lists.meaning c.args.s.now in
    let (l, p) = c.requires.one in let (i, a) = p in
    let (k, q) = c.requires.other in let (j, b) = q in
    let e = sym (c.same.ensures l i k j a.0 b.0) ∙ c.if-same.false in
    (l, (place_after k j l i, follows_on M M _ l i k j a.1 b.1 e (no_change M) (c.retire-in-BothLost.ensures.makes k j b) (g.S.Lists.at c.args.s.now) (g.S.Lists.at c.retire-in-BothLost.new.s) c.args.one a.0 (c.retire-in-BothLost.ensures.follow k j b)))

pub returns-in-BothLost-clause-meets : goal.returns-in-BothLost-clause-meets
returns-in-BothLost-clause-meets g c l i k j a b =
    let M = g.S.Lists.meaning c.args.s.now in
    let e = sym (c.same.ensures l i k j a.0 b.0) ∙ c.if-same.false in
    let r = c.retire-in-BothLost.ensures.makes k j b in
    let a₁ = follows_on M M _ l i k j a.1 b.1 e (no_change M) r (g.S.Lists.at c.args.s.now) (g.S.Lists.at c.retire-in-BothLost.new.s) c.args.one a.0 (c.retire-in-BothLost.ensures.follow k j b) in
    let q = on_clauses both_lost _ _ _ _ c.in-BothLost.ensures (c.clause.ensures l i a.0) (c.clause-2.ensures k j b.0) in
    (c.retire-in-BothLost-2.ensures.next l (place_after k j l i) a₁, both_gone M _ _ l i k j b.1 e q r a₁.1 (c.retire-in-BothLost-2.ensures.makes l (place_after k j l i) a₁))

pub returns-in-Strengthened-clause-meets : goal.returns-in-Strengthened-clause-meets
returns-in-Strengthened-clause-meets g c l i k j a b =
    let M = g.S.Lists.meaning c.args.s.now in
    let N = g.S.Lists.meaning c.shorten_at-in-Strengthened.new.self in
    let at = g.S.Lists.at c.args.s.now in
    let at₁ = g.S.Lists.at c.shorten_at-in-Strengthened.new.self in
    let x = c.in-Strengthened.odd.word in
    let t = shortening M N k j x _ (c.shorten_at-in-Strengthened.ensures.when k j b.0) (c.shorten_at-in-Strengthened.ensures.makes k j b.0) in
    let s = shortening_shape M N k j x _ (c.shorten_at-in-Strengthened.ensures.when k j b.0) (c.shorten_at-in-Strengthened.ensures.makes k j b.0) in
    let q = on_clauses (strengthened x) _ _ _ _ c.in-Strengthened.ensures (c.clause.ensures l i a.0) (c.clause-2.ensures k j b.0) in (
      kept_stands at at₁ M N c.args.one l i s c.shorten_at-in-Strengthened.ensures.follow a,
      kept_stands at at₁ M N c.args.other k j s c.shorten_at-in-Strengthened.ensures.follow b,
      s,
      λ Rs. judged M l i k j Rs (sym (c.same.ensures l i k j a.0 b.0) ∙ c.if-same.false) (strengthened x) q ∙ ap (against l i Rs) (sym t),
    )

pub returns-in-Strengthened-clause-around : goal.returns-in-Strengthened-clause-around
returns-in-Strengthened-clause-around g c =
    let (k, q) = c.requires.other in let (j, b) = q in
    surrounds_shape _ _ _ (shortening_shape _ _ k j c.in-Strengthened.odd.word _ (c.shorten_at-in-Strengthened.ensures.when k j b.0) (c.shorten_at-in-Strengthened.ensures.makes k j b.0)) c.requires.around
