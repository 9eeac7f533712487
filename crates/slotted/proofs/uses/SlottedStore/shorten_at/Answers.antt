use Rattle.std.proofs.Common.{◌≡◌, ℕ, sym, refl, ◌∙◌, subst, inl, inr}
use Rattle.std.proofs.lemmas.Bool.{both_ways, cases_Bool, cond-true, cond-false}
use Rattle.rules.specs.Store.{shortened}
use Rattle.slotted.specs.Facts.{law}
use Rattle.owned.specs.Lists.{At, listed}
use Rattle.slotted.specs.Tied.{meaning_of}
use Rattle.slotted.proofs.Asks.{stands_or}
use Rattle.slotted.proofs.Shortens.{droppable_by, shortened_alike, shortened_facts, shortened_meaning}
use Rattle.slotted.proofs.Stands.{facts_stay, ties}
use Rattle.slotted.proofs.uses.SlottedStore.shorten_at.Goals as goal

pub invariant_of-self : goal.invariant_of-self
invariant_of-self g c =
    let s = c.args.self.now in
    let u = g.I.Index.used s.index in
    elim (cases_Bool c.shorten.result) [
      | inl t ↦ elim (stands_or s.own c.named.result) [
        | inl p ↦
            shortened_facts s.own c.shorten.new.self s.indexed (g.I.Index.joined s.index) u (g.met.I.Index.sensible s.index) (ties s.tied) c.named.result c.args.x p.0 p.1 p.2 (c.shorten.ensures.makes t)
            (law (meaning_of s.own s.indexed u) s.law) (droppable_by s.own s.indexed u c.named.result c.args.x p.0 p.1 p.2 (c.shorten.ensures.when p.0 p.1 p.2) t) (g.I.Index.slots s.index) s.fits
        | inr n ↦ absurd (both_ways c.shorten.result (c.shorten.ensures.absent n).0 t)
      ]
      | inr f ↦ facts_stay (c.shorten.ensures.no f) (record { fits = s.fits; tied = s.tied; law = s.law })
    ]

pub returns-clause-makes : goal.returns-clause-makes
returns-clause-makes g c =
    λ l i h.
    let s = c.args.self.now in
    let u = g.I.Index.used s.index in
    let M = meaning_of s.own s.indexed u in
    let N = shortened l i c.args.x M in
    let a : At s.own c.named.result l i = subst (λ (x : ℕ). At s.own x l i) (sym c.named.ensures) h in
    elim (cases_Bool c.shorten.result) [
      | inl t ↦
          shortened_meaning s.own c.shorten.new.self s.indexed (g.I.Index.joined s.index) u (g.met.I.Index.sensible s.index) (ties s.tied) c.named.result c.args.x l i a (c.shorten.ensures.makes t)
          ∙ sym (cond-true c.shorten.result N M t)
      | inr f ↦ subst (λ o. meaning_of o s.indexed u ≡ M) (sym (c.shorten.ensures.no f)) refl ∙ sym (cond-false c.shorten.result N M f)
    ]

pub returns-clause-keeps : goal.returns-clause-keeps
returns-clause-keeps g c =
    λ w k j h.
    let s = c.args.self.now in
    elim (cases_Bool c.shorten.result) [
      | inl t ↦ elim (stands_or s.own c.named.result) [
        | inl p ↦
            g.met.I.Index.stays s.index (listed s.own) (listed c.shorten.new.self)
            (shortened_alike s.own c.shorten.new.self s.indexed (g.I.Index.joined s.index) (g.I.Index.used s.index) (g.met.I.Index.sensible s.index) (ties s.tied) c.named.result c.args.x p.0 p.1 p.2 (c.shorten.ensures.makes t)) w k j h
        | inr n ↦ absurd (both_ways c.shorten.result (c.shorten.ensures.absent n).0 t)
      ]
      | inr f ↦ subst (λ o. g.I.Index.usage s.index (listed o) w k j) (sym (c.shorten.ensures.no f)) h
    ]
