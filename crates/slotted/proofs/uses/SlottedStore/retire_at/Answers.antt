use Rattle.std.proofs.Common.{◌≡◌, ℕ, Bool, ◌&&◌, ltb, length, sym, ap, ◌∙◌, subst, inl, inr}
use Rattle.rules.specs.Store.{retired}
use Rattle.rules.specs.Subsume.{place_after}
use Rattle.slotted.specs.Facts.{law}
use Rattle.owned.specs.Lists.{At, listed}
use Rattle.slotted.specs.Tied.{meaning_of}
use Rattle.slotted.proofs.Asks.{stands_or}
use Rattle.slotted.proofs.Retires.{retired_alike, retired_facts, retired_follow, retired_meaning}
use Rattle.slotted.proofs.Stands.{facts_stay, ties}
use Rattle.slotted.proofs.uses.SlottedStore.retire_at.Goals as goal
use Rattle.slotted.proofs.uses.SlottedStore.retire_at.Goals.{After-retire, then-self, else-self}
use Rattle.slotted.proofs.uses.SlottedStore.retire_at.Given.{Over}

-- whether it is to be lost
used_is : (g : Over) (c : After-retire g) → c.if-self.used ≡ (c.args.self.now.indexed && ltb 0 (length (listed c.args.self.now.own c.named-x.result)))
used_is g c =
    let b = ltb 0 (length (listed c.args.self.now.own c.named-x.result)) in
    elim c.if-self.branch [
      | then-self w ↦ w.used-is ∙ w.is_listed-used.ensures ∙ ap (λ (x : Bool). x && b) (sym w.if-self.true)
      | else-self w ↦ w.used-is ∙ w.if-self.false ∙ ap (λ (x : Bool). x && b) (sym w.if-self.false)
    ]

here : (g : Over) (c : After-retire g) (l i : ℕ) → At c.args.self.now.own (g.I.Index.named c.args.h) l i → At c.args.self.now.own c.named-x.result l i
here g c l i = subst (λ (x : ℕ). At c.args.self.now.own x l i) (sym c.named-x.ensures)

pub invariant_of-self : goal.invariant_of-self
invariant_of-self g c =
    let s = c.args.self.now in
    let u = g.I.Index.used s.index in
    elim (stands_or s.own c.named-x.result) [
      | inl p ↦
          retired_facts s.own c.retire.new.self s.indexed (g.I.Index.joined s.index) u (g.met.I.Index.sensible s.index) (ties s.tied) c.named-x.result p.0 p.1 p.2 c.if-self.used (used_is g c) (c.retire.ensures.makes p.0 p.1 p.2)
          (law (meaning_of s.own s.indexed u) s.law) (g.I.Index.slots s.index) s.fits
      | inr n ↦ facts_stay (c.retire.ensures.absent n).1 (record { fits = s.fits; tied = s.tied; law = s.law })
    ]

makes : (g : Over) (c : After-retire g) (l i : ℕ) → At c.args.self.now.own (g.I.Index.named c.args.h) l i →
    meaning_of c.retire.new.self c.args.self.now.indexed (g.I.Index.used c.args.self.now.index) ≡ retired l i (meaning_of c.args.self.now.own c.args.self.now.indexed (g.I.Index.used c.args.self.now.index))
makes g c l i h =
    let s = c.args.self.now in
    let a = here g c l i h in
    retired_meaning s.own c.retire.new.self s.indexed (g.I.Index.joined s.index) (g.I.Index.used s.index) (g.met.I.Index.sensible s.index) (ties s.tied) c.named-x.result l i a c.if-self.used (used_is g c) (c.retire.ensures.makes l i a)

follow : (g : Over) (c : After-retire g) (l i : ℕ) → At c.args.self.now.own (g.I.Index.named c.args.h) l i → (k : g.row.I-Handle.Denot) (m j : ℕ) →
    At c.args.self.now.own (g.I.Index.named k) m j → ((m ≡ l) × (j ≡ i) → ⊥) → At c.retire.new.self (g.I.Index.named k) m (place_after l i m j)
follow g c l i h k m j =
    let s = c.args.self.now in
    let a = here g c l i h in
    retired_follow s.own c.retire.new.self s.indexed (g.I.Index.joined s.index) (g.I.Index.used s.index) (g.met.I.Index.sensible s.index) (ties s.tied) c.named-x.result l i a c.if-self.used (used_is g c) (c.retire.ensures.makes l i a) (g.I.Index.named k) m j

keeps : (g : Over) (c : After-retire g) (w : g.row.I-Use.Denot) (k j : ℕ) → g.I.Index.usage c.args.self.now.index (listed c.args.self.now.own) w k j → g.I.Index.usage c.args.self.now.index (listed c.retire.new.self) w k j
keeps g c w k j h =
    let s = c.args.self.now in
    elim (stands_or s.own c.named-x.result) [
      | inl p ↦
          g.met.I.Index.stays s.index (listed s.own) (listed c.retire.new.self)
          (retired_alike s.own c.retire.new.self s.indexed (g.I.Index.joined s.index) (g.I.Index.used s.index) (g.met.I.Index.sensible s.index) (ties s.tied) c.named-x.result p.0 p.1 p.2 c.if-self.used (used_is g c) (c.retire.ensures.makes p.0 p.1 p.2)) w k j h
      | inr n ↦ subst (λ o. g.I.Index.usage s.index (listed o) w k j) (sym (c.retire.ensures.absent n).1) h
    ]

pub returns-in_default-clause-makes : goal.returns-in_default-clause-makes
returns-in_default-clause-makes g c = makes g (goal.at.returns-in_default-clause-makes g c).After-retire

pub returns-in_default-clause-follow : goal.returns-in_default-clause-follow
returns-in_default-clause-follow g c = follow g (goal.at.returns-in_default-clause-follow g c).After-retire

pub returns-in_default-clause-keeps : goal.returns-in_default-clause-keeps
returns-in_default-clause-keeps g c = keeps g (goal.at.returns-in_default-clause-keeps g c).After-retire

pub returns-clause-makes : goal.returns-clause-makes
returns-clause-makes g c = makes g (goal.at.returns-clause-makes g c).After-retire

pub returns-clause-follow : goal.returns-clause-follow
returns-clause-follow g c = follow g (goal.at.returns-clause-follow g c).After-retire

pub returns-clause-keeps : goal.returns-clause-keeps
returns-clause-keeps g c = keeps g (goal.at.returns-clause-keeps g c).After-retire
