use Rattle.std.proofs.Common.{◌≡◌, ℕ, sym, subst, arith}
use Rattle.rules.specs.Store.{removed}
use Rattle.slotted.specs.Facts.{law}
use Rattle.owned.specs.Lists.{At}
use Rattle.slotted.specs.Tied.{meaning_of}
use Rattle.slotted.proofs.Removes.{removed_facts, removed_meaning}
use Rattle.slotted.proofs.Stands.{ties}
use Rattle.slotted.proofs.uses.SlottedStore.remove_at.Goals as goal
use Rattle.slotted.proofs.uses.SlottedStore.remove_at.Goals.{After-release}
use Rattle.slotted.proofs.uses.SlottedStore.remove_at.Given.{Over}

pub invariant_of-self-2 : goal.invariant_of-self-2
invariant_of-self-2 g c =
    let s = c.args.self.now in
    let u = g.I.Index.used s.index in
    let i = c.leave.new.self in
    let l = c.in_ok-home.field-0 in
    let p = c.in_ok-home.ensures in
    removed_facts s.own c.release.new.self s.indexed (g.I.Index.joined s.index) u (g.met.I.Index.sensible s.index) (ties s.tied) c.named-x.result l p.0 p.1 (c.release.ensures.makes l p.0 p.1)
    (g.I.Index.joined i) (g.I.Index.used i) c.leave.ensures.joins c.leave.ensures.uses (law (meaning_of s.own s.indexed u) s.law) (g.I.Index.slots i) (let e = c.leave.ensures.room in let f = s.fits in omega arith)

makes : (g : Over) (c : After-release g) (l i : ℕ) → At c.args.self.now.own (g.I.Index.named c.args.h) l i →
    meaning_of c.release.new.self c.args.self.now.indexed (g.I.Index.used c.leave.new.self) ≡ removed l i (meaning_of c.args.self.now.own c.args.self.now.indexed (g.I.Index.used c.args.self.now.index))
makes g c l n h =
    let s = c.args.self.now in
    let i = c.leave.new.self in
    let a : At s.own c.named-x.result l n = subst (λ (x : ℕ). At s.own x l n) (sym c.named-x.ensures) h in
    removed_meaning s.own c.release.new.self s.indexed (g.I.Index.joined s.index) (g.I.Index.used s.index) (g.met.I.Index.sensible s.index) (ties s.tied) c.named-x.result l n a (c.release.ensures.makes l n a)
    (g.I.Index.joined i) (g.I.Index.used i) c.leave.ensures.joins c.leave.ensures.uses

pub returns-in_default-clause-makes : goal.returns-in_default-clause-makes
returns-in_default-clause-makes g c = makes g (goal.at.returns-in_default-clause-makes g c).After-release

pub returns-clause-makes : goal.returns-clause-makes
returns-clause-makes g c = makes g (goal.at.returns-clause-makes g c).After-release
