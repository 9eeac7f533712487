use Rattle.std.proofs.Common.{sym, ◌∙◌}
use Rattle.owned.specs.Lists.{listed}
use Rattle.slotted.proofs.Asks.{use_dead, use_live}
use Rattle.slotted.proofs.uses.SlottedStore.user.Goals as goal

pub returns-in_err-home : goal.returns-in_err-home
returns-in_err-home g c =
    rw c.from_residual.ensures (λ k j u.
    let s = c.args.self.now in
    let p = c.slot-x.ensures (listed s.own) k j u in
    use_dead s.own (g.I.Index.used s.index (listed s.own) k) j c.slot-x.result p.0 p.1 c.in_err-home.ensures)

pub returns : goal.returns
returns g c =
    λ k j u.
    let s = c.args.self.now in
    let p = c.slot-x.ensures (listed s.own) k j u in
    let a = c.in_ok-home.ensures in
    (c.in_ok-home.field-0, a.0, (a.1.0, a.1.1 ∙ sym c.handle.ensures), use_live s.own (g.I.Index.used s.index (listed s.own) k) j c.slot-x.result p.0 p.1 c.in_ok-home.field-0 a.0 a.1)
