use Rattle.std.proofs.Common.{eqb, ◌≡◌, ◌∙◌}
use Rattle.slotted.proofs.Asks.{same_slot}
use Rattle.slotted.proofs.uses.SlottedStore.same.Goals as goal

pub returns : goal.returns
returns g c =
    λ l i m j a b.
    let e : eqb c.named.result c.named-2.result ≡ eqb (g.I.Index.named c.args.a) (g.I.Index.named c.args.b) = (let p = c.named.ensures in let q = c.named-2.ensures in cc) in
    e ∙ same_slot c.args.self.now.own (g.I.Index.named c.args.a) l i a (g.I.Index.named c.args.b) m j b
