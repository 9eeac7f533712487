use Rattle.std.proofs.Common.{◌≡◌, ◌∙◌, sym}
use Rattle.owned.specs.Layout.{lost_in}
use Rattle.owned.proofs.Asks.{unwrapped}
use Rattle.owned.proofs.Stands.{stands}
use Rattle.owned.proofs.Texts.{lost_low, lost_past, lost_read}
use Rattle.owned.proofs.owned.Owned.gone.Goals as goal

pub returns-then-x-lt-HEADS : goal.returns-then-x-lt-HEADS
returns-then-x-lt-HEADS c = sym (lost_low c.args.self.now.texts.now c.args.x c.if-x-lt-HEADS.true)

pub returns : goal.returns
returns c =
    let s = c.args.self.now in
    unwrapped c.get.result _ c.unwrap_or.result c.unwrap_or.ensures (λ t. t.now ≡ lost_in s.texts.now c.args.x) c.get.ensures.lookup.0
    (lost_past s.room s.links.now s.texts.now (stands s) s.exact c.args.x c.if-x-lt-HEADS.false c.text_at-b.result c.word-n.result c.text_at-b.ensures c.word-n.ensures c.word-m.result c.word-m.ensures)
    (λ t q. q.2 ∙ lost_read s.room s.links.now s.texts.now (stands s) s.exact c.args.x c.if-x-lt-HEADS.false c.text_at-b.result c.word-n.result c.text_at-b.ensures c.word-n.ensures c.word-m.result c.word-m.ensures)
