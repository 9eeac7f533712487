use Rattle.std.proofs.Common.{◌≡◌, ◌∙◌, sym, arith, inl, inr}
use Rattle.owned.specs.Lists.{text}
use Rattle.owned.proofs.Asks.{unwrapped}
use Rattle.owned.proofs.Stands.{stands}
use Rattle.owned.proofs.Texts.{clause_low, clause_past, clause_read}
use Rattle.owned.proofs.owned.Owned.text.Goals as goal

pub returns-then-x-lt-HEADS : goal.returns-then-x-lt-HEADS
returns-then-x-lt-HEADS c = sym (clause_low c.args.self.now.texts.now c.args.x c.if-x-lt-HEADS.true)

pub returns : goal.returns
returns c =
    let s = c.args.self.now in
    unwrapped c.get.result _ c.unwrap_or.result c.unwrap_or.ensures (λ t. t.now ≡ text s c.args.x) c.get.ensures.lookup.0
    (λ q. clause_past s.room s.links.now s.texts.now (stands s) s.exact c.args.x c.if-x-lt-HEADS.false c.text_at-b.result c.word-n.result c.text_at-b.ensures c.word-n.ensures (elim q [ inl k ↦ absurd (omega arith) | inr k ↦ k ]))
    (λ t q. q.2 ∙ clause_read s.room s.links.now s.texts.now (stands s) s.exact c.args.x c.if-x-lt-HEADS.false c.text_at-b.result c.word-n.result c.text_at-b.ensures c.word-n.ensures)
