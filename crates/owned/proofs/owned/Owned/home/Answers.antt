use Rattle.std.proofs.Common.{◌≡◌, ℕ, get_or, ap, ◌∙◌, arith}
use Rattle.owned.proofs.Stands.{by_home, no_literal, of_room, past_room}
use Rattle.owned.proofs.owned.Owned.home.Goals as goal

pub returns-then-x-lt-HEADS : goal.returns-then-x-lt-HEADS
returns-then-x-lt-HEADS c = λ l i a. let r = (of_room c.args.self.now c.args.x l i a).0 in omega arith

pub returns-in_err-l : goal.returns-in_err-l
returns-in_err-l c = rw c.from_residual.ensures (λ l i a. past_room c.args.self.now c.args.x (let e = c.text_at.ensures in omega (arith, c.in_err-l.ensures.lookup)) l i a)

pub returns-then-l-lt-LITERALS : goal.returns-then-l-lt-LITERALS
returns-then-l-lt-LITERALS c =
    let e : c.in_ok-l.field-0.now ≡ get_or c.args.self.now.texts.now c.text_at.result 0 = c.in_ok-l.ensures.lookup.3.1 0 in
    by_home c.args.self.now c.args.x c.in_ok-l.field-0.now (e ∙ ap (λ (k : ℕ). get_or c.args.self.now.texts.now k 0) c.text_at.ensures) (omega arith) (omega arith) (let t = c.text_at.ensures in omega (arith, c.in_ok-l.ensures.lookup))

pub returns-else-l-lt-LITERALS : goal.returns-else-l-lt-LITERALS
returns-else-l-lt-LITERALS c =
    λ l i a.
    let e : c.in_ok-l.field-0.now ≡ get_or c.args.self.now.texts.now c.text_at.result 0 = c.in_ok-l.ensures.lookup.3.1 0 in
    no_literal c.args.self.now c.args.x c.in_ok-l.field-0.now (e ∙ ap (λ (k : ℕ). get_or c.args.self.now.texts.now k 0) c.text_at.ensures) (omega arith) l i a
