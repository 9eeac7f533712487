use Rattle.std.proofs.Common.{◌≡◌, length, Ok, ap, ◌∙◌, subst}
use Rattle.handing_out.specs.Outcome.{counted, left_in}
use Rattle.ffi.specs.Simplified.{store_checked}
use Rattle.ffi.proofs.Steps.{blank_room, checked_first, simplified_at}
use Rattle.ffi.proofs.simplify.simplify_words.Goals as goal

pub returns-then-indexed : goal.returns-then-indexed
returns-then-indexed c =
    let a = c.args in
    let i = c.in_ok-intake.intake in
    let p = c.in_ok-intake.ensures.answer in
    let e = c.in_ok-intake.ensures.intake in
    let k = subst (λ b. store_checked b a.room (length a.store.now) ≡ Ok tt) c.if-indexed.true (checked_first a.indexed a.image.now a.frozen.now a.room (length a.store.now) p) in
    let s = simplified_at a.indexed a.image.now a.frozen.now a.room (length a.store.now) (length a.working.now) (length a.out.now) i.image.now i.frozen _ p (ap (λ r. r.now) e.0) e.1 (c.indexed.ensures ∙ blank_room 120 16384 a.room (length a.store.now) k) in
    let o = c.simplify_over.ensures in
    record { answer = o.answer ∙ ap counted s; out = o.out ∙ ap (left_in a.out.now) s; working = o.working; store = rw p tt }

pub returns-else-indexed : goal.returns-else-indexed
returns-else-indexed c =
    let a = c.args in
    let i = c.in_ok-intake.intake in
    let p = c.in_ok-intake.ensures.answer in
    let e = c.in_ok-intake.ensures.intake in
    let k = subst (λ b. store_checked b a.room (length a.store.now) ≡ Ok tt) c.if-indexed.false (checked_first a.indexed a.image.now a.frozen.now a.room (length a.store.now) p) in
    let s = simplified_at a.indexed a.image.now a.frozen.now a.room (length a.store.now) (length a.working.now) (length a.out.now) i.image.now i.frozen _ p (ap (λ r. r.now) e.0) e.1 (c.scanned.ensures ∙ blank_room 48 4096 a.room (length a.store.now) k) in
    let o = c.simplify_over-else-indexed.ensures in
    record { answer = o.answer ∙ ap counted s; out = o.out ∙ ap (left_in a.out.now) s; working = o.working; store = rw p tt }
