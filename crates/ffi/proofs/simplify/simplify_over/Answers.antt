use Rattle.std.proofs.Common.{rules, length, Err, refl, sym, ap, ◌∙◌}
use Rattle.handing_out.specs.Outcome.{counted, left_in}
use Rattle.ffi.proofs.Steps.{started_at, refused_at, over_at, over_stops}
use Rattle.ffi.proofs.simplify.simplify_over.Goals as goal

pub returns-in-Ok : goal.returns-in-Ok
returns-in-Ok g c =
    let i = c.args.intake in
    let (W, e, shown) = started_at (λ f. (i, c.args.store, f)) _ c.start.result c.start.ensures.answer (rw c.in-Ok.is refl) c.in-Ok.ensures.work in
    let s = sym (over_at (length c.args.working.now) (length c.args.out.now) i.image.now i.frozen (g.S.Lists.meaning c.args.store) W e) in
    let o = c.simplify.ensures in
    record { answer = o.rules.answer W shown ∙ ap counted s; out = o.words W shown ∙ ap (left_in c.args.out.now) s; working = search rules }

pub returns : goal.returns
returns g c =
    let i = c.args.intake in
    let (f, e, same) = refused_at (λ f. (i, c.args.store, f)) _ c.start.result _ c.start.ensures.answer c.in-Err.is in
    let s = sym (over_stops (length c.args.working.now) (length c.args.out.now) i.image.now i.frozen (g.S.Lists.meaning c.args.store) f e) in
    record { answer = ap (λ p. Err p.2) same ∙ ap counted s; out = ap (left_in c.args.out.now) s; working = search rules }
