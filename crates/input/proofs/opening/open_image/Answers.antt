use Rattle.std.proofs.Common.{refl, ap, ◌∙◌}
use Rattle.std.proofs.lemmas.Result.{err_from_is_err_and}
use Rattle.input.specs.Inputs.{with_frozen}
use Rattle.input.proofs.Readings.{image_refused, image_all}
use Rattle.input.proofs.opening.open_image.Goals as goal

pub returns-in_err-take_in : goal.returns-in_err-take_in
returns-in_err-take_in c =
    let p = err_from_is_err_and c.from_residual.result c.from_residual.ensures.1 in
    rw (p.1, p.2) (record { answer = image_refused c.args.image.now c.args.nodes.now _ c.in_err-take_in.ensures.answer; into = refl })

pub returns-in_err-freeze_all : goal.returns-in_err-freeze_all
returns-in_err-freeze_all c =
    let p = err_from_is_err_and c.from_residual-in_err-freeze_all.result c.from_residual-in_err-freeze_all.ensures.1 in
    let t = c.in_ok-take_in.ensures in
    rw (p.1, p.2) (record { answer = image_all c.args.image.now c.args.nodes.now _ _ _ t.answer (ap (λ x. x.now) t.into.0) c.in_err-freeze_all.ensures.answer; into = refl })

pub returns : goal.returns
returns c =
    let t = c.in_ok-take_in.ensures in
    let f = c.in_ok-freeze_all.ensures in
    record {
      answer = image_all c.args.image.now c.args.nodes.now _ _ _ t.answer (ap (λ x. x.now) t.into.0) f.answer;
      into = (f.image ∙ t.into.0, f.frozen ∙ ap (λ z. with_frozen z c.args.nodes.now) t.into.1);
    }
