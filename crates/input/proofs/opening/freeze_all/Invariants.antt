use Rattle.std.proofs.Common.{◌≡◌, drop}
use Rattle.input.specs.Inputs.{freeze_answer, with_frozen}
use Rattle.input.proofs.opening.freeze_all.Given as goal

abbrev pub invariant-loop-n : goal.invariant-loop-n
invariant-loop-n l =
    (l.into.image ≡ l.initial.into.image) × (freeze_answer l.initial.into.image.now (drop l.n-index l.nodes) ≡ freeze_answer l.initial.into.image.now l.nodes) × (with_frozen l.into.frozen (drop l.n-index l.nodes) ≡ with_frozen l.initial.into.frozen l.nodes)
