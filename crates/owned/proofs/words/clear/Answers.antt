use Rattle.std.proofs.Common.{◌≡◌, ℕ, arith, length-set, ◌∙◌, refl, subst, sym}
use Rattle.owned.specs.Layout.{Filled}
use Rattle.owned.proofs.Fills.{bare_cleared, filled_cleared, filled_put, filled_scattered}
use Rattle.owned.proofs.words.clear.Goals as goal

pub returns-then-room-eq0-clause-cleared : goal.returns-then-room-eq0-clause-cleared
returns-then-room-eq0-clause-cleared c = bare_cleared c.args.room c.args.links.now c.args.texts.now (omega arith)

pub loop-i-init : goal.loop-i-init
loop-i-init c =
    let l = c.requires.2 (omega arith) in
    record { filled = filled_scattered c.args.room c.args.links.now c.scatter.new.ws c.args.texts.now l (c.scatter.ensures.alone l); exact = c.requires.1 }

pub loop-i-preserved : goal.loop-i-preserved
loop-i-preserved c = record {
  filled = filled_put c.args.room c.loop-i.links c.loop-i.texts c.loop-i.i (omega arith) c.loop-i.invariant.filled c.loop-i.invariant.exact c.link.new.ws _ c.link.ensures refl;
  exact = simp length-set c.loop-i.invariant.exact;
}

pub returns : goal.returns
returns c = record {
  cleared =
      let e : c.loop-i.i ≡ c.args.room = omega arith in
      filled_cleared c.args.room c.loop-i.links c.loop-i.texts (subst (λ (k : ℕ). Filled c.args.room c.loop-i.links c.loop-i.texts k) e c.loop-i.invariant.filled);
  long = c.loop-i.invariant.exact ∙ sym c.requires.1;
}
