use Rattle.std.proofs.Common.{◌+◌, length, refl, ⊎_elim, inl, inr, arith}
use Rattle.network.specs.Resolution.{resolve}
use Rattle.resolving.proofs.Adding.{none_added, not_added, one_added}
use Rattle.resolving.proofs.resolvents.Resolvents.add.Goals as goal

pub returns-in_default : goal.returns-in_default
returns-in_default c =
    let a = c.args.a.now in
    let b = c.args.b.now in
    none_added c.args.self.now _ _ (omega arith) c.ordered_resolvent.new.out refl c.ordered_resolvent.auto.out refl refl refl (resolve c.args.pivot.word a b) (length a + length b) c.requires c.in_default.ensures refl refl

pub returns-then-self : goal.returns-then-self
returns-then-self c =
    let a = c.args.a.now in
    let b = c.args.b.now in
    not_added c.args.self.now _ _ (omega arith) c.ordered_resolvent.new.out refl c.ordered_resolvent.auto.out refl refl refl (resolve c.args.pivot.word a b) (length a + length b) c.requires c.in-Some.len c.in-Some.ensures (⊎_elim inl (λ p. inr p.1) c.then-self.either) refl

pub returns : goal.returns
returns c =
    let a = c.args.a.now in
    let b = c.args.b.now in
    one_added c.args.self.now _ _ (omega arith) c.ordered_resolvent.new.out refl c.ordered_resolvent.auto.out refl refl refl (resolve c.args.pivot.word a b) (length a + length b) c.requires c.in-Some.len c.in-Some.ensures c.if-self.false refl refl
