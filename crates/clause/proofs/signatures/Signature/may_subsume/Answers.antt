use Rattle.std.proofs.Common.{◌≡◌, Bool, ◌&&◌, eqb, sym, ap, ◌∙◌}
use lib.Bits.{bit_and}
use Rattle.std.proofs.lemmas.Bool.{eq-eqb, ne_eqb, and_left}
use Rattle.network.specs.Signature.{within}
use Rattle.clause.proofs.Signs.{spares_part}
use Rattle.clause.proofs.signatures.Signature.may_subsume.Goals as goal

pub returns-then-self-other : goal.returns-then-self-other
returns-then-self-other c =
    let s = c.args.self in
    let t = c.args.other in
    let r = eqb (bit_and s.high t.high) s.high in
    let test : r ≡ within (s.low, s.high) (t.low, t.high) = sym (ap (λ (b : Bool). b && r) (eq-eqb (bit_and s.low t.low) s.low c.if-self-other.true)) in
    record { test = test; spares = spares_part (s.low, s.high) (t.low, t.high) r test }

pub returns-else-self-other : goal.returns-else-self-other
returns-else-self-other c =
    let s = c.args.self in
    let t = c.args.other in
    let r = eqb (bit_and s.low t.low) s.low in
    let no = ne_eqb (bit_and s.low t.low) s.low c.if-self-other.false in
    let test : r ≡ within (s.low, s.high) (t.low, t.high) = no ∙ sym (and_left r (eqb (bit_and s.high t.high) s.high) no) in
    record { test = test; spares = spares_part (s.low, s.high) (t.low, t.high) r test }
