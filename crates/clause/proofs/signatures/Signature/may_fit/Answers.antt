use Rattle.std.proofs.Common.{◌≡◌, false, leb, arith}
use Rattle.std.proofs.lemmas.Bool.Decides.{nat_tests}
use Rattle.std.proofs.lemmas.Nat.{zero_from_ones}
use Rattle.network.proofs.Signature.{ones_zero}
use Rattle.network.specs.Signature.{missing}
use Rattle.clause.proofs.Signs.{spares_fit}
use Rattle.clause.proofs.signatures.Signature.may_fit.Goals as goal

pub returns-else-bits-eq0 : goal.returns-else-bits-eq0
returns-else-bits-eq0 c =
    let s = c.args.self in
    let t = c.args.other in
    let test : c.is_power_of_two.result ≡ leb (missing (s.low, s.high) (t.low, t.high)) 1 = grind (arith, nat_tests, zero_from_ones, ones_zero) in
    record { test = test; spares = spares_fit (s.low, s.high) (t.low, t.high) c.is_power_of_two.result test }

pub returns-in_default-eq0 : goal.returns-in_default-eq0
returns-in_default-eq0 c =
    let s = c.args.self in
    let t = c.args.other in
    let r = c.is_power_of_two-in_default-eq0.result in
    let test : r ≡ leb (missing (s.low, s.high) (t.low, t.high)) 1 = grind (arith, nat_tests, zero_from_ones, ones_zero) in
    record { test = test; spares = spares_fit (s.low, s.high) (t.low, t.high) r test }

pub returns-in_default : goal.returns-in_default
returns-in_default c =
    let s = c.args.self in
    let t = c.args.other in
    let test : false ≡ leb (missing (s.low, s.high) (t.low, t.high)) 1 = grind (arith, nat_tests, zero_from_ones) in
    record { test = test; spares = spares_fit (s.low, s.high) (t.low, t.high) false test }
