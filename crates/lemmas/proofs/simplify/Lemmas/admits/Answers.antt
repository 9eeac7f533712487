use Rattle.std.proofs.Common.{◌<◌, arith}
use Rattle.std.proofs.lemmas.List.{get_or-take, length-take-le}
use Rattle.lemmas.proofs.simplify.Lemmas.admits.Goals as goal

pub returns-then-n-self-5 : goal.returns-then-n-self-5
returns-then-n-self-5 c =
    let L = c.args.self.now.lengths.now in
    let n = c.args.count in
    let h = c.are_short.ensures in
    let long = length-take-le n L (omega arith) in (
      λ t. record {
        lengths = omega arith;
        literals = grind arith;
        order = grind arith;
        entries = grind arith;
        places = grind arith;
        short = λ k kn. let z = h.0 t k (omega arith) in omega (arith, get_or-take n L k 0 kn);
      },
      λ a. h.1 (λ k kn. let in' : k < n = omega arith in let z = a.short k in' in omega (arith, get_or-take n L k 0 in')),
    )
