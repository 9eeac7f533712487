use Rattle.std.proofs.Common.{get_or, arith}
use Rattle.network.specs.Signature.{low, high}
use Rattle.clause.proofs.Signs.{added_more, added_all, low_set, low_kept, high_set, high_kept}
use Rattle.clause.proofs.signatures.Signature.of.Goals as goal
use Rattle.clause.proofs.signatures.Signature.of.Goals.{then-place-lt64, else-place-lt64}

pub loop-l-preserved : goal.loop-l-preserved
loop-l-preserved c =
    let C = c.args.clause.now in
    let v = c.loop-l in
    let l = get_or C v.l-index 0 in
    let m = c.if-place-lt64 in
    elim m.branch [
      | then-place-lt64 w ↦ (
        added_more low C v.l-index v.low m.low (omega arith) (low_set v.low m.low l w.if-place-lt64.true w.low-is) v.invariant.0,
        added_more high C v.l-index v.high m.high (omega arith) (high_kept v.high m.high l w.if-place-lt64.true w.high-is) v.invariant.1,
      )
      | else-place-lt64 w ↦ (
        added_more low C v.l-index v.low m.low (omega arith) (low_kept v.low m.low l w.if-place-lt64.false w.low-is) v.invariant.0,
        added_more high C v.l-index v.high m.high (omega arith) (high_set v.high m.high l w.if-place-lt64.false w.high-is) v.invariant.1,
      )
    ]

pub returns : goal.returns
returns c =
    let C = c.args.clause.now in
    let v = c.loop-l in
    λ i. (added_all low C v.l-index v.low (omega arith) v.invariant.0 i, added_all high C v.l-index v.high (omega arith) v.invariant.1 i)
