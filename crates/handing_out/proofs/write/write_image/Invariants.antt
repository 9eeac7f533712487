use Rattle.std.proofs.Common.{◌≡◌, ℕ, suc, []}
use Rattle.simplifier.specs.Shown.{work_of}
use Rattle.handing_out.proofs.Writing.{Begun, Upto}
use Rattle.handing_out.proofs.write.write_image.Given as goal

abbrev pub invariant-loop-node : goal.invariant-loop-node
invariant-loop-node g l =
    let W = work_of g.S.Lists.meaning l.s [] in
    record {
      begun : Begun W l.fn.out l.initial.header l.initial.runs;
      upto : (k : ℕ) × (l.node ≡ suc k) × Upto W k l.initial.header l.header l.initial.runs l.runs;
    }
