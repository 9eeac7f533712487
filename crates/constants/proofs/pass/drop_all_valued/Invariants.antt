use Rattle.std.proofs.Common.{◌≡◌, ℕ, List}
use Rattle.rules.specs.Const.{const_drop}
use Rattle.rules.specs.Work.{each, nodes_of}
use Rattle.simplifier.specs.Shown.{work_of}
use Rattle.constants.proofs.Nodes.{nodes_from}
use Rattle.constants.proofs.pass.drop_all_valued.Given as goal

abbrev pub invariant-loop-node : goal.invariant-loop-node
invariant-loop-node g l =
    ((out : List ℕ) → each const_drop (nodes_from l.fn.s.top l.node) (work_of g.S.Lists.meaning l.s out) ≡ each const_drop (nodes_of (work_of g.S.Lists.meaning l.fn.s out)) (work_of g.S.Lists.meaning l.fn.s out))
    × (l.s.taken_out ≡ l.fn.s.taken_out)
