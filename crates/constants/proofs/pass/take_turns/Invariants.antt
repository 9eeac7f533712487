use Rattle.std.proofs.Common.{◌≡◌, ℕ, List}
use Rattle.rules.specs.Const.{const_node}
use Rattle.rules.specs.Work.{each, nodes_of}
use Rattle.simplifier.specs.Shown.{work_of}
use Rattle.constants.proofs.Nodes.{nodes_from}
use Rattle.constants.proofs.pass.take_turns.Given as goal

abbrev pub invariant-loop-n : goal.invariant-loop-n
invariant-loop-n g l =
    ((out : List ℕ) → each const_node (nodes_from l.fn.s.top l.n) (work_of g.S.Lists.meaning l.s out) ≡ each const_node (nodes_of (work_of g.S.Lists.meaning l.fn.s out)) (work_of g.S.Lists.meaning l.fn.s out))
    × ((g.S.Lists.meaning l.s.store).room ≡ (g.S.Lists.meaning l.fn.s.store).room)
    × (l.s.taken_out ≡ l.fn.s.taken_out)
