use Rattle.std.proofs.Common.{◌≡◌, ◌+◌, ◌*◌, ◌-◌}
use Rattle.indexed.specs.Links.{first_node}
use Rattle.indexed.specs.Turns.{Leaving}
use Rattle.indexed.proofs.links.take_out_all.Given as goal

abbrev pub invariant-loop-m : goal.invariant-loop-m
invariant-loop-m l = Leaving l.room l.initial.ws l.x (l.m - first_node l.x) l.ws
