use Rattle.std.proofs.Common.{◌≡◌, ◌+◌, ◌≤◌, take, drop}
use Rattle.clause.specs.Written.{before, after, last_node}
use Rattle.network.specs.Clauses.{without}
use Rattle.clause.proofs.Merges.{Merging}
use Rattle.clause.proofs.resolvents.Merged.finish.Given as goal

abbrev pub invariant-loop-l : goal.invariant-loop-l
invariant-loop-l l =
    let first = take l.initial.self.len l.initial.self.out.now in
    record {
      same_reference : l.self.out.ghost_name ≡ l.initial.self.out.ghost_name;
      few : l.self.len ≤ l.initial.self.len + l.l-index;
      so_far : Merging (before first (after (last_node first) (without l.literal l.src))) (without l.literal (drop l.l-index l.src)) l.initial.self.out.now l.self;
    }
