use Rattle.std.proofs.Common.{◌≡◌, ℕ, ◌<◌, false, ◌||◌, length, get_or, take}
use Rattle.std.specs.List.{list_any}
use Rattle.removing.specs.Outs.{is_of}
use Rattle.removing.proofs.Flags.{UseAt}
use Rattle.removing.proofs.clear.flag_users.Given as goal

abbrev pub invariant-loop-j : goal.invariant-loop-j
invariant-loop-j g l = record {
  long : length l.flags ≡ 2048;
  at : UseAt (g.S.Store.usage l.store) (g.S.Lists.meaning l.store) l.x l._j l.at;
  flags : (k : ℕ) → k < 2048 → get_or l.flags k false ≡ (get_or l.initial.flags k false || list_any (is_of k) (take l._j ((g.S.Lists.meaning l.store).uses l.x)));
}
