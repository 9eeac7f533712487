use Rattle.std.proofs.Common.{◌≡◌, ◌-◌, [], length, rules, ap, inl, inr, arith}
use Rattle.rings.specs.Rings.{next, walk}
use Rattle.rings.proofs.Paths.{walk_none, walk_one}
use Rattle.rings.proofs.SlotsIterator.next.Goals as goal
use Rattle.rings.proofs.SlotsIterator.next.Goals.{then-self-eq0-via-then-self-eq0, then-self-eq0-via-else-self-eq0+then-self}

pub returns-then-self-eq0-clause-steps : goal.returns-then-self-eq0-clause-steps
returns-then-self-eq0-clause-steps c =
    let s = c.args.self.now in
    let e : walk (next s.words.now) s.heads s.left s.at ≡ [] = walk_none (next s.words.now) s.heads s.left s.at (elim c.then-self-eq0.branch [ then-self-eq0-via-then-self-eq0 w ↦ inl w.if-self-eq0.true | then-self-eq0-via-else-self-eq0+then-self w ↦ inr w.if-self.true ]) in
    (e, e)

pub returns-clause-steps : goal.returns-clause-steps
returns-clause-steps c =
    let s = c.args.self.now in
    let n = c.if-self-eq0.false in
    walk_one (next s.words.now) s.heads s.left (s.left - 1) s.at c.next_in-self.result (omega arith) c.if-self.false c.next_in-self.ensures

pub returns-clause-goes : goal.returns-clause-goes
returns-clause-goes c = let e = ap length (returns-clause-steps c) in search rules
