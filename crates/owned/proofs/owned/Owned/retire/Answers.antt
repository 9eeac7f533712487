use Rattle.std.proofs.Common.{◌≡◌, ℕ, cond, ap, sym, ◌∙◌, refl, set, arith}
use Rattle.std.proofs.lemmas.Bool.{cond-true, cond-false}
use Rattle.owned.proofs.Leaves.{alive, inside}
use Rattle.owned.proofs.Retires.{retired, retired_kept, retired_next}
use Rattle.owned.proofs.owned.Owned.retire.Goals as goal
use Rattle.owned.proofs.owned.Owned.retire.Goals.{Joined-used, then-used, else-used}

-- where the slot goes
head : (c : Joined-used) → c.if-used.head ≡ cond c.args.used 2049 2048
head c = elim c.if-used.branch [ then-used w ↦ w.head-is ∙ sym (cond-true c.args.used 2049 2048 w.if-used.true) | else-used w ↦ w.head-is ∙ sym (cond-false c.args.used 2049 2048 w.if-used.false) ]

pub bounds-texts-text_at : goal.bounds-texts-text_at
bounds-texts-text_at c =
    let h = c.in_ok-home.ensures in
    let p = inside c.args.self.now c.in_ok-home.field-0 h.0 c.args.x h.1 in
    let e = c.text_at.ensures in
    omega arith

pub overflow_sub-live : goal.overflow_sub-live
overflow_sub-live c = let h = c.in_ok-home.ensures in let p = alive c.args.self.now c.in_ok-home.field-0 h.0 c.args.x h.1 in omega arith

pub invariant_of-self : goal.invariant_of-self
invariant_of-self c =
    let h = c.in_ok-home.ensures in
    retired_kept c.args.self.now c.in_ok-home.field-0 h.0 c.args.x h.1 c.args.used c.if-used.head (head (goal.at.invariant_of-self c).Joined-used) c.shift.new.ws c.shift.ensures c.text_at.result c.text_at.ensures

pub returns-clause-makes : goal.returns-clause-makes
returns-clause-makes c l i a =
    retired c.args.self.now l i c.args.x a c.args.used c.if-used.head (head (goal.at.returns-clause-makes c).Joined-used) _ refl c.shift.ensures (ap (λ (b : ℕ). set c.args.self.now.texts.now b c.if-used.head) c.text_at.ensures)

pub returns-clause-then : goal.returns-clause-then
returns-clause-then c l i a =
    retired_next c.args.self.now l i c.args.x a c.args.used c.if-used.head (head (goal.at.returns-clause-then c).Joined-used) c.next-y.result (c.next-y.ensures.says l i a) c.shift.new.ws c.shift.ensures
