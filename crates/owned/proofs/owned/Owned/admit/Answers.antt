use Rattle.std.proofs.Common.{◌≡◌, ℕ, ◌-◌, ◌<◌, true, is_some, length, get_or, sym, ap, refl, ◌∙◌, subst, arith}
use Rattle.rings.specs.Rings.{Place}
use Rattle.network.specs.Clauses.{last, well_formed}
use Rattle.rules.proofs.Formed.{formed_parts}
use Rattle.owned.specs.Layout.{Written, node_count}
use Rattle.owned.proofs.Admits.{admitted, admitted_kept, free_fits, free_full, free_inside, free_none, free_some, live_few}
use Rattle.owned.proofs.Forms.{last_is}
use Rattle.owned.proofs.owned.Owned.admit.Goals as goal
use Rattle.owned.proofs.owned.Owned.admit.Goals.{In_ok-x}

some : (c : In_ok-x) → 0 < c.args.self.now.room
some c = let n = c.if-self-eq0.false in omega arith

place : (c : In_ok-x) → Place 2050 (node_count c.args.self.now.room) c.args.self.now.links.now 2048 0 c.in_ok-x.x
place c = free_some c.args.self.now (some c) c.in_ok-x.x c.in_ok-x.ensures

good : (c : In_ok-x) → well_formed c.args.clause.now ≡ true
good c = sym c.if-not-well_formed.ensures

ends : (c : In_ok-x) → get_or c.args.clause.now (length c.args.clause.now - 1) 0 ≡ last c.args.clause.now
ends c = sym (last_is c.args.clause.now (formed_parts c.args.clause.now (good c)).some)

pub returns-in_err-x-clause-when : goal.returns-in_err-x-clause-when
returns-in_err-x-clause-when c =
    let s = c.args.self.now in
    let r : 0 < s.room = (let n = c.if-self-eq0.false in omega arith) in
    ap is_some c.from_residual.ensures ∙ sym (free_full s r (free_none s r c.in_err-x.ensures) (well_formed c.args.clause.now))

pub write-requires : goal.write-requires
write-requires c =
    let i = (goal.at.write-requires c).In_ok-x in
    let p = free_inside c.args.self.now (some i) c.in_ok-x.x (place i) in
    let e = c.text_at-b.ensures in
    let f = (formed_parts c.args.clause.now (good i)).short in
    (omega arith, omega arith)

pub overflow_add-live : goal.overflow_add-live
overflow_add-live c =
    let s = c.args.self.now in
    let p = live_few s (some (goal.at.overflow_add-live c).In_ok-x) in
    let z = s.small in
    omega arith

pub invariant_of-self : goal.invariant_of-self
invariant_of-self c =
    let s = c.args.self.now in
    let i = (goal.at.invariant_of-self c).In_ok-x in
    let C = c.args.clause.now in
    let wr = subst (λ (b : ℕ). Written s.texts.now c.write.new.texts b C) c.text_at-b.ensures c.write.ensures in
    admitted_kept s (some i) c.in_ok-x.x (place i) C (good i) c.write.new.texts wr c.shift.new.ws (get_or C (length C - 1) 0) c.text_at-b.result (ends i) c.text_at-b.ensures c.shift.ensures

pub returns-clause-when : goal.returns-clause-when
returns-clause-when c =
    let s = c.args.self.now in
    let i = (goal.at.returns-clause-when c).In_ok-x in
    sym (free_fits s (some i) (place i).within (well_formed c.args.clause.now) (good i))

pub returns-clause-makes : goal.returns-clause-makes
returns-clause-makes c =
    let s = c.args.self.now in
    let i = (goal.at.returns-clause-makes c).In_ok-x in
    let C = c.args.clause.now in
    let wr = subst (λ (b : ℕ). Written s.texts.now c.write.new.texts b C) c.text_at-b.ensures c.write.ensures in
    admitted s (some i) c.in_ok-x.x (place i) C (good i) c.write.new.texts wr (get_or C (length C - 1) 0) c.text_at-b.result (ends i) c.text_at-b.ensures _ refl c.shift.ensures refl
