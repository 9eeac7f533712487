use Rattle.std.proofs.Common.{◌≡◌, ℕ, ◌+◌, ◌-◌, true, length, take, drop, sym, ap, refl, ◌∙◌, arith}
use Rattle.clause.specs.Written.{Front}
use Rattle.network.specs.Clauses.{front, has, without}
use Rattle.owned.specs.Lists.{At, text}
use Rattle.owned.proofs.Drops.{any_front}
use Rattle.owned.proofs.Rewrites.{home_found}
use Rattle.owned.proofs.Shortens.{dropped_in, formed, shortened, shortened_kept, words_in}
use Rattle.owned.proofs.owned.Owned.shorten.Goals as goal
use Rattle.owned.proofs.owned.Owned.shorten.Goals.{After-text-clause, After-drop_literal-m}

found : (c : After-text-clause) → (l : ℕ) × ((i : ℕ) × At c.args.self.now c.args.x l i)
found c = home_found c.args.self.now c.args.x c.home.result c.if-is_none.ensures c.home.ensures

-- the literal stands before the last
stands : (c : After-drop_literal-m) → has c.args.k (front (text c.args.self.now c.args.x)) ≡ true
stands c = sym (any_front c.args.k c.text-clause.result.now (text c.args.self.now c.args.x) c.text-clause.ensures) ∙ sym c.contains.ensures.value ∙ c.if-not-contains.false

-- the part of the words that the clause has
part : (c : After-drop_literal-m) → c.text_at-b.result + 3 + length c.text-clause.result.now - (c.text_at-b.result + 3) ≡ length (text c.args.self.now c.args.x)
part c = let e = ap length c.text-clause.ensures in omega arith

-- what the loss left there
left : (c : After-drop_literal-m) → (n : ℕ) → n ≡ c.text_at-b.result + 3 + length c.text-clause.result.now - (c.text_at-b.result + 3) → Front c.drop_literal-m.result (without c.args.k (take n (drop (c.text_at-b.result + 3) c.args.self.now.texts.now))) (take n (drop (c.text_at-b.result + 3) c.args.self.now.texts.now)) c.drop_literal-m.new.clause
left c n e = rw (e, ← c.from.ensures) c.drop_literal-m.ensures

pub slice_bounds-contains-count : goal.slice_bounds-contains-count
slice_bounds-contains-count c =
    let f = found c in
    let p = (formed c.args.self.now f.0 f.1.0 c.args.x f.1.1).some in
    let e = ap length c.text-clause.ensures in
    omega arith

pub returns-then-not-contains-clause-when : goal.returns-then-not-contains-clause-when
returns-then-not-contains-clause-when c l i a = sym c.if-not-contains.true ∙ c.contains.ensures.value ∙ any_front c.args.k c.text-clause.result.now (text c.args.self.now c.args.x) c.text-clause.ensures

pub slice_bounds-literals-end : goal.slice_bounds-literals-end
slice_bounds-literals-end c =
    let f = found (goal.at.slice_bounds-literals-end c).After-text-clause in
    let p = words_in c.args.self.now f.0 f.1.0 c.args.x f.1.1 in
    let e = ap length c.text-clause.ensures in
    let b = c.text_at-b.ensures in
    omega arith

pub bounds-literals-m : goal.bounds-literals-m
bounds-literals-m c =
    let f = found (goal.at.bounds-literals-m c).After-text-clause in
    let d = (goal.at.bounds-literals-m c).After-drop_literal-m in
    dropped_in c.args.self.now f.0 f.1.0 c.args.x f.1.1 c.args.k (stands d) c.text_at-b.result _ c.drop_literal-m.result c.drop_literal-m.new.clause c.text_at-b.ensures (part d) (left d _ refl)

pub returns-clause-when : goal.returns-clause-when
returns-clause-when c l i a = sym (stands (goal.at.returns-clause-when c).After-drop_literal-m)

pub invariant_of-self : goal.invariant_of-self
invariant_of-self c =
    let f = found (goal.at.invariant_of-self c).After-text-clause in
    let d = (goal.at.invariant_of-self c).After-drop_literal-m in
    shortened_kept c.args.self.now f.0 f.1.0 c.args.x f.1.1 c.args.k (stands d) c.text_at-b.result _ c.drop_literal-m.result c.drop_literal-m.new.clause c.text_at-b.ensures (part d) (left d _ refl)

pub returns-clause-makes : goal.returns-clause-makes
returns-clause-makes c e =
    let f = found (goal.at.returns-clause-makes c).After-text-clause in
    let d = (goal.at.returns-clause-makes c).After-drop_literal-m in
    shortened c.args.self.now f.0 f.1.0 c.args.x f.1.1 c.args.k (stands d) c.text_at-b.result _ c.drop_literal-m.result c.drop_literal-m.new.clause c.text_at-b.ensures (part d) (left d _ refl) _ refl refl refl
