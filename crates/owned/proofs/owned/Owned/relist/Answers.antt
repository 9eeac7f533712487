use Rattle.std.proofs.Common.{ℕ, refl, arith}
use Rattle.owned.specs.Lists.{At}
use Rattle.owned.proofs.Leaves.{inside}
use Rattle.owned.proofs.Relists.{relisted, relisted_kept}
use Rattle.owned.proofs.Rewrites.{home_found}
use Rattle.owned.proofs.owned.Owned.relist.Goals as goal
use Rattle.owned.proofs.owned.Owned.relist.Goals.{After-text_at-b}

found : (c : After-text_at-b) → (l : ℕ) × ((i : ℕ) × At c.args.self.now c.args.x l i)
found c = home_found c.args.self.now c.args.x c.home.result c.if-is_none.ensures c.home.ensures

pub bounds-ws-b : goal.bounds-ws-b
bounds-ws-b c =
    let f = found (goal.at.bounds-ws-b c).After-text_at-b in
    let p = inside c.args.self.now f.0 f.1.0 c.args.x f.1.1 in
    let e = c.text_at-b.ensures in
    omega arith

pub bounds-ws-b-2 : goal.bounds-ws-b-2
bounds-ws-b-2 c =
    let f = found (goal.at.bounds-ws-b-2 c).After-text_at-b in
    let p = inside c.args.self.now f.0 f.1.0 c.args.x f.1.1 in
    let e = c.text_at-b.ensures in
    omega arith

pub invariant_of-self : goal.invariant_of-self
invariant_of-self c =
    let f = found (goal.at.invariant_of-self c).After-text_at-b in
    relisted_kept c.args.self.now f.0 f.1.0 c.args.x f.1.1 c.text_at-b.result c.text_at-b.ensures

pub returns-clause-makes : goal.returns-clause-makes
returns-clause-makes c l i a = relisted c.args.self.now l i c.args.x a c.text_at-b.result c.text_at-b.ensures _ refl refl refl
