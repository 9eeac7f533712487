use Rattle.std.proofs.Common.{◌<◌, ℕ, List, arith, ◌∙◌, length, subst, sym}
use Rattle.rings.specs.Rings.{Place}
use Rattle.owned.specs.Layout.{node_count, rg}
use Rattle.owned.proofs.Frees.{freed_kin, freed_shorter, freed_whole, free_inside, kin_then}
use Rattle.owned.proofs.Goes.{first_none, first_some}
use Rattle.owned.proofs.Wholes.{lost_bare, lost_is}
use Rattle.owned.proofs.words.free_all.Goals as goal
use Rattle.owned.proofs.words.free_all.Goals.{In-Some}

place : (c : In-Some) → Place 2050 (node_count c.args.room) c.loop-x.links 2049 0 c.in-Some.x
place c = first_some c.args.room c.loop-x.links c.loop-x.invariant.whole.held 2049 (omega arith) c.in-Some.x c.in-Some.ensures

pub returns-then-room-eq0-clause-none : goal.returns-then-room-eq0-clause-none
returns-then-room-eq0-clause-none c = lost_bare c.args.room c.args.links.now (omega arith)

pub bounds-texts-text_at : goal.bounds-texts-text_at
bounds-texts-text_at c =
    let v = c.loop-x.invariant in
    let i = free_inside c.args.room c.loop-x.links c.loop-x.texts v.whole v.exact c.in-Some.x (place (goal.at.bounds-texts-text_at c).In-Some) in
    let e = c.text_at.ensures in
    omega arith

pub loop-x-smaller : goal.loop-x-smaller
loop-x-smaller c =
    let v = c.loop-x.invariant in
    subst (λ (ls : List ℕ). length (rg c.args.room ls 2049) < length (rg c.args.room c.loop-x.links 2049)) (sym c.shift.ensures)
    (freed_shorter c.args.room c.loop-x.links c.loop-x.texts v.whole v.exact c.in-Some.x (place (goal.at.loop-x-smaller c).In-Some))

pub loop-x-preserved : goal.loop-x-preserved
loop-x-preserved c =
    let v = c.loop-x.invariant in
    let room = c.args.room in
    let p = place (goal.at.loop-x-preserved c).In-Some in
    let k = freed_kin room c.loop-x.links c.loop-x.texts v.whole v.exact c.in-Some.x p in
    rw (c.shift.ensures, c.text_at.ensures) (record {
      whole = freed_whole room c.loop-x.links c.loop-x.texts v.whole v.exact c.in-Some.x p;
      exact = k.long ∙ v.exact;
      kin = kin_then room c.args.links.now c.args.texts.now c.loop-x.links c.loop-x.texts _ _ v.kin k;
    })

pub returns : goal.returns
returns c = record {
  sound = λ _. c.loop-x.invariant.whole;
  kin = c.loop-x.invariant.kin;
  none = lost_is c.args.room c.loop-x.links (let n = c.if-room-eq0.false in omega arith) ∙ first_none c.args.room c.loop-x.links c.loop-x.invariant.whole.held 2049 (omega arith) c.in_default.ensures;
}
