use Rattle.std.proofs.Common.{◌≡◌, ℕ, Some, ◌+◌, ◌<◌, List, length, sym, subst, ap, ◌∙◌, arith}
use Rattle.network.specs.Clauses.{front}
use Rattle.owned.specs.Effects.{Relisted}
use Rattle.owned.specs.Lists.{listed, own, text}
use Rattle.slotted.proofs.Fills.{Along, Stand, left, not_empty, stands_next, along_end, along_next, along_start, kept_at, left_less, stands_at}
use Rattle.slotted.proofs.Fronts.{front_take}
use Rattle.slotted.proofs.fill.fill_from.Goals as goal
use Rattle.slotted.proofs.fill.fill_from.Goals.{After-next-at, in_default-text, in-len1-up}
use Rattle.slotted.proofs.fill.fill_from.Given.{Over}

pub loop-at-init : goal.loop-at-init
loop-at-init g c = let o = c.args.own.now in along_start o c.args.l (g.I.Index.slots c.args.index.now) (g.I.Index.joined c.args.index.now) (g.I.Index.used c.args.index.now) c.first-at.result c.requires c.first-at.ensures

-- the walk at a slot
here : (g : Over) (c : After-next-at g) → Along c.args.own.now c.loop-at.own c.args.l (g.I.Index.slots c.loop-at.index) (g.I.Index.joined c.loop-at.index) (g.I.Index.used c.loop-at.index) (Some c.in-Some.x)
here g c = subst (Along c.args.own.now c.loop-at.own c.args.l (g.I.Index.slots c.loop-at.index) (g.I.Index.joined c.loop-at.index) (g.I.Index.used c.loop-at.index)) c.in-Some.is c.loop-at.invariant

relisted : (g : Over) (c : After-next-at g) → Relisted c.in-Some.x c.loop-at.own c.relist.new.self
relisted g c = let a = here g c in c.relist.ensures.makes c.args.l a.place (stands_at c.args.own.now c.loop-at.own c.relist.new.self c.args.l _ _ _ (g.met.I.Index.sensible c.loop-at.index) c.in-Some.x a)

next : (g : Over) (c : After-next-at g) → Stand (own c.args.own.now c.args.l) ((here g c).place + 1) c.next-at.result
next g c =
    let s = c.args.own.now in
    let t = c.relist.new.self in
    let a = here g c in
    let S = g.met.I.Index.sensible c.loop-at.index in
    stands_next s c.loop-at.own t c.args.l _ _ _ S c.in-Some.x a (relisted g c) c.next-at.result (c.next-at.ensures.says c.args.l a.place (kept_at s c.loop-at.own t c.args.l _ _ _ S c.in-Some.x a (relisted g c)))

pub loop-at-smaller : goal.loop-at-smaller
loop-at-smaller g c =
    let s = c.args.own.now in
    let xs = own s c.args.l in
    let p = left_less s c.loop-at.own c.relist.new.self c.args.l _ _ _ (g.met.I.Index.sensible c.loop-at.index) c.in-Some.x (here g c) c.next-at.result (next g c) in
    subst (λ (n : ℕ). left xs c.next-at.result < n) (sym (ap (left xs) c.in-Some.is)) p

pub loop-at-preserved : goal.loop-at-preserved
loop-at-preserved g c =
    let s = c.args.own.now in
    let a = here g c in
    let t = c.relist.new.self in
    let S = g.met.I.Index.sensible c.loop-at.index in
    let e : c.text.result.now ≡ text t c.in-Some.x = c.text.ensures in
    elim c.if-text-lt1.branch [
      | in_default-text w ↦ absurd (let n : length c.text.result.now ≡ length (text t c.in-Some.x) = ap (λ (C : List ℕ). length C) e in let f = not_empty s c.loop-at.own t c.args.l _ _ _ S c.in-Some.x a (relisted g c) in let z = w.in_default-text.len_below in omega arith)
      | in-len1-up w ↦
          subst (λ i. Along s t c.args.l (g.I.Index.slots i) (g.I.Index.joined i) (g.I.Index.used i) c.next-at.result) (sym w.index-is)
          (along_next s c.loop-at.own t c.args.l _ _ _ S c.in-Some.x a (relisted g c) (g.I.Index.slots w.join.new.self) (g.I.Index.joined w.join.new.self) (g.I.Index.used w.join.new.self) _ (front_take c.text.result.now ∙ ap front e) w.join.ensures.room w.join.ensures.joins (w.join.ensures.uses (listed t)) c.next-at.result (next g c))
    ]

pub returns-clause-filled : goal.returns-clause-filled
returns-clause-filled g c =
    let s = c.args.own.now in
    let i = c.loop-at.index in
    along_end s c.loop-at.own c.args.l (g.I.Index.slots i) (g.I.Index.joined i) (g.I.Index.used i) (subst (Along s c.loop-at.own c.args.l (g.I.Index.slots i) (g.I.Index.joined i) (g.I.Index.used i)) c.in_default.is c.loop-at.invariant)

pub returns-clause-same : goal.returns-clause-same
returns-clause-same g c = c.loop-at.invariant.same
