use mir.Val.{bool_byte}
use Rattle.std.proofs.Common.{◌≡◌, suc, cond, Bool, true, false, ◌+◌, ◌-◌, arith, refl, ◌∙◌, subst, ap}
use Rattle.elimination.proofs.Turns.{Under, at_first, at_last, none_waits, handed_small, one_on}
use Rattle.elimination.proofs.attempt.attempt_all.Given.{Over}
use Rattle.elimination.proofs.attempt.attempt_all.Goals as goal
use Rattle.elimination.proofs.attempt.attempt_all.Goals.{After-next}

-- one attempt more is to come
one_more : (g : Over) (c : After-next g) → Under g.S.Lists.meaning (suc (c.args.s.now.top - c.loop-k._k)) c.loop-k.count c.args.s.now c.loop-k.s c.loop-k.waiting
one_more g c = subst (λ f. Under g.S.Lists.meaning f c.loop-k.count c.args.s.now c.loop-k.s c.loop-k.waiting) (omega arith) c.loop-k.invariant.under

-- the word of an answer
word_of : (b : Bool) → bool_byte b ≡ cond b 1 0
word_of true = refl
word_of false = refl

pub loop-k-init : goal.loop-k-init
loop-k-init g c = record {
  under = subst (λ f. Under g.S.Lists.meaning f 0 c.args.s.now c.args.s.now c.args.waiting.now) (omega arith) (at_first g.S.Lists.meaning c.args.s.now c.args.waiting.now c.requires.begins.waits);
  top = refl;
  index = c.requires.indexed;
  counts = c.requires.begins.counts;
  roomy = c.requires.roomy;
}

pub returns-in_default : goal.returns-in_default
returns-in_default g c =
    let n = c.args.s.now.top - c.loop-k._k in
    none_waits g.S.Lists.meaning n c.loop-k.count c.args.s.now c.loop-k.s c.loop-k.waiting c.next.new.self (one_more g (goal.at.returns-in_default g c).After-next) c.in_default.ensures.next

pub attempt-requires-clause-small : goal.attempt-requires-clause-small
attempt-requires-clause-small g c =
    let n = c.args.s.now.top - c.loop-k._k in
    let h = handed_small g.S.Lists.meaning n c.loop-k.count c.in-Some.node c.args.s.now c.loop-k.s c.loop-k.waiting c.next.new.self (one_more g (goal.at.attempt-requires-clause-small g c).After-next) c.loop-k.invariant.counts c.in-Some.ensures.next in
    omega (arith, h, c.loop-k.invariant.top)

pub loop-k-preserved : goal.loop-k-preserved
loop-k-preserved g c =
    let m = g.S.Lists.meaning in
    let l = c.loop-k in
    let s = c.args.s.now in
    let n = s.top - l._k in
    let a = c.attempt.ensures in
    let more = l.count + bool_byte c.attempt.result in
    record {
      under = subst (λ f. Under m f more s c.attempt.new.s c.attempt.new.waiting) {x = n} (omega arith)
          (one_on m n l.count c.in-Some.node s l.s l.waiting c.next.new.self (one_more g (goal.at.loop-k-preserved g c).After-next) l.invariant.counts c.in-Some.ensures.next
          c.attempt.result more c.attempt.new.s c.attempt.new.waiting (ap (λ n. l.count + n) (word_of c.attempt.result)) a.makes a.flags a.waits);
      top = a.top ∙ l.invariant.top;
      index = a.index;
      counts = a.counts s.top (λ k h. c.next.ensures.counts k ∙ l.invariant.counts k h);
      roomy = a.lent;
    }

pub returns : goal.returns
returns g c =
    at_last g.S.Lists.meaning c.loop-k.count c.args.s.now c.loop-k.s c.loop-k.waiting
    (subst (λ f. Under g.S.Lists.meaning f c.loop-k.count c.args.s.now c.loop-k.s c.loop-k.waiting) (omega arith) c.loop-k.invariant.under)
