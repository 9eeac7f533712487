use Rattle.std.proofs.Common.{◌≡◌, ℕ, ◌*◌, ◌<◌, length, slice_index_or, sym, ap, ◌∙◌, subst, arith}
use Rattle.std.proofs.lemmas.Bool.{both_ways}
use Rattle.std.proofs.lemmas.Bool.Decides.{nat_tests}
use Rattle.std.proofs.lemmas.List.{nil_from_length}
use Rattle.rings.specs.Rings.{next, put_in}
use Rattle.scanned.specs.Facts.{sound}
use Rattle.scanned.proofs.Changes.{apart_joined, come_joined, come_sound, come_used, none_joined, none_used}
use Rattle.scanned.proofs.uses.SearchedIndex.join.Goals as goal
use Rattle.scanned.proofs.uses.SearchedIndex.join.Goals.{else-not-is_empty-via-then-not-is_empty+else-self-n, else-not-is_empty-via-else-not-is_empty}

-- its node stood alone
alone : (ws : _) (n m : ℕ) → n ≡ m → slice_index_or ws (2 * n) 0 ≡ n → next ws m ≡ m
alone ws n m e q = subst (λ (k : ℕ). slice_index_or ws (2 * k) 0 ≡ k) e q

pub invariant_of-self : goal.invariant_of-self
invariant_of-self c =
    let s = c.args.self.now in
    let e = c.in-Some.ensures.1 in
    record { small = s.small; sound = ∣ come_sound s.room s.words.now (sound s.sound) c.args.x c.in-Some.ensures.0 c.link.new.ws (alone s.words.now _ _ e c.if-self-n.true) (c.link.ensures ∙ ap (put_in s.words.now 0) e) ∣₁ }

pub returns-then-self-n-clause-uses : goal.returns-then-self-n-clause-uses
returns-then-self-n-clause-uses c L may is =
    let s = c.args.self.now in
    let e = c.in-Some.ensures.1 in
    come_used s.room s.words.now (sound s.sound) c.args.x c.in-Some.ensures.0 c.link.new.ws (alone s.words.now _ _ e c.if-self-n.true) (c.link.ensures ∙ ap (put_in s.words.now 0) e) c.args.literals.now L is

pub returns-then-self-n-clause-joins : goal.returns-then-self-n-clause-joins
returns-then-self-n-clause-joins c may =
    let s = c.args.self.now in
    let e = c.in-Some.ensures.1 in
    let some : 0 < length c.args.literals.now = (let t = c.if-not-is_empty.ensures in grind (arith, nat_tests)) in
    come_joined s.room s.words.now (sound s.sound) c.args.x c.in-Some.ensures.0 c.link.new.ws (alone s.words.now _ _ e c.if-self-n.true) (c.link.ensures ∙ ap (put_in s.words.now 0) e) c.args.literals.now some

pub returns-else-not-is_empty-clause-uses : goal.returns-else-not-is_empty-clause-uses
returns-else-not-is_empty-clause-uses c L may is =
    let s = c.args.self.now in
    elim c.else-not-is_empty.branch [
      | else-not-is_empty-via-then-not-is_empty+else-self-n w ↦ absurd (both_ways _ may.fresh (apart_joined s.room s.words.now (sound s.sound) c.args.x c.in-Some.ensures.0 (λ q. w.if-self-n.false (alone s.words.now _ _ (sym c.in-Some.ensures.1) q))))
      | else-not-is_empty-via-else-not-is_empty w ↦ none_used s.room s.words.now (sound s.sound) c.args.x c.args.literals.now (nil_from_length c.args.literals.now (let t = w.if-not-is_empty.ensures in grind (arith, nat_tests))) L
    ]

pub returns-else-not-is_empty-clause-joins : goal.returns-else-not-is_empty-clause-joins
returns-else-not-is_empty-clause-joins c may =
    let s = c.args.self.now in
    elim c.else-not-is_empty.branch [
      | else-not-is_empty-via-then-not-is_empty+else-self-n w ↦ absurd (both_ways _ may.fresh (apart_joined s.room s.words.now (sound s.sound) c.args.x c.in-Some.ensures.0 (λ q. w.if-self-n.false (alone s.words.now _ _ (sym c.in-Some.ensures.1) q))))
      | else-not-is_empty-via-else-not-is_empty w ↦ none_joined s.room s.words.now (sound s.sound) c.args.x c.args.literals.now (nil_from_length c.args.literals.now (let t = w.if-not-is_empty.ensures in grind (arith, nat_tests))) may.fresh
    ]
