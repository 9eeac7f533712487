use Rattle.std.proofs.Common.{◌≡◌, ℕ, ◌*◌, ◌<◌, true, false, length, slice_index_or, refl, sym, ap, ◌∙◌, subst, arith}
use Rattle.std.specs.Bool.{◌==◌}
use Rattle.std.proofs.lemmas.Bool.{both_ways}
use Rattle.std.proofs.ByRecursion.{All-get_or}
use Rattle.rings.specs.Rings.{next}
use Rattle.indexed.specs.Facts.{sound}
use Rattle.indexed.specs.Links.{Whole, first_node, in_range}
use Rattle.indexed.proofs.Asks.{come_joined, come_used, come_whole, joined_tied}
use Rattle.indexed.proofs.Turns.{range_is}
use Rattle.indexed.proofs.uses.LinkedIndex.join.Goals as goal
use Rattle.indexed.proofs.uses.LinkedIndex.join.Goals.{else-is_fair-via-then-is_fair+else-self-n, else-is_fair-via-else-is_fair}

-- its first node stood alone
alone : (ws : _) (n m : ℕ) → n ≡ m → slice_index_or ws (2 * n) 0 ≡ n → next ws m ≡ m
alone ws n m e q = subst (λ (k : ℕ). slice_index_or ws (2 * k) 0 ≡ k) e q

-- there is room where there is a slot
some : (room x : ℕ) → in_range room x ≡ true → 0 < room
some room x e = let r = range_is room x e in let a = r.0 in let b = r.1 in omega arith

pub put_in_all-requires : goal.put_in_all-requires
put_in_all-requires c =
    let s = c.args.self.now in
    let i = c.in-Some.ensures in
    (sound s.sound (some s.room c.args.x i.0), s.small, i.0, c.if-is_fair.ensures.0 refl, alone s.words.now _ _ i.1 c.if-self-n.true)

pub invariant_of-self : goal.invariant_of-self
invariant_of-self c =
    let s = c.args.self.now in
    let i = c.in-Some.ensures in
    record { small = s.small; sound = ∣ (λ r. come_whole s.room s.words.now c.args.x c.args.literals.now (sound s.sound r) i.0 (alone s.words.now _ _ i.1 c.if-self-n.true) (c.if-is_fair.ensures.0 refl).0 c.put_in_all.new.ws c.put_in_all.ensures) ∣₁ }

pub returns-then-self-n-clause-uses : goal.returns-then-self-n-clause-uses
returns-then-self-n-clause-uses c L may is =
    let s = c.args.self.now in
    let i = c.in-Some.ensures in
    come_used s.room s.words.now c.args.x c.args.literals.now (sound s.sound (some s.room c.args.x i.0)) i.0 (alone s.words.now _ _ i.1 c.if-self-n.true) (c.if-is_fair.ensures.0 refl).0 c.put_in_all.new.ws c.put_in_all.ensures (c.if-is_fair.ensures.0 refl).2

pub returns-then-self-n-clause-joins : goal.returns-then-self-n-clause-joins
returns-then-self-n-clause-joins c may =
    let s = c.args.self.now in
    let i = c.in-Some.ensures in
    come_joined s.room s.words.now c.args.x c.args.literals.now (sound s.sound (some s.room c.args.x i.0)) i.0 (alone s.words.now _ _ i.1 c.if-self-n.true) (c.if-is_fair.ensures.0 refl).0 c.put_in_all.new.ws c.put_in_all.ensures

pub returns-else-is_fair-clause-uses : goal.returns-else-is_fair-clause-uses
returns-else-is_fair-clause-uses c L may is =
    let s = c.args.self.now in
    elim c.else-is_fair.branch [
      | else-is_fair-via-then-is_fair+else-self-n w ↦ absurd (both_ways _ may.fresh (joined_tied s.room c.args.x s.words.now c.in-Some.ensures.0 (λ q. w.if-self-n.false (alone s.words.now _ _ (sym c.in-Some.ensures.1) q))))
      | else-is_fair-via-else-is_fair w ↦ absurd (both_ways false refl (w.if-is_fair.ensures.1 (may.few, may.rising, λ k h. All-get_or (λ j. j < 2048) c.args.literals.now k 0 h may.low)))
    ]

pub returns-else-is_fair-clause-joins : goal.returns-else-is_fair-clause-joins
returns-else-is_fair-clause-joins c may =
    let s = c.args.self.now in
    elim c.else-is_fair.branch [
      | else-is_fair-via-then-is_fair+else-self-n w ↦ absurd (both_ways _ may.fresh (joined_tied s.room c.args.x s.words.now c.in-Some.ensures.0 (λ q. w.if-self-n.false (alone s.words.now _ _ (sym c.in-Some.ensures.1) q))))
      | else-is_fair-via-else-is_fair w ↦ absurd (both_ways false refl (w.if-is_fair.ensures.1 (may.few, may.rising, λ k h. All-get_or (λ j. j < 2048) c.args.literals.now k 0 h may.low)))
    ]
