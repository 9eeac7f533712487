use Rattle.std.proofs.Common.{◌≡◌, ℕ, ◌<◌, true, arith}
use Rattle.indexed.specs.Facts.{sound, used_joined}
use Rattle.indexed.specs.Links.{in_range}
use Rattle.indexed.proofs.Asks.{gone_joined, gone_used, gone_whole, stranger_joined, stranger_used}
use Rattle.indexed.proofs.Turns.{range_is}
use Rattle.indexed.proofs.uses.LinkedIndex.leave.Goals as goal

-- there is room where there is a slot
some : (room x : ℕ) → in_range room x ≡ true → 0 < room
some room x e = let r = range_is room x e in let a = r.0 in let b = r.1 in omega arith

pub take_out_all-requires : goal.take_out_all-requires
take_out_all-requires c =
    let s = c.args.self.now in
    let i = c.in-Some.ensures in
    (sound s.sound (some s.room c.args.x i.0), s.small, i.0)

pub invariant_of-self : goal.invariant_of-self
invariant_of-self c =
    let s = c.args.self.now in
    let i = c.in-Some.ensures in
    record { small = s.small; sound = ∣ (λ r. gone_whole s.room s.words.now c.args.x (sound s.sound r) i.0 c.take_out_all.new.ws c.take_out_all.ensures) ∣₁ }

pub returns-in-Some-clause-uses : goal.returns-in-Some-clause-uses
returns-in-Some-clause-uses c L =
    let s = c.args.self.now in
    let i = c.in-Some.ensures in
    gone_used s.room s.words.now c.args.x (sound s.sound (some s.room c.args.x i.0)) i.0 c.take_out_all.new.ws c.take_out_all.ensures

pub returns-in-Some-clause-joins : goal.returns-in-Some-clause-joins
returns-in-Some-clause-joins c =
    let s = c.args.self.now in
    let i = c.in-Some.ensures in
    gone_joined s.room s.words.now c.args.x (sound s.sound (some s.room c.args.x i.0)) i.0 c.take_out_all.new.ws c.take_out_all.ensures

pub returns-in_default-clause-uses : goal.returns-in_default-clause-uses
returns-in_default-clause-uses c L =
    let s = c.args.self.now in
    stranger_used s.room s.words.now c.args.x (λ k. used_joined s.room s.words.now (sound s.sound) k c.args.x) c.in_default.ensures

pub returns-in_default-clause-joins : goal.returns-in_default-clause-joins
returns-in_default-clause-joins c =
    let s = c.args.self.now in
    stranger_joined s.room s.words.now c.args.x (λ k. used_joined s.room s.words.now (sound s.sound) k c.args.x) c.in_default.ensures
