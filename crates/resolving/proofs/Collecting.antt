-- The resolvents of both signs of a node. Assumes nothing.
use Rattle.std.proofs.Common.{◌≡◌, ℕ, ◌+◌, ◌*◌, ◌<◌, ◌≤◌, Bool, true, false, not, ◌&&◌, List, [], ◌++◌, map, length, get_or, Some, None, sym, refl, ap, ◌∙◌, subst, arith}
use Rattle.std.specs.List.{range_with_len}
use Rattle.std.proofs.lemmas.Bool.{cond-true, cond-false, not-false}
use Rattle.std.proofs.lemmas.Bool.Decides.{nat_tests}
use Rattle.std.proofs.lemmas.List.FromFn.{length-map-range_with_len}
use Rattle.network.specs.Assignments.{opposite}
use Rattle.lemmas.specs.declared.Lemmas.{Lemmas}
use Rattle.rules.specs.Store.{Meaning}
use Rattle.rules.specs.Lawful.{Lawful}
use Rattle.rules.specs.Bve.{resolvents, all_resolvents}
use Rattle.resolving.specs.Answers.{suffice, unless_too_much, Stand}
use Rattle.resolving.specs.Collected.{too_much, collected, of_sign, Added}
use Rattle.resolving.specs.declared.resolvents.Resolvents.{Resolvents}
use Rattle.resolving.proofs.Adding.{collected_fits}
use Rattle.resolving.proofs.Sizes.{own_none}
use Rattle.resolving.proofs.Walks.{added_more, added_less}
use Rattle.resolving.proofs.Words.{clause_in}

-- the opposite of the positive literal, and that of the negative one
opposite_positive : (n : ℕ) → opposite (2 * n) ≡ 2 * n + 1
unfolding opposite
opposite_positive n = grind (arith, nat_tests)

opposite_negative : (n : ℕ) → opposite (2 * n + 1) ≡ 2 * n
unfolding opposite
opposite_negative n = grind (arith, nat_tests)

-- a node past the highest has no resolvent
pub none_past : (M : Meaning) → Lawful M → (n : ℕ) → 1023 < n → all_resolvents M n ≡ []
unfolding all_resolvents resolvents
none_past M L n h = rw (own_none M L (2 * n) (omega arith), own_none M L (2 * n + 1) (omega arith)) refl

module _ {X : Type 0} (most : ℕ) (w : Lemmas) (s : suffice most w ≡ true) (Rs : List (List ℕ)) (x : X) where
  -- what is answered of clauses that are too much, and of others
  pub answer_none : too_much most Rs ≡ true → None ≡ unless_too_much most w Rs x
  answer_none e = sym (cond-false (suffice most w && not (too_much most Rs)) (Some x) None cc)

  pub answer_some : too_much most Rs ≡ false → Some x ≡ unless_too_much most w Rs x
  answer_some e = sym (cond-true (suffice most w && not (too_much most Rs)) (Some x) None cc)

-- what the test of the words says
pub sufficed : (most : ℕ) (w : Lemmas) → suffice most w ≡ true → (most ≤ length w.order.now) × (most ≤ length w.entries.now) × (most ≤ length w.places.now)
sufficed most w s = (grind (arith, nat_tests), grind (arith, nat_tests), grind (arith, nat_tests))

-- p is the positive literal of n
module _ (M : Meaning) (n p : ℕ) (positive : p ≡ 2 * n) where
  both_signs : of_sign M p ++ of_sign M (opposite p) ≡ all_resolvents M n
  unfolding all_resolvents
  both_signs = rw (positive, opposite_positive n, opposite_negative n) refl

  -- the resolvents of the one sign were too much, and so are all
  pub first_less : {R R₁ : Resolvents} → Added (of_sign M p) false R R₁ → Added (all_resolvents M n) false R R₁
  first_less {R} {R₁} x = subst (λ Rs. Added Rs false R R₁) both_signs (added_less (of_sign M (opposite p)) x)

  -- those of the other sign are added too, or all are too much
  pub both_added : (q : ℕ) → q ≡ opposite p → {b : Bool} {R R₁ R₂ : Resolvents} → Added (of_sign M p) true R R₁ → Added (of_sign M q) b R₁ R₂ → Added (all_resolvents M n) b R R₂
  both_added q e {b} {R} {R₁} {R₂} x y = subst (λ Rs. Added Rs b R R₂) (ap (λ r. of_sign M p ++ of_sign M r) e ∙ both_signs) (added_more (of_sign M q) x y)

-- what is collected where nothing was
module _ (most : ℕ) (w : Lemmas) (s : suffice most w ≡ true) (Rs : List (List ℕ)) {R R₁ : Resolvents} (none : collected R ≡ []) (may : R.most ≡ most) where
  pub given_up : {X : Type 0} (x : X) → Added Rs false R R₁ → None ≡ unless_too_much most w Rs x
  given_up x a = answer_none most w s Rs x (ap (λ m. too_much m Rs) (sym may) ∙ ap (λ Cs. too_much R.most (Cs ++ Rs)) (sym none) ∙ not-false (too_much R.most (collected R ++ Rs)) (sym a.when))

  module _ (a : Added Rs true R R₁) where
    all_there : collected R₁ ≡ Rs
    all_there = a.added refl ∙ ap (λ Cs. Cs ++ Rs) none

    pub counted : Some R₁.count ≡ unless_too_much most w Rs (length Rs)
    counted =
        ap Some (sym (length-map-range_with_len (clause_in R₁.lengths.now R₁.literals.now) 0 R₁.count) ∙ ap length all_there)
        ∙ answer_some most w s Rs (length Rs) (ap (λ m. too_much m Rs) (sym (a.most ∙ may)) ∙ ap (too_much R₁.most) (sym all_there) ∙ collected_fits R₁)

    pub standing : {w' : Lemmas} → w'.lengths.now ≡ R₁.lengths.now → w'.literals.now ≡ R₁.literals.now → w'.order ≡ w.order → w'.entries ≡ w.entries → w'.places ≡ w.places → Stand R₁.count Rs w'
    standing {w'} l v o e p =
        let few : R₁.count ≤ most = omega (arith, R₁.within, a.most, may) in
        let t = sufficed most w s in
        record {
          clauses = (λ i. map (clause_in (l i) (v i)) (range_with_len 0 R₁.count)) ∙ all_there;
          admits = record {
            lengths = omega (arith, ap length l, R₁.counted, R₁.within);
            literals = omega (arith, ap length v, R₁.room, R₁.within);
            order = omega (arith, few, t.0, ap (λ r. length r.now) o);
            entries = omega (arith, few, t.1, ap (λ r. length r.now) e);
            places = omega (arith, few, t.2, ap (λ r. length r.now) p);
            short = λ k h. omega (arith, ap (λ L. get_or L k 0) l, R₁.short k h);
          };
        }
