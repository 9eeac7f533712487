-- A clause that lost a literal before its last, and what uses may have then. Assumes nothing.
use Rattle.std.proofs.Common.{◌≡◌, ℕ, suc, ◌+◌, ◌-◌, ◌<◌, Bool, true, eqb, List, [], ◌∷◌, ◌++◌, length, take, drop, set, sym, refl, ap, ◌∙◌, subst, inl, inr, ⊎_elim, arith}
use Rattle.std.specs.List.{list_any}
use Rattle.std.proofs.Math.Seq.{drop-append_seam, take-append-add}
use Rattle.std.proofs.lemmas.Bool.{cases_eq, cases_Bool}
use Rattle.std.proofs.lemmas.List.{length-drop, set-append_right}
use Rattle.network.specs.Assignments.{node}
use Rattle.network.specs.Clauses.{front, has, last, without}
use Rattle.network.specs.Lists.{In}
use Rattle.network.proofs.Lists.{has_in, in_cases, in_left, in_right}
use Rattle.network.proofs.Resolution.{in_without, without_in}
use Rattle.rules.proofs.Answers.{has_from}
use Rattle.rules.proofs.Formed.{Formed, front_below, front_dropped}
use Rattle.rules.proofs.TakenOut.{front_in, front_or_last}
use Rattle.rules.proofs.Verdicts.{without_length}
use Rattle.owned.proofs.Texts.{front_take, has_same}

-- whether the literals but the last have one
pub any_front : (k : ℕ) (C D : List ℕ) → C ≡ D → list_any (λ y. eqb y k) (take (length C - 1) C) ≡ has k (front D)
any_front k C D e = ap (list_any (λ y. eqb y k)) (front_take C) ∙ has_same k (front C) ∙ ap (λ (E : List ℕ). has k (front E)) e

-- two tests that follow from each other
same_by : (p q : Bool) → (p ≡ true → q ≡ true) → (q ≡ true → p ≡ true) → p ≡ q
same_by p q f g = elim (cases_Bool p) [
  | inl t ↦ t ∙ sym (f t)
  | inr n ↦ elim (cases_Bool q) [ inl t ↦ g t ∙ sym t | inr m ↦ n ∙ sym m ]
]

-- a literal k before the last of C
module _ (k : ℕ) (C : List ℕ) (f : Formed C) (h : In k (front C)) where
  abbrev W : List ℕ
  W = without k C

  g : Formed W × (last W ≡ last C)
  g = front_dropped k C f h

  -- the literals before the last are those of before, without the one
  kept_front : (j : ℕ) → In j (front C) → (j ≡ k → ⊥) → In j (front W)
  kept_front j i n = ⊎_elim (λ q. q) (λ e. let e2 = e ∙ g.1 in let b = front_below C f.order j i in absurd (omega (arith, ap node e2, b))) (front_or_last W j (in_without k j C (front_in C j i) n))

  front_kept : (j : ℕ) → In j (front W) → In j (front C)
  front_kept j i = ⊎_elim (λ q. q) (λ e. let e2 = e ∙ sym g.1 in let b = front_below W g.0.order j i in absurd (omega (arith, ap node e2, b))) (front_or_last C j (without_in k j C (front_in W j i)).0)

  -- what uses may have is the same, where the one is kept behind
  pub listed_kept : (D : List ℕ) (j : ℕ) → has j (front W ++ (k ∷ D)) ≡ has j (front C ++ D)
  listed_kept D j =
      same_by (has j (front W ++ (k ∷ D))) (has j (front C ++ D))
      (λ t. has_from j (front C ++ D) (⊎_elim
      (λ i. in_left j (front C) D (front_kept j i))
      (λ i. ⊎_elim (λ e. in_left j (front C) D (subst (λ (z : ℕ). In z (front C)) (sym e) h)) (λ i. in_right j (front C) D i) i)
      (in_cases j (front W) (k ∷ D) (has_in j (front W ++ (k ∷ D)) t))))
      (λ t. has_from j (front W ++ (k ∷ D)) (⊎_elim
      (λ i. elim (cases_eq j k) [ inl e ↦ in_right j (front W) (k ∷ D) (inl e) | inr n ↦ in_left j (front W) (k ∷ D) (kept_front j i n) ])
      (λ i. in_right j (front W) (k ∷ D) (inr i))
      (in_cases j (front C) D (has_in j (front C ++ D) t))))

  -- it is a literal, and it is one
  pub dropped_small : k < 2048
  dropped_small = let a = front_below C f.order k h in let b = f.small in omega arith

  pub dropped_fewer : suc (length W) ≡ length C
  dropped_fewer = without_length k C f.order (front_in C k h)

  one : (D : List ℕ) → length D ≡ 1 → set D 0 k ≡ k ∷ []
  one [] e = absurd (omega arith)
  one (y ∷ []) e = refl
  one (y ∷ (z ∷ D)) e = absurd (omega arith)

  -- the words with the lost literal behind the others
  pub dropped_words : set (W ++ drop (length W) C) (length W) k ≡ W ++ (k ∷ [])
  dropped_words =
      let m = length W in
      let z : m - m ≡ 0 = omega arith in
      let d : length (drop m C) ≡ 1 = length-drop m C ∙ (let e = dropped_fewer in omega arith) in
      set-append_right W (drop m C) m m k refl (omega arith) ∙ ap (λ (j : ℕ). W ++ set (drop m C) j k) z ∙ ap (λ (D : List ℕ). W ++ D) (one (drop m C) d)

-- what a part has that begins with these, and then lies behind them
pub behind : (W R : List ℕ) (k j : ℕ) → drop (length W) (take (length W + suc j) (W ++ (k ∷ R))) ≡ k ∷ take j R
behind W R k j = ap (drop (length W)) (take-append-add W (k ∷ R) (suc j)) ∙ drop-append_seam W (k ∷ take j R)
