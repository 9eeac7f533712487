-- From rows to assignments. Assumes nothing.
use Rattle.std.proofs.Common.{◌≡◌, ℕ, zero, suc, ◌+◌, ◌*◌, ◌/◌, ◌%◌, ◌^◌, ◌<◌, ◌≤◌, Bool, true, false, cond, not, ◌&&◌, ◌||◌, eqb, ◌⊎◌, ◌↔◌, List, [], ◌∷◌, ◌++◌, length, sym, refl, ap, ◌∙◌, subst, inl, inr, ⊎_elim, add-one, arith}
use Rattle.std.proofs.lemmas.Bool.{not-true, both_ways, and_parts, and_from, cond-true, cond-false, cond_both, eq-eqb, eqb-true, eqb-false, cases_Bool}
use Rattle.std.proofs.lemmas.Bool.Decides.{nat_tests}
use Rattle.network.specs.Clauses.{has}
use Rattle.network.specs.Assignments.{Assignment, node, put, holds, sat, AgreeOn}
use Rattle.network.specs.Lists.{In}
use Rattle.network.proofs.Lists.{has_in, in_left, in_right, in_cases, any_from, all_same, fold_keeps, fold_gets}
use Rattle.network.proofs.Holding.{holds_agree}
use Rattle.network.specs.Rows.{noted, noted_in, lower, row, allows, no_value, two_values, some_row, clashes, is_loose, Narrow, Valued, Tight, Clash, Loose}

-- k is accounted for: 0, n or one of xs
abbrev pub Known : ℕ → List ℕ → ℕ → Type 0
Known n xs k = (k ≡ 0) ⊎ ((k ≡ n) ⊎ In k xs)

pub noted_keeps : (n k x : ℕ) (xs : List ℕ) → In x xs → In x (noted n xs k)
noted_keeps n k x xs i = cond_both (eqb k 0 || (eqb k n || has k xs)) xs (xs ++ (k ∷ [])) (λ (z : List ℕ). In x z) (λ _. i) (λ _. in_left x xs (k ∷ []) i)

pub noted_gets : (n k : ℕ) (xs : List ℕ) → Known n (noted n xs k) k
noted_gets n k xs = grind (arith, nat_tests, has_in k xs, in_right k xs (k ∷ []))

known_kept : (n m k : ℕ) (xs : List ℕ) → Known n xs k → Known n (noted n xs m) k
known_kept n m k xs h = ⊎_elim inl (λ r. inr (⊎_elim inl (λ i. inr (noted_keeps n m k xs i)) r)) h

noted_in_known : (n k : ℕ) (xs C : List ℕ) → Known n xs k → Known n (noted_in n xs C) k
noted_in_known n k xs C h = fold_keeps (λ ys. Known n ys k) (λ ys l. noted n ys (node l)) C (λ l i ys. known_kept n (node l) k ys) xs h

pub noted_in_gets : (n : ℕ) (xs C : List ℕ) (l : ℕ) → In l C → Known n (noted_in n xs C) (node l)
noted_in_gets n xs C l i = fold_gets (λ ys. Known n ys (node l)) (λ ys m. noted n ys (node m)) C l i (λ m ys. known_kept n (node m) (node l) ys) (noted_gets n (node l)) xs

-- each node that a clause of n names is 0, n or one of the lower ones
pub lower_covers : (n : ℕ) (Cs : List (List ℕ)) (C : List ℕ) → In C Cs → (l : ℕ) → In l C → Known n (lower n Cs) (node l)
lower_covers n Cs C i l j = fold_gets (λ ys. Known n ys (node l)) (noted_in n) Cs C i (λ D ys. noted_in_known n (node l) ys D) (λ ys. noted_in_gets n ys C l j) []

-- the number of the row that σ gives the nodes xs
abbrev pub code : List ℕ → Assignment → ℕ
code [] σ = 0
code (x ∷ xs) σ = cond (σ x) 1 0 + 2 * code xs σ

bit_small : (b : Bool) → cond b 1 0 < 2
bit_small true = omega arith
bit_small false = omega arith

pub code_small : (xs : List ℕ) (σ : Assignment) → code xs σ < 2 ^ length xs
code_small [] σ = omega arith
code_small (x ∷ xs) σ = grind (arith, nat_tests, bit_small (σ x), code_small xs σ)

bit_of : (b : Bool) (c : ℕ) → eqb ((cond b 1 0 + 2 * c) % 2) 1 ≡ b
bit_of true c = eq-eqb _ _ (omega arith)
bit_of false c = grind (arith, nat_tests)

rest_of : (b : Bool) (c : ℕ) → (cond b 1 0 + 2 * c) / 2 ≡ c
rest_of true c = omega arith
rest_of false c = omega arith

pub row_step : (x : ℕ) (xs : List ℕ) (σ : Assignment) (k : ℕ) → row (x ∷ xs) (code (x ∷ xs) σ) k ≡ cond (eqb k x) (σ x) (row xs (code xs σ) k)
row_step x xs σ k = grind (arith, nat_tests, bit_of (σ x) (code xs σ), rest_of (σ x) (code xs σ))

pub row_code : (xs : List ℕ) (σ : Assignment) (k : ℕ) → In k xs → row xs (code xs σ) k ≡ σ k
row_code [] σ k i = absurd i
row_code (x ∷ xs) σ k i = grind (arith, nat_tests, row_step x xs σ k, eqb-true k x, row_code xs σ k, eqb-false k x)

pub row_false : (xs : List ℕ) (σ : Assignment) (k : ℕ) → σ k ≡ false → row xs (code xs σ) k ≡ false
row_false [] σ k f = refl
row_false (x ∷ xs) σ k f = grind (arith, nat_tests, row_step x xs σ k, eqb-true k x, row_false xs σ k f)

-- the row says what σ says, of each node that is accounted for
pub row_like : (n : ℕ) (xs : List ℕ) (σ : Assignment) (b : Bool) (k : ℕ) → σ 0 ≡ false → Known n xs k → put (row xs (code xs σ)) n b k ≡ put σ n b k
unfolding put
row_like n xs σ b k z h = grind (arith, nat_tests, cond-true, eqb-false k n, cond-false, row_false xs σ k, row_code xs σ k)

pub sat_agree : (σ τ : Assignment) (Cs : List (List ℕ)) → ((C : List ℕ) → In C Cs → AgreeOn C σ τ) → sat σ Cs ≡ sat τ Cs
sat_agree σ τ Cs h = all_same (holds σ) (holds τ) Cs (λ C i. holds_agree σ τ C (h C i))

pub row_allows : (n : ℕ) (Cs : List (List ℕ)) (σ : Assignment) (b : Bool) → σ 0 ≡ false → allows (lower n Cs) n Cs b (code (lower n Cs) σ) ≡ sat (put σ n b) Cs
row_allows n Cs σ b z = sat_agree _ _ Cs (λ C i l j. row_like n (lower n Cs) σ b (node l) z (lower_covers n Cs C i l j))

-- some row below so many passes
pub some_at : (p : ℕ → Bool) (k r : ℕ) → r < k → p r ≡ true → some_row p k ≡ true
unfolding some_row
some_at p zero r h t = absurd (omega arith)
some_at p (suc k) r h t = grind (arith, some_at p k r, nat_tests, ap p)

pub some_none : (p : ℕ → Bool) → some_row p 0 ≡ false
unfolding some_row
some_none p = refl

pub some_more : (p : ℕ → Bool) (k : ℕ) → some_row p (k + 1) ≡ (p k || some_row p k)
unfolding some_row
some_more p k = rw add-one

-- rows below so many
pub none_at : (p : ℕ → Bool) (k r : ℕ) → some_row p k ≡ false → r < k → p r ≡ false
unfolding some_row
none_at p zero r h l = absurd (omega arith)
none_at p (suc k) r h l = grind (arith, none_at p k r, nat_tests, ap p)

pub some_which : (p : ℕ → Bool) (k : ℕ) → some_row p k ≡ true → (r : ℕ) × (r < k) × (p r ≡ true)
unfolding some_row
some_which p zero h = cc
some_which p (suc k) h = ⊎_elim (λ (t : p k ≡ true). (k, omega arith, t)) (λ (f : p k ≡ false). let (r, l, t) = some_which p k (ap (λ (b : Bool). b || some_row p k) (sym f) ∙ h) in (r, omega arith, t)) (cases_Bool (p k))

-- what holds of each node that the clauses name besides 0 and n holds of each that is noted
module _ (P : ℕ → Type 0) (n : ℕ) where
  abbrev Each : List ℕ → Type 0
  Each xs = (x : ℕ) → In x xs → P x

  abbrev Named : List ℕ → Type 0
  Named C = (l : ℕ) → In l C → (node l ≡ 0 → ⊥) → (node l ≡ n → ⊥) → P (node l)

  noted_only : (k : ℕ) (xs : List ℕ) → Each xs → ((k ≡ 0 → ⊥) → (k ≡ n → ⊥) → P k) → Each (noted n xs k)
  noted_only k xs h p =
      cond_both (eqb k 0 || (eqb k n || has k xs)) xs (xs ++ (k ∷ [])) Each (λ _. h) (λ e x i. ⊎_elim (h x) (λ j. added x e j) (in_cases x xs (k ∷ []) i))
    where
      added : (x : ℕ) → (eqb k 0 || (eqb k n || has k xs)) ≡ false → In x (k ∷ []) → P x
      added x e (inl q) = subst P (sym q) (p (λ z. grind (arith, nat_tests)) (λ z. grind (arith, nat_tests)))
      added x e (inr q) = absurd q

  noted_in_only : (C xs : List ℕ) → Each xs → Named C → Each (noted_in n xs C)
  noted_in_only C xs h p = fold_keeps Each (λ ys l. noted n ys (node l)) C (λ l i ys e. noted_only (node l) ys e (p l i)) xs h

  pub lower_only : (Cs : List (List ℕ)) → ((C : List ℕ) → In C Cs → Named C) → Each (lower n Cs)
  lower_only Cs p = fold_keeps Each (noted_in n) Cs (λ C i ys e. noted_in_only C ys e (p C i)) [] (λ x i. absurd i)

-- each once
abbrev pub Distinct : List ℕ → Type 0
Distinct [] = Unit {0}
Distinct (x ∷ xs) = (In x xs → ⊥) × Distinct xs

distinct_push : (xs : List ℕ) (k : ℕ) → Distinct xs → (In k xs → ⊥) → Distinct (xs ++ (k ∷ []))
distinct_push [] k d n = ((λ i. i), tt)
distinct_push (x ∷ xs) k (a, d) n = grind (arith, nat_tests, in_cases x xs (k ∷ []), distinct_push xs k d)

noted_distinct : (n k : ℕ) (xs : List ℕ) → Distinct xs → Distinct (noted n xs k)
noted_distinct n k xs d = grind (arith, nat_tests, distinct_push xs k d, any_from (eqb k) xs k, eq-eqb k k)

noted_in_distinct : (n : ℕ) (C xs : List ℕ) → Distinct xs → Distinct (noted_in n xs C)
noted_in_distinct n C xs d = fold_keeps Distinct (λ ys l. noted n ys (node l)) C (λ l i ys. noted_distinct n (node l) ys) xs d

-- as many places as different elements
taken_out : (y : ℕ) (ys : List ℕ) → In y ys → (zs : List ℕ) × (length ys ≡ suc (length zs)) × ((x : ℕ) → In x ys → (x ≡ y → ⊥) → In x zs)
taken_out y [] i = absurd i
taken_out y (x ∷ ys) (inl e) = (ys, refl, λ z i n. first z i n)
  where
    first : (z : ℕ) → In z (x ∷ ys) → (z ≡ y → ⊥) → In z ys
    first z (inl q) n = absurd (n (q ∙ sym e))
    first z (inr q) n = q
taken_out y (x ∷ ys) (inr i) = let (zs, l, h) = taken_out y ys i in (x ∷ zs, omega (arith, l), λ z j n. first z j n zs h)
  where
    first : (z : ℕ) → In z (x ∷ ys) → (z ≡ y → ⊥) → (zs : List ℕ) → ((x : ℕ) → In x ys → (x ≡ y → ⊥) → In x zs) → In z (x ∷ zs)
    first z (inl q) n zs h = inl q
    first z (inr q) n zs h = inr (h z q n)

pub pigeons : (xs ys : List ℕ) → Distinct xs → ((x : ℕ) → In x xs → In x ys) → length xs ≤ length ys
pigeons [] ys d h = omega arith
pigeons (x ∷ xs) ys (a, d) h = grind (arith, nat_tests, taken_out x ys, pigeons xs)

pub lower_distinct : (n : ℕ) (Cs : List (List ℕ)) → Distinct (lower n Cs)
lower_distinct n Cs = fold_keeps Distinct (noted_in n) Cs (λ C i ys. noted_in_distinct n C ys) [] tt

-- a node that is not among xs is false in every row
pub row_out : (xs : List ℕ) (r k : ℕ) → (In k xs → ⊥) → row xs r k ≡ false
row_out [] r k n = refl
row_out (x ∷ xs) r k n = grind (arith, nat_tests, eqb-true k x, row_out xs (r / 2) k)

pub lower_zero : (n : ℕ) (Cs : List (List ℕ)) → In 0 (lower n Cs) → ⊥
lower_zero n Cs i = lower_only (λ (x : ℕ). x ≡ 0 → ⊥) n Cs (λ C j l m a b. a) 0 i refl

-- lower nodes
pub narrow_from : (n : ℕ) (Cs : List (List ℕ)) → length (lower n Cs) ≤ 8 → Narrow n Cs
narrow_from n Cs h = (lower n Cs, h, λ C i l j. lower_covers n Cs C i l j)

pub narrow_back : (n : ℕ) (Cs : List (List ℕ)) → Narrow n Cs → length (lower n Cs) ≤ 8
narrow_back n Cs (ys, h, k) =
    omega (arith, h, pigeons (lower n Cs) ys (lower_distinct n Cs) (lower_only (λ (x : ℕ). In x ys) n Cs (λ C i l j a b. other (node l) (k C i l j) a b)))
  where
    other : (x : ℕ) → (x ≡ 0) ⊎ ((x ≡ n) ⊎ In x ys) → (x ≡ 0 → ⊥) → (x ≡ n → ⊥) → In x ys
    other x (inl e) a b = absurd (a e)
    other x (inr (inl e)) a b = absurd (b e)
    other x (inr (inr i)) a b = i

-- rows
module _ (n : ℕ) (Cs : List (List ℕ)) where
  pub valued_from : some_row (no_value (lower n Cs) n Cs) (2 ^ length (lower n Cs)) ≡ false → Valued n Cs
  valued_from h σ z =
      let q = none_at (no_value (lower n Cs) n Cs) _ (code (lower n Cs) σ) h (code_small (lower n Cs) σ) in
      one (sat (put σ n false) Cs) (sat (put σ n true) Cs) refl refl (row_allows n Cs σ false z) (row_allows n Cs σ true z) q
    where
      one : {A B : Bool} (f t : Bool) → f ≡ sat (put σ n false) Cs → t ≡ sat (put σ n true) Cs → A ≡ sat (put σ n false) Cs → B ≡ sat (put σ n true) Cs → (not A && not B) ≡ false → (b : Bool) × (sat (put σ n b) Cs ≡ true)
      one true t f-is t-is a b q = (false, sym f-is)
      one false true f-is t-is a b q = (true, sym t-is)
      one false false f-is t-is a b q = absurd (let z : ◌≡◌ {A = ℕ} 0 1 = grind (arith, f-is, t-is, a, b, q) in omega arith)

  pub tight_from : some_row (two_values (lower n Cs) n Cs) (2 ^ length (lower n Cs)) ≡ false → Tight n Cs
  tight_from h σ z f t =
      let q = none_at (two_values (lower n Cs) n Cs) _ (code (lower n Cs) σ) h (code_small (lower n Cs) σ) in
      both_ways _ q (and_from _ _ (row_allows n Cs σ false z ∙ f) (row_allows n Cs σ true z ∙ t))

  pub clash_from : some_row (no_value (lower n Cs) n Cs) (2 ^ length (lower n Cs)) ≡ true → Clash n Cs
  clash_from h =
      let (r, l, t) = some_which (no_value (lower n Cs) n Cs) _ h in
      (row (lower n Cs) r, row_out (lower n Cs) r 0 (lower_zero n Cs), λ b. neither r b (and_parts (not (allows (lower n Cs) n Cs false r)) (not (allows (lower n Cs) n Cs true r)) t))
    where
      neither : (r : ℕ) (b : Bool) → (not (allows (lower n Cs) n Cs false r) ≡ true) × (not (allows (lower n Cs) n Cs true r) ≡ true) → sat (put (row (lower n Cs) r) n b) Cs ≡ false
      neither r true (f, t) = not-true _ t
      neither r false (f, t) = not-true _ f

  pub loose_from : some_row (two_values (lower n Cs) n Cs) (2 ^ length (lower n Cs)) ≡ true → Loose n Cs
  loose_from h =
      let (r, l, t) = some_which (two_values (lower n Cs) n Cs) _ h in
      (row (lower n Cs) r, row_out (lower n Cs) r 0 (lower_zero n Cs), λ b. both r b (and_parts (allows (lower n Cs) n Cs false r) (allows (lower n Cs) n Cs true r) t))
    where
      both : (r : ℕ) (b : Bool) → (allows (lower n Cs) n Cs false r ≡ true) × (allows (lower n Cs) n Cs true r ≡ true) → sat (put (row (lower n Cs) r) n b) Cs ≡ true
      both r true (f, t) = t
      both r false (f, t) = f

-- the tests over all row numbers tell what they should
module _ (n : ℕ) (Cs : List (List ℕ)) where
  valued_clash : Valued n Cs → Clash n Cs → ⊥
  valued_clash v (σ, z, h) = let (b, t) = v σ z in both_ways _ (h b) t

  pub clashes_tell : (clashes n Cs ≡ true) ↔ Clash n Cs
  clashes_tell = (clash_from n Cs, λ c. ⊎_elim (λ (t : clashes n Cs ≡ true). t) (λ (f : clashes n Cs ≡ false). absurd (valued_clash (valued_from n Cs f) c)) (cases_Bool (clashes n Cs)))

  pub loose_tells : (is_loose n Cs ≡ true) ↔ Loose n Cs
  loose_tells = (loose_from n Cs, λ (σ, z, h). ⊎_elim (λ (t : is_loose n Cs ≡ true). t) (λ (f : is_loose n Cs ≡ false). absurd (tight_from n Cs f σ z (h false) (h true))) (cases_Bool (is_loose n Cs)))
