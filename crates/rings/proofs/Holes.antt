-- A list of different numbers below n has at most n of them. Assumes nothing.
use Rattle.std.proofs.Common.{◌≡◌, ℕ, zero, suc, ◌+◌, ◌<◌, ◌≤◌, not, eqb, List, [], ◌∷◌, ◌++◌, length, get_or, sym, refl, ap, ◌∙◌, subst, inl, inr, arith}
use Rattle.std.specs.List.{AllByRecursion}
use Rattle.std.proofs.lemmas.Bool.{cases_eq, cond_both, cond-true, cond-false, eq-eqb, ne_eqb}
use Rattle.std.proofs.ByRecursion.{All-get_or, All-from_get_or, all_kept_by}
use Rattle.rings.specs.Rings.{Path, without, before, Apart, Lacks, Differ}
use Rattle.rings.proofs.Paths.{path_prev, without_here, without_other}

pub differ_from : (xs : List ℕ) → Apart xs → Differ xs
unfolding Differ
differ_from [] h = tt
differ_from (x ∷ xs) h =
    (All-from_get_or (λ y. y ≡ x → ⊥) xs 0 (λ i l e. h 0 (suc i) (omega arith) (omega arith) (sym e)), differ_from xs (λ i j l m e. h (suc i) (suc j) (omega arith) (omega arith) e))

pub apart_from : (xs : List ℕ) → Differ xs → Apart xs
unfolding Differ
apart_from [] d i j l m e = omega arith
apart_from (x ∷ xs) d zero zero l m e = omega arith
apart_from (x ∷ xs) d zero (suc j) l m e = All-get_or (λ y. y ≡ x → ⊥) xs j 0 (omega arith) d.0 (sym e)
apart_from (x ∷ xs) d (suc i) zero l m e = omega arith
apart_from (x ∷ xs) d (suc i) (suc j) l m e = apart_from xs d.1 i j (omega arith) (omega arith) e

pub without_lacks : (s : ℕ) (xs : List ℕ) → Lacks s xs → without s xs ≡ xs
without_lacks s [] h = refl
without_lacks s (x ∷ xs) h = without_other s x xs h.0 ∙ ap (λ (ys : List ℕ). x ∷ ys) (without_lacks s xs h.1)

pub without_all : (P : ℕ → Type 0) (s : ℕ) (xs : List ℕ) → AllByRecursion P xs → AllByRecursion P (without s xs)
without_all P s xs h = all_kept_by (λ x. not (eqb x s)) P xs h

pub without_gone : (s : ℕ) (xs : List ℕ) → Lacks s (without s xs)
without_gone s [] = tt
without_gone s (x ∷ xs) =
    elim (cases_eq x s) [
      | inl e ↦ rw (without_here s x xs e) (without_gone s xs)
      | inr ne ↦ rw (without_other s x xs ne) (ne, without_gone s xs)
    ]

without_differ : (s : ℕ) (xs : List ℕ) → Differ xs → Differ (without s xs)
unfolding Differ
without_differ s [] d = tt
without_differ s (x ∷ xs) d =
    elim (cases_eq x s) [
      | inl e ↦ subst Differ (sym (without_here s x xs e)) (without_differ s xs d.1)
      | inr ne ↦ subst Differ (sym (without_other s x xs ne)) (without_all (λ y. y ≡ x → ⊥) s xs d.0, without_differ s xs d.1)
    ]

-- at most one goes
pub without_length : (s : ℕ) (xs : List ℕ) → Differ xs → length xs ≤ 1 + length (without s xs)
unfolding Differ
without_length s [] d = omega arith
without_length s (x ∷ xs) d =
    elim (cases_eq x s) [
      | inl e ↦ let q : length (without s (x ∷ xs)) ≡ length xs = ap length (without_here s x xs e) ∙ ap length (without_lacks s xs (subst (λ (z : ℕ). Lacks z xs) e d.0)) in omega arith
      | inr ne ↦ let q : length (without s (x ∷ xs)) ≡ suc (length (without s xs)) = ap length (without_other s x xs ne) in let h = without_length s xs d.1 in omega arith
    ]

lower : (n : ℕ) (xs : List ℕ) → AllByRecursion (λ x. x < suc n) xs → Lacks n xs → AllByRecursion (λ x. x < n) xs
lower n [] h l = tt
lower n (x ∷ xs) h l = (let a = h.0 in let b = l.0 in omega arith, lower n xs h.1 l.1)

-- the rule of holes
pub few : (n : ℕ) (xs : List ℕ) → Differ xs → AllByRecursion (λ x. x < n) xs → length xs ≤ n
few zero [] d h = omega arith
few zero (x ∷ xs) d h = absurd (omega (arith, h.0))
few (suc n) xs d h =
    let l = few n (without n xs) (without_differ n xs d) (lower n (without n xs) (without_all (λ x. x < suc n) n xs h) (without_gone n xs)) in
    let m = without_length n xs d in
    omega arith

-- the slots of a ring differ: each has another before it, and the first the head
path_apart : (nx pv : ℕ → ℕ) (heads l : ℕ) (xs : List ℕ) → Path nx pv l xs l → l < heads → AllByRecursion (λ x. heads ≤ x) xs → Apart xs
path_apart nx pv heads l xs p hl al zero zero ij jl e = omega arith
path_apart nx pv heads l xs p hl al zero (suc j) ij jl e =
    let a = path_prev nx pv l xs l 0 p (omega arith) in
    let b : pv (get_or xs (suc j) 0) ≡ get_or xs j 0 = path_prev nx pv l xs l (suc j) p jl in
    let c : heads ≤ get_or xs j 0 = All-get_or (λ x. heads ≤ x) xs j 0 (omega arith) al in
    let q : l ≡ get_or xs j 0 = sym a ∙ ap pv e ∙ b in
    omega arith
path_apart nx pv heads l xs p hl al (suc i) zero ij jl e = omega arith
path_apart nx pv heads l xs p hl al (suc i) (suc j) ij jl e =
    path_apart nx pv heads l xs p hl al i j (omega arith) (omega arith) (sym (path_prev nx pv l xs l (suc i) p (omega arith)) ∙ ap pv e ∙ path_prev nx pv l xs l (suc j) p jl)

pub path_differ : (nx pv : ℕ → ℕ) (heads l : ℕ) (xs : List ℕ) → Path nx pv l xs l → l < heads → AllByRecursion (λ x. heads ≤ x) xs → Differ xs
path_differ nx pv heads l xs p hl al = differ_from xs (path_apart nx pv heads l xs p hl al)

pub before_all : (P : ℕ → Type 0) (n s : ℕ) (xs : List ℕ) (b : ℕ) → P s → AllByRecursion P xs → AllByRecursion P (before n s xs b)
unfolding before
before_all P n s [] b ps h = cond_both (eqb b n) (s ∷ []) [] (AllByRecursion P) (λ _. (ps, tt)) (λ _. tt)
before_all P n s (x ∷ xs) b ps h =
    let r = before_all P n s xs b ps h.1 in
    cond_both (eqb x n) (s ∷ (x ∷ before n s xs b)) (x ∷ before n s xs b) (AllByRecursion P) (λ _. (ps, (h.0, r))) (λ _. (h.0, r))

-- at the end of the list
pub before_end : (n s : ℕ) (xs : List ℕ) (b : ℕ) → Lacks n xs → b ≡ n → before n s xs b ≡ xs ++ (s ∷ [])
unfolding before
before_end n s [] b h e = cond-true (eqb b n) (s ∷ []) [] (eq-eqb b n e)
before_end n s (x ∷ xs) b h e =
    cond-false (eqb x n) (s ∷ (x ∷ before n s xs b)) (x ∷ before n s xs b) (ne_eqb x n h.0)
    ∙ ap (λ (ys : List ℕ). x ∷ ys) (before_end n s xs b h.1 e)

-- not in the list
pub before_none : (n s : ℕ) (xs : List ℕ) (b : ℕ) → Lacks n xs → (b ≡ n → ⊥) → before n s xs b ≡ xs
unfolding before
before_none n s [] b h e = cond-false (eqb b n) (s ∷ []) [] (ne_eqb b n e)
before_none n s (x ∷ xs) b h e =
    cond-false (eqb x n) (s ∷ (x ∷ before n s xs b)) (x ∷ before n s xs b) (ne_eqb x n h.0)
    ∙ ap (λ (ys : List ℕ). x ∷ ys) (before_none n s xs b h.1 e)
