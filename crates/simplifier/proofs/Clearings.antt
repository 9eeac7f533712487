-- A clearing by marks that stand in words, step by step. Assumes nothing.
use Rattle.std.proofs.Common.{◌≡◌, ℕ, suc, ◌+◌, ◌-◌, ◌<◌, ◌≤◌, Bool, true, false, eqb, ltb, List, ◌++◌, length, map, get_or, set, replicate, sym, ap, ◌∙◌, ⊎_elim, arith, length-append}
use Rattle.std.specs.List.{range_with_len, swap_remove}
use Rattle.std.proofs.lemmas.Bool.{both_ways, cases_eq, cases_lt, cond-true, cond-false, lt-ltb}
use Rattle.std.proofs.lemmas.Grind.{get_or-set_at}
use Rattle.std.proofs.lemmas.List.{ext_get_or, get_or_past, get_or-map, get_or-replicate, get_or-set_other, get_or_append_left, get_or-append_right, length-map, length-replicate, append-nil}
use Rattle.std.proofs.lemmas.List.FromFn.{length-map-range_with_len, get_or-map-range_with_len}
use Rattle.rules.specs.Store.{Meaning, removed}
use Rattle.rules.specs.Work.{cleared, clear, clear_all}
use Rattle.rules.proofs.Index.{removed_length, swap_length, swap_here, swap_other}
use Rattle.simplifier.specs.Marks.{marked}

-- whether the word at a place marks it
abbrev marks_at : List ℕ → ℕ → Bool
marks_at ws j = eqb (get_or ws j 0) 1

-- the marks of n places; those past the words are not marked
unfoldable pub marks_below : ℕ → List ℕ → List Bool
marks_below n ws = map (marks_at ws) (range_with_len 0 n)

mark_at : (n : ℕ) (ws : List ℕ) (j : ℕ) → j < n → get_or (marks_below n ws) j false ≡ eqb (get_or ws j 0) 1
unfolding marks_below
mark_at n ws j lt = get_or-map-range_with_len (marks_at ws) 0 n j j false lt (omega arith)

marks_long : (n : ℕ) (ws : List ℕ) → length (marks_below n ws) ≡ n
unfolding marks_below
marks_long n ws = length-map-range_with_len (marks_at ws) 0 n

-- the last of the marks comes to the place i
swapped : (n i : ℕ) (ws : List ℕ) → i < n → i < length ws → swap_remove (marks_below n ws) i false ≡ marks_below (n - 1) (set ws i (get_or ws (n - 1) 0))
swapped n i ws li lw = ext_get_or false (swap_remove (marks_below n ws) i false) (marks_below (n - 1) (set ws i (get_or ws (n - 1) 0)))
    (swap_length false i (marks_below n ws) ∙ ap (λ k. k - 1) long ∙ sym (marks_long (n - 1) (set ws i (get_or ws (n - 1) 0))))
    (λ j lj. at j (omega (arith, lj, swap_length false i (marks_below n ws), long)))
  where
    long : length (marks_below n ws) ≡ n
    long = marks_long n ws

    here : i < n - 1 → get_or (swap_remove (marks_below n ws) i false) i false ≡ marks_at ws (n - 1)
    here lt = swap_here false i (marks_below n ws) (omega (arith, long)) ∙ ap (λ k. get_or (marks_below n ws) (k - 1) false) long ∙ mark_at n ws (n - 1) (omega arith)

    other : (j : ℕ) → j < n - 1 → (j ≡ i → ⊥) → get_or (swap_remove (marks_below n ws) i false) j false ≡ marks_at ws j
    other j lj a = swap_other false i j (marks_below n ws) (omega (arith, long)) a ∙ mark_at n ws j (omega arith)

    at : (j : ℕ) → j < n - 1 → get_or (swap_remove (marks_below n ws) i false) j false ≡ get_or (marks_below (n - 1) (set ws i (get_or ws (n - 1) 0))) j false
    at j lj = ⊎_elim
        (λ q. ap (λ k. get_or (swap_remove (marks_below n ws) i false) k false) q ∙ here (omega arith) ∙ sym (ap (λ w. eqb w 1) (get_or-set_at ws i j (get_or ws (n - 1) 0) 0 q lw)))
        (λ a. other j lj a ∙ sym (ap (λ w. eqb w 1) (get_or-set_other ws i j (get_or ws (n - 1) 0) 0 a))) (cases_eq j i)
        ∙ sym (mark_at (n - 1) (set ws i (get_or ws (n - 1) 0)) j lj)

-- the marks that a clearing of a list of k clauses begins with
padded : (ws : List ℕ) (k n : ℕ) → n ≡ length ws + (k - length ws) → marked ws ++ replicate (k - length (marked ws)) false ≡ marks_below n ws
padded ws k n e = ext_get_or false (marked ws ++ replicate (k - length (marked ws)) false) (marks_below n ws) (omega (arith, long, marks_long n ws)) (λ j lj. at j (omega (arith, lj, long)))
  where
    wide : length (marked ws) ≡ length ws
    wide = length-map ws (λ w. eqb w 1)

    long : length (marked ws ++ replicate (k - length (marked ws)) false) ≡ n
    long = omega (arith, length-append (marked ws) (replicate (k - length (marked ws)) false), length-replicate (k - length (marked ws)) false, wide, e)

    at : (j : ℕ) → j < n → get_or (marked ws ++ replicate (k - length (marked ws)) false) j false ≡ get_or (marks_below n ws) j false
    at j lj = ⊎_elim
        (λ h. get_or_append_left (marked ws) (replicate (k - length (marked ws)) false) false j (omega (arith, wide)) ∙ get_or-map (λ w. eqb w 1) ws j 0 false h)
        (λ h. get_or-append_right (marked ws) (replicate (k - length (marked ws)) false) (length ws) j false wide h
        ∙ get_or-replicate (k - length (marked ws)) (j - length ws) false false (omega (arith, wide)) ∙ sym (ap (λ w. eqb w 1) (get_or_past ws j 0 h)))
        (cases_lt j (length ws))
        ∙ sym (mark_at n ws j lj)

module _ (l : ℕ) (M : Meaning) where
  -- a clearing begins at place 0, with the marks of as many places as there are words or clauses
  pub begins : (ws : List ℕ) (n : ℕ) → n ≡ length ws + (length (M.own l) - length ws) → cleared (length (M.own l) - 0) l 0 (marks_below n ws) M ≡ clear l (marked ws) M
  unfolding clear
  begins ws n e =
      ap (λ f. cleared f l 0 (marks_below n ws) M) (same (length (M.own l)))
      ∙ ap (λ B. cleared (length (M.own l)) l 0 B M) (sym (padded ws (length (M.own l)) n e))
    where
      same : (k : ℕ) → k - 0 ≡ k
      same k = omega arith

  module _ (i : ℕ) (li : i < length (M.own l)) where
    -- a marked place is one of the words'
    read : (ws : List ℕ) → marks_at ws i ≡ true → i < length ws
    read ws t = ⊎_elim (λ h. h) (λ h. absurd (both_ways (eqb (get_or ws i 0) 1) (ap (λ w. eqb w 1) (get_or_past ws i 0 h)) t)) (cases_lt i (length ws))

    left_of : length (M.own l) - i ≡ suc (length (M.own l) - suc i)
    left_of = omega arith

    -- a marked place loses its clause, and gets the last clause with its mark
    pub marked_step : (n : ℕ) (ws : List ℕ) → length (M.own l) ≤ n → marks_at ws i ≡ true
        → cleared (length (M.own l) - i) l i (marks_below n ws) M ≡ cleared (length ((removed l i M).own l) - i) l i (marks_below (n - 1) (set ws i (get_or ws (n - 1) 0))) (removed l i M)
    unfolding cleared
    marked_step n ws le t =
        ap (λ f. cleared f l i (marks_below n ws) M) left_of
        ∙ cond-true (ltb i (length (M.own l))) _ M (lt-ltb i (length (M.own l)) li)
        ∙ cond-true (get_or (marks_below n ws) i false) _ _ (mark_at n ws i (omega arith) ∙ t)
        ∙ ap (λ f. cleared f l i (swap_remove (marks_below n ws) i false) (removed l i M)) (omega (arith, removed_length M l i))
        ∙ ap (λ B. cleared (length ((removed l i M).own l) - i) l i B (removed l i M)) (swapped n i ws (omega arith) (read ws t))

    -- any other place keeps its clause
    pub other_step : (n : ℕ) (ws : List ℕ) → length (M.own l) ≤ n → marks_at ws i ≡ false
        → cleared (length (M.own l) - i) l i (marks_below n ws) M ≡ cleared (length (M.own l) - suc i) l (suc i) (marks_below n ws) M
    unfolding cleared
    other_step n ws le f =
        ap (λ f. cleared f l i (marks_below n ws) M) left_of
        ∙ cond-true (ltb i (length (M.own l))) _ M (lt-ltb i (length (M.own l)) li)
        ∙ cond-false (get_or (marks_below n ws) i false) _ _ (mark_at n ws i (omega arith) ∙ f)

  -- past the last place nothing is left to do
  pub ends : (i : ℕ) (B : List Bool) → length (M.own l) ≡ i → cleared (length (M.own l) - i) l i B M ≡ M
  unfolding cleared
  ends i B e = let z : length (M.own l) - i ≡ 0 = omega arith in ap (λ f. cleared f l i B M) z

-- with every place marked
swapped_true : (n : ℕ) → swap_remove (replicate (suc n) true) 0 false ≡ replicate n true
swapped_true n = ext_get_or false (swap_remove (replicate (suc n) true) 0 false) (replicate n true) (omega (arith, long, length-replicate n true)) (λ j lj. at j (omega (arith, lj, long)) ∙ sym (get_or-replicate n j true false (omega (arith, lj, long))))
  where
    wide : length (replicate (suc n) true) ≡ suc n
    wide = length-replicate (suc n) true

    long : length (swap_remove (replicate (suc n) true) 0 false) ≡ n
    long = omega (arith, swap_length false 0 (replicate (suc n) true), wide)

    first : 0 < n → get_or (swap_remove (replicate (suc n) true) 0 false) 0 false ≡ true
    first lt = swap_here false 0 (replicate (suc n) true) (omega (arith, wide)) ∙ get_or-replicate (suc n) (length (replicate (suc n) true) - 1) true false (omega (arith, wide))

    at : (j : ℕ) → j < n → get_or (swap_remove (replicate (suc n) true) 0 false) j false ≡ true
    at j lj = ⊎_elim (λ q. ap (λ k. get_or (swap_remove (replicate (suc n) true) 0 false) k false) q ∙ first (omega arith))
        (λ a. swap_other false 0 j (replicate (suc n) true) (omega (arith, wide)) a ∙ get_or-replicate (suc n) j true false (omega arith)) (cases_eq j 0)

-- clearing all of a list, place 0 again and again
whole : (l : ℕ) (M : Meaning) → clear_all l M ≡ cleared (length (M.own l)) l 0 (replicate (length (M.own l)) true) M
unfolding clear_all clear
whole l M = ap (λ B. cleared (length (M.own l)) l 0 B M) (plain (length (M.own l)))
  where
    plain : (n : ℕ) → replicate n true ++ replicate (n - length (replicate n true)) false ≡ replicate n true
    plain n = let z : n - length (replicate n true) ≡ 0 = omega (arith, length-replicate n true) in ap (λ k. replicate n true ++ replicate k false) z ∙ append-nil (replicate n true)

-- a clause more goes
pub all_step : (l : ℕ) (M : Meaning) → 0 < length (M.own l) → clear_all l M ≡ clear_all l (removed l 0 M)
unfolding cleared
all_step l M lt = whole l M ∙ go (length (M.own l) - 1) (omega arith) ∙ sym (whole l (removed l 0 M))
  where
    go : (n : ℕ) → length (M.own l) ≡ suc n → cleared (length (M.own l)) l 0 (replicate (length (M.own l)) true) M ≡ cleared (length ((removed l 0 M).own l)) l 0 (replicate (length ((removed l 0 M).own l)) true) (removed l 0 M)
    go n e =
        let fewer : length ((removed l 0 M).own l) ≡ n = omega (arith, removed_length M l 0) in
        ap (λ k. cleared k l 0 (replicate k true) M) e
        ∙ cond-true (ltb 0 (length (M.own l))) _ M (lt-ltb 0 (length (M.own l)) lt)
        ∙ ap (λ B. cleared n l 0 B (removed l 0 M)) (swapped_true n)
        ∙ ap (λ k. cleared k l 0 (replicate k true) (removed l 0 M)) (sym fewer)

-- nothing is left
pub all_done : (l : ℕ) (M : Meaning) → length (M.own l) ≡ 0 → clear_all l M ≡ M
unfolding cleared
all_done l M e = whole l M ∙ ap (λ k. cleared k l 0 (replicate k true) M) e
