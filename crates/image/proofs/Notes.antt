-- The lower nodes of a run, one after another. Assumes nothing.
use Rattle.std.proofs.Common.{◌≡◌, ℕ, ◌+◌, ◌<◌, ◌≤◌, true, ◌||◌, eqb, List, [], ◌∷◌, ◌++◌, length, get_or, drop, sym, ap, ◌∙◌, arith}
use Rattle.std.proofs.lemmas.List.{at_drop_more, length_push}
use Rattle.std.proofs.lemmas.Bool.{cond_both}
use Rattle.network.specs.Clauses.{has}
use Rattle.network.specs.Assignments.{node}
use Rattle.image.specs.Runs.{Front, whole, clauses}
use Rattle.image.proofs.Walks.{whole_on, whole_none, clauses_on, clauses_none}
use Rattle.network.specs.Rows.{noted, noted_in, noted_all, lower}

-- nodes noted
pub noted_more : (n k : ℕ) (xs : List ℕ) → length xs ≤ length (noted n xs k)
noted_more n k xs = cond_both (eqb k 0 || (eqb k n || has k xs)) xs (xs ++ (k ∷ [])) (λ (z : List ℕ). length xs ≤ length z) (λ e. omega arith) (λ e. omega (arith, length_push xs k))

pub noted_in_more : (n : ℕ) (xs C : List ℕ) → length xs ≤ length (noted_in n xs C)
noted_in_more n xs [] = omega arith
noted_in_more n xs (l ∷ C) = omega (arith, noted_more n (node l) xs, noted_in_more n (noted n xs (node l)) C)

pub noted_all_more : (n : ℕ) (xs : List ℕ) (Cs : List (List ℕ)) → length xs ≤ length (noted_all n xs Cs)
noted_all_more n xs [] = omega arith
noted_all_more n xs (C ∷ Cs) = omega (arith, noted_in_more n xs C, noted_all_more n (noted_in n xs C) Cs)

module _ (n : ℕ) (xs C zs : List ℕ) (i : ℕ) (inv : noted_in n xs (drop i C) ≡ zs) where
  pub note_full : i < length C → 8 < length (noted n xs (node (get_or C i 0))) → 8 < length zs
  note_full h l =
      omega (arith, l, noted_in_more n (noted n xs (node (get_or C i 0))) (drop (i + 1) C), ap length (sym (at_drop_more (noted_in n xs) C i 0 h) ∙ inv))

-- the clauses so far
abbrev pub Noting : ℕ → List ℕ → List ℕ → List ℕ → Type 0
Noting n run ws xs = (whole ws ≡ whole run) × (noted_all n xs (clauses ws) ≡ lower n (clauses run))

module _ (n : ℕ) (run ws c rest xs : List ℕ) (f : Front ws c rest) (i : Noting n run ws xs) where
  pub noting_on : (ys : List ℕ) → ys ≡ noted_in n xs c → Noting n run rest ys
  noting_on ys e =
      (sym (whole_on ws c rest f) ∙ i.0, ap (λ (y : List ℕ). noted_all n y (clauses rest)) e ∙ ap (noted_all n xs) (sym (clauses_on ws c rest f)) ∙ i.1)

  pub noting_full : 8 < length (noted_in n xs c) → 8 < length (lower n (clauses run))
  noting_full l =
      omega (arith, l, noted_all_more n (noted_in n xs c) (clauses rest), ap length (ap (noted_all n xs) (sym (clauses_on ws c rest f)) ∙ i.1))

pub noting_end : (n : ℕ) (run ws xs : List ℕ) → ws ≡ [] → Noting n run ws xs → (whole run ≡ true) × (xs ≡ lower n (clauses run))
noting_end n run ws xs z i = (sym i.0 ∙ whole_none ws z, ap (noted_all n xs) (sym (clauses_none ws z)) ∙ i.1)
