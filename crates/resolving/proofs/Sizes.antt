-- How long the lists of a lawful store are. Assumes nothing.
use Rattle.std.proofs.Common.{◌≡◌, ℕ, ◌+◌, ◌*◌, ◌<◌, ◌≤◌, List, [], ◌∷◌, length, get_or, refl, ap, ⊎_elim, arith}
use Rattle.std.proofs.lemmas.Bool.{cases_lt}
use Rattle.std.proofs.lemmas.List.{get_or_past}
use Rattle.rules.specs.Store.{Ref, live, dead, Meaning, count, clause_at}
use Rattle.rules.specs.Bve.{cost, referred_clause}
use Rattle.rules.specs.Lawful.{Lawful}
use Rattle.rules.proofs.Formed.{formed_parts}
use Rattle.rules.proofs.Lawful.{own_few, own_small}
use Rattle.rules.proofs.Passes.{counts_small}
use Rattle.rules.proofs.Places.{in_at}

module _ (M : Meaning) (L : Lawful M) where
  -- a literal has no more uses and no more clauses than there is room
  pub lists_few : (x : ℕ) → count M x + length (M.own x) ≤ 2 * M.room
  lists_few x = omega (arith, counts_small M L x, L.within, own_few M L x)

  -- a literal past the nodes has no clause and no use
  pub own_none : (l : ℕ) → 2048 ≤ l → M.own l ≡ []
  own_none l h = nothing (M.own l) (⊎_elim (λ e. let s = own_small M L l 0 e in absurd (omega arith)) (λ g. g) (cases_lt 0 (length (M.own l))))
    where
      nothing : (Cs : List (List ℕ)) → length Cs ≤ 0 → Cs ≡ []
      nothing [] g = refl
      nothing (C ∷ Cs) g = absurd (omega arith)

  -- a node past the highest costs nothing
  pub cost_none : (n : ℕ) → 1023 < n → cost M n ≡ 0
  cost_none n h =
      omega (arith, ap length (own_none (2 * n) (omega arith)), ap length (own_none (2 * n + 1) (omega arith)), ap length (L.bounded (2 * n) (omega arith)), ap length (L.bounded (2 * n + 1) (omega arith)))

  -- no clause has more than 32 literals
  pub clause_short : (l i : ℕ) → length (clause_at M l i) ≤ 32
  clause_short l i = ⊎_elim (λ h. (formed_parts (get_or (M.own l) i []) (L.formed l (get_or (M.own l) i []) (in_at (M.own l) i [] h))).short) (λ g. let e = ap length (get_or_past (M.own l) i [] g) in omega arith) (cases_lt i (length (M.own l)))

  -- nor has one that a ref is to
  pub referred_short : (r : Ref) → length (referred_clause M r) ≤ 32
  referred_short (live l i) = clause_short l i
  referred_short dead = omega arith
