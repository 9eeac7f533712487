-- A clause's last literal by its place, and the test of its form. Assumes nothing.
use Rattle.std.proofs.Common.{◌≡◌, ℕ, suc, ◌-◌, ◌<◌, ◌≤◌, true, ltb, List, [], ◌∷◌, length, get_or, sym, refl, ap, ◌∙◌, arith}
use Rattle.std.proofs.lemmas.Bool.{lt-ltb, le-leb}
use Rattle.network.specs.Clauses.{last, in_order, well_formed}

-- the last literal by its place
pub last_is : (c : List ℕ) → 0 < length c → last c ≡ get_or c (length c - 1) 0
last_is [] h = absurd (omega arith)
last_is (x ∷ []) h = refl
last_is (x ∷ (y ∷ ys)) h =
    let i : suc (length (y ∷ ys) - 1) ≡ length (x ∷ (y ∷ ys)) - 1 = omega arith in
    last_is (y ∷ ys) (omega arith) ∙ ap (λ (n : ℕ). get_or (x ∷ (y ∷ ys)) n 0) i

-- what is left to be tested of literals in order
pub well_is : (c : List ℕ) → 0 < length c → length c ≤ 32 → in_order c ≡ true → ltb (get_or c (length c - 1) 0) 2048 ≡ well_formed c
well_is c a b e =
    let p = lt-ltb 0 (length c) a in
    let q = le-leb (length c) 32 b in
    ap (λ (n : ℕ). ltb n 2048) (sym (last_is c a)) ∙ rw (p, q, e) refl
