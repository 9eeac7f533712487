-- Lists with a place taken out, and families with one value changed. Assumes nothing.
use Rattle.std.proofs.Common.{◌≡◌, ℕ, zero, suc, ◌-◌, ◌<◌, ◌≤◌, eqb, List, [], ◌∷◌, map, length, get_or, take, set, sym, refl, ap, ◌∙◌, subst, arith}
use Rattle.std.specs.List.{AllByRecursion}
use Rattle.std.proofs.lemmas.Bool.{cond-true, cond-false, eq-eqb, ne_eqb}
use Rattle.std.proofs.ByRecursion.{All-get_or}
use Rattle.rings.specs.Rings.{Lacks, Differ, without, before, drop_at, at}
use Rattle.rings.proofs.Paths.{without_here, without_other}
use Rattle.rings.proofs.Holes.{without_lacks}

pub at_here : {X : Type 0} (f : ℕ → X) (l : ℕ) (x : X) (k : ℕ) → k ≡ l → at f l x k ≡ x
at_here f l x k e = cond-true (eqb k l) x (f k) (eq-eqb k l e)

pub at_else : {X : Type 0} (f : ℕ → X) (l : ℕ) (x : X) (k : ℕ) → (k ≡ l → ⊥) → at f l x k ≡ f k
at_else f l x k e = cond-false (eqb k l) x (f k) (ne_eqb k l e)

pub drop_at_all : (P : ℕ → Type 0) (i : ℕ) (xs : List ℕ) → AllByRecursion P xs → AllByRecursion P (drop_at i xs)
unfolding drop_at
drop_at_all P i [] h = tt
drop_at_all P zero (x ∷ xs) h = h.1
drop_at_all P (suc i) (x ∷ xs) h = (h.0, drop_at_all P i xs h.1)

pub drop_at_differ : (i : ℕ) (xs : List ℕ) → Differ xs → Differ (drop_at i xs)
unfolding drop_at Differ
drop_at_differ i [] d = tt
drop_at_differ zero (x ∷ xs) d = d.1
drop_at_differ (suc i) (x ∷ xs) d = (drop_at_all (λ y. y ≡ x → ⊥) i xs d.0, drop_at_differ i xs d.1)

pub drop_at_length : {X : Type 0} (i : ℕ) (xs : List X) → i < length xs → length (drop_at i xs) ≡ length xs - 1
unfolding drop_at
drop_at_length i [] h = absurd (omega arith)
drop_at_length zero (x ∷ xs) h = omega arith
drop_at_length (suc i) (x ∷ xs) h = let e = drop_at_length i xs (omega arith) in omega arith

pub drop_at_low : {X : Type 0} (i j : ℕ) (xs : List X) (d : X) → j < i → get_or (drop_at i xs) j d ≡ get_or xs j d
unfolding drop_at
drop_at_low i j [] d h = refl
drop_at_low zero j (x ∷ xs) d h = absurd (omega arith)
drop_at_low (suc i) zero (x ∷ xs) d h = refl
drop_at_low (suc i) (suc j) (x ∷ xs) d h = drop_at_low i j xs d (omega arith)

pub drop_at_high : {X : Type 0} (i j : ℕ) (xs : List X) (d : X) → i ≤ j → get_or (drop_at i xs) j d ≡ get_or xs (suc j) d
unfolding drop_at
drop_at_high i j [] d h = refl
drop_at_high zero j (x ∷ xs) d h = refl
drop_at_high (suc i) zero (x ∷ xs) d h = absurd (omega arith)
drop_at_high (suc i) (suc j) (x ∷ xs) d h = drop_at_high i j xs d (omega arith)

pub drop_at_out : (i : ℕ) (xs : List ℕ) → i < length xs → Differ xs → Lacks (get_or xs i 0) (drop_at i xs)
unfolding drop_at Differ
drop_at_out i [] h d = tt
drop_at_out zero (x ∷ xs) h d = d.0
drop_at_out (suc i) (x ∷ xs) h d = (λ e. All-get_or (λ y. y ≡ x → ⊥) xs i 0 (omega arith) d.0 (sym e), drop_at_out i xs (omega arith) d.1)

pub drop_at_map : (f : ℕ → List ℕ) (i : ℕ) (xs : List ℕ) → map f (drop_at i xs) ≡ drop_at i (map f xs)
unfolding drop_at
drop_at_map f i [] = refl
drop_at_map f zero (x ∷ xs) = refl
drop_at_map f (suc i) (x ∷ xs) = ap (λ (ys : List (List ℕ)). f x ∷ ys) (drop_at_map f i xs)

-- taking out the slot of a place
pub without_at : (i : ℕ) (xs : List ℕ) → i < length xs → Differ xs → without (get_or xs i 0) xs ≡ drop_at i xs
unfolding drop_at Differ
without_at i [] h d = absurd (omega arith)
without_at zero (x ∷ xs) h d = without_here x x xs refl ∙ without_lacks x xs d.0
without_at (suc i) (x ∷ xs) h d =
    without_other (get_or xs i 0) x xs (λ e. All-get_or (λ y. y ≡ x → ⊥) xs i 0 (omega arith) d.0 (sym e))
    ∙ ap (λ (ys : List ℕ). x ∷ ys) (without_at i xs (omega arith) d.1)

-- the last place
pub drop_at_last : {X : Type 0} (n : ℕ) (xs : List X) → length xs ≡ suc n → drop_at n xs ≡ take n xs
unfolding drop_at
drop_at_last n [] h = absurd (omega arith)
drop_at_last zero (x ∷ []) h = refl
drop_at_last zero (x ∷ (y ∷ ys)) h = absurd (omega arith)
drop_at_last (suc n) (x ∷ xs) h = ap (λ ys. x ∷ ys) (drop_at_last n xs (omega arith))

-- a list that lacks x
untouched : (x z : ℕ) (ys : List ℕ) (b : ℕ) → (z ≡ x → ⊥) → (b ≡ x → ⊥) → Lacks x ys → without x (before x z ys b) ≡ ys
unfolding before
untouched x z [] b nz nb l = ap (without x) (cond-false (eqb b x) (z ∷ []) [] (ne_eqb b x nb))
untouched x z (y ∷ ys) b nz nb l =
    ap (without x) (cond-false (eqb y x) (z ∷ (y ∷ before x z ys b)) (y ∷ before x z ys b) (ne_eqb y x l.0))
    ∙ without_other x y (before x z ys b) l.0
    ∙ ap (λ (ws : List ℕ). y ∷ ws) (untouched x z ys b nz nb l.1)

-- z in the place of slot x
pub instead : (x z : ℕ) (xs : List ℕ) (b i : ℕ) → (z ≡ x → ⊥) → (b ≡ x → ⊥) → i < length xs → Differ xs → get_or xs i 0 ≡ x → without x (before x z xs b) ≡ set xs i z
unfolding before Differ
instead x z [] b i nz nb h d e = absurd (omega arith)
instead x z (y ∷ ys) b zero nz nb h d e =
    let r = before x z ys b in
    let rest : without x r ≡ ys = untouched x z ys b nz nb (subst (λ (w : ℕ). Lacks w ys) e d.0) in
    ap (without x) (cond-true (eqb y x) (z ∷ (y ∷ r)) (y ∷ r) (eq-eqb y x e)) ∙ without_other x z (y ∷ r) nz ∙ ap (λ (ws : List ℕ). z ∷ ws) (without_here x y r e ∙ rest)
instead x z (y ∷ ys) b (suc i) nz nb h d e =
    let r = before x z ys b in
    let ne : y ≡ x → ⊥ = λ q. All-get_or (λ w. w ≡ y → ⊥) ys i 0 (omega arith) d.0 (e ∙ sym q) in
    ap (without x) (cond-false (eqb y x) (z ∷ (y ∷ r)) (y ∷ r) (ne_eqb y x ne)) ∙ without_other x y r ne ∙ ap (λ (ws : List ℕ). y ∷ ws) (instead x z ys b i nz nb (omega arith) d.1 e)
