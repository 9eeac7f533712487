-- The search through the rows. Assumes nothing.
use Rattle.std.proofs.Common.{◌≡◌, ℕ, zero, suc, ◌+◌, ◌*◌, ◌%◌, ◌^◌, ◌<◌, ◌≤◌, Bool, true, false, not, ◌&&◌, ◌||◌, List, [], length, Ok, Err, sym, refl, ap, ◌∙◌, arith}
use Rattle.std.proofs.lemmas.Bool.{cond-true, cond-false}
use Rattle.network.specs.Assignments.{Assignment, put, holds, sat}
use Rattle.image.specs.Runs.{Front, clauses}
use Rattle.image.specs.Faults.{fault}
use Rattle.image.proofs.Walks.{clauses_on, clauses_none}
use Rattle.network.specs.Rows.{row, allows, no_value, two_values, some_row}
use Rattle.network.proofs.Rows.{some_at, some_none, some_more}
use Rattle.intake.specs.Answers.{searched}

-- so far the clauses of a row refute what is marked
abbrev pub SoFar : Assignment → List ℕ → List ℕ → Bool → Type 0
SoFar σ run ws b = (b && sat σ (clauses ws)) ≡ sat σ (clauses run)

and_on : (b h s : Bool) → ((b && h) && s) ≡ (b && (h && s))
and_on true h s = refl
and_on false h s = refl

and_true : (b : Bool) → (b && true) ≡ b
and_true true = refl
and_true false = refl

pub so_far_on : (σ : Assignment) (run ws c rest : List ℕ) (b d : Bool) → Front ws c rest → SoFar σ run ws b → d ≡ (b && holds σ c) → SoFar σ run rest d
so_far_on σ run ws c rest b d f i e =
    ap (λ (x : Bool). x && sat σ (clauses rest)) e ∙ and_on b (holds σ c) (sat σ (clauses rest)) ∙ ap (λ (z : List (List ℕ)). b && sat σ z) (sym (clauses_on ws c rest f)) ∙ i

pub so_far_end : (σ : Assignment) (run ws : List ℕ) (b : Bool) → ws ≡ [] → SoFar σ run ws b → b ≡ sat σ (clauses run)
so_far_end σ run ws b z i = sym (and_true b) ∙ ap (λ (z : List (List ℕ)). b && sat σ z) (sym (clauses_none ws z)) ∙ i

-- the rows so far
abbrev pub RowsPassed : List ℕ → ℕ → List ℕ → ℕ → Bool → Type 0
RowsPassed xs n run r loose = (some_row (no_value xs n (clauses run)) r ≡ false) × (loose ≡ some_row (two_values xs n (clauses run)) r)

pub rows_none : (xs : List ℕ) (n : ℕ) (run : List ℕ) → RowsPassed xs n run 0 false
rows_none xs n run = (some_none (no_value xs n (clauses run)), sym (some_none (two_values xs n (clauses run))))

module _ (xs : List ℕ) (n : ℕ) (run ws : List ℕ) (r : ℕ) (off on : Bool) (f : SoFar (put (row xs r) n false) run ws off) (t : SoFar (put (row xs r) n true) run ws on) where
  -- a row that allows a value
  pub rows_on : (loose more : Bool) → ws ≡ [] → (off || on) ≡ true → RowsPassed xs n run r loose → more ≡ (loose || (off && on)) → RowsPassed xs n run (r + 1) more
  rows_on loose more z k p e =
      let a : off ≡ allows xs n (clauses run) false r = so_far_end _ run ws off z f in
      let b : on ≡ allows xs n (clauses run) true r = so_far_end _ run ws on z t in
      let x = some_more (no_value xs n (clauses run)) r in
      let y = some_more (two_values xs n (clauses run)) r in
      passed off on _ _ _ _ loose more a b x y k p e
    where
      passed : (off on : Bool) {A B : Bool} (s s' l l' loose more : Bool) → off ≡ A → on ≡ B → s' ≡ ((not A && not B) || s) → l' ≡ ((A && B) || l) → (off || on) ≡ true → (s ≡ false) × (loose ≡ l) → more ≡ (loose || (off && on)) → (s' ≡ false) × (more ≡ l')
      passed off on s s' l l' loose more a b x y k p e = grind arith

  -- a row that allows none
  pub rows_stop : (k : ℕ) → r < k → off ≡ false → on ≡ false → some_row (no_value xs n (clauses run)) k ≡ true
  rows_stop k h a b =
      let x : allows xs n (clauses run) false r ≡ false = sym f ∙ ap (λ (o : Bool). o && sat (put (row xs r) n false) (clauses ws)) a in
      let y : allows xs n (clauses run) true r ≡ false = sym t ∙ ap (λ (o : Bool). o && sat (put (row xs r) n true) (clauses ws)) b in
      some_at (no_value xs n (clauses run)) k r h (ap (λ (o : Bool). not o && not (allows xs n (clauses run) true r)) x ∙ ap (λ (o : Bool). true && not o) y)

-- the number of rows
pub rows_count : (n : ℕ) → n ≤ 8 → (1 * 2 ^ n) % 4294967296 ≡ 2 ^ n
rows_count zero h = refl
rows_count (suc zero) h = refl
rows_count (suc (suc zero)) h = refl
rows_count (suc (suc (suc zero))) h = refl
rows_count (suc (suc (suc (suc zero)))) h = refl
rows_count (suc (suc (suc (suc (suc zero))))) h = refl
rows_count (suc (suc (suc (suc (suc (suc zero)))))) h = refl
rows_count (suc (suc (suc (suc (suc (suc (suc zero))))))) h = refl
rows_count (suc (suc (suc (suc (suc (suc (suc (suc zero)))))))) h = refl
rows_count (suc (suc (suc (suc (suc (suc (suc (suc (suc n))))))))) h = absurd (omega arith)

pub searched_clash : (xs : List ℕ) (n : ℕ) (Cs : List (List ℕ)) → some_row (no_value xs n Cs) (2 ^ length xs) ≡ true → Err (fault 6 n) ≡ searched xs n Cs
unfolding searched
searched_clash xs n Cs h = sym (cond-true _ _ _ h)

pub searched_done : (xs : List ℕ) (n : ℕ) (run : List ℕ) (r : ℕ) (loose : Bool) → r ≡ 2 ^ length xs → RowsPassed xs n run r loose → Ok loose ≡ searched xs n (clauses run)
unfolding searched
searched_done xs n run r loose e (a, b) =
    let x : some_row (no_value xs n (clauses run)) (2 ^ length xs) ≡ false = ap (some_row (no_value xs n (clauses run))) (sym e) ∙ a in
    ap Ok (b ∙ ap (some_row (two_values xs n (clauses run))) e) ∙ sym (cond-false _ _ _ x)
