-- Members of lists. Assumes nothing.
use Rattle.std.proofs.Common.{◌≡◌, ℕ, zero, suc, ◌<◌, false, not, eqb, ltb, List, [], ◌∷◌, length, get_or, sym, refl, ap, ◌∙◌, subst, inl, inr, arith}
use Rattle.std.specs.List.{AllByRecursion, list_any}
use Rattle.std.proofs.lemmas.Bool.{both_ways, cases_Bool, lt-ltb, ne_eqb}
use Rattle.network.specs.Lists.{In}
use Rattle.network.specs.Clauses.{has, without}
use Rattle.network.proofs.Lists.{any_from, any_some, has_in, in_kept, kept_in}
use Rattle.rings.specs.Rings.{Lacks}
use Rattle.rules.specs.Store.{literals}
use Rattle.rules.proofs.Answers.{has_from}
use Rattle.rules.proofs.Index.{in_up_to}
use Rattle.slots.proofs.Slots.{member}
use Rattle.owned.proofs.Moves.{all_in, in_all}

pub lacks_not : (x : ℕ) (xs : List ℕ) → Lacks x xs → In x xs → ⊥
lacks_not x xs l h = all_in (λ y. y ≡ x → ⊥) xs l x h refl

pub not_lacks : (x : ℕ) (xs : List ℕ) → (In x xs → ⊥) → Lacks x xs
not_lacks x xs n = in_all (λ y. y ≡ x → ⊥) xs (λ y h e. n (subst (λ z. In z xs) e h))

pub none_in : (xs : List ℕ) → ((x : ℕ) → In x xs → ⊥) → xs ≡ []
none_in [] n = refl
none_in (x ∷ xs) n = absurd (n x (inl refl))

pub has_not : (x : ℕ) (xs : List ℕ) → (In x xs → ⊥) → has x xs ≡ false
has_not x xs n = elim (cases_Bool (has x xs)) [ inl t ↦ absurd (n (has_in x xs t)) | inr f ↦ f ]

-- lists that have the same
pub has_same : (x : ℕ) (xs ys : List ℕ) → (In x xs → In x ys) → (In x ys → In x xs) → has x xs ≡ has x ys
has_same x xs ys f g =
    elim (cases_Bool (has x xs)) [
      | inl t ↦ t ∙ sym (has_from x ys (f (has_in x xs t)))
      | inr e ↦ e ∙ sym (has_not x ys (λ h. both_ways (has x xs) e (has_from x xs (g h))))
    ]

pub place_of : (x : ℕ) (xs : List ℕ) → In x xs → (i : ℕ) × (i < length xs) × (get_or xs i 0 ≡ x)
place_of x xs h = elim (member x xs) [ inl p ↦ p | inr l ↦ absurd (lacks_not x xs l h) ]

pub place_in : (x : ℕ) (xs : List ℕ) (i : ℕ) → i < length xs → get_or xs i 0 ≡ x → In x xs
place_in x [] i h e = absurd (omega arith)
place_in x (y ∷ ys) zero h e = inl (sym e)
place_in x (y ∷ ys) (suc i) h e = inr (place_in x ys i (omega arith) e)

-- the others stay
pub has_without : (x z : ℕ) (xs : List ℕ) → (x ≡ z → ⊥) → has x (without z xs) ≡ has x xs
has_without x z xs n = has_same x (without z xs) xs (λ h. (kept_in (λ l. not (eqb l z)) x xs h).0) (λ h. in_kept (λ l. not (eqb l z)) x xs h (ap not (ne_eqb x z n)))

-- lists with the same members are both empty or neither
pub some_same : (xs ys : List ℕ) → ((x : ℕ) → has x xs ≡ has x ys) → ltb 0 (length xs) ≡ ltb 0 (length ys)
some_same [] [] e = refl
some_same [] (y ∷ ys) e = absurd (both_ways (has y (y ∷ ys)) (sym (e y)) (has_from y (y ∷ ys) (inl refl)))
some_same (x ∷ xs) [] e = absurd (both_ways (has x (x ∷ xs)) (e x) (has_from x (x ∷ xs) (inl refl)))
some_same (x ∷ xs) (y ∷ ys) e = lt-ltb 0 (length (x ∷ xs)) (omega arith) ∙ sym (lt-ltb 0 (length (y ∷ ys)) (omega arith))

-- nothing is in empty lists
pub any_nothing : (x : ℕ) (f : ℕ → List ℕ) (ls : List ℕ) → ((k : ℕ) → f k ≡ []) → list_any (λ k. has x (f k)) ls ≡ false
any_nothing x f ls e = elim (cases_Bool (list_any (λ k. has x (f k)) ls)) [ inl t ↦ absurd (let k = any_some (λ k. has x (f k)) ls t in has_in x [] (sym (ap (has x) (e k.0)) ∙ k.2)) | inr n ↦ n ]

-- a list of literals of the nodes up to 1,023 is not empty if and only if one of those is in it
pub any_low : (xs : List ℕ) → AllByRecursion (λ k. k < 2048) xs → list_any (λ k. has k xs) literals ≡ ltb 0 (length xs)
any_low [] a = elim (cases_Bool (list_any (λ k. has k []) literals)) [ inl t ↦ absurd (let k = any_some (λ k. has k []) literals t in has_in k.0 [] k.2) | inr f ↦ f ]
any_low (x ∷ xs) a = any_from (λ k. has k (x ∷ xs)) literals x (in_up_to 2048 x a.0) (has_from x (x ∷ xs) (inl refl)) ∙ sym (lt-ltb 0 (length (x ∷ xs)) (omega arith))
