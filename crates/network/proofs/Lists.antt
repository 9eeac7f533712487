-- Membership, and tests over a list. Assumes nothing.
use Rattle.std.proofs.Common.{◌≡◌, ℕ, Bool, true, false, eqb, ◌⊎◌, List, [], ◌∷◌, ◌++◌, map, Some, None, filter, Option, sym, refl, ap, subst, inl, inr, ⊎_elim, arith, flat_map, option_to_list, fold}
use Rattle.std.specs.List.{list_any, list_all}
use Rattle.std.proofs.lemmas.Bool.{eqb-true}
use Rattle.network.specs.Clauses.{has}
use Rattle.network.specs.Lists.{In}

module _ {X : Type 0} where
  pub in_left : (x : X) (xs ys : List X) → In x xs → In x (xs ++ ys)
  in_left x [] ys h = absurd h
  in_left x (y ∷ xs) ys h = grind (arith, in_left x xs ys)

  pub in_right : (x : X) (xs ys : List X) → In x ys → In x (xs ++ ys)
  in_right x [] ys h = h
  in_right x (y ∷ xs) ys h = inr (in_right x xs ys h)

  pub in_cases : (x : X) (xs ys : List X) → In x (xs ++ ys) → In x xs ⊎ In x ys
  in_cases x [] ys h = inr h
  in_cases x (y ∷ xs) ys h = grind (arith, in_cases x xs ys)

  pub in_kept : (p : X → Bool) (x : X) (xs : List X) → In x xs → p x ≡ true → In x (filter p xs)
  in_kept p x [] h t = h
  in_kept p x (y ∷ xs) h t = grind (arith, in_kept p x xs)

  pub kept_in : (p : X → Bool) (x : X) (xs : List X) → In x (filter p xs) → In x xs × (p x ≡ true)
  kept_in p x [] h = absurd h
  kept_in p x (y ∷ xs) h = grind (arith, kept_in p x xs)

  pub in_map : {Y : Type 0} (f : X → Y) (x : X) (xs : List X) → In x xs → In (f x) (map f xs)
  in_map f x [] h = h
  in_map f x (y ∷ xs) h = grind (arith, in_map f x xs)

  pub map_in : {Y : Type 0} (f : X → Y) (z : Y) (xs : List X) → In z (map f xs) → (x : X) × In x xs × (z ≡ f x)
  map_in f z [] h = absurd h
  map_in f z (y ∷ xs) h = grind (arith, map_in f z xs)

  pub any_from : (p : X → Bool) (xs : List X) (x : X) → In x xs → p x ≡ true → list_any p xs ≡ true
  any_from p [] x h t = absurd h
  any_from p (y ∷ xs) x h t = grind (arith, any_from p xs x)

  pub any_some : (p : X → Bool) (xs : List X) → list_any p xs ≡ true → (x : X) × In x xs × (p x ≡ true)
  any_some p [] e = grind arith
  any_some p (y ∷ xs) e = grind (arith, any_some p xs)

  pub any_none : (p : X → Bool) (xs : List X) → list_any p xs ≡ false → (x : X) → In x xs → p x ≡ false
  any_none p [] e x i = absurd i
  any_none p (y ∷ xs) e x i = grind (arith, any_none p xs)

  pub all_at : (p : X → Bool) (xs : List X) → list_all p xs ≡ true → (x : X) → In x xs → p x ≡ true
  all_at p [] e x i = absurd i
  all_at p (y ∷ xs) e x i = grind (arith, all_at p xs)

  pub all_from : (p : X → Bool) (xs : List X) → ((x : X) → In x xs → p x ≡ true) → list_all p xs ≡ true
  all_from p [] h = refl
  all_from p (y ∷ xs) h = grind (arith, h y (inl refl), all_from p xs (λ x i. h x (inr i)))

  pub all_not : (p : X → Bool) (xs : List X) → list_all p xs ≡ false → (x : X) × In x xs × (p x ≡ false)
  all_not p [] e = grind arith
  all_not p (y ∷ xs) e = grind (arith, all_not p xs)

  pub any_same : (p q : X → Bool) (xs : List X) → ((x : X) → In x xs → p x ≡ q x) → list_any p xs ≡ list_any q xs
  any_same p q [] h = refl
  any_same p q (y ∷ xs) h = grind (arith, h y (inl refl), any_same p q xs (λ x i. h x (inr i)))

  pub all_same : (p q : X → Bool) (xs : List X) → ((x : X) → In x xs → p x ≡ q x) → list_all p xs ≡ list_all q xs
  all_same p q [] h = refl
  all_same p q (y ∷ xs) h = grind (arith, h y (inl refl), all_same p q xs (λ x i. h x (inr i)))

  pub all_kept : (p q : X → Bool) (xs : List X) → list_all p xs ≡ true → list_all p (filter q xs) ≡ true
  all_kept p q [] h = refl
  all_kept p q (x ∷ xs) h = grind (arith, all_kept p q xs)

-- what each step of a fold keeps, the fold keeps; and what the step at one element brings and the others keep, the fold brings
module _ {X Y : Type 0} (P : Y → Type 0) (f : Y → X → Y) where
  pub fold_keeps : (xs : List X) → ((x : X) → In x xs → (y : Y) → P y → P (f y x)) → (y : Y) → P y → P (fold f y xs)
  fold_keeps [] step y p = p
  fold_keeps (x ∷ xs) step y p = fold_keeps xs (λ a i. step a (inr i)) (f y x) (step x (inl refl) y p)

  pub fold_gets : (xs : List X) (x : X) → In x xs → ((a : X) (y : Y) → P y → P (f y a)) → ((y : Y) → P (f y x)) → (y : Y) → P (fold f y xs)
  fold_gets [] x i keeps here y = absurd i
  fold_gets (a ∷ xs) x (inl e) keeps here y = fold_keeps xs (λ b _. keeps b) (f y a) (subst (λ b. P (f y b)) e (here y))
  fold_gets (a ∷ xs) x (inr i) keeps here y = fold_gets xs x i keeps here (f y a)

module _ {X Y : Type 0} (f : X → List Y) where
  pub in_flat_map : (xs : List X) (x : X) (y : Y) → In x xs → In y (f x) → In y (flat_map f xs)
  in_flat_map [] x y i j = absurd i
  in_flat_map (z ∷ xs) x y (inl e) j = in_left y (f z) (flat_map f xs) (subst (λ u. In y (f u)) e j)
  in_flat_map (z ∷ xs) x y (inr i) j = in_right y (f z) (flat_map f xs) (in_flat_map xs x y i j)

  pub flat_map_in : (xs : List X) (y : Y) → In y (flat_map f xs) → (x : X) × In x xs × In y (f x)
  flat_map_in [] y i = absurd i
  flat_map_in (z ∷ xs) y i = ⊎_elim (λ j. (z, inl refl, j)) (λ j. let k = flat_map_in xs y j in (k.0, inr k.1, k.2)) (in_cases y (f z) (flat_map f xs) i)

pub in_option : {X : Type 0} (o : Option X) (x : X) → o ≡ Some x → In x (option_to_list o)
in_option o x e = rw e (inl refl)

pub option_in : {X : Type 0} (o : Option X) (x : X) → In x (option_to_list o) → o ≡ Some x
option_in None x i = absurd i
option_in (Some y) x (inl e) = ap Some (sym e)
option_in (Some y) x (inr i) = absurd i

pub has_in : (l : ℕ) (D : List ℕ) → has l D ≡ true → In l D
has_in l D h = let k = any_some (eqb l) D h in rw (eqb-true l k.0 k.2) k.1
