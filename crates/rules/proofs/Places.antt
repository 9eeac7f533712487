-- Lists by places, and the network of a store. Assumes nothing.
use Rattle.std.proofs.Common.{◌≡◌, ℕ, zero, suc, ◌+◌, ◌-◌, ◌*◌, ◌<◌, ◌≤◌, cond, ltb, ◌⊎◌, List, [], ◌∷◌, length, get_or, set, sym, refl, ap, ◌∙◌, subst, inl, inr, ⊎_elim, arith}
use Rattle.std.specs.List.{remove}
use Rattle.std.proofs.lemmas.Bool.{cases_eq}
use Rattle.std.proofs.lemmas.Bool.Decides.{nat_tests}
use Rattle.std.proofs.lemmas.List.Edits.{get_or-remove_above, get_or-remove_below, length-remove}
use Rattle.std.proofs.lemmas.List.{get_or-set_other, get_or-set_same, length-set}
use Rattle.network.specs.Assignments.{node}
use Rattle.network.specs.Lists.{In}
use Rattle.network.specs.Clauses.{without, last}
use Rattle.network.proofs.Lists.{in_left, in_right, in_cases}
use Rattle.rules.specs.Store.{Meaning, changed, retired, shortened}
use Rattle.rules.specs.Held.{held, Placed}

module _ {X : Type 0} where
  pub in_at : (xs : List X) (i : ℕ) (d : X) → i < length xs → In (get_or xs i d) xs
  in_at [] i d l = absurd (omega arith)
  in_at (x ∷ xs) zero d l = inl refl
  in_at (x ∷ xs) (suc i) d l = inr (in_at xs i d (omega arith))

  pub at_in : (xs : List X) (x d : X) → In x xs → (i : ℕ) × (i < length xs) × (get_or xs i d ≡ x)
  at_in [] x d h = absurd h
  at_in (y ∷ xs) x d (inl e) = (0, omega arith, sym e)
  at_in (y ∷ xs) x d (inr h) = let (i, l, e) = at_in xs x d h in (suc i, omega arith, e)

  -- remove
  pub closed_in : (xs : List X) (i : ℕ) (x : X) → In x (remove xs i) → In x xs
  closed_in [] zero x h = h
  closed_in [] (suc i) x h = h
  closed_in (y ∷ xs) zero x h = inr h
  closed_in (y ∷ xs) (suc i) x h = ⊎_elim inl (λ j. inr (closed_in xs i x j)) h

  pub in_closed : (xs : List X) (i : ℕ) (x d : X) → In x xs → In x (remove xs i) ⊎ (x ≡ get_or xs i d)
  in_closed [] i x d h = absurd h
  in_closed (y ∷ xs) zero x d h = ⊎_elim inr inl h
  in_closed (y ∷ xs) (suc i) x d h = ⊎_elim (λ e. inl (inl e)) (λ j. ⊎_elim (λ k. inl (inr k)) inr (in_closed xs i x d j)) h

  -- what stood before the place stands, and what stood behind it moves up
  pub closed_below : (xs : List X) (i j : ℕ) (d : X) → j < i → get_or (remove xs i) j d ≡ get_or xs j d
  closed_below [] zero j d l = absurd (omega arith)
  closed_below [] (suc i) j d l = refl
  closed_below (y ∷ xs) zero j d l = absurd (omega arith)
  closed_below (y ∷ xs) (suc i) zero d l = refl
  closed_below (y ∷ xs) (suc i) (suc j) d l = closed_below xs i j d (omega arith)

  pub closed_above : (xs : List X) (i j : ℕ) (d : X) → i ≤ j → get_or (remove xs i) j d ≡ get_or xs (suc j) d
  closed_above [] zero j d l = refl
  closed_above [] (suc i) j d l = refl
  closed_above (y ∷ xs) zero j d l = refl
  closed_above (y ∷ xs) (suc i) zero d l = absurd (omega arith)
  closed_above (y ∷ xs) (suc i) (suc j) d l = closed_above xs i j d (omega arith)

  -- set
  pub set_in : (xs : List X) (i : ℕ) (y x : X) → In x (set xs i y) → In x xs ⊎ (x ≡ y)
  set_in [] i y x h = absurd h
  set_in (z ∷ xs) zero y x h = ⊎_elim inr (λ j. inl (inr j)) h
  set_in (z ∷ xs) (suc i) y x h = ⊎_elim (λ e. inl (inl e)) (λ j. ⊎_elim (λ k. inl (inr k)) inr (set_in xs i y x j)) h

  pub in_set : (xs : List X) (i : ℕ) (y x d : X) → In x xs → In x (set xs i y) ⊎ (x ≡ get_or xs i d)
  in_set [] i y x d h = absurd h
  in_set (z ∷ xs) zero y x d h = ⊎_elim inr (λ j. inl (inr j)) h
  in_set (z ∷ xs) (suc i) y x d h = ⊎_elim (λ e. inl (inl e)) (λ j. ⊎_elim (λ k. inl (inr k)) inr (in_set xs i y x d j)) h

  pub set_here : (xs : List X) (i : ℕ) (y : X) → i < length xs → In y (set xs i y)
  set_here [] i y l = absurd (omega arith)
  set_here (z ∷ xs) zero y l = inl refl
  set_here (z ∷ xs) (suc i) y l = inr (set_here xs i y (omega arith))

pub changed_here : {X : Type 0} (f : ℕ → X) (l : ℕ) (x : X) → changed f l x l ≡ x
unfolding changed
changed_here f l x = grind (arith, nat_tests)

pub changed_apart : {X : Type 0} (f : ℕ → X) (l : ℕ) (x : X) (k : ℕ) → (k ≡ l → ⊥) → changed f l x k ≡ f k
unfolding changed
changed_apart f l x k a = grind (arith, nat_tests)

-- the clauses of a node are those of its two literals
pub held_in : (M : Meaning) (l : ℕ) (C : List ℕ) → In C (M.own l) → In C (held M (node l))
unfolding held
held_in M l C i = ⊎_elim
    (λ e. in_left C (M.own (2 * node l)) (M.own (2 * node l + 1)) (subst (λ k. In C (M.own k)) e i))
    (λ e. in_right C (M.own (2 * node l)) (M.own (2 * node l + 1)) (subst (λ k. In C (M.own k)) e i)) (sides l)
  where
    sides : (l : ℕ) → (l ≡ 2 * node l) ⊎ (l ≡ 2 * node l + 1)
    sides l = ⊎_elim inl (λ a. inr (omega (arith, a))) (cases_eq l (2 * node l))

pub in_held : (M : Meaning) (k : ℕ) (C : List ℕ) → In C (held M k) → (l : ℕ) × (node l ≡ k) × In C (M.own l)
unfolding held
in_held M k C i = ⊎_elim (λ j. (2 * k, omega arith, j)) (λ j. (2 * k + 1, omega arith, j)) (in_cases C (M.own (2 * k)) (M.own (2 * k + 1)) i)

-- one list of a store changed: what is in the network
module _ (M N : Meaning) (l : ℕ) (apart : (k : ℕ) → (k ≡ l → ⊥) → N.own k ≡ M.own k) where
  pub held_new : (k : ℕ) (E : List ℕ) → In E (held N k) → In E (held M k) ⊎ ((node l ≡ k) × In E (N.own l))
  held_new k E i =
      let (h, q, j) = in_held N k E i in
      ⊎_elim (λ e. inr (ap node (sym e) ∙ q, subst (λ g. In E (N.own g)) e j)) (λ a. inl (subst (λ g. In E (held M g)) q (held_in M h E (subst (In E) (apart h a) j)))) (cases_eq h l)

  pub held_old : (k : ℕ) (E : List ℕ) → In E (held M k) → In E (held N k) ⊎ ((node l ≡ k) × In E (M.own l))
  held_old k E i =
      let (h, q, j) = in_held M k E i in
      ⊎_elim (λ e. inr (ap node (sym e) ∙ q, subst (λ g. In E (M.own g)) e j)) (λ a. inl (subst (λ g. In E (held N g)) q (held_in N h E (subst (In E) (sym (apart h a)) j)))) (cases_eq h l)

-- retiring and shortening a clause
module _ (M : Meaning) (l i : ℕ) where
  pub retired_own : (retired l i M).own l ≡ remove (M.own l) i
  unfolding retired
  retired_own = changed_here M.own l (remove (M.own l) i)

  pub retired_apart : (k : ℕ) → (k ≡ l → ⊥) → (retired l i M).own k ≡ M.own k
  unfolding retired
  retired_apart k a = changed_apart M.own l (remove (M.own l) i) k a

  pub retired_part : (k : ℕ) (E : List ℕ) → In E (held (retired l i M) k) → In E (held M k)
  retired_part k E h = ⊎_elim (λ j. j)
      (λ (q, j). subst (λ g. In E (held M g)) q (held_in M l E (closed_in (M.own l) i E (subst (In E) retired_own j)))) (held_new M (retired l i M) l retired_apart k E h)

  pub retired_lost : (k : ℕ) (E : List ℕ) → In E (held M k) → In E (held (retired l i M) k) ⊎ ((node l ≡ k) × (E ≡ get_or (M.own l) i []))
  retired_lost k E h = ⊎_elim inl
      (λ (q, j). ⊎_elim (λ m. inl (subst (λ g. In E (held (retired l i M) g)) q (held_in (retired l i M) l E (subst (In E) (sym retired_own) m)))) (λ e. inr (q, e)) (in_closed (M.own l) i E [] j))
      (held_old M (retired l i M) l retired_apart k E h)

  -- the clause at another place of own l
  pub retired_at : (j : ℕ) → i < length (M.own l) → j < length (M.own l) → (j ≡ i → ⊥)
      → (cond (ltb i j) (j - 1) j < length ((retired l i M).own l)) × (get_or ((retired l i M).own l) (cond (ltb i j) (j - 1) j) [] ≡ get_or (M.own l) j [])
  retired_at j li lj a = grind (arith, nat_tests, retired_own, length-remove (M.own l) i li, get_or-remove_above (M.own l) i [] (j - 1), get_or-remove_below (M.own l) i [] j)

  module _ (x : ℕ) where
    pub shortened_own : (shortened l i x M).own l ≡ set (M.own l) i (without x (get_or (M.own l) i []))
    unfolding shortened
    shortened_own = changed_here M.own l (set (M.own l) i (without x (get_or (M.own l) i [])))

    pub shortened_apart : (k : ℕ) → (k ≡ l → ⊥) → (shortened l i x M).own k ≡ M.own k
    unfolding shortened
    shortened_apart k a = changed_apart M.own l (set (M.own l) i (without x (get_or (M.own l) i []))) k a

    pub shortened_new : (k : ℕ) (E : List ℕ) → In E (held (shortened l i x M) k) → In E (held M k) ⊎ ((node l ≡ k) × (E ≡ without x (get_or (M.own l) i [])))
    shortened_new k E h = ⊎_elim inl
        (λ (q, j). ⊎_elim (λ m. inl (subst (λ g. In E (held M g)) q (held_in M l E m))) (λ e. inr (q, e)) (set_in (M.own l) i (without x (get_or (M.own l) i [])) E (subst (In E) shortened_own j)))
        (held_new M (shortened l i x M) l shortened_apart k E h)

    pub shortened_old : (k : ℕ) (E : List ℕ) → In E (held M k) → In E (held (shortened l i x M) k) ⊎ ((node l ≡ k) × (E ≡ get_or (M.own l) i []))
    shortened_old k E h = ⊎_elim inl
        (λ (q, j). ⊎_elim (λ m. inl (subst (λ g. In E (held (shortened l i x M) g)) q (held_in (shortened l i x M) l E (subst (In E) (sym shortened_own) m)))) (λ e. inr (q, e)) (in_set (M.own l) i (without x (get_or (M.own l) i [])) E [] j))
        (held_old M (shortened l i x M) l shortened_apart k E h)

    pub shortened_here : i < length (M.own l) → In (without x (get_or (M.own l) i [])) (held (shortened l i x M) (node l))
    shortened_here h = held_in (shortened l i x M) l (without x (get_or (M.own l) i [])) (subst (In (without x (get_or (M.own l) i []))) (sym shortened_own) (set_here (M.own l) i (without x (get_or (M.own l) i [])) h))

    pub shortened_length : (k : ℕ) → length ((shortened l i x M).own k) ≡ length (M.own k)
    shortened_length k = grind (arith, nat_tests, shortened_own, length-set (M.own l) i (without x (get_or (M.own l) i [])), shortened_apart k, cases_eq k l)

    pub shortened_at : i < length (M.own l) → get_or ((shortened l i x M).own l) i [] ≡ without x (get_or (M.own l) i [])
    shortened_at h = ap (λ xs. get_or xs i []) shortened_own ∙ get_or-set_same (M.own l) i (without x (get_or (M.own l) i [])) [] h

    pub shortened_other : (k j : ℕ) → ((k ≡ l) → (j ≡ i) → ⊥) → get_or ((shortened l i x M).own k) j [] ≡ get_or (M.own k) j []
    shortened_other k j a = grind (arith, nat_tests, shortened_own, get_or-set_other (M.own l) i j (without x (get_or (M.own l) i [])) [], shortened_apart k, cases_eq k l)

-- one list changed, with no clause that was not there
pub part_at : (M N : Meaning) (l : ℕ) → ((k : ℕ) → (k ≡ l → ⊥) → N.own k ≡ M.own k) → ((E : List ℕ) → In E (N.own l) → In E (M.own l)) → (k : ℕ) (E : List ℕ) → In E (N.own k) → In E (M.own k)
part_at M N l a f k E h = ⊎_elim (λ e. subst (λ g. In E (M.own g)) (sym e) (f E (subst (λ g. In E (N.own g)) e h))) (λ d. subst (In E) (a k d) h) (cases_eq k l)

-- one list changed, and each clause is still in the list of its last literal
pub placed_changed : (M N : Meaning) (l : ℕ) → ((k : ℕ) → (k ≡ l → ⊥) → N.own k ≡ M.own k) → ((E : List ℕ) → In E (N.own l) → last E ≡ l) → Placed M → Placed N
placed_changed M N l a h P k E i = ⊎_elim (λ e. subst (λ g. In E (N.own g) → last E ≡ g) (sym e) (h E) i) (λ d. P k E (subst (In E) (a k d) i)) (cases_eq k l)

pub retired_placed : (M : Meaning) (l i : ℕ) → Placed M → Placed (retired l i M)
retired_placed M l i P = placed_changed M (retired l i M) l (retired_apart M l i) (λ E h. P l E (closed_in (M.own l) i E (subst (In E) (retired_own M l i) h))) P

pub shortened_placed : (M : Meaning) (l i x : ℕ) → (last (without x (get_or (M.own l) i [])) ≡ l) → Placed M → Placed (shortened l i x M)
shortened_placed M l i x h P = placed_changed M (shortened l i x M) l (shortened_apart M l i x)
    (λ E j. ⊎_elim (P l E) (λ e. ap last e ∙ h) (set_in (M.own l) i (without x (get_or (M.own l) i [])) E (subst (In E) (shortened_own M l i x) j))) P
