-- How many uses and clauses there are after a change. Assumes nothing.
use Rattle.std.proofs.Common.{◌≡◌, ℕ, ◌+◌, ◌-◌, ◌*◌, ◌<◌, ◌≤◌, cond, Bool, true, false, eqb, List, [], map, length, get_or, set, sym, refl, ap, ◌∙◌, subst, ⊎_elim, arith}
use Rattle.std.proofs.lemmas.Bool.{cases_eq}
use Rattle.std.proofs.lemmas.Bool.Decides.{nat_tests}
use Rattle.std.proofs.lemmas.List.{length-map, length-set, get_or-set_other, get_or-set_same}
use Rattle.std.proofs.lemmas.List.Edits.{length-remove}
use Rattle.network.specs.Assignments.{node, opposite}
use Rattle.network.specs.Clauses.{last}
use Rattle.rules.specs.Store.{Meaning, allowed, droppable, after_retired, retired, shortened, shorten}
use Rattle.rules.specs.Subsume.{place_after, around_size}
use Rattle.rules.specs.Lawful.{Lawful}
use Rattle.rules.proofs.Lawful.{own_small}
use Rattle.rules.proofs.Places.{in_at, retired_own, retired_apart, shortened_length}
use Rattle.subsumption_pass.specs.Checks.{SameShape, Surrounds}

pub no_change : (M : Meaning) → SameShape M M
no_change M = record { uses = λ x. refl; lengths = λ x. refl }

-- a shortening, made or refused
pub shortened_shape : (M : Meaning) (l i x : ℕ) → SameShape M (shorten l i x M).0
unfolding shorten
shortened_shape M l i x = by (droppable M l i x)
  where
    here : SameShape M (shortened l i x M)
    here = record { uses = λ y. unfold shortened in refl; lengths = shortened_length M l i x }

    by : (b : Bool) → SameShape M (allowed b M (shortened l i x M)).0
    by true = here
    by false = no_change M

-- a clause less
pub less : (M : Meaning) (l i k : ℕ) → i < length (M.own l) → length ((retired l i M).own k) + cond (eqb k l) 1 0 ≡ length (M.own k)
less M l i k h = grind (arith, nat_tests, ap length (retired_own M l i), length-remove (M.own l) i h, retired_apart M l i k, cases_eq k l)

-- where another clause stands then, there is a place
pub place_there : (M : Meaning) (k j l i : ℕ) → j < length (M.own k) → i < length (M.own l) → ((k ≡ l) → (j ≡ i) → ⊥) → place_after k j l i < length ((retired k j M).own l)
place_there M k j l i lj li a = ⊎_elim (λ e. let h : j < length (M.own l) = subst (λ g. j < length (M.own g)) e lj in grind (arith, nat_tests, less M k j l lj, a)) (λ d. grind (arith, nat_tests, less M k j l lj)) (cases_eq k l)

pub retired_uses : (M : Meaning) (l i x : ℕ) → (retired l i M).uses x ≡ map (after_retired l i) (M.uses x)
unfolding retired
retired_uses M l i x = refl

-- where the shapes are the same, so they are without a clause
pub retired_shape : (M N : Meaning) (l i : ℕ) → i < length (M.own l) → SameShape M N → SameShape (retired l i M) (retired l i N)
retired_shape M N l i h s = record {
  uses = λ x. retired_uses N l i x ∙ ap (map (after_retired l i)) (s.uses x) ∙ sym (retired_uses M l i x);
  lengths = λ x. omega (arith, less M l i x h, less N l i x (omega (arith, s.lengths l)), s.lengths x);
}

even_neg : (n : ℕ) → opposite (2 * n) ≡ 2 * n + 1
unfolding opposite
even_neg n = grind (arith, nat_tests)

-- around a node are the uses and clauses of both its literals
pub around_both : (M : Meaning) (n : ℕ) → around_size M (2 * n) ≡ length (M.uses (2 * n)) + length (M.uses (2 * n + 1)) + length (M.own (2 * n)) + length (M.own (2 * n + 1))
around_both M n = ap (λ y. length (M.uses (2 * n)) + length (M.uses y) + length (M.own (2 * n)) + length (M.own y)) (even_neg n)

pub surrounds_shape : (M N : Meaning) (ws : List ℕ) → SameShape M N → Surrounds M ws → Surrounds N ws
surrounds_shape M N ws s S = record {
  long = S.long;
  sizes = λ n h. S.sizes n h ∙ omega (arith, around_both M n, around_both N n, ap length (s.uses (2 * n)), ap length (s.uses (2 * n + 1)), s.lengths (2 * n), s.lengths (2 * n + 1));
}

-- a clause is around the node of its last literal, and that node's word counts it
module _ (M : Meaning) (L : Lawful M) (ws : List ℕ) (S : Surrounds M ws) (l i : ℕ) (h : i < length (M.own l)) (C : List ℕ) (c : C ≡ get_or (M.own l) i []) (x : ℕ) (q : x ≡ last C) (n : ℕ) (p : n ≡ node x) where
  owner_is : n ≡ node l
  owner_is = p ∙ ap node (q ∙ ap last c ∙ L.placed l (get_or (M.own l) i []) (in_at (M.own l) i [] h))

  pub owner_word : n < length ws
  owner_word = let b = own_small M L l i h in omega (arith, S.long, owner_is)

  -- one of the node's own lists is a clause shorter, and no other node's
  one_of_two : (m : ℕ) → cond (eqb (2 * m) l) 1 0 + cond (eqb (2 * m + 1) l) 1 0 ≡ cond (eqb m n) 1 0
  one_of_two m = let e = owner_is in
      ⊎_elim (λ q. ⊎_elim (λ p. grind (arith, nat_tests)) (λ p. let r : 2 * m + 1 ≡ l = omega arith in grind (arith, nat_tests)) (cases_eq (2 * m) l))
      (λ d. let p : 2 * m ≡ l → ⊥ = λ w. d (omega arith) in let r : 2 * m + 1 ≡ l → ⊥ = λ w. d (omega arith) in grind (arith, nat_tests)) (cases_eq m n)

  around_less : (m : ℕ) → around_size (retired l i M) (2 * m) + cond (eqb m n) 1 0 ≡ around_size M (2 * m)
  around_less m = omega (
    arith,
    around_both M m,
    around_both (retired l i M) m,
    ap length (retired_uses M l i (2 * m)),
    length-map (M.uses (2 * m)) (after_retired l i),
    ap length (retired_uses M l i (2 * m + 1)),
    length-map (M.uses (2 * m + 1)) (after_retired l i),
    less M l i (2 * m) h,
    less M l i (2 * m + 1) h,
    one_of_two m,
  )

  around_one : around_size (retired l i M) (2 * n) + 1 ≡ around_size M (2 * n)
  around_one = grind (arith, nat_tests, around_less n)

  around_same : (m : ℕ) → (m ≡ n → ⊥) → around_size (retired l i M) (2 * m) ≡ around_size M (2 * m)
  around_same m d = grind (arith, nat_tests, around_less m)

  small : n < 1024
  small = let b = own_small M L l i h in omega (arith, owner_is)

  pub some_around : 1 ≤ get_or ws n 0
  some_around = omega (arith, around_one, S.sizes n small)

  -- the node's word counts one less
  pub surrounds_retired : (N : Meaning) → N ≡ retired l i M → Surrounds N (set ws n (get_or ws n 0 - 1))
  surrounds_retired N r = subst (λ N. Surrounds N (set ws n (get_or ws n 0 - 1))) (sym r) (record {
    long = omega (arith, length-set ws n (get_or ws n 0 - 1), S.long);
    sizes = λ m b. ⊎_elim (λ q. subst (λ m. get_or (set ws n (get_or ws n 0 - 1)) m 0 ≡ around_size (retired l i M) (2 * m)) (sym q)
        (get_or-set_same ws n (get_or ws n 0 - 1) 0 owner_word ∙ omega (arith, around_one, S.sizes n small)))
        (λ d. get_or-set_other ws n m (get_or ws n 0 - 1) 0 d ∙ S.sizes m b ∙ sym (around_same m d)) (cases_eq m n);
  })
