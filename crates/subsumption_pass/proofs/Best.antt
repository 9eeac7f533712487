-- The literal with the fewest clauses around it. Assumes nothing.
use Rattle.std.proofs.Common.{◌≡◌, ℕ, suc, ◌+◌, ◌-◌, ◌*◌, ◌<◌, ◌≤◌, cond, ltb, List, [], ◌∷◌, length, get_or, take, drop, drop-cons, add-one, sym, refl, ap, ◌∙◌, subst, inl, inr, ⊎_elim, arith}
use Rattle.std.proofs.lemmas.Bool.{cases_eq, cond-true, cond-false, lt-ltb}
use Rattle.std.proofs.lemmas.Bool.Decides.{nat_tests}
use Rattle.std.proofs.Math.Seq.{take-length}
use Rattle.network.specs.Assignments.{node, opposite}
use Rattle.network.specs.Lists.{In}
use Rattle.rules.specs.Store.{Meaning}
use Rattle.rules.specs.Bve.{least}
use Rattle.rules.specs.Subsume.{around_size, best}
use Rattle.rules.proofs.Places.{in_at}
use Rattle.subsumption_pass.specs.Checks.{Surrounds}
use Rattle.subsumption_pass.proofs.Shapes.{around_both}

-- the literals after the first
pub rest_is : (C : List ℕ) → take (length C - 1) (drop 1 C) ≡ drop 1 C
rest_is [] = refl
rest_is (x ∷ C) = ap (λ n. take n C) (omega arith) ∙ take-length C

pub first_in : (C : List ℕ) → 1 ≤ length C → In (get_or C 0 0) C
first_in C h = in_at C 0 0 h

pub rest_in : (C : List ℕ) (i : ℕ) → i < length (take (length C - 1) (drop 1 C)) → In (get_or (take (length C - 1) (drop 1 C)) i 0) C
rest_in [] i h = absurd (omega arith)
rest_in (x ∷ C) i h = inr (subst (λ D. In (get_or D i 0) C) (sym (rest_is (x ∷ C))) (in_at C i 0 (subst (λ D. i < length D) (rest_is (x ∷ C)) h)))

-- one literal more, with fewer around it or not
least_step : (f : ℕ → ℕ) (b x i : ℕ) (C : List ℕ) → i < length C → x ≡ get_or C i 0 → least f b (drop i C) ≡ cond (ltb (f x) (f b)) (least f x (drop (i + 1) C)) (least f b (drop (i + 1) C))
least_step f b x i C h e = ap (least f b) (drop-cons C i 0 h)
    ∙ ap (λ y. cond (ltb (f y) (f b)) (least f y (drop (suc i) C)) (least f b (drop (suc i) C))) (sym e)
    ∙ ap (λ n. cond (ltb (f x) (f b)) (least f x (drop n C)) (least f b (drop n C))) (sym (add-one i))

pub least_fewer : (f : ℕ → ℕ) (b x i : ℕ) (C : List ℕ) → i < length C → x ≡ get_or C i 0 → f x < f b → least f b (drop i C) ≡ least f x (drop (i + 1) C)
least_fewer f b x i C h e t = least_step f b x i C h e ∙ cond-true (ltb (f x) (f b)) _ _ (lt-ltb (f x) (f b) t)

pub least_stays : (f : ℕ → ℕ) (b x i : ℕ) (C : List ℕ) → i < length C → x ≡ get_or C i 0 → f b ≤ f x → least f b (drop i C) ≡ least f b (drop (i + 1) C)
least_stays f b x i C h e t = least_step f b x i C h e ∙ cond-false (ltb (f x) (f b)) _ _ (grind (arith, nat_tests))

pub least_alike : (f g : ℕ → ℕ) (n : ℕ) (C : List ℕ) → ((x : ℕ) → In x (n ∷ C) → f x ≡ g x) → least f n C ≡ least g n C
least_alike f g n [] h = refl
least_alike f g n (x ∷ C) h =
    ap (λ b. cond b (least f x C) (least f n C)) (ap (λ y. ltb y (f n)) (h x (inr (inl refl))) ∙ ap (ltb (g x)) (h n (inl refl)))
    ∙ ap (λ y. cond (ltb (g x) (g n)) y (least f n C)) (least_alike f g x C (λ y i. h y (inr i)))
    ∙ ap (λ y. cond (ltb (g x) (g n)) (least g x C) y) (least_alike f g n C (λ y i. h y (⊎_elim inl (λ j. inr (inr j)) i)))

odd_neg : (n : ℕ) → opposite (2 * n + 1) ≡ 2 * n
unfolding opposite
odd_neg n = grind (arith, nat_tests)

-- around a literal stands what stands around its node
pub around_node : (M : Meaning) (x : ℕ) → around_size M (2 * node x) ≡ around_size M x
around_node M x = ⊎_elim (λ e. ap (around_size M) e) (λ a. odd (omega (arith, a))) (cases_eq (2 * node x) x)
  where
    odd : 2 * node x + 1 ≡ x → around_size M (2 * node x) ≡ around_size M x
    odd e = around_both M (node x) ∙ omega (arith, ap (λ y. length (M.uses y) + length (M.own y)) (odd_neg (node x))) ∙ ap (around_size M) e

-- the least by the words is the best
pub best_by_words : (M : Meaning) (ws : List ℕ) → Surrounds M ws → (C : List ℕ) → ((x : ℕ) → In x C → x < 2048) → 1 ≤ length C
    → least (λ x. get_or ws (node x) 0) (get_or C 0 0) (take (length C - 1) (drop 1 C)) ≡ best M C
best_by_words M ws S [] small h = absurd (omega arith)
best_by_words M ws S (x ∷ C) small h = ap (least (λ x. get_or ws (node x) 0) x) (rest_is (x ∷ C))
    ∙ least_alike (λ x. get_or ws (node x) 0) (around_size M) x C (λ y i. S.sizes (node y) (let b = small y i in omega arith) ∙ around_node M y)
