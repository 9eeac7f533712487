-- Membership in lists of slots, and what a test passes of them. Assumes nothing.
use Rattle.std.proofs.Common.{◌≡◌, ℕ, ◌≤◌, Bool, true, false, cond, List, [], ◌∷◌, ◌++◌, length, filter, sym, refl, ap, ◌∙◌, subst, inl, inr, arith}
use Rattle.std.specs.Bool.{◌==◌}
use Rattle.std.specs.List.{AllByRecursion}
use Rattle.std.proofs.lemmas.Bool.{cases_Bool, cases_eq, cond-true, cond-false, eq-eqb, ne_eqb, both_ways}
use Rattle.network.specs.Clauses.{has, without}
use Rattle.rings.specs.Rings.{Differ, Lacks}
use Rattle.rings.proofs.Paths.{without_here, without_other}

-- x is the head
pub has_here : (x y : ℕ) (ys : List ℕ) → x ≡ y → has x (y ∷ ys) ≡ true
has_here x y ys e = rw (eq-eqb x y e) refl

-- x is not the head
pub has_else : (x y : ℕ) (ys : List ℕ) → (x ≡ y → ⊥) → has x (y ∷ ys) ≡ has x ys
has_else x y ys n = rw (ne_eqb x y n) refl

pub lacks_has : (x : ℕ) (ys : List ℕ) → Lacks x ys → has x ys ≡ false
lacks_has x [] h = refl
lacks_has x (y ∷ ys) h = has_else x y ys (λ e. h.0 (sym e)) ∙ lacks_has x ys h.1

pub has_not_lacks : (x : ℕ) (ys : List ℕ) → has x ys ≡ true → Lacks x ys → ⊥
has_not_lacks x ys h l = both_ways (has x ys) (lacks_has x ys l) h

pub not_has_lacks : (x : ℕ) (ys : List ℕ) → has x ys ≡ false → Lacks x ys
not_has_lacks x [] h = tt
not_has_lacks x (y ∷ ys) h = elim (cases_eq x y) [
  | inl e ↦ absurd (both_ways (has x (y ∷ ys)) h (has_here x y ys e))
  | inr n ↦ ((λ e. n (sym e)), not_has_lacks x ys (sym (has_else x y ys n) ∙ h))
]

pub all_has : (xs ys : List ℕ) → ((x : ℕ) → has x xs ≡ true → has x ys ≡ true) → AllByRecursion (λ x. has x ys ≡ true) xs
all_has [] ys h = tt
all_has (x ∷ xs) ys h = (h x (has_here x x xs refl), all_has xs ys (λ z k. elim (cases_eq z x) [ inl e ↦ h z (has_here z x xs e) | inr n ↦ h z (has_else z x xs n ∙ k) ]))

pub all_map : (P Q : ℕ → Type 0) → ((x : ℕ) → P x → Q x) → (xs : List ℕ) → AllByRecursion P xs → AllByRecursion Q xs
all_map P Q f [] h = tt
all_map P Q f (x ∷ xs) h = (f x h.0, all_map P Q f xs h.1)

-- those that pass a test
pub filter_lacks : (p : ℕ → Bool) (x : ℕ) (xs : List ℕ) → Lacks x xs → Lacks x (filter p xs)
filter_lacks p x [] h = tt
filter_lacks p x (y ∷ ys) h = elim (cases_Bool (p y)) [
  | inl t ↦ subst (Lacks x) (sym (cond-true (p y) (y ∷ filter p ys) (filter p ys) t)) (h.0, filter_lacks p x ys h.1)
  | inr f ↦ subst (Lacks x) (sym (cond-false (p y) (y ∷ filter p ys) (filter p ys) f)) (filter_lacks p x ys h.1)
]

pub filter_differ : (p : ℕ → Bool) (xs : List ℕ) → Differ xs → Differ (filter p xs)
unfolding Differ
filter_differ p [] d = tt
filter_differ p (y ∷ ys) d = elim (cases_Bool (p y)) [
  | inl t ↦ subst Differ (sym (cond-true (p y) (y ∷ filter p ys) (filter p ys) t)) (filter_lacks p y ys d.0, filter_differ p ys d.1)
  | inr f ↦ subst Differ (sym (cond-false (p y) (y ∷ filter p ys) (filter p ys) f)) (filter_differ p ys d.1)
]

pub filter_has : (p : ℕ → Bool) (x : ℕ) (xs : List ℕ) → has x (filter p xs) ≡ true → has x xs ≡ true
filter_has p x xs h = elim (cases_Bool (has x xs)) [ inl t ↦ t | inr f ↦ absurd (has_not_lacks x (filter p xs) h (filter_lacks p x xs (not_has_lacks x xs f))) ]

pub filter_same : (p q : ℕ → Bool) (xs : List ℕ) → ((x : ℕ) → has x xs ≡ true → p x ≡ q x) → filter p xs ≡ filter q xs
filter_same p q [] h = refl
filter_same p q (y ∷ ys) h =
    let ih = filter_same p q ys (λ x k. elim (cases_eq x y) [ inl e ↦ h x (has_here x y ys e) | inr n ↦ h x (has_else x y ys n ∙ k) ]) in
    let e : p y ≡ q y = h y (has_here y y ys refl) in
    rw (e, ih) refl

pub filter_none : (p : ℕ → Bool) (xs : List ℕ) → ((x : ℕ) → has x xs ≡ true → p x ≡ false) → filter p xs ≡ []
filter_none p [] h = refl
filter_none p (y ∷ ys) h = cond-false (p y) (y ∷ filter p ys) (filter p ys) (h y (has_here y y ys refl)) ∙ filter_none p ys (λ x k. elim (cases_eq x y) [ inl e ↦ h x (has_here x y ys e) | inr n ↦ h x (has_else x y ys n ∙ k) ])

pub filter_length : (p : ℕ → Bool) (xs : List ℕ) → length (filter p xs) ≤ length xs
filter_length p [] = omega arith
filter_length p (y ∷ ys) =
    let ih = filter_length p ys in
    elim (cases_Bool (p y)) [ inl t ↦ rw t (omega arith) | inr f ↦ rw f (omega arith) ]

pub filter_without : (p : ℕ → Bool) (x : ℕ) (ys : List ℕ) → filter p (without x ys) ≡ without x (filter p ys)
filter_without p x [] = refl
filter_without p x (y ∷ ys) =
    let ih = filter_without p x ys in
    elim (cases_Bool (p y)) [
      | inl t ↦
          let r = cond-true (p y) (y ∷ filter p ys) (filter p ys) t in
          elim (cases_eq y x) [
            | inl e ↦ ap (filter p) (without_here x y ys e) ∙ ih ∙ sym (ap (without x) r ∙ without_here x y (filter p ys) e)
            | inr n ↦ ap (filter p) (without_other x y ys n) ∙ cond-true (p y) (y ∷ filter p (without x ys)) (filter p (without x ys)) t ∙ ap (λ (zs : List ℕ). y ∷ zs) ih ∙ sym (ap (without x) r ∙ without_other x y (filter p ys) n)
          ]
      | inr f ↦
          let r = cond-false (p y) (y ∷ filter p ys) (filter p ys) f in
          elim (cases_eq y x) [
            | inl e ↦ ap (filter p) (without_here x y ys e) ∙ ih ∙ sym (ap (without x) r)
            | inr n ↦ ap (filter p) (without_other x y ys n) ∙ cond-false (p y) (y ∷ filter p (without x ys)) (filter p (without x ys)) f ∙ ih ∙ sym (ap (without x) r)
          ]
    ]

pub has_without : (y x : ℕ) (ys : List ℕ) → has y (without x ys) ≡ cond (y == x) false (has y ys)
has_without y x [] = sym (same (y == x))
  where
    same : (b : Bool) → cond b false false ≡ false
    same true = refl
    same false = refl
has_without y x (z ∷ zs) = elim (cases_eq z x) [
  | inl e ↦ ap (has y) (without_here x z zs e) ∙ has_without y x zs ∙ elim (cases_eq y x) [
    | inl q ↦ cond-true (y == x) false (has y zs) (eq-eqb y x q) ∙ sym (cond-true (y == x) false (has y (z ∷ zs)) (eq-eqb y x q))
    | inr n ↦ ap (cond (y == x) false) (sym (has_else y z zs (λ r. n (r ∙ e))))
  ]
  | inr ne ↦ ap (has y) (without_other x z zs ne) ∙ elim (cases_eq y z) [
    | inl q ↦ has_here y z (without x zs) q ∙ sym (cond-false (y == x) false (has y (z ∷ zs)) (ne_eqb y x (λ r. ne (sym q ∙ r))) ∙ has_here y z zs q)
    | inr n ↦ has_else y z (without x zs) n ∙ has_without y x zs ∙ ap (cond (y == x) false) (sym (has_else y z zs n))
  ]
]

pub filter_push : (p : ℕ → Bool) (ys : List ℕ) (x : ℕ) → filter p (ys ++ (x ∷ [])) ≡ cond (p x) (filter p ys ++ (x ∷ [])) (filter p ys)
filter_push p [] x = refl
filter_push p (y ∷ ys) x =
    let ih = filter_push p ys x in
    elim (cases_Bool (p y)) [
      | inl t ↦ rw t (ap (λ (zs : List ℕ). y ∷ zs) ih ∙ out (p x) (filter p ys))
      | inr f ↦ rw f ih
    ]
  where
    out : (b : Bool) (zs : List ℕ) → y ∷ cond b (zs ++ (x ∷ [])) zs ≡ cond b (y ∷ (zs ++ (x ∷ []))) (y ∷ zs)
    out true zs = refl
    out false zs = refl

pub has_push : (y x : ℕ) (ys : List ℕ) → has y (ys ++ (x ∷ [])) ≡ cond (y == x) true (has y ys)
has_push y x [] = elim (cases_eq y x) [
  | inl e ↦ has_here y x [] e ∙ sym (cond-true (y == x) true false (eq-eqb y x e))
  | inr n ↦ has_else y x [] n ∙ sym (cond-false (y == x) true false (ne_eqb y x n))
]
has_push y x (z ∷ zs) = elim (cases_eq y z) [
  | inl e ↦ has_here y z (zs ++ (x ∷ [])) e ∙ sym (ap (cond (y == x) true) (has_here y z zs e) ∙ same (y == x))
  | inr n ↦ has_else y z (zs ++ (x ∷ [])) n ∙ has_push y x zs ∙ ap (cond (y == x) true) (sym (has_else y z zs n))
]
  where
    same : (b : Bool) → cond b true true ≡ true
    same true = refl
    same false = refl
