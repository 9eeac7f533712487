-- Well-formed clauses. Assumes nothing.
use Rattle.std.proofs.Common.{◌≡◌, ℕ, ◌<◌, ◌≤◌, Bool, true, not, ◌&&◌, eqb, ltb, leb, List, [], ◌∷◌, length, filter, sym, refl, ap, ◌∙◌, subst, inl, ⊎_elim, arith}
use Rattle.std.proofs.lemmas.Bool.{and_parts, and_from, ltb-true, lt-ltb, leb-true, le-leb}
use Rattle.network.specs.Assignments.{node}
use Rattle.network.specs.Lists.{In}
use Rattle.network.specs.Clauses.{Ordered, in_order, last, front, owner, without, well_formed}
use Rattle.network.proofs.Ordered.{ordered_kept}
use Rattle.rules.proofs.Verdicts.{owner_last, last_in, last_without}
use Rattle.network.proofs.Resolution.{in_without}

pub order_is : (C : List ℕ) → in_order C ≡ true → Ordered C
order_is [] e = tt
order_is (x ∷ []) e = ((λ y i. absurd i), tt)
order_is (x ∷ y ∷ C) e = grind (arith, and_parts, order_is (y ∷ C), ltb-true)

pub is_order : (C : List ℕ) → Ordered C → in_order C ≡ true
is_order [] o = refl
is_order (x ∷ []) o = refl
is_order (x ∷ y ∷ C) (lo, o) = and_from (ltb (node x) (node y)) (in_order (y ∷ C)) (lt-ltb (node x) (node y) (lo y (inl refl))) (is_order (y ∷ C) o)

-- a literal before the last is of a lower node
pub front_below : (C : List ℕ) → Ordered C → (x : ℕ) → In x (front C) → node x < node (last C)
front_below [] o x h = absurd h
front_below (y ∷ []) o x h = absurd h
front_below (y ∷ z ∷ C) (lo, o) x h = ⊎_elim (λ q. subst (λ g. node g < node (last (z ∷ C))) (sym q) (lo (last (z ∷ C)) (last_in (z ∷ C) (λ w. grind (arith, w))))) (front_below (z ∷ C) o x) h

pub record Formed (C : List ℕ) : Type 0 where
  pub some : 0 < length C
  pub short : length C ≤ 32
  pub order : Ordered C
  pub small : last C < 2048

pub formed_parts : (C : List ℕ) → well_formed C ≡ true → Formed C
formed_parts C e =
    let (abc, d) = and_parts (ltb 0 (length C) && leb (length C) 32 && in_order C) (ltb (last C) 2048) e in
    let (ab, c) = and_parts (ltb 0 (length C) && leb (length C) 32) (in_order C) abc in
    let (a, b) = and_parts (ltb 0 (length C)) (leb (length C) 32) ab in
    record { some = ltb-true 0 (length C) a; short = leb-true (length C) 32 b; order = order_is C c; small = ltb-true (last C) 2048 d }

pub parts_formed : (C : List ℕ) → Formed C → well_formed C ≡ true
parts_formed C f =
    and_from (ltb 0 (length C) && leb (length C) 32 && in_order C) (ltb (last C) 2048)
    (and_from (ltb 0 (length C) && leb (length C) 32) (in_order C)
    (and_from (ltb 0 (length C)) (leb (length C) 32) (lt-ltb 0 (length C) f.some) (le-leb (length C) 32 f.short)) (is_order C f.order))
    (lt-ltb (last C) 2048 f.small)

pub some_not_nil : (C : List ℕ) → 0 < length C → C ≡ [] → ⊥
some_not_nil C l e = omega (arith, ap length e)

pub not_nil_some : (C : List ℕ) → (C ≡ [] → ⊥) → 0 < length C
not_nil_some [] h = absurd (h refl)
not_nil_some (x ∷ C) h = omega arith

kept_shorter : (p : ℕ → Bool) (C : List ℕ) → length (filter p C) ≤ length C
kept_shorter p [] = omega arith
kept_shorter p (x ∷ C) = grind (arith, kept_shorter p C)

pub without_shorter : (x : ℕ) (C : List ℕ) → length (without x C) ≤ length C
without_shorter x C = kept_shorter (λ l. not (eqb l x)) C

-- a clause without a literal before its last is well formed, with the same last literal
pub front_dropped : (x : ℕ) (C : List ℕ) → Formed C → In x (front C) → Formed (without x C) × (last (without x C) ≡ last C)
front_dropped x C f h =
    let ne = some_not_nil C f.some in
    let a : node x ≡ owner C → ⊥ = λ q. omega (arith, front_below C f.order x h, owner_last C, q) in
    let same = last_without x C f.order ne a in (
      record {
        some = not_nil_some (without x C) (rest_there ne a);
        short = omega (arith, without_shorter x C, f.short);
        order = ordered_kept (λ l. not (eqb l x)) C f.order;
        small = omega (arith, same, f.small);
      },
      same,
    )
  where
    rest_there : (C ≡ [] → ⊥) → (node x ≡ owner C → ⊥) → without x C ≡ [] → ⊥
    rest_there ne a e = subst (In (last C)) e (in_without x (last C) C (last_in C ne) (λ q. a (ap node (sym q) ∙ sym (owner_last C))))
