-- The literals of a clause but the last. Assumes nothing.
use Rattle.std.proofs.Common.{◌≡◌, ℕ, suc, ◌+◌, ◌-◌, ◌<◌, ◌≤◌, Bool, true, false, List, [], ◌∷◌, length, take, refl, ap, ◌∙◌, inl, inr, ⊎_elim, arith}
use Rattle.network.specs.Clauses.{Ordered, front, well_formed}
use Rattle.network.specs.Lists.{In}
use Rattle.rules.proofs.Formed.{formed_parts, front_below, is_order}
use Rattle.slotted.specs.Indexes.{MayJoin}
use Rattle.owned.proofs.Moves.{in_all}

pub front_length : (C : List ℕ) → length (front C) ≡ length C - 1
front_length [] = refl
front_length (x ∷ []) = refl
front_length (x ∷ y ∷ C) = let h = front_length (y ∷ C) in omega arith

pub front_take : (C : List ℕ) → take (length C - 1) C ≡ front C
front_take [] = refl
front_take (x ∷ []) = refl
front_take (x ∷ y ∷ C) =
    let e : length (x ∷ y ∷ C) - 1 ≡ suc (length (y ∷ C) - 1) = omega arith in
    ap (λ (n : ℕ). take n (x ∷ y ∷ C)) e ∙ ap (λ (D : List ℕ). x ∷ D) (front_take (y ∷ C))

front_in : (C : List ℕ) (k : ℕ) → In k (front C) → In k C
front_in [] k h = absurd h
front_in (x ∷ []) k h = absurd h
front_in (x ∷ y ∷ C) k h = ⊎_elim inl (λ j. inr (front_in (y ∷ C) k j)) h

front_ordered : (C : List ℕ) → Ordered C → Ordered (front C)
front_ordered [] o = tt
front_ordered (x ∷ []) o = tt
front_ordered (x ∷ y ∷ C) o = (λ k h. o.0 k (front_in (y ∷ C) k h), front_ordered (y ∷ C) o.1)

-- a slot that has not joined may join at the literals of its clause but the last
pub may_join : (slots : ℕ) (joined : ℕ → Bool) (x : ℕ) (C : List ℕ) → 2050 ≤ x → x < 2050 + slots → joined x ≡ false → well_formed C ≡ true → MayJoin slots joined x (front C)
may_join slots joined x C low high fresh good =
    let f = formed_parts C good in
    record {
      slot = (low, high);
      fresh = fresh;
      few = (let a = f.short in let b = front_length C in omega arith);
      rising = is_order (front C) (front_ordered C f.order);
      low = in_all (λ k. k < 2048) (front C) (λ k h. let a = front_below C f.order k h in let b = f.small in omega arith);
    }
