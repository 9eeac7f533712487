-- Clauses in order. Assumes nothing.
use Rattle.std.proofs.Common.{◌≡◌, ℕ, ◌≤◌, Bool, List, [], ◌∷◌, filter, refl, subst, inl, inr, arith}
use Rattle.std.proofs.lemmas.Bool.{cond_both}
use Rattle.network.specs.Assignments.{node}
use Rattle.network.specs.Lists.{In}
use Rattle.network.specs.Networks.{Network, Within, WellPlaced}
use Rattle.network.specs.Clauses.{Rising, Ordered, owner}
use Rattle.network.proofs.Lists.{kept_in}

-- an ordered clause names no node past its owner, and names that
pub ordered_within : (C : List ℕ) → Ordered C → Within (owner C) C
ordered_within [] o l i = absurd i
ordered_within (x ∷ []) o l i = grind arith
ordered_within (x ∷ y ∷ C) (h, o) l i = grind (arith, h y (inl refl), ordered_within (y ∷ C) o y (inl refl), ordered_within (y ∷ C) o l)

pub owner_below : (C : List ℕ) (k : ℕ) → Within k C → owner C ≤ k
owner_below [] k w = omega arith
owner_below (x ∷ []) k w = w x (inl refl)
owner_below (x ∷ y ∷ C) k w = owner_below (y ∷ C) k (λ l i. w l (inr i))

pub ordered_rising : (C : List ℕ) → Ordered C → Rising C
ordered_rising [] o = tt
ordered_rising (x ∷ C) (h, o) = ((λ y i. omega (arith, h y i)), ordered_rising C o)

-- a node stands once in an ordered clause
pub ordered_once : (C : List ℕ) → Ordered C → (l m : ℕ) → In l C → In m C → node l ≡ node m → l ≡ m
ordered_once [] o l m i j e = absurd i
ordered_once (x ∷ C) (h, o) l m i j e = grind (arith, ordered_once C o l m)

-- a part of an ordered clause is ordered
pub ordered_kept : (p : ℕ → Bool) (C : List ℕ) → Ordered C → Ordered (filter p C)
ordered_kept p [] o = tt
ordered_kept p (c ∷ C) (h, o) = cond_both (p c) (c ∷ filter p C) (filter p C) Ordered (λ e. ((λ y i. h y (kept_in p y C i).0), ordered_kept p C o)) (λ e. ordered_kept p C o)

-- the clauses of a node name no node past it
pub owned_within : (own : Network) (n : ℕ) → WellPlaced own n → (k : ℕ) (C : List ℕ) → In C (own k) → Within k C
owned_within own n w k C i = subst (λ j. Within j C) (w.owned k C i) (ordered_within C (w.order k C i))
