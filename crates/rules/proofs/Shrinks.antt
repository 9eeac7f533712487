-- The cost of a node: it is no more than the live clauses, and taking the node out makes room for its resolvents. Assumes nothing.
use Rattle.std.proofs.Common.{◌≡◌, ℕ, zero, suc, ◌+◌, ◌*◌, ◌<◌, ◌≤◌, Bool, true, false, eqb, ltb, List, [], ◌∷◌, length, Some, None, Option, refl, ap, ◌∙◌, inl, inr, ⊎_elim, arith}
use Rattle.std.proofs.lemmas.Bool.{cond_both}
use Rattle.network.specs.Assignments.{node, opposite}
use Rattle.network.specs.Lists.{In}
use Rattle.network.specs.Clauses.{without}
use Rattle.network.specs.Values.{nothing}
use Rattle.network.specs.Subsumption.{fits}
use Rattle.network.specs.Lemmas.{placed, by_length, Swept, keeping, once_more, met, swept, lemmas_from, lemmas}
use Rattle.rules.specs.Store.{Meaning, live_clauses, kept_clauses, removed}
use Rattle.rules.specs.Index.{Indexed}
use Rattle.rules.specs.Lawful.{Lawful}
use Rattle.rules.specs.Work.{Work, clear}
use Rattle.rules.specs.Bve.{cost, taken_out}
use Rattle.rules.proofs.Places.{held_in}
use Rattle.rules.proofs.Verdicts.{last_in}
use Rattle.rules.proofs.TakenOut.{cost_zero, out_to}
use Rattle.rules.proofs.Formed.{formed_parts, some_not_nil, without_shorter}
use Rattle.rules.proofs.Along.{equal_chains, fewer_chains, clear_along, taken_out_along}
use Rattle.rules.proofs.Lives.{removed_dead, removed_kept}
use Rattle.rules.proofs.Counting.{Fine, taken_out_fewer}

-- ## Fewer lemmas than resolvents

met_length : (C D : List ℕ) (n : ℕ) (r : Bool × Option ℕ) (go : List ℕ → Swept) → ((B : List ℕ) → length (go B).rest ≤ n) → length (met C D r go).rest ≤ suc n
met_length C D n (true, o) go h = omega (arith, h C)
met_length C D n (false, None) go h = omega (arith, h C)
met_length C D n (false, Some x) go h = cond_both (eqb (length C) (length D)) _ _ (λ (s : Swept). length s.rest ≤ suc n) (λ e. omega (arith, h (without x C))) (λ e. omega (arith, h C))

swept_length : (Ds : List (List ℕ)) (C : List ℕ) → length (swept Ds C).rest ≤ length Ds
unfolding swept
swept_length [] C = omega arith
swept_length (D ∷ Ds) C = met_length C D (length Ds) (fits C D) (λ B. swept Ds B) (λ B. swept_length Ds B)

from_length : (f : ℕ) (Cs : List (List ℕ)) → length (lemmas_from f Cs) ≤ length Cs
unfolding lemmas_from
from_length zero Cs = omega arith
from_length (suc f) [] = omega arith
from_length (suc f) (C ∷ Cs) = grind (arith, swept_length Cs C, from_length f ((swept Cs C).first ∷ (swept Cs C).rest), from_length f (swept Cs C).rest)

placed_length : (C : List ℕ) (Ds : List (List ℕ)) → length (placed C Ds) ≡ suc (length Ds)
unfolding placed
placed_length C [] = refl
placed_length C (D ∷ Ds) = grind (arith, placed_length C Ds)

sorted_length : (Cs : List (List ℕ)) → length (by_length Cs) ≡ length Cs
unfolding by_length
sorted_length [] = refl
sorted_length (C ∷ Cs) = placed_length C (by_length Cs) ∙ ap suc (sorted_length Cs)

pub lemmas_length : (Cs : List (List ℕ)) → length (lemmas Cs) ≤ length Cs
unfolding lemmas
lemmas_length Cs = omega (arith, from_length (length Cs) (by_length Cs), sorted_length Cs)

-- ## Lemmas as short as resolvents

abbrev ShortAll : ℕ → List (List ℕ) → Type 0
ShortAll n Cs = (C : List ℕ) → In C Cs → length C ≤ n

-- what is left of a clause and of the later ones is as short
abbrev ShortSwept : ℕ → Swept → Type 0
ShortSwept n s = (length s.first ≤ n) × ShortAll n s.rest

short_met : (n : ℕ) (C D : List ℕ) (r : Bool × Option ℕ) (go : List ℕ → Swept) → length C ≤ n → length D ≤ n → ((B : List ℕ) → length B ≤ n → ShortSwept n (go B)) → ShortSwept n (met C D r go)
short_met n C D (true, o) go c d h = h C c
short_met n C D (false, None) go c d h = let (a, b) = h C c in (a, λ E i. ⊎_elim (λ e. omega (arith, ap length e)) (b E) i)
short_met n C D (false, Some x) go c d h = cond_both (eqb (length C) (length D)) (once_more (go (without x C))) (keeping (without (opposite x) D) (go C)) (ShortSwept n)
    (λ e. h (without x C) (omega (arith, without_shorter x C)))
    (λ e. let (a, b) = h C c in (a, λ E i. ⊎_elim (λ q. omega (arith, ap length q, without_shorter (opposite x) D)) (b E) i))

short_sweep : (n : ℕ) (Ds : List (List ℕ)) (C : List ℕ) → length C ≤ n → ShortAll n Ds → ShortSwept n (swept Ds C)
unfolding swept
short_sweep n [] C c d = (c, λ E i. absurd i)
short_sweep n (D ∷ Ds) C c d = short_met n C D (fits C D) (λ B. swept Ds B) c (d D (inl refl)) (λ B b. short_sweep n Ds B b (λ E i. d E (inr i)))

short_from : (n f : ℕ) (Cs : List (List ℕ)) → ShortAll n Cs → ShortAll n (lemmas_from f Cs)
unfolding lemmas_from
short_from n zero Cs h = h
short_from n (suc f) [] h = h
short_from n (suc f) (C ∷ Cs) h = let (a, b) = short_sweep n Cs C (h C (inl refl)) (λ E i. h E (inr i)) in
    cond_both (swept Cs C).again (lemmas_from f ((swept Cs C).first ∷ (swept Cs C).rest)) ((swept Cs C).first ∷ lemmas_from f (swept Cs C).rest) (ShortAll n)
    (λ e. short_from n f ((swept Cs C).first ∷ (swept Cs C).rest) (λ E i. ⊎_elim (λ q. omega (arith, ap length q)) (b E) i))
    (λ e E i. ⊎_elim (λ q. omega (arith, ap length q)) (short_from n f (swept Cs C).rest b E) i)

short_placed : (n : ℕ) (C : List ℕ) (Ds : List (List ℕ)) → length C ≤ n → ShortAll n Ds → ShortAll n (placed C Ds)
unfolding placed
short_placed n C [] c d = λ E i. ⊎_elim (λ q. omega (arith, ap length q)) absurd i
short_placed n C (D ∷ Ds) c d = cond_both (ltb (length D) (length C)) (D ∷ placed C Ds) (C ∷ D ∷ Ds) (ShortAll n)
    (λ e E i. ⊎_elim (λ q. omega (arith, ap length q, d D (inl refl))) (short_placed n C Ds c (λ F j. d F (inr j)) E) i)
    (λ e E i. ⊎_elim (λ q. omega (arith, ap length q)) (d E) i)

short_sorted : (n : ℕ) (Cs : List (List ℕ)) → ShortAll n Cs → ShortAll n (by_length Cs)
unfolding by_length
short_sorted n [] h = h
short_sorted n (C ∷ Cs) h = short_placed n C (by_length Cs) (h C (inl refl)) (short_sorted n Cs (λ E i. h E (inr i)))

pub lemmas_short : (n : ℕ) (Cs : List (List ℕ)) → ((C : List ℕ) → In C Cs → length C ≤ n) → (L : List ℕ) → In L (lemmas Cs) → length L ≤ n
unfolding lemmas
lemmas_short n Cs h = short_from n (length Cs) (by_length Cs) (short_sorted n Cs h)

-- ## Costs

pub fine : (M : Meaning) → Lawful M → Indexed M → Fine M
fine M L I = record {
  index = I;
  once = L.once;
  placed = L.placed;
  ordered = λ l C i. (formed_parts C (L.formed l C i)).order;
  filled = λ l C i. last_in C (some_not_nil C (formed_parts C (L.formed l C i)).some);
  bound = λ l C i. omega (arith, (formed_parts C (L.formed l C i)).small, L.placed l C i);
}

module _ (v : ℕ) (W : Work) (L : Lawful W.store) (I : Indexed W.store) (bound : (l : ℕ) (E : List ℕ) → In E (W.store.own l) → l < 2 * W.top + 2) where
  F : Fine W.store
  F = fine W.store L I

  -- a clause removed for each that the node costs
  pub taken_out_less : live_clauses (taken_out v W).store + cost W.store v ≤ live_clauses W.store
  taken_out_less = omega (arith, (taken_out_fewer v W F).1, let N = (taken_out_fewer v W F).0 in cost_zero v (taken_out v W).store N.index N.placed N.filled (λ l C i. (out_to v W I F.placed F.filled bound (node l) C (held_in (taken_out v W).store l C i)).1))

-- a node costs no more than there are live clauses
pub cost_live : (M : Meaning) → Lawful M → Indexed M → (v : ℕ) → cost M v ≤ live_clauses M
cost_live M L I v = omega (arith, taken_out_less v all L I (λ l E i. omega (arith, (formed_parts E (L.formed l E i)).small, L.placed l E i)))
  where
    all : Work
    all = record { top = 1023; frozen = λ _. false; store = M; values = nothing; out = [] }

-- ## Clearing

pub clear_room : (l : ℕ) (marks : List Bool) (M : Meaning) → (clear l marks M).room ≡ M.room
unfolding removed
clear_room = clear_along (λ M N. N.room ≡ M.room) (equal_chains (λ M. M.room)) (λ l i M h. refl)

pub clear_kept : (l : ℕ) (marks : List Bool) (M : Meaning) → kept_clauses (clear l marks M) ≤ kept_clauses M
clear_kept = clear_along (λ M N. kept_clauses N ≤ kept_clauses M) (fewer_chains kept_clauses) (λ l i M h. removed_kept M l i)

pub taken_out_dead : (n : ℕ) (W : Work) → (taken_out n W).store.dead_clauses ≡ W.store.dead_clauses
taken_out_dead = taken_out_along (λ M N. N.dead_clauses ≡ M.dead_clauses) (equal_chains (λ M. M.dead_clauses)) (λ l i M h. removed_dead M l i)
