-- An elimination enters no more clauses than it removes. Assumes nothing.
use Rattle.std.proofs.Common.{◌≡◌, ℕ, suc, ◌+◌, ◌-◌, ◌*◌, ◌<◌, ◌≤◌, not, eqb, ◌⊎◌, List, [], length, get_or, filter, sym, refl, ap, ◌∙◌, subst, inl, inr, ⊎_elim, arith}
use Rattle.std.proofs.lemmas.Bool.{cases_eq, cases_Bool, both_ways, eq-eqb}
use Rattle.std.proofs.lemmas.List.{length-map}
use Rattle.network.specs.Assignments.{node}
use Rattle.network.specs.Lists.{In}
use Rattle.network.specs.Clauses.{Ordered, has, last, front}
use Rattle.network.proofs.Lists.{any_from, has_in}
use Rattle.network.proofs.Ordered.{ordered_once}
use Rattle.rules.specs.Store.{Meaning, is_at, how_many, live_clauses, moved_ref, removed}
use Rattle.rules.specs.Held.{Placed}
use Rattle.rules.specs.Index.{Indexed}
use Rattle.rules.specs.Work.{Work}
use Rattle.rules.specs.Bve.{cost, taken_out}
use Rattle.rules.proofs.Places.{in_at}
use Rattle.rules.proofs.Index.{removed_apart, removed_length, removed_indexed}
use Rattle.rules.proofs.TakenOut.{front_in}
use Rattle.rules.proofs.Formed.{front_below}
use Rattle.rules.proofs.HowMany.{kept_length, count_none}
use Rattle.rules.proofs.Along.{Chains, taken_out_along}
use Rattle.rules.proofs.Once.{Once, is_at_of, removed_once}
use Rattle.rules.proofs.Lives.{removed_live, removed_part}

-- what the counting needs of a store
pub record Fine (M : Meaning) : Type 0 where
  pub index : Indexed M
  pub once : Once M
  pub placed : Placed M
  pub ordered : (l : ℕ) (C : List ℕ) → In C (M.own l) → Ordered C
  pub filled : (l : ℕ) (C : List ℕ) → In C (M.own l) → In (last C) C
  pub bound : (l : ℕ) (C : List ℕ) → In C (M.own l) → l < 2048

removed_fine : (M : Meaning) (l i : ℕ) → Fine M → i < length (M.own l) → Fine (removed l i M)
removed_fine M l i F li = record {
  index = removed_indexed M l i F.index li;
  once = removed_once M l i F.once;
  placed = λ k E h. F.placed k E (removed_part M l i k E h);
  ordered = λ k E h. F.ordered k E (removed_part M l i k E h);
  filled = λ k E h. F.filled k E (removed_part M l i k E h);
  bound = λ k E h. F.bound k E (removed_part M l i k E h);
}

module _ (v : ℕ) where
  abbrev pub Less : Meaning → Meaning → Type 0
  Less M N = live_clauses N + cost M v ≤ live_clauses M + cost N v

  module _ (M : Meaning) (F : Fine M) (l i : ℕ) (li : i < length (M.own l)) where
    C : List ℕ
    C = get_or (M.own l) i []

    in_c : In C (M.own l)
    unfolding C
    in_c = in_at (M.own l) i [] li

    uses_left : (x : ℕ) → length ((removed l i M).uses x) + how_many (is_at l i) (M.uses x) ≡ length (M.uses x)
    unfolding removed
    uses_left x = omega (arith, length-map (filter (λ r. not (is_at l i r)) (M.uses x)) (moved_ref l (length (M.own l) - 1) i), kept_length (is_at l i) (M.uses x))

    -- a ref names the clause's literal
    counted : (x : ℕ) → (In x (front C) → ⊥) → how_many (is_at l i) (M.uses x) ≡ 0
    unfolding C
    counted x a = count_none (is_at l i) (M.uses x) (λ r h e. a (F.index.named x l i (subst (λ s. In s (M.uses x)) (is_at_of l i r e) h)).1)

    named_in : (x : ℕ) → (how_many (is_at l i) (M.uses x) ≡ 0) ⊎ In x (front C)
    named_in x = ⊎_elim (λ t. inr (has_in x (front C) t)) (λ f. inl (counted x (λ h. both_ways (has x (front C)) f (any_from (eqb x) (front C) x h (eq-eqb x x refl))))) (cases_Bool (has x (front C)))

    -- the clause counts once at most: as a use of one literal, or as a clause of v
    own_shrinks : (k : ℕ) → (k ≡ l) ⊎ (length ((removed l i M).own k) ≡ length (M.own k))
    own_shrinks k = ⊎_elim inl (λ a. inr (ap length (removed_apart M l i k a))) (cases_eq k l)

    own_less : (k : ℕ) → length (M.own k) ≤ suc (length ((removed l i M).own k))
    own_less k = ⊎_elim (λ e. subst (λ g. length (M.own g) ≤ suc (length ((removed l i M).own g))) (sym e) (omega (arith, removed_length M l i))) (λ e. omega (arith, e)) (own_shrinks k)

    not_both : In (2 * v) (front C) → In (2 * v + 1) (front C) → ⊥
    not_both a b = let e : 2 * v ≡ 2 * v + 1 = ordered_once C (F.ordered l C in_c) (2 * v) (2 * v + 1) (front_in C (2 * v) a) (front_in C (2 * v + 1) b) (omega arith) in omega (arith, e)

    not_own : (x : ℕ) → node x ≡ v → In x (front C) → node l ≡ v → ⊥
    not_own x e h q = omega (arith, front_below C (F.ordered l C in_c) x h, e ∙ sym q ∙ ap node (sym (F.placed l C in_c)))

    cost_less : cost M v ≤ suc (cost (removed l i M) v)
    cost_less = ⊎_elim at_v elsewhere (cases_eq (node l) v)
      where
        zero_count : (x : ℕ) → node x ≡ v → node l ≡ v → how_many (is_at l i) (M.uses x) ≡ 0
        zero_count x e q = counted x (λ h. not_own x e h q)

        at_v : node l ≡ v → cost M v ≤ suc (cost (removed l i M) v)
        at_v q =
            let a = zero_count (2 * v) (omega arith) q in
            let b = zero_count (2 * v + 1) (omega arith) q in
            let u = uses_left (2 * v) in
            let w = uses_left (2 * v + 1) in
            ⊎_elim (λ e. let d : length ((removed l i M).own (2 * v + 1)) ≡ length (M.own (2 * v + 1)) = ap length (removed_apart M l i (2 * v + 1) (λ z. omega (arith, z, e))) in omega (arith, a, b, u, w, d, own_less (2 * v)))
            (λ e. let d : length ((removed l i M).own (2 * v)) ≡ length (M.own (2 * v)) = ap length (removed_apart M l i (2 * v) (λ z. e (sym z))) in omega (arith, a, b, u, w, d, own_less (2 * v + 1))) (cases_eq l (2 * v))

        elsewhere : (node l ≡ v → ⊥) → cost M v ≤ suc (cost (removed l i M) v)
        elsewhere q =
            let d : length ((removed l i M).own (2 * v)) ≡ length (M.own (2 * v)) = ap length (removed_apart M l i (2 * v) (λ z. q (omega (arith, z)))) in
            let f : length ((removed l i M).own (2 * v + 1)) ≡ length (M.own (2 * v + 1)) = ap length (removed_apart M l i (2 * v + 1) (λ z. q (omega (arith, z)))) in
            let u = uses_left (2 * v) in
            let w = uses_left (2 * v + 1) in
            ⊎_elim (λ a. omega (arith, a, F.once (2 * v + 1) l i, u, w, d, f))
            (λ h. ⊎_elim (λ b. omega (arith, b, F.once (2 * v) l i, u, w, d, f)) (λ k. absurd (not_both h k)) (named_in (2 * v + 1))) (named_in (2 * v))

    removed_less : Less M (removed l i M)
    removed_less = omega (arith, removed_live M l i (F.bound l C in_c) li, cost_less)

  -- clearing
  abbrev Fewer : Meaning → Meaning → Type 0
  Fewer M N = Fine M → Fine N × Less M N

  fewer : Chains Fewer
  fewer = record {
    same = λ M F. (F, omega arith);
    next = λ M N R f g F. let (G, a) = f F in let (H, b) = g G in (H, omega (arith, a, b));
  }

  pub taken_out_fewer : (W : Work) → Fewer W.store (taken_out v W).store
  taken_out_fewer = taken_out_along Fewer fewer (λ l i M h F. (removed_fine M l i F h, removed_less M F l i h)) v
