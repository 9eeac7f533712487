-- The network of an accepted image, and its loose nodes. Assumes nothing.
use Rattle.std.proofs.Common.{◌≡◌, ℕ, zero, suc, ◌+◌, ◌-◌, ◌<◌, ◌≤◌, Bool, true, false, cond, not, ◌&&◌, ◌||◌, List, [], ◌∷◌, ◌++◌, length, get_or, Some, None, Option, Ok, sym, refl, ap, ◌∙◌, subst, inl, inr, ⊎_elim, add-one, arith}
use Rattle.std.proofs.lemmas.Bool.{cond-true, cond-false, cond_both, cases_Bool, cases_lt, and_from, both_ways}
use Rattle.std.proofs.lemmas.Iterator.{YieldsList}
use Rattle.std.proofs.lemmas.Iterator.Consumers.{YieldsList-from_shown}
use Rattle.std.proofs.lemmas.List.{map-id}
use Rattle.std.proofs.lemmas.List.FromFn.{length-range_with_len, filter_of_map_range_with_len_more}
use Rattle.std.specs.List.{filter, find, range_with_len}
use Rattle.std.specs.Range.{range_inclusive_start, range_inclusive_end, range_inclusive_exhausted, range_inclusive_left, range_inclusive_len, range_inclusive_steps}
use Rattle.std.specs.declared.ops.RangeInclusive.{RangeInclusive}
use Rattle.network.specs.Assignments.{Assignment, lit, put, sat}
use Rattle.network.specs.Clauses.{owner, Ordered, Rising}
use Rattle.network.specs.Levels.{Total, Unique}
use Rattle.network.specs.Lists.{In}
use Rattle.network.specs.Networks.{level, WellPlaced}
use Rattle.network.specs.Rows.{Tight, Loose}
use Rattle.network.proofs.Lists.{in_cases, in_left, in_right}
use Rattle.image.specs.Headers.{top, stated_count, run}
use Rattle.image.specs.Runs.{clauses}
use Rattle.image.proofs.Heads.{run_past}
use Rattle.image.proofs.Walks.{clauses_none}
use Rattle.intake.specs.Accepted.{Once, Image, taken_in, LooseNode, EveryNodeHasAValue, LooseNodesAreFound, ReadyToStart}
use Rattle.intake.specs.Answers.{accepts, found_both, loose_at, loose_nodes, first_of}
use Rattle.intake.proofs.Meanings.{accepted_iff, rows_mean, RowsAnswers}
use Rattle.intake.proofs.Steps.{accepts_from, accepted_parts, nodes_at}

ordered_from : (C : List ℕ) → Rising C → Once C → Ordered C
ordered_from [] r o = tt
ordered_from (x ∷ C) (r, rs) (o, os) = ((λ y i. let a = r y i in let b = o y i in omega (arith, a, b)), ordered_from C rs os)

-- what holds of the clauses of node 0, of the nodes up to the highest, and of no clauses, holds of all
each_node : (ws : List ℕ) (P : ℕ → List (List ℕ) → Type 0) → P 0 ((1 ∷ []) ∷ []) → ((k : ℕ) → k < top ws → P (suc k) (clauses (run ws (suc k)))) → ((k : ℕ) → P (suc k) []) → (k : ℕ) → P k (taken_in ws k)
each_node ws P a b c zero = a
each_node ws P a b c (suc k) = ⊎_elim (b k) (λ (g : top ws ≤ k). subst (P (suc k)) (sym (clauses_none (run ws (suc k)) (run_past ws (suc k) (omega arith)))) (c k)) (cases_lt k (top ws))

zero_false : (σ : Assignment) → sat σ ((1 ∷ []) ∷ []) ≡ true → σ 0 ≡ false
unfolding lit
zero_false σ h = off (σ 0) h
  where
    off : (b : Bool) → ((not b || false) && true) ≡ true → b ≡ false
    off true e = sym e
    off false e = refl

zero_put : (σ : Assignment) → sat (put σ 0 false) ((1 ∷ []) ∷ []) ≡ true
unfolding lit put
zero_put σ = refl

module _ (ws : List ℕ) (i : Image ws) where
  own_placed : WellPlaced (taken_in ws) (suc (top ws))
  own_placed = record {
    order = each_node ws (λ k Cs. (C : List ℕ) → In C Cs → Ordered C) (λ C j. first C j) (λ k l C j. let (r, o) = (i.nodes k l).sorted C j in ordered_from C r o) (λ k C j. absurd j);
    owned = each_node ws (λ k Cs. (C : List ℕ) → In C Cs → owner C ≡ k) (λ C j. first_owner C j) (λ k l. (i.nodes k l).owned) (λ k C j. absurd j);
    small = each_node ws (λ k Cs. (C : List ℕ) → In C Cs → k < suc (top ws)) (λ C j. omega arith) (λ k l C j. omega arith) (λ k C j. absurd j);
  }
    where
      first : (C : List ℕ) → In C ((1 ∷ []) ∷ []) → Ordered C
      first C (inl e) = subst Ordered (sym e) ((λ y j. absurd j), tt)
      first C (inr e) = absurd e

      first_owner : (C : List ℕ) → In C ((1 ∷ []) ∷ []) → owner C ≡ 0
      first_owner C (inl e) = ap owner e
      first_owner C (inr e) = absurd e

  own_total : (k : ℕ) → Total (level (taken_in ws)) k
  own_total k σ b =
      each_node ws (λ (k : ℕ) (Cs : List (List ℕ)). ((0 < k → σ 0 ≡ false) → (b : Bool) × (sat (put σ k b) Cs ≡ true))) (λ h. (false, zero_put σ)) (λ k l h. (i.nodes k l).valued σ (h (omega arith))) (λ k h. (false, refl)) k (λ p. zero_false σ (b 0 p))

  own_unique : (fs : List Bool) → get_or fs 0 false ≡ true → ((k : ℕ) → k < top ws → get_or fs (suc k) false ≡ false → Tight (suc k) (clauses (run ws (suc k)))) → (k : ℕ) → k < suc (top ws) → get_or fs k false ≡ false → Unique (level (taken_in ws)) k
  own_unique fs z t zero l f σ b p q = absurd (both_ways _ f z)
  own_unique fs z t (suc k) l f σ b p q = t k (omega arith) f σ (zero_false σ (b 0 (omega arith))) q p

pub every_node_has_a_value : EveryNodeHasAValue
every_node_has_a_value ws i = (own_placed ws i, own_total ws i)

-- a node of an accepted image is loose or tight
module _ (ws : List ℕ) (i : Image ws) (k : ℕ) (l : k < top ws) where
  rows_at : (b : Bool) → loose_at ws (suc k) ≡ b → RowsAnswers (suc k) (run ws (suc k)) (Ok b)
  rows_at b e =
      let g : accepts ws ≡ true = accepts_from ws tt (sym ((accepted_iff ws).1 i)) in
      let (d, n) = nodes_at ws (top ws) (stated_count ws) k (accepted_parts ws g).nodes l in
      let q : n.loose ≡ b = sym (ap found_both n.rows) ∙ e in
      subst (RowsAnswers (suc k) (run ws (suc k))) (n.rows ∙ ap Ok q) (rows_mean (suc k) (run ws (suc k)))

  tight_at : loose_at ws (suc k) ≡ false → Tight (suc k) (clauses (run ws (suc k)))
  tight_at e = (rows_at false e).3 refl

  loose_here : loose_at ws (suc k) ≡ true → Loose (suc k) (clauses (run ws (suc k)))
  loose_here e = (rows_at true e).2 refl

  loose_only : Loose (suc k) (clauses (run ws (suc k))) → loose_at ws (suc k) ≡ true
  loose_only (σ, z, h) = ⊎_elim (λ (t : loose_at ws (suc k) ≡ true). t) (λ (f : loose_at ws (suc k) ≡ false). absurd (tight_at f σ z (h false) (h true))) (cases_Bool (loose_at ws (suc k)))

-- one number more
filter_more : (p : ℕ → Bool) (m : ℕ) → filter p (range_with_len 1 (suc m)) ≡ filter p (range_with_len 1 m) ++ cond (p (suc m)) (suc m ∷ []) []
filter_more p m =
    ap (λ (n : ℕ). filter p (range_with_len 1 n)) (sym (add-one m)) ∙ ap (filter p) (sym (map-id (range_with_len 1 (m + 1)))) ∙ filter_of_map_range_with_len_more p (λ x. x) 1 m (suc m) (omega arith)
    ∙ ap (λ (xs : List ℕ). filter p xs ++ cond (p (suc m)) (suc m ∷ []) []) (map-id (range_with_len 1 m))

-- what `find` finds is the first that `filter` keeps
pub find_first : (p : ℕ → Bool) (xs : List ℕ) → find p xs ≡ first_of (filter p xs)
find_first p [] = refl
find_first p (x ∷ xs) = go (p x) (find_first p xs)
  where
    go : (b : Bool) → find p xs ≡ first_of (filter p xs) → cond b (Some x) (find p xs) ≡ first_of (cond b (x ∷ filter p xs) (filter p xs))
    go true h = refl
    go false h = h

-- the numbers that `1..=m` gives
abbrev pub inclusive_steps : RangeInclusive ℕ → Option ℕ → RangeInclusive ℕ → Type 0
inclusive_steps = range_inclusive_steps (λ x y. y - x) (λ x y. y ≡ x + 1)

abbrev inclusive_rest : RangeInclusive ℕ → List ℕ
inclusive_rest s = range_with_len (range_inclusive_start s) (range_inclusive_left (λ x y. y - x) s)

pub up_to : (s : RangeInclusive ℕ) (m : ℕ) → range_inclusive_start s ≡ 1 → range_inclusive_end s ≡ m → range_inclusive_exhausted s ≡ false → YieldsList inclusive_steps (λ x. x) s (range_with_len 1 m)
up_to s m a b c = subst (YieldsList inclusive_steps (λ x. x) s) all (YieldsList-from_shown inclusive_steps (λ x. x) inclusive_rest ended came s)
  where
    left : range_inclusive_left (λ x y. y - x) s ≡ m
    left = omega (arith, a, b, ap (range_inclusive_len (λ x y. y - x) (range_inclusive_start s) (range_inclusive_end s)) c)

    all : inclusive_rest s ≡ range_with_len 1 m
    all = ap (range_with_len (range_inclusive_start s)) left ∙ ap (λ (i : ℕ). range_with_len i m) a

    ended : (s t : RangeInclusive ℕ) → inclusive_steps s None t → length (inclusive_rest s) ≡ 0
    ended s t h = length-range_with_len _ _ ∙ h.1.0

    came : (s : RangeInclusive ℕ) (x : ℕ) (t : RangeInclusive ℕ) → inclusive_steps s (Some x) t → inclusive_rest s ≡ x ∷ inclusive_rest t
    came s x t h =
        let n : range_inclusive_left (λ x y. y - x) s ≡ suc (range_inclusive_left (λ x y. y - x) t) = omega (arith, h.1.1) in
        ap (range_with_len (range_inclusive_start s)) n ∙ ap (λ (ys : List ℕ). range_inclusive_start s ∷ ys) (tail (range_inclusive_exhausted t) refl) ∙ ap (λ (y : ℕ). y ∷ inclusive_rest t) (sym h.1.0)
      where
        tail : (b : Bool) → range_inclusive_exhausted t ≡ b → range_with_len (range_inclusive_start s + 1) (range_inclusive_left (λ x y. y - x) t) ≡ inclusive_rest t
        tail true e =
            let z : range_inclusive_left (λ x y. y - x) t ≡ 0 = ap (range_inclusive_len (λ x y. y - x) (range_inclusive_start t) (range_inclusive_end t)) e in
            ap (range_with_len (range_inclusive_start s + 1)) z ∙ sym (ap (range_with_len (range_inclusive_start t)) z)
        tail false e = ap (λ (i : ℕ). range_with_len i (range_inclusive_left (λ x y. y - x) t)) (sym (h.1.2 e))

-- the list of loose nodes, node by node
module _ (ws : List ℕ) (fs : List Bool) where
  -- node n is loose and not frozen
  abbrev pub counts : ℕ → Bool
  counts n = not (get_or fs n false) && loose_at ws n

  pub loose_none : loose_nodes ws fs 0 ≡ []
  unfolding loose_nodes
  loose_none = refl

  pub loose_more : (k : ℕ) → loose_nodes ws fs (suc k) ≡ loose_nodes ws fs k ++ cond (counts (suc k)) (suc k ∷ []) []
  unfolding loose_nodes
  loose_more k = refl

  -- the numbers up to m that pass the test
  pub loose_are : (m : ℕ) → loose_nodes ws fs m ≡ filter counts (range_with_len 1 m)
  loose_are zero = loose_none
  loose_are (suc m) = loose_more m ∙ ap (λ (xs : List ℕ). xs ++ cond (counts (suc m)) (suc m ∷ []) []) (loose_are m) ∙ sym (filter_more counts m)

  -- membership
  in_loose : (m k : ℕ) → k < m → counts (suc k) ≡ true → In (suc k) (loose_nodes ws fs m)
  in_loose zero k l t = absurd (omega arith)
  in_loose (suc m) k l t = subst (In (suc k)) (sym (loose_more m)) (⊎_elim (λ (a : k < m). in_left (suc k) (loose_nodes ws fs m) _ (in_loose m k a t)) (λ (g : m ≤ k). here (omega arith)) (cases_lt k m))
    where
      here : k ≡ m → In (suc k) (loose_nodes ws fs m ++ cond (counts (suc m)) (suc m ∷ []) [])
      here e = in_right (suc k) (loose_nodes ws fs m) _ (subst (λ (xs : List ℕ). In (suc k) xs) (sym (cond-true _ _ _ (ap (λ (x : ℕ). counts (suc x)) (sym e) ∙ t))) (inl (ap suc e)))

  loose_in : (m n : ℕ) → In n (loose_nodes ws fs m) → (k : ℕ) × (n ≡ suc k) × (k < m) × (counts (suc k) ≡ true)
  loose_in zero n i = absurd (subst (In n) loose_none i)
  loose_in (suc m) n i = ⊎_elim (λ j. older (loose_in m n j)) newest (in_cases n (loose_nodes ws fs m) (cond (counts (suc m)) (suc m ∷ []) []) (subst (In n) (loose_more m) i))
    where
      older : (k : ℕ) × (n ≡ suc k) × (k < m) × (counts (suc k) ≡ true) → (k : ℕ) × (n ≡ suc k) × (k < suc m) × (counts (suc k) ≡ true)
      older (k, e, l, t) = (k, e, omega arith, t)

      single : In n (suc m ∷ []) → n ≡ suc m
      single (inl e) = e
      single (inr b) = absurd b

      newest : In n (cond (counts (suc m)) (suc m ∷ []) []) → (k : ℕ) × (n ≡ suc k) × (k < suc m) × (counts (suc k) ≡ true)
      newest j =
          ⊎_elim (λ (t : counts (suc m) ≡ true). (m, single (subst (In n) (cond-true _ _ _ t) j), omega arith, t))
          (λ (f : counts (suc m) ≡ false). absurd (subst (In n) (cond-false _ (suc m ∷ []) [] f) j)) (cases_Bool (counts (suc m)))

  loose_rises : (m : ℕ) → Rising (loose_nodes ws fs m)
  loose_rises zero = subst Rising (sym loose_none) tt
  loose_rises (suc m) =
      subst Rising (sym (loose_more m)) (cond_both (counts (suc m)) (suc m ∷ []) [] (λ (xs : List ℕ). Rising (loose_nodes ws fs m ++ xs)) (λ _. push (loose_nodes ws fs m) (suc m) (loose_rises m) below) (λ _. none (loose_nodes ws fs m) (loose_rises m)))
    where
      below : (y : ℕ) → In y (loose_nodes ws fs m) → y < suc m
      below y i = let (k, e, l, t) = loose_in m y i in omega (arith, e, l)

      push : (xs : List ℕ) (x : ℕ) → Rising xs → ((y : ℕ) → In y xs → y < x) → Rising (xs ++ (x ∷ []))
      push [] x r b = ((λ y i. absurd i), tt)
      push (z ∷ xs) x (r, rs) b = ((λ y i. ⊎_elim (r y) (λ j. last y j) (in_cases y xs (x ∷ []) i)), push xs x rs (λ y i. b y (inr i)))
        where
          last : (y : ℕ) → In y (x ∷ []) → z < y
          last y (inl e) = let q = b z (inl refl) in omega (arith, e, q)
          last y (inr e) = absurd e

      none : (xs : List ℕ) → Rising xs → Rising (xs ++ [])
      none [] r = tt
      none (z ∷ xs) (r, rs) = ((λ y i. ⊎_elim (r y) absurd (in_cases y xs [] i)), none xs rs)

thawed : (b c : Bool) → (not b && c) ≡ true → (b ≡ false) × (c ≡ true)
thawed true c e = absurd (both_ways false refl e)
thawed false c e = (refl, e)

module _ (ws : List ℕ) (fs : List Bool) (i : Image ws) where
  found : (n : ℕ) → In n (loose_nodes ws fs (top ws)) → LooseNode ws fs n
  found n j = go (loose_in ws fs (top ws) n j)
    where
      go : (k : ℕ) × (n ≡ suc k) × (k < top ws) × (counts ws fs (suc k) ≡ true) → LooseNode ws fs n
      go (k, e, l, t) = let (f, o) = thawed _ _ t in subst (LooseNode ws fs) (sym e) (record { above = omega arith; within = l; free = f; loose = loose_here ws i k l o })

  every : (n : ℕ) → LooseNode ws fs n → In n (loose_nodes ws fs (top ws))
  every zero g = let a = g.above in absurd (omega arith)
  every (suc k) g =
      let l : k < top ws = g.within in
      in_loose ws fs (top ws) k l (and_from _ _ (ap not g.free) (loose_only ws i k l g.loose))

  rest_tight : (k : ℕ) → k < top ws → get_or fs (suc k) false ≡ false → (In (suc k) (loose_nodes ws fs (top ws)) → ⊥) → Tight (suc k) (clauses (run ws (suc k)))
  rest_tight k l f n = tight_at ws i k l (⊎_elim (λ (t : loose_at ws (suc k) ≡ true). absurd (n (in_loose ws fs (top ws) k l (and_from _ _ (ap not f) t)))) (λ (g : loose_at ws (suc k) ≡ false). g) (cases_Bool (loose_at ws (suc k))))

pub loose_nodes_are_found : LooseNodesAreFound
loose_nodes_are_found = record {
  listed = λ ws fs i n. (found ws fs i n, every ws fs i n);
  rising = λ ws fs. loose_rises ws fs (top ws);
  others = λ ws fs i n. go ws fs i n;
}
  where
    go : (ws : List ℕ) (fs : List Bool) → Image ws → (n : ℕ) → 0 < n → n ≤ top ws → get_or fs n false ≡ false → (In n (loose_nodes ws fs (top ws)) → ⊥) → Tight n (clauses (run ws n))
    go ws fs i zero a l f j = absurd (omega arith)
    go ws fs i (suc k) a l f j = rest_tight ws fs i k l f j

pub ready_to_start : ReadyToStart
ready_to_start ws fs i z e = record {
  placed = own_placed ws i;
  total = own_total ws i;
  unique = own_unique ws i fs z (λ k l f. rest_tight ws fs i k l f (λ j. subst (In (suc k)) e j));
}
