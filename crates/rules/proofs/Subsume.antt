-- subsume_simplify keeps what is kept. Assumes nothing.
use Rattle.std.proofs.Common.{◌≡◌, ℕ, zero, suc, ◌+◌, ◌-◌, ◌<◌, ◌≤◌, true, cond, not, ◌&&◌, eqb, ltb, List, [], ◌∷◌, map, length, get_or, sym, refl, ap, ◌∙◌, subst, ◌⊎◌, inl, inr, ⊎_elim, arith}
use Rattle.std.proofs.lemmas.List.{get_or_past}
use Rattle.std.proofs.lemmas.Bool.{cases_eq, cases_lt, cond_both, ltb-true}
use Rattle.std.proofs.lemmas.Bool.Decides.{nat_tests}
use Rattle.network.specs.Assignments.{Assignment, node, opposite}
use Rattle.network.specs.Lists.{In}
use Rattle.network.specs.Networks.{Network}
use Rattle.network.specs.Clauses.{Ordered, without, Subsumes, owner, last}
use Rattle.network.specs.Subsumption.{Strengthens}
use Rattle.network.proofs.Literals.{node_neg}
use Rattle.network.proofs.Holding.{holds_more}
use Rattle.network.proofs.Networks.{clause_at}
use Rattle.network.proofs.Resolution.{in_without, without_in}
use Rattle.network.proofs.Sound.{strengthened}
use Rattle.network.proofs.Ordered.{ordered_kept}
use Rattle.network.specs.Values.{Values}
use Rattle.rules.specs.Kept.{Kept}
use Rattle.rules.specs.Store.{Ref, live, dead, Meaning, after_retired, retired, shortened, retire, droppable, index_on, index_off}
use Rattle.rules.specs.Held.{held, Placed}
use Rattle.rules.specs.Subsume.{Verdict, apart, subsumed, merged, both_lost, long_lost, verdict, place_after, on_verdict, checked_from, candidates, checked, walked, walk, walk_on}
use Rattle.rules.specs.Work.{each}
use Rattle.rules.specs.Turns.{Check, checks_from, walk_checks, all_checks, subsume_checks, granted, AllGranted}
use Rattle.network.proofs.Lists.{in_cases}
use Rattle.rules.proofs.Kept.{well}
use Rattle.rules.proofs.Verdicts.{Judged, verdict_is, owner_in, equal_rest, owner_without, free_without, owner_of, last_without}
use Rattle.rules.proofs.Drops.{not_nil, PartAt, swap_kept, pair_kept}
use Rattle.rules.proofs.Enter.{Implied}
use Rattle.rules.proofs.Answers.{retire_yes, shorten_yes, droppable_yes}
use Rattle.rules.specs.Subsume as work
use Rattle.rules.specs.Work.{Work, literals_of}
use Rattle.rules.proofs.Along.{stays_chains, each_along}
use Rattle.rules.proofs.Places as places

after_same : (k j l i : ℕ) → k ≡ l → place_after k j l i ≡ cond (ltb j i) (i - 1) i
after_same k j l i e = grind (arith, nat_tests)

after_apart : (k j l i : ℕ) → (k ≡ l → ⊥) → place_after k j l i ≡ i
after_apart k j l i a = grind (arith, nat_tests)

abbrev Held : List ℕ → ℕ → List (List ℕ) → Type 0
Held C p xs = (p < length xs) × (get_or xs p [] ≡ C)

-- the place of a clause once another is retired
retire_place : (M : Meaning) (k j l i : ℕ) → j < length (M.own k) → i < length (M.own l) → ((k ≡ l) → (j ≡ i) → ⊥)
    → (place_after k j l i < length ((retired k j M).own l)) × (get_or ((retired k j M).own l) (place_after k j l i) [] ≡ get_or (M.own l) i [])
retire_place M k j l i lj li a = ⊎_elim same other (cases_eq k l)
  where
    same : k ≡ l → (place_after k j l i < length ((retired k j M).own l)) × (get_or ((retired k j M).own l) (place_after k j l i) [] ≡ get_or (M.own l) i [])
    same e = subst (λ p. Held (get_or (M.own l) i []) p ((retired k j M).own l)) (sym (after_same k j l i e))
        (subst (λ g. Held (get_or (M.own l) i []) (cond (ltb j i) (i - 1) i) ((retired g j M).own l)) (sym e) (places.retired_at M l j i (subst (λ g. j < length (M.own g)) e lj) li (λ q. a e (sym q))))

    other : (k ≡ l → ⊥) → (place_after k j l i < length ((retired k j M).own l)) × (get_or ((retired k j M).own l) (place_after k j l i) [] ≡ get_or (M.own l) i [])
    other d = subst (λ p. Held (get_or (M.own l) i []) p ((retired k j M).own l)) (sym (after_apart k j l i d)) (subst (Held (get_or (M.own l) i []) i) (sym (places.retired_apart M k j l (λ e. d (sym e)))) (li, refl))

module _ (first : Network) (n : ℕ) (V : Values) (gone frozen : Assignment) where
  abbrev pub KeptIn : Meaning → Type 0
  KeptIn M = Kept first (held M) n V gone frozen

  abbrev pub Both : Meaning → Type 0
  Both M = KeptIn M × Placed M

  -- a clause loses a literal, not of its owner, where what is left follows
  loses : (M : Meaning) → KeptIn M → (k j z : ℕ) → j < length (M.own k) → Implied (held M) (without z (get_or (M.own k) j [])) → (node z ≡ owner (get_or (M.own k) j []) → ⊥) → KeptIn (shortened k j z M)
  loses M K k j z lj im a = lose (get_or (M.own k) j []) (places.in_at (M.own k) j [] lj) im a (places.shortened_new M k j z) (places.shortened_old M k j z) (places.shortened_here M k j z lj)
    where
      lose : (D : List ℕ) → In D (M.own k) → Implied (held M) (without z D) → (node z ≡ owner D → ⊥)
          → ((h : ℕ) (E : List ℕ) → In E (held (shortened k j z M) h) → In E (held M h) ⊎ ((node k ≡ h) × (E ≡ without z D)))
          → ((h : ℕ) (E : List ℕ) → In E (held M h) → In E (held (shortened k j z M) h) ⊎ ((node k ≡ h) × (E ≡ D)))
          → In (without z D) (held (shortened k j z M) (node k)) → KeptIn (shortened k j z M)
      lose D i im a new old here =
          let d = places.held_in M k D i in
          let o = K.clauses.order (node k) D d in
          let q : owner (without z D) ≡ node k = owner_without z D o (not_nil first (held M) n V gone frozen K (node k) D d) a ∙ K.clauses.owned (node k) D d in
          let p : PartAt (held M) (node k) (without z D) = record { whole = D; at = d; part = λ y h. (without_in z y D h).0; order = ordered_kept (λ w. not (eqb w z)) D o; owned = q; implied = im } in
          swap_kept first (held M) n V gone frozen K (held (shortened k j z M))
          (λ h E m. ⊎_elim inl (λ (w, e). inr (subst (λ g. PartAt (held M) g E) w (subst (PartAt (held M) (node k)) (sym e) p))) (new h E m))
          (λ h E m. ⊎_elim inl (λ (w, e). inr (without z D, subst (λ g. In (without z D) (held (shortened k j z M) g)) (sym q) here, λ y i. subst (In y) (sym e) (p.part y i))) (old h E m))

  module _ (M : Meaning) (K : KeptIn M) (l i k j : ℕ) (li : i < length (M.own l)) (apart' : (k ≡ l) → (j ≡ i) → ⊥) where
    C : List ℕ
    C = get_or (M.own l) i []

    D : List ℕ
    D = get_or (M.own k) j []

    in_c : In C (held M (node l))
    unfolding C
    in_c = places.held_in M l C (places.in_at (M.own l) i [] li)

    oC : Ordered C
    oC = K.clauses.order (node l) C in_c

    ownC : owner C ≡ node l
    ownC = K.clauses.owned (node l) C in_c

    C_not_nil : C ≡ [] → ⊥
    C_not_nil = not_nil first (held M) n V gone frozen K (node l) C in_c

    some_D : (z : ℕ) → In z D → j < length (M.own k)
    unfolding D
    some_D z h = ⊎_elim (λ m. m) (λ m. absurd (subst (In z) (get_or_past (M.own k) j [] m) h)) (cases_lt j (length (M.own k)))

    in_d : j < length (M.own k) → In D (held M (node k))
    unfolding D
    in_d lj = places.held_in M k D (places.in_at (M.own k) j [] lj)

    oD : j < length (M.own k) → Ordered D
    oD lj = K.clauses.order (node k) D (in_d lj)

    own_d : j < length (M.own k) → owner D ≡ node k
    own_d lj = K.clauses.owned (node k) D (in_d lj)

    wf : (h : ℕ) (E : List ℕ) → In E (held M h) → (x : ℕ) → In x E → node x ≤ h
    wf = well first (held M) n V gone frozen K

    -- C stays where D is retired
    C_stays : j < length (M.own k) → In C (held (retired k j M) (node l))
    unfolding C
    C_stays lj =
        let (p, e) = retire_place M k j l i lj li apart' in
        subst (λ E. In E (held (retired k j M) (node l))) e (places.held_in (retired k j M) l _ (places.in_at ((retired k j M).own l) (place_after k j l i) [] p))

    subsumed_kept : Subsumes C D → KeptIn (retired k j M)
    unfolding D
    subsumed_kept s = swap_kept first (held M) n V gone frozen K (held (retired k j M))
        (λ h E m. inl (places.retired_part M k j h E m))
        (λ h E m. ⊎_elim inl (λ (q, e). inr (C, subst (λ g. In C (held (retired k j M) g)) (sym ownC) (C_stays lj), λ x y. subst (In x) (sym e) (s x y))) (places.retired_lost M k j h E m))
      where
        lj : j < length (M.own k)
        lj = let (y, h, e) = owner_in C C_not_nil in some_D y (s y h)

    -- what is left of D where C takes a literal out of it
    rest_follows : (x : ℕ) → Strengthens x C D → Implied (held M) (without (opposite x) D)
    rest_follows x b = (
      suc (node l + node k),
      λ σ s. strengthened σ x C D b (clause_at (held M) (suc (node l + node k)) (node l) C σ s (omega arith) in_c)
          (clause_at (held M) (suc (node l + node k)) (node k) D σ s (omega arith) (in_d (some_D (opposite x) b.there))),
    )

    strengthened_kept : (x z : ℕ) → z ≡ opposite x → Strengthens x C D → (node x ≡ owner D → ⊥) → KeptIn (shortened k j z M)
    unfolding D
    strengthened_kept x z ez b a = loses M K k j z (some_D (opposite x) b.there) (subst (λ w. Implied (held M) (without w D)) (sym ez) (rest_follows x b)) (λ q. a (sym (node_neg x) ∙ ap node (sym ez) ∙ q))

    -- C loses x
    merged_first : (x : ℕ) → Strengthens x C D → length C ≡ length D → (node x ≡ owner C → ⊥) → KeptIn (shortened l i x M)
    unfolding C
    merged_first x b e a =
        let (m, f) = rest_follows x b in
        loses M K l i x li (m, λ σ s. holds_more σ (without (opposite x) D) (without x C) (equal_rest x C D oC (oD (some_D (opposite x) b.there)) b e) (f σ s)) a

    both_kept : (x : ℕ) → Strengthens x C D → length C ≡ length D → node x ≡ owner C → KeptIn (retired l (place_after k j l i) (retired k j M))
    unfolding C D
    both_kept x b e nx = pair_kept first (held M) n V gone frozen K (held (retired l (place_after k j l i) (retired k j M))) (node l) x (without x C) C D (nx ∙ ownC)
        (λ y h q. free_without x C oC b.here y h (q ∙ sym ownC ∙ sym nx)) in_c (subst (λ g. In D (held M g)) same_node (in_d lj))
        (λ y h. ⊎_elim inl (λ d. inr (in_without x y C h d)) (cases_eq y x))
        (λ y h. ⊎_elim inl (λ d. inr (rest y (in_without (opposite x) y D h d))) (cases_eq y (opposite x)))
        (λ h E m. places.retired_part M k j h E (places.retired_part (retired k j M) l (place_after k j l i) h E m))
        (λ h E m. ⊎_elim (λ p. ⊎_elim inl (λ (q, r). inr (sym q, λ y w. subst (In y) (sym (r ∙ at)) (without_in x y C w).0)) (places.retired_lost (retired k j M) l (place_after k j l i) h E p))
        (λ (q, r). inr (sym q ∙ same_node, λ y w. subst (In y) (sym r) (let (u, d) = without_in x y C w in (b.rest y u d).0))) (places.retired_lost M k j h E m))
      where
        lj : j < length (M.own k)
        lj = some_D (opposite x) b.there

        at : get_or ((retired k j M).own l) (place_after k j l i) [] ≡ C
        at = (retire_place M k j l i lj li apart').1

        rest : Subsumes (without (opposite x) D) (without x C)
        rest = equal_rest x C D oC (oD lj) b e

        same_node : node k ≡ node l
        same_node = sym (own_d lj) ∙ owner_of x (node l) D (oD lj) (opposite x) b.there (node_neg x ∙ nx ∙ ownC)
            (λ y h. ⊎_elim (λ q. omega (arith, ap node q, node_neg x, nx, ownC)) (λ d. wf (node l) C in_c y (without_in x y C (rest y (in_without (opposite x) y D h d))).0) (cases_eq y (opposite x)))

    long_kept : (x : ℕ) → Strengthens x C D → node x ≡ owner D → KeptIn (retired k j M)
    unfolding D
    long_kept x b nx = pair_kept first (held M) n V gone frozen K (held (retired k j M)) (node k) x (without (opposite x) D) C D (nx ∙ own_d lj)
        (λ y h q. free_without (opposite x) D (oD lj) b.there y h (q ∙ sym (own_d lj) ∙ sym nx ∙ sym (node_neg x))) (subst (λ g. In C (held M g)) same_node in_c) (in_d lj)
        (λ y h. ⊎_elim inl (λ d. inr (let (u, v) = b.rest y h d in in_without (opposite x) y D u v)) (cases_eq y x))
        (λ y h. ⊎_elim inl (λ d. inr (in_without (opposite x) y D h d)) (cases_eq y (opposite x)))
        (places.retired_part M k j)
        (λ h E m. ⊎_elim inl (λ (q, r). inr (sym q, λ y w. subst (In y) (sym r) (without_in (opposite x) y D w).0)) (places.retired_lost M k j h E m))
      where
        lj : j < length (M.own k)
        lj = some_D (opposite x) b.there

        same_node : node l ≡ node k
        same_node = sym ownC ∙ owner_of x (node k) C oC x b.here (nx ∙ own_d lj)
            (λ y h. ⊎_elim (λ q. omega (arith, ap node q, nx, own_d lj)) (λ d. wf (node k) D (in_d lj) y (b.rest y h d).0) (cases_eq y x))

    merged_kept : (x : ℕ) → Strengthens x C D → length C ≡ length D → (node x ≡ owner C → ⊥)
        → KeptIn (retired k j (shortened l i x M)) × (place_after k j l i < length ((retired k j (shortened l i x M)).own l))
    unfolding C D
    merged_kept x b e a = (
      swap_kept first (held M₁) n V gone frozen K₁ (held (retired k j M₁)) (λ h E m. inl (places.retired_part M₁ k j h E m))
          (λ h E m. ⊎_elim inl (λ (q, r). inr (
            without x C,
            subst (λ g. In (without x C) (held (retired k j M₁) g)) (sym (owner_without x C oC C_not_nil a ∙ ownC)) stays,
            λ y w. subst (In y) (sym (r ∙ D_at)) (let (u, d) = without_in x y C w in (b.rest y u d).0),
          )) (places.retired_lost M₁ k j h E m)),
      moved.0,
    )
      where
        M₁ : Meaning
        M₁ = shortened l i x M

        K₁ : KeptIn M₁
        K₁ = merged_first x b e a

        li₁ : i < length (M₁.own l)
        li₁ = subst (λ m. i < m) (sym (places.shortened_length M l i x l)) li

        lj₁ : j < length (M₁.own k)
        lj₁ = subst (λ m. j < m) (sym (places.shortened_length M l i x k)) (some_D (opposite x) b.there)

        D_at : get_or (M₁.own k) j [] ≡ D
        D_at = places.shortened_other M l i x k j apart'

        moved : (place_after k j l i < length ((retired k j M₁).own l)) × (get_or ((retired k j M₁).own l) (place_after k j l i) [] ≡ get_or (M₁.own l) i [])
        moved = retire_place M₁ k j l i lj₁ li₁ apart'

        stays : In (without x C) (held (retired k j M₁) (node l))
        stays = subst (λ E. In E (held (retired k j M₁) (node l))) (moved.1 ∙ places.shortened_at M l i x li) (places.held_in (retired k j M₁) l _ (places.in_at ((retired k j M₁).own l) (place_after k j l i) [] moved.0))

    short_C : Placed M → (x : ℕ) → (node x ≡ owner C → ⊥) → last (without x C) ≡ l
    unfolding C
    short_C P x a = last_without x C oC C_not_nil a ∙ P l C (places.in_at (M.own l) i [] li)

    short_D : Placed M → j < length (M.own k) → (x : ℕ) → (node x ≡ owner D → ⊥) → last (without x D) ≡ k
    unfolding D
    short_D P lj x a = last_without x D (oD lj) (not_nil first (held M) n V gone frozen K (node k) D (in_d lj)) a ∙ P k D (places.in_at (M.own k) j [] lj)

    -- a literal of another node than the owner's may be dropped
    drop_C : (x : ℕ) → In x C → (node x ≡ owner C → ⊥) → droppable M l i x ≡ true
    unfolding C
    drop_C x h a = droppable_yes M l i x li h a

    drop_D : (z : ℕ) → In z D → (node z ≡ owner D → ⊥) → droppable M k j z ≡ true
    unfolding D
    drop_D z h a = droppable_yes M k j z (some_D z h) h a

    -- what a verdict asks for is granted, and what is kept stays kept where it goes on and where it stops
    module _ {X : Type 0} (P : X → Type 0) (Rs : List Ref) (go : ℕ → List Ref → Meaning → X) (stop : Meaning → ℕ → X)
        (f : (i₁ : ℕ) (Rs₁ : List Ref) (M₁ : Meaning) → Both M₁ → i₁ < length (M₁.own l) → P (go i₁ Rs₁ M₁)) (g : (M₁ : Meaning) (p : ℕ) → Both M₁ → P (stop M₁ p))
      where
        verdict_kept : Placed M → (v : Verdict) → Judged C D v → P (on_verdict v l i k j Rs M go stop) × (granted v l i k j M ≡ true)
        unfolding C D
        verdict_kept H apart h = (f i Rs M (K, H) li, refl)
        verdict_kept H subsumed s =
            let lj : j < length (M.own k) = (let (y, h, e) = owner_in C C_not_nil in some_D y (s y h)) in
            subst (λ r. P (go (place_after k j l i) (map (after_retired k j) Rs) r.0) × (r.1 ≡ true)) (sym (retire_yes k j M lj))
            (f (place_after k j l i) (map (after_retired k j) Rs) (retired k j M) (subsumed_kept s, places.retired_placed M k j H) (retire_place M k j l i lj li apart').0, refl)
        verdict_kept H (merged x) (b, e, a) =
            let (m, p) = merged_kept x b e a in
            let lj : j < length ((shortened l i x M).own k) = subst (λ m. j < m) (sym (places.shortened_length M l i x k)) (some_D (opposite x) b.there) in
            subst (λ r. P (go (place_after k j l i) (map (after_retired k j) Rs) (retire k j r.0).0) × ((r.1 && (retire k j r.0).1) ≡ true)) (sym (shorten_yes l i x M (drop_C x b.here a)))
            (subst (λ r. P (go (place_after k j l i) (map (after_retired k j) Rs) r.0) × (r.1 ≡ true)) (sym (retire_yes k j (shortened l i x M) lj))
            (f (place_after k j l i) (map (after_retired k j) Rs) (retired k j (shortened l i x M)) (m, places.retired_placed (shortened l i x M) k j (places.shortened_placed M l i x (short_C H x a) H)) p, refl))
        verdict_kept H both_lost (x, b, e, nx) =
            let lj = some_D (opposite x) b.there in
            subst (λ r. P (stop (retire l (place_after k j l i) r.0).0 (place_after k j l i)) × ((r.1 && (retire l (place_after k j l i) r.0).1) ≡ true)) (sym (retire_yes k j M lj))
            (subst (λ r. P (stop r.0 (place_after k j l i)) × (r.1 ≡ true)) (sym (retire_yes l (place_after k j l i) (retired k j M) (retire_place M k j l i lj li apart').0))
            (g (retired l (place_after k j l i) (retired k j M)) (place_after k j l i) (both_kept x b e nx, places.retired_placed (retired k j M) l (place_after k j l i) (places.retired_placed M k j H)), refl))
        verdict_kept H long_lost (x, b, nx) =
            let lj = some_D (opposite x) b.there in
            subst (λ r. P (go (place_after k j l i) (map (after_retired k j) Rs) r.0) × (r.1 ≡ true)) (sym (retire_yes k j M lj))
            (f (place_after k j l i) (map (after_retired k j) Rs) (retired k j M) (long_kept x b nx, places.retired_placed M k j H) (retire_place M k j l i lj li apart').0, refl)
        verdict_kept H (work.strengthened z) (x, ez, b, a) =
            let az : node z ≡ owner D → ⊥ = λ q. a (sym (node_neg x) ∙ ap node (sym ez) ∙ q) in
            subst (λ r. P (go i Rs r.0) × (r.1 ≡ true)) (sym (shorten_yes k j z M (drop_D z (subst (λ y. In y D) (sym ez) b.there) az)))
            (f i Rs (shortened k j z M) (strengthened_kept x z ez b a, places.shortened_placed M k j z (short_D H (some_D (opposite x) b.there) z az) H) (subst (λ m. i < m) (sym (places.shortened_length M k j z l)) li), refl)

    -- D past the end of its list is empty, and apart
    judged_here : Judged C D (verdict C D)
    unfolding D
    judged_here = ⊎_elim (λ m. verdict_is C D oC (oD m)) (λ m. verdict_is C D oC (subst Ordered (sym (get_or_past (M.own k) j [] m)) tt)) (cases_lt j (length (M.own k)))

  checked_kept : (f l i : ℕ) (Rs : List Ref) (M : Meaning) → Both M → i < length (M.own l) → Both (checked_from f l i Rs M).0
  unfolding checked_from C D
  checked_kept zero l i Rs M K li = K
  checked_kept (suc f) l i [] M K li = K
  checked_kept (suc f) l i (dead ∷ Rs) M K li = checked_kept f l i Rs M K li
  checked_kept (suc f) l i (live k j ∷ Rs) M K li =
      cond_both (eqb k l && eqb j i) (checked_from f l i Rs M) _ (λ r. Both r.0)
      (λ e. checked_kept f l i Rs M K li)
      (λ e. (verdict_kept M K.0 l i k j li (λ p q. grind (arith, nat_tests, e)) (λ (r : Meaning × ℕ). Both r.0) Rs (λ i₁ Rs₁ M₁. checked_from f l i₁ Rs₁ M₁) (λ M₁ p. (M₁, p))
      (λ i₁ Rs₁ M₁ K₁ l₁. checked_kept f l i₁ Rs₁ M₁ K₁ l₁) (λ M₁ p K₁. K₁)
      K.1 (verdict (get_or (M.own l) i []) (get_or (M.own k) j [])) (judged_here M K.0 l i k j li (λ p q. grind (arith, nat_tests, e)))).0)

  checks_granted : (f l i : ℕ) (Rs : List Ref) (M : Meaning) → Both M → i < length (M.own l) → AllGranted (checks_from f l i Rs M)
  unfolding checks_from C D
  checks_granted zero l i Rs M K li = λ c h. absurd h
  checks_granted (suc f) l i [] M K li = λ c h. absurd h
  checks_granted (suc f) l i (dead ∷ Rs) M K li = checks_granted f l i Rs M K li
  checks_granted (suc f) l i (live k j ∷ Rs) M K li =
      cond_both (eqb k l && eqb j i) (checks_from f l i Rs M) _ AllGranted
      (λ e. checks_granted f l i Rs M K li)
      (λ e. first_and M l i k j (on_verdict (verdict (get_or (M.own l) i []) (get_or (M.own k) j [])) l i k j Rs M (λ i₁ Rs₁ M₁. checks_from f l i₁ Rs₁ M₁) (λ M₁ p. [])) (verdict_kept M K.0 l i k j li (λ p q. grind (arith, nat_tests, e)) AllGranted Rs (λ i₁ Rs₁ M₁. checks_from f l i₁ Rs₁ M₁) (λ M₁ p. [])
      (λ i₁ Rs₁ M₁ K₁ l₁. checks_granted f l i₁ Rs₁ M₁ K₁ l₁) (λ M₁ p K₁ c h. absurd h)
      K.1 (verdict (get_or (M.own l) i []) (get_or (M.own k) j [])) (judged_here M K.0 l i k j li (λ p q. grind (arith, nat_tests, e)))))
    where
      first_and : (M : Meaning) (l i k j : ℕ) (cs : List Check) → AllGranted cs × (granted (verdict (get_or (M.own l) i []) (get_or (M.own k) j [])) l i k j M ≡ true)
          → AllGranted (record { list = l; place = i; other_list = k; other_place = j; before = M } ∷ cs)
      first_and M l i k j cs (a, b) c h = ⊎_elim
          (λ e. subst (λ (d : Check). granted (verdict (get_or (d.before.own d.list) d.place []) (get_or (d.before.own d.other_list) d.other_place [])) d.list d.place d.other_list d.other_place d.before ≡ true) (sym e) b) (a c) h

  walked_kept : (f l i : ℕ) (M : Meaning) → Both M → Both (walked f l i M)
  unfolding walked checked
  walked_kept zero l i M K = K
  walked_kept (suc f) l i M K = cond_both (ltb i (length (M.own l))) (walk_on (checked l i M) (walked f l)) M Both
      (λ e. walked_kept f l (checked l i M).1 (checked l i M).0 (checked_kept _ l i _ M K (ltb-true i (length (M.own l)) e))) (λ e. K)

  walk_granted : (f l i : ℕ) (M : Meaning) → Both M → AllGranted (walk_checks f l i M)
  unfolding walk_checks checked
  walk_granted zero l i M K = λ c h. absurd h
  walk_granted (suc f) l i M K = cond_both (ltb i (length (M.own l))) _ [] AllGranted
      (λ e c h. let li = ltb-true i (length (M.own l)) e in
      ⊎_elim (checks_granted (length (candidates l i M)) l i (candidates l i M) M K li c) (walk_granted f l (checked l i M).1 (checked l i M).0 (checked_kept _ l i _ M K li) c)
      (in_cases c (checks_from (length (candidates l i M)) l i (candidates l i M) M) (walk_checks f l (checked l i M).1 (checked l i M).0) h))
      (λ e c h. absurd h)

  walks_kept : (ls : List ℕ) (M : Meaning) → Both M → Both (each walk ls M)
  walks_kept = each_along (λ M N. Both M → Both N) (stays_chains Both) walk (λ l M. walked_kept (length (M.own l)) l 0 M)

  walks_granted : (ls : List ℕ) (M : Meaning) → Both M → AllGranted (all_checks ls M)
  unfolding all_checks
  walks_granted [] M K = λ c h. absurd h
  walks_granted (l ∷ ls) M K = λ c h. ⊎_elim (walk_granted (length (M.own l)) l 0 M K c) (walks_granted ls (walk l M) (walked_kept (length (M.own l)) l 0 M K) c)
      (in_cases c (walk_checks (length (M.own l)) l 0 M) (all_checks ls (walk l M)) h)

  -- an index changes no clause
  index_on_kept : (M : Meaning) → Both M → Both (index_on M)
  unfolding index_on held
  index_on_kept M K = cond_both M.indexed M _ Both (λ e. K) (λ e. K)

  index_off_kept : (M : Meaning) → Both M → Both (index_off M)
  unfolding index_off held
  index_off_kept M K = K

  pub subsume_kept : (W : Work) → Both W.store → Both (work.subsume_simplify W).store
  unfolding work.subsume_simplify
  subsume_kept W K = index_off_kept _ (walks_kept (literals_of W) (index_on W.store) (index_on_kept W.store K))

  pub subsume_granted : (W : Work) → Both W.store → AllGranted (subsume_checks W)
  subsume_granted W K = walks_granted (literals_of W) (index_on W.store) (index_on_kept W.store K)
