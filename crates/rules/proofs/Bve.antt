-- bve_simplify keeps what is kept. Assumes nothing.
use Rattle.std.proofs.Common.{◌≡◌, ℕ, suc, ◌+◌, ◌*◌, ◌<◌, ◌≤◌, true, false, ◌||◌, eqb, ltb, ◌⊎◌, List, [], ◌∷◌, length, get_or, Some, None, Option, sym, refl, ap, ◌∙◌, subst, inl, inr, ⊎_elim, arith, flat_map, option_to_list}
use mathlib.Core.Path.{fun_ext}
use Rattle.std.proofs.lemmas.Bool.{cases_eq, cases_lt, cases_Bool, cond_both, or_parts, eqb-false}
use Rattle.std.proofs.lemmas.Bool.Decides.{nat_tests}
use Rattle.network.specs.Assignments.{Assignment, node, opposite, put, holds}
use Rattle.network.specs.Lists.{In}
use Rattle.network.specs.Levels.{Below}
use Rattle.network.specs.Networks.{Network, level, Free}
use Rattle.network.specs.Clauses.{Ordered, Subsumes, owner, has, last, front}
use Rattle.network.specs.Resolution.{resolve, Resolvent, Resolved, Resolves}
use Rattle.network.proofs.Literals.{node_neg, neg_neg}
use Rattle.network.proofs.Lists.{in_left, in_right, in_cases, in_flat_map, flat_map_in, in_option, option_in}
use Rattle.network.proofs.Holding.{holds_more}
use Rattle.network.proofs.Networks.{clause_at}
use Rattle.network.proofs.Ordered.{owner_below, ordered_rising, ordered_once}
use Rattle.network.proofs.Resolution.{resolve_is}
use Rattle.network.proofs.Sound.{resolution, resolvent_holds, holds_resolvent, tautology_holds, named}
use Rattle.network.specs.Lemmas.{lemmas}
use Rattle.rules.specs.Kept.{Kept}
use Rattle.rules.specs.Store.{Ref, live, dead, Meaning, index_on}
use Rattle.rules.specs.Held.{held, Placed}
use Rattle.rules.specs.Index.{Indexed}
use Rattle.rules.specs.Good.{Good}
use Rattle.rules.specs.Work.{Work, storing, each}
use Rattle.rules.proofs.Plain.{add, attempted, attempt, eliminated}
use Rattle.rules.specs.Bve.{referred_clause, resolvents, all_resolvents, cost, passed_over, given_up, taken_out}
use Rattle.rules.proofs.Kept.{well}
use Rattle.rules.proofs.Out.{out_any}
use Rattle.rules.proofs.Enter.{Occurs, Implied}
use Rattle.rules.proofs.Verdicts.{owner_last, last_in}
use Rattle.rules.proofs.Drops.{not_nil}
use Rattle.rules.proofs.Places.{in_at, at_in, held_in, in_held}
use Rattle.rules.proofs.Lemmas.{SaysSame, lemmas_is}
use Rattle.rules.proofs.Index.{index_on_indexed}
use Rattle.rules.proofs.Adds.{Adds, adds_kept, adds_top, adds_zero, adds_placed, adds_indexed, Related, adds_related, Covered}
use Rattle.rules.proofs.TakenOut.{cost_zero, front_in, front_or_last, out_to, out_fro, out_placed, out_indexed}

neg_even : (v : ℕ) → opposite (2 * v) ≡ 2 * v + 1
unfolding opposite
neg_even v = grind (arith, nat_tests)

neg_odd : (v : ℕ) → opposite (2 * v + 1) ≡ 2 * v
unfolding opposite
neg_odd v = grind (arith, nat_tests)

literal_cases : (v p : ℕ) → node p ≡ v → (p ≡ 2 * v) ⊎ (p ≡ 2 * v + 1)
literal_cases v p e = ⊎_elim inl (λ a. inr (omega (arith, a, e))) (cases_eq p (2 * v))

-- a resolvent upon the literal p of v
record Upon (M : Meaning) (v : ℕ) (R : List ℕ) : Type 0 where
  p : ℕ
  C : List ℕ
  r : Ref
  at : node p ≡ v
  in_c : In C (M.own p)
  in_r : In r (M.uses (opposite p))
  is : resolve p C (referred_clause M r) ≡ Some R

module _ (M : Meaning) (v : ℕ) where
  in_one : (p : ℕ) (C : List ℕ) (r : Ref) (R : List ℕ) (Rs : List Ref) → In C (M.own p) → In r Rs → resolve p C (referred_clause M r) ≡ Some R → In R (resolvents M p (M.own p) Rs)
  unfolding resolvents
  in_one p C r R Rs i j e = in_flat_map (λ C. flat_map (λ R. option_to_list (resolve p C (referred_clause M R))) Rs) (M.own p) C R i
      (in_flat_map (λ R. option_to_list (resolve p C (referred_clause M R))) Rs r R j (in_option (resolve p C (referred_clause M r)) R e))

  one_in : (p : ℕ) (R : List ℕ) (Rs : List Ref) → In R (resolvents M p (M.own p) Rs) → (C : List ℕ) × (r : Ref) × In C (M.own p) × In r Rs × (resolve p C (referred_clause M r) ≡ Some R)
  unfolding resolvents
  one_in p R Rs h = grind (arith, nat_tests, flat_map_in, option_in)

  upon : (R : List ℕ) → In R (all_resolvents M v) → Upon M v R
  unfolding all_resolvents
  upon R h = ⊎_elim
      (λ j. let (C, r, a, b, e) = one_in (2 * v) R (M.uses (2 * v + 1)) j in
      record { p = 2 * v; C = C; r = r; at = omega arith; in_c = a; in_r = subst (λ x. In r (M.uses x)) (sym (neg_even v)) b; is = e })
      (λ j. let (C, r, a, b, e) = one_in (2 * v + 1) R (M.uses (2 * v)) j in
      record { p = 2 * v + 1; C = C; r = r; at = omega arith; in_c = a; in_r = subst (λ x. In r (M.uses x)) (sym (neg_odd v)) b; is = e })
      (in_cases R (resolvents M (2 * v) (M.own (2 * v)) (M.uses (2 * v + 1))) (resolvents M (2 * v + 1) (M.own (2 * v + 1)) (M.uses (2 * v))) h)

  all_upon : (R : List ℕ) → Upon M v R → In R (all_resolvents M v)
  unfolding all_resolvents
  all_upon R u = ⊎_elim
      (λ e. in_left R (resolvents M (2 * v) (M.own (2 * v)) (M.uses (2 * v + 1))) (resolvents M (2 * v + 1) (M.own (2 * v + 1)) (M.uses (2 * v)))
      (in_one (2 * v) u.C u.r R (M.uses (2 * v + 1)) (subst (λ x. In u.C (M.own x)) e u.in_c) (subst (λ x. In u.r (M.uses x)) (ap opposite e ∙ neg_even v) u.in_r) (subst (λ x. resolve x u.C (referred_clause M u.r) ≡ Some R) e u.is)))
      (λ e. in_right R (resolvents M (2 * v) (M.own (2 * v)) (M.uses (2 * v + 1))) (resolvents M (2 * v + 1) (M.own (2 * v + 1)) (M.uses (2 * v)))
      (in_one (2 * v + 1) u.C u.r R (M.uses (2 * v)) (subst (λ x. In u.C (M.own x)) e u.in_c) (subst (λ x. In u.r (M.uses x)) (ap opposite e ∙ neg_odd v) u.in_r) (subst (λ x. resolve x u.C (referred_clause M u.r) ≡ Some R) e u.is)))
      (literal_cases v u.p u.at)

flip : (σ : Assignment) (x : ℕ) (C D : List ℕ) → Resolves (opposite x) D C σ → Resolves x C D σ
flip σ x C D (l, inl (i, a), t) = (l, inr (i, a), t)
flip σ x C D (l, inr (i, a), t) = (l, inl (i, λ e. a (e ∙ sym (neg_neg x))), t)

module _ (first : Network) (n v : ℕ) (gone frozen : Assignment) (pos : 0 < n) (W : Work) (top : n ≡ suc W.top)
    (K : Kept first (held W.store) n W.values gone frozen) (P : Placed W.store) (I : Indexed W.store)
    (vn : v < n) (here : frozen v ≡ false) (there : gone v ≡ false)
  where
    M : Meaning
    M = W.store

    -- a clause of the store
    at : (l : ℕ) (E : List ℕ) → In E (M.own l) → Ordered E × (owner E ≡ node l) × (node l < n) × In (last E) E
    unfolding M
    at l E i =
        let h = held_in M l E i in
        (K.clauses.order (node l) E h, K.clauses.owned (node l) E h, K.clauses.small (node l) E h, last_in E (not_nil first (held M) n W.values gone frozen K (node l) E h))

    -- the two clauses of a resolvent
    record Pair (R : List ℕ) : Type 0 where
      p : ℕ
      C : List ℕ
      E : List ℕ
      l : ℕ
      pv : node p ≡ v
      in_c : In C (M.own p)
      inE : In E (M.own l)
      hasC : In p C
      hasE : In (opposite p) E
      is : Resolvent p C E R

    pair : (R : List ℕ) → In R (all_resolvents M v) → Pair R
    unfolding M
    pair R h = go (upon M v R h)
      where
        go : Upon M v R → Pair R
        go u = from u.r u.in_r u.is
          where
            from : (r : Ref) → In r (M.uses (opposite u.p)) → resolve u.p u.C (referred_clause M r) ≡ Some R → Pair R
            from dead i e = absurd (I.no_dead (opposite u.p) i)
            from (live l i) j e =
                let (li, f) = I.named (opposite u.p) l i j in
                let E = get_or (M.own l) i [] in
                let inE : In E (M.own l) = in_at (M.own l) i [] li in
                let (oC, a, b, c) = at u.p u.C u.in_c in
                let (oE, a', b', c') = at l E inE in
                record {
                  p = u.p;
                  C = u.C;
                  E = E;
                  l = l;
                  pv = u.at;
                  in_c = u.in_c;
                  inE = inE;
                  hasC = subst (λ x. In x u.C) (P u.p u.C u.in_c) c;
                  hasE = front_in E (opposite u.p) f;
                  is = subst (Resolved u.p u.C E) e (resolve_is u.p u.C E (ordered_rising u.C oC) (ordered_rising E oE));
                }

    Rs : List (List ℕ)
    Rs = all_resolvents M v

    Ls : List (List ℕ)
    Ls = lemmas Rs

    module _ (R : List ℕ) (q : Pair R) where
      pair_occurs : Occurs (held M) R
      pair_occurs l i = ⊎_elim (λ (c, a). (node q.p, q.C, held_in M q.p q.C q.in_c, c)) (λ (e, a). (node q.l, q.E, held_in M q.l q.E q.inE, e)) (q.is.only l i)

      pair_implied : (σ : Assignment) → Below (level (held M)) n σ → holds σ R ≡ true
      pair_implied σ s = resolvent_holds σ q.p q.C q.E R q.is (resolution σ q.p q.C q.E
          (clause_at (held M) n (node q.p) q.C σ s (at q.p q.C q.in_c).2 (held_in M q.p q.C q.in_c))
          (clause_at (held M) n (node q.l) q.E σ s (at q.l q.E q.inE).2 (held_in M q.l q.E q.inE)))

      pair_free : Free v R
      pair_free l i e = ⊎_elim
          (λ (c, a). a (ordered_once q.C (at q.p q.C q.in_c).0 l q.p c q.hasC (e ∙ sym q.pv)))
          (λ (c, a). a (ordered_once q.E (at q.l q.E q.inE).0 l (opposite q.p) c q.hasE (e ∙ sym q.pv ∙ sym (node_neg q.p))))
          (q.is.only l i)

    simp : SaysSame Rs Ls
    unfolding Rs Ls
    simp = lemmas_is Rs (λ R i. (pair R i).is.rising)

    lemma_occurs : (L : List ℕ) → In L Ls → Occurs (held M) L
    unfolding Rs
    lemma_occurs L i l j = let (R, h, m) = simp.literals L l i j in pair_occurs R (pair R h) l m

    lemma_implied : (L : List ℕ) → In L Ls → Implied (held M) L
    unfolding Rs
    lemma_implied L i = (n, λ σ s. simp.follows σ (λ R h. pair_implied R (pair R h) σ s) L i)

    lemma_free : (L : List ℕ) → In L Ls → Free v L
    unfolding Rs
    lemma_free L i l j = let (R, h, m) = simp.literals L l i j in pair_free R (pair R h) l m

    wide : Work
    wide = each add Ls W

    less : Work
    less = each add Ls (taken_out v W)

    adds : Adds first n gone frozen pos W wide Ls
    unfolding wide M
    adds = adds_kept first n gone frozen pos Ls W K simp.ordered lemma_occurs lemma_implied

    bound : (l : ℕ) (E : List ℕ) → In E (M.own l) → l < 2 * W.top + 2
    bound l E i = omega (arith, (at l E i).2, top)

    related : Related v wide less
    unfolding wide less M
    related = adds_related v Ls W (taken_out v W) (record {
      values = unfold taken_out in refl;
      to = out_to v W I P (λ l E i. (at l E i).3) bound;
      fro = out_fro v W I P (λ l E i. (at l E i).3) bound;
    }) lemma_free

    -- a clause that names v is an old one
    old_one : (k x : ℕ) (E : List ℕ) → In E (held wide.store k) → In x E → node x ≡ v → In E (held M k)
    unfolding M
    old_one k x E i j e = ⊎_elim (λ h. h) (λ (L, h, s). absurd (lemma_free L h x (s x j) e)) (adds.from k E i)

    resolved : (k x : ℕ) (C D : List ℕ) → v < k → In C (held wide.store k) → In x C → node x ≡ v → In D (held wide.store v) → In (opposite x) D
        → (σ : Assignment) → Below (level (held less.store)) (suc k) σ → Resolves x C D σ
    unfolding M
    resolved k x C D vk iC xC nx iD nD σ s = flip σ x C D (go (resolve (opposite x) D C) refl resolved_is)
      where
        in_c : (l : ℕ) × (node l ≡ k) × In C (M.own l)
        in_c = in_held M k C (old_one k x C iC xC nx)

        in_d : (l : ℕ) × (node l ≡ v) × In D (M.own l)
        in_d = in_held M v D (old_one v (opposite x) D iD nD (node_neg x ∙ nx))

        oC : Ordered C
        oC = (at in_c.0 C in_c.2).0

        oD : Ordered D
        oD = (at in_d.0 D in_d.2).0

        resolved_is : Resolved (opposite x) D C (resolve (opposite x) D C)
        resolved_is = resolve_is (opposite x) D C (ordered_rising D oD) (ordered_rising C oC)

        -- D has opposite x last
        D_at : In D (M.own (opposite x))
        D_at = subst (λ g. In D (M.own g)) (sym (P in_d.0 D in_d.2) ∙ ordered_once D oD (last D) (opposite x) (at in_d.0 D in_d.2).3 nD
            (sym (owner_last D) ∙ (at in_d.0 D in_d.2).1 ∙ in_d.1 ∙ sym nx ∙ sym (node_neg x))) in_d.2

        -- C is referred to from x
        place : (i : ℕ) × (i < length (M.own in_c.0)) × (get_or (M.own in_c.0) i [] ≡ C)
        place = at_in (M.own in_c.0) C [] in_c.2

        x_front : In x (front C)
        x_front = ⊎_elim (λ f. f) (λ e. absurd (omega (arith, vk, sym (owner_last C) ∙ (at in_c.0 C in_c.2).1 ∙ in_c.1, ap node e, nx))) (front_or_last C x xC)

        ref : In (live in_c.0 place.0) (M.uses (opposite (opposite x)))
        ref = subst (λ g. In (live in_c.0 place.0) (M.uses g)) (sym (neg_neg x)) (I.every x in_c.0 place.0 place.1 (subst (λ E. In x (front E)) (sym place.2) x_front))

        go : (o : Option (List ℕ)) → resolve (opposite x) D C ≡ o → Resolved (opposite x) D C o → Resolves (opposite x) D C σ
        go None e t = tautology_holds σ (opposite x) D C t
        go (Some R) e r = holds_resolvent σ (opposite x) D C R r (covered (simp.covers R in_r))
          where
            in_r : In R Rs
            in_r = unfold Rs in (all_upon M v R (record { p = opposite x; C = D; r = live in_c.0 place.0; at = node_neg x ∙ nx; in_c = D_at; in_r = ref; is = ap (resolve (opposite x) D) place.2 ∙ e }))

            within : (l : ℕ) → In l R → node l ≤ k
            within l i = ⊎_elim (λ (h, a). omega (arith, well first (held M) n W.values gone frozen K v D (subst (λ g. In D (held M g)) in_d.1 (held_in M in_d.0 D in_d.2)) l h, vk))
                (λ (h, a). well first (held M) n W.values gone frozen K k C (subst (λ g. In C (held M g)) in_c.1 (held_in M in_c.0 C in_c.2)) l h) (r.only l i)

            covered : (L : List ℕ) × In L Ls × Subsumes L R → holds σ R ≡ true
            covered (L, h, t) = by (adds.covered L h)
              where
                by : Covered (held wide.store) L → holds σ R ≡ true
                by (B, j, u) = holds_more σ B R (λ l i. t l (u l i)) (clause_at (held less.store) (suc k) (owner B) B σ s (omega (arith, owner_below B k (λ l i. within l (t l (u l i)))))
                    (related.fro (owner B) B j (λ l i. lemma_free L h l (u l i))))

    split : (k : ℕ) (C : List ℕ) → In C (held wide.store k) → In C (held less.store k) ⊎ ((x : ℕ) × In x C × (node x ≡ v))
    split k C i = ⊎_elim (λ f. inl (related.fro k C i f)) inr (named v C)

    pub eliminated_kept : Kept first (held (eliminated v (all_resolvents W.store v) W).store) n (eliminated v (all_resolvents W.store v) W).values (put gone v true) frozen
    unfolding less Ls Rs M eliminated
    eliminated_kept = subst (λ V. Kept first (held less.store) n V (put gone v true) frozen) related.values
        (out_any first (held wide.store) (held less.store) n v wide.values gone frozen adds.keeps vn here there (λ k C i. (related.to k C i).0) (λ k C i. (related.to k C i).1) split resolved)

    pub eliminated_placed : Placed (eliminated v (all_resolvents W.store v) W).store
    unfolding Ls Rs M eliminated
    eliminated_placed = adds_placed Ls (taken_out v W) (out_placed v W I P (λ l E i. (at l E i).3) bound)

    pub eliminated_indexed : Indexed (eliminated v (all_resolvents W.store v) W).store
    unfolding Ls Rs M eliminated
    eliminated_indexed = adds_indexed Ls (taken_out v W) (out_indexed v W I P (λ l E i. (at l E i).3) bound)

-- a node that no clause names costs nothing
cost_none : (first : Network) (W : Work) → Good first W → Indexed W.store → (v : ℕ) → ((k : ℕ) (C : List ℕ) (x : ℕ) → In C (held W.store k) → In x C → node x ≡ v → ⊥) → cost W.store v ≡ 0
cost_none first W G I v free = cost_zero v W.store I G.placed
    (λ l C i. last_in C (not_nil first (held W.store) (suc W.top) W.values (λ k. has k W.out) W.frozen G.kept (node l) C (held_in W.store l C i)))
    (λ l C i x j q. free (node l) C x (held_in W.store l C i) j q)

abbrev pub GoodIndexed : Network → Work → Type 0
GoodIndexed first W = Good first W × Indexed W.store

gone_is : (v : ℕ) (out : List ℕ) (k : ℕ) → put (λ j. has j out) v true k ≡ has k (v ∷ out)
unfolding put
gone_is v out k = grind (arith, nat_tests)

module _ (first : Network) where
  pub eliminated_good : (v : ℕ) (W : Work) → GoodIndexed first W → v < suc W.top → W.frozen v ≡ false → has v W.out ≡ false → GoodIndexed first (eliminated v (all_resolvents W.store v) W)
  unfolding eliminated taken_out
  eliminated_good v W (G, I) vn here there =
      let (a, b, c) = adds_top (lemmas (all_resolvents W.store v)) (taken_out v W) in
      let N = eliminated v (all_resolvents W.store v) W in (
        record {
          kept = subst (λ f. Kept first (held N.store) (suc N.top) N.values (λ k. has k N.out) f) (sym c)
              (subst (λ o. Kept first (held N.store) (suc N.top) N.values (λ k. has k o) W.frozen) (sym b)
              (subst (λ t. Kept first (held N.store) (suc t) N.values (λ k. has k (v ∷ W.out)) W.frozen) (sym a)
              (subst (λ g. Kept first (held N.store) (suc W.top) N.values g W.frozen) (fun_ext (gone_is v W.out))
              (eliminated_kept first (suc W.top) v (λ k. has k W.out) W.frozen (omega arith) W refl G.kept G.placed I vn here there))));
          placed = eliminated_placed first (suc W.top) v (λ k. has k W.out) W.frozen (omega arith) W refl G.kept G.placed I vn here there;
          small = omega (arith, a, G.small);
          zero_value = adds_zero (lemmas (all_resolvents W.store v)) (taken_out v W) G.zero_value;
        },
        eliminated_indexed first (suc W.top) v (λ k. has k W.out) W.frozen (omega arith) W refl G.kept G.placed I vn here there,
      )

  -- a node that is not passed over is one of the work's, and was not taken out before
  pub eliminated_any : (v : ℕ) (W : Work) → GoodIndexed first W → passed_over W v ≡ false → GoodIndexed first (eliminated v (all_resolvents W.store v) W)
  eliminated_any v W (G, I) e =
      let (f, r) = or_parts (W.frozen v) (eqb (cost W.store v) 0) (or_parts (W.frozen v || eqb (cost W.store v) 0) (ltb 2000 (cost W.store v)) e).0 in
      let c = eqb-false (cost W.store v) 0 r in
      eliminated_good v W (G, I)
      (⊎_elim (λ l. l) (λ l. absurd (c (cost_none first W G I v (λ k C x i j q. omega (arith, G.kept.clauses.small k C i, well first (held W.store) (suc W.top) W.values (λ k. has k W.out) W.frozen G.kept k C i x j, q))))) (cases_lt v (suc W.top)))
      f
      (⊎_elim (λ g. absurd (c (cost_none first W G I v (λ k C x i j q. G.kept.absent v g k C i x j q)))) (λ g. g) (cases_Bool (has v W.out)))

  pub attempt_good : (v : ℕ) (W : Work) → GoodIndexed first W → GoodIndexed first (attempt v W)
  unfolding attempt
  attempt_good v W G = cond_both (passed_over W v) W (attempted v (all_resolvents W.store v) W) (GoodIndexed first) (λ e. G)
      (λ e. cond_both (given_up W v (all_resolvents W.store v)) W (eliminated v (all_resolvents W.store v) W) (GoodIndexed first) (λ u. G) (λ u. eliminated_any v W G e))

  pub index_good : (W : Work) → W.store.indexed ≡ false → Good first W → GoodIndexed first (storing W (index_on W.store))
  unfolding index_on held
  index_good W off G = (
    record {
      kept = cond_both W.store.indexed W.store _ (λ M. Kept first (held M) (suc W.top) W.values (λ k. has k W.out) W.frozen) (λ e. G.kept) (λ e. G.kept);
      placed = cond_both W.store.indexed W.store _ Placed (λ e. G.placed) (λ e. G.placed);
      small = G.small;
      zero_value = G.zero_value;
    },
    index_on_indexed W.store off (λ l C i. omega (arith, G.kept.clauses.small (node l) C (held_in W.store l C i), G.small)),
  )
