-- No entry of start, const_simplify or bve_simplify is refused, so each is what it is without the tests. Assumes nothing.
use Rattle.std.proofs.Common.{◌≡◌, ℕ, zero, suc, ◌+◌, ◌*◌, ◌/◌, ◌<◌, ◌≤◌, Bool, true, false, cond, not, ltb, List, [], ◌∷◌, map, length, Some, sym, refl, ap, ◌∙◌, subst, ⊎_elim, arith}
use Rattle.std.specs.List.{list_any}
use Rattle.std.proofs.lemmas.Bool.{cond_both, or_parts, and_parts, not-true, ltb-false}
use Rattle.network.specs.Assignments.{Assignment, node}
use Rattle.network.specs.Networks.{Network}
use Rattle.network.specs.Clauses.{has, last, Ordered}
use Rattle.network.specs.Lists.{In}
use Rattle.network.specs.Values.{simplified}
use Rattle.network.specs.Lemmas.{lemmas}
use Rattle.network.proofs.Lists.{in_cases, any_none, flat_map_in}
use Rattle.rules.specs.Store.{Meaning, from, up_to, sum_of, live_clauses, kept_clauses, index_on, index_off}
use Rattle.rules.specs.Held.{held, Placed}
use Rattle.rules.specs.Good.{Good}
use Rattle.rules.specs.Lawful.{Lawful}
use Rattle.rules.specs.Work.{Work, storing, each, nodes_of, clear}
use Rattle.rules.specs.Const.{then_negative, both_cleared, judged, const_node, const_drop, const_simplify}
use Rattle.rules.specs.Bve.{cost, all_resolvents, use_count, uses_cleared, taken_out, eliminated, passed_over, given_up, attempted, attempt, least, but, attempts, bve_simplify}
use Rattle.rules.specs.Turns.{Turn, entries, turns, const_turns, judged_entries, node_entries, const_entries, attempt_turns, bve_turns, takes_out, attempt_entries, bve_entries, Accepted, AllAccepted}
use Rattle.rules.proofs.Plain as plain
use Rattle.rules.proofs.Places.{held_in}
use Rattle.rules.proofs.Verdicts.{last_in}
use Rattle.rules.proofs.Drops.{not_nil}
use Rattle.rules.proofs.Formed.{formed_parts, parts_formed, not_nil_some, some_not_nil}
use Rattle.rules.proofs.TakenOut.{swept_none}
use Rattle.rules.proofs.HowMany.{sum_apart, sum_part}
use Rattle.rules.proofs.Along.{fewer_chains, each_along, both_along}
use Rattle.rules.proofs.Passes.{index_on_keeps, taken_out_keeps, attempt_keeps}
use Rattle.rules.proofs.Bve.{GoodIndexed, attempt_good, index_good, eliminated_any}
use Rattle.rules.proofs.Shrinks.{lemmas_length, lemmas_short, taken_out_less, taken_out_dead, clear_kept, clear_room}
use Rattle.rules.proofs.Accepted.{AllFormed, AllShort, adds_accepted, adds_short, judged_accepted, judged_short, judged_kept, adds_live}
use Rattle.rules.proofs.Const as const
use Rattle.rules.proofs.Lives.{index_live, unindex_live, removed_kept, clear_part}

-- ## What is well formed

-- a store whose clauses are in order, not empty, of the nodes up to 1,023, and short
module _ (M : Meaning) (P : Placed M) (n : ℕ) (small : n ≤ 1024) (short : AllShort M)
    (order : (l : ℕ) (C : List ℕ) → In C (M.own l) → Ordered C) (some : (l : ℕ) (C : List ℕ) → In C (M.own l) → C ≡ [] → ⊥)
    (below : (l : ℕ) (C : List ℕ) → In C (M.own l) → node l < n)
  where
    all_formed : AllFormed M
    all_formed l C i = parts_formed C (record { some = not_nil_some C (some l C i); short = short l C i; order = order l C i; small = omega (arith, P l C i, below l C i) })

pub good_formed : (first : Network) (W : Work) → Good first W → AllShort W.store → AllFormed W.store
good_formed first W G s = all_formed W.store G.placed (suc W.top) (omega (arith, G.small)) s
    (λ l C i. G.kept.clauses.order (node l) C (held_in W.store l C i))
    (λ l C i. not_nil first (held W.store) (suc W.top) W.values (λ k. has k W.out) W.frozen G.kept (node l) C (held_in W.store l C i))
    (λ l C i. G.kept.clauses.small (node l) C (held_in W.store l C i))

pub lawful_short : (M : Meaning) → Lawful M → AllShort M
lawful_short M L l C i = (formed_parts C (L.formed l C i)).short

-- ## const_simplify

both_lengths : (a b c d : List (List ℕ)) → a ≡ b → c ≡ d → length a + length c ≡ length b + length d
both_lengths a b c d p q = omega (arith, ap length p, ap length q)

-- the clauses of the nodes to come
ahead : ℕ → ℕ → Meaning → ℕ
ahead t i M = sum_of (map (λ k. length (M.own (2 * k)) + length (M.own (2 * k + 1))) (from i t))

module _ (first : Network) (n : ℕ) (gone frozen : Assignment) (small : n ≤ 1024) where
  abbrev Consting : Work → Type 0
  Consting W = const.Consting first n gone frozen W

  consting_formed : (W : Work) → Consting W → AllShort W.store → AllFormed W.store
  consting_formed W c s = all_formed W.store c.placed n small s
      (λ l C i. c.kc.clauses.order (node l) C (const.in_plus first n gone frozen W c l C i))
      (λ l C i e. subst (In (last C)) e (const.last_here first n gone frozen W c l C i))
      (λ l C i. c.kc.clauses.small (node l) C (const.in_plus first n gone frozen W c l C i))

  record NodeDone (m : ℕ) (W : Work) : Type 0 where
    pub agrees : const_node m W ≡ plain.const_node m W
    pub accepted : AllAccepted (node_entries m W)
    pub short : AllShort (plain.const_node m W).store
    pub kept : kept_clauses (plain.const_node m W).store ≤ kept_clauses W.store + (length (W.store.own (2 * m)) + length (W.store.own (2 * m + 1)))
    pub room : (plain.const_node m W).store.room ≡ W.store.room

  module _ (m : ℕ) (W : Work) (c : Consting W) (s : AllShort W.store)
      (r : kept_clauses W.store + (length (W.store.own (2 * m)) + length (W.store.own (2 * m + 1))) ≤ W.store.room)
    where
      abbrev l0 : ℕ
      l0 = 2 * m

      abbrev l1 : ℕ
      l1 = 2 * m + 1

      abbrev r0 : List Bool × Work
      r0 = plain.judged (W.store.own l0) W

      abbrev r1 : List Bool × Work
      r1 = plain.judged (W.store.own l1) r0.1

      J0 : const.Judging first n gone frozen l0 (W.store.own l0) r0.0 W r0.1
      J0 = const.judged_is first n gone frozen l0 (W.store.own l0) W c (λ E i. i)

      J1 : const.Judging first n gone frozen l1 (W.store.own l1) r1.0 r0.1 r1.1
      J1 = const.judged_is first n gone frozen l1 (W.store.own l1) r0.1 J0.cons (λ E i. subst (In E) (sym (J0.others l1 (λ q. omega (arith, q)))) i)

      s0 : AllShort r0.1.store
      s0 = judged_short (W.store.own l0) W (s l0) s

      s1 : AllShort r1.1.store
      s1 = judged_short (W.store.own l1) r0.1 (s l1) s0

      k0 : (kept_clauses r0.1.store ≤ kept_clauses W.store + length (W.store.own l0)) × (r0.1.store.room ≡ W.store.room)
      k0 = judged_kept (W.store.own l0) W

      k1 : (kept_clauses r1.1.store ≤ kept_clauses r0.1.store + length (W.store.own l1)) × (r1.1.store.room ≡ r0.1.store.room)
      k1 = judged_kept (W.store.own l1) r0.1

      a0 : (judged (W.store.own l0) W ≡ r0) × AllAccepted (judged_entries (W.store.own l0) W)
      a0 = judged_accepted (W.store.own l0) W (consting_formed r0.1 J0.cons s0) (omega (arith, r))

      a1 : (judged (W.store.own l1) r0.1 ≡ r1) × AllAccepted (judged_entries (W.store.own l1) r0.1)
      a1 = judged_accepted (W.store.own l1) r0.1 (consting_formed r1.1 J1.cons s1)
          (omega (arith, r, k0.0, k0.1))

      abbrev M2 : Meaning
      M2 = clear l0 r0.0 r1.1.store

      node_done : NodeDone m W
      unfolding const_node plain.const_node
      node_done = record {
        agrees = ap (then_negative m (W.store.own l1)) a0.0 ∙ ap (both_cleared m r0.0) a1.0;
        accepted = λ e i. ⊎_elim (a0.1 e) (λ j. a1.1 e (subst (λ q. In e (judged_entries (W.store.own l1) q.1)) a0.0 j))
            (in_cases e (judged_entries (W.store.own l0) W) (judged_entries (W.store.own l1) (judged (W.store.own l0) W).1) i);
        short = λ k E i. s1 k E (clear_part l0 r0.0 r1.1.store k E (clear_part l1 r1.0 M2 k E i));
        kept = omega (arith, k0.0, k1.0, clear_kept l0 r0.0 r1.1.store, clear_kept l1 r1.0 M2);
        room = clear_room l1 r1.0 M2 ∙ clear_room l0 r0.0 r1.1.store ∙ k1.1 ∙ k0.1;
      }

  nodes_accepted : (t i : ℕ) (W : Work) → Consting W → AllShort W.store → kept_clauses W.store + ahead t i W.store ≤ W.store.room
      → (each const_node (from i t) W ≡ each plain.const_node (from i t) W) × ((T : Turn) → In T (turns (from i t) W) → AllAccepted (node_entries T.at T.before))
      × (kept_clauses (each plain.const_node (from i t) W).store ≤ kept_clauses W.store + ahead t i W.store)
  unfolding turns ahead
  nodes_accepted zero i W c s r = (refl, (λ T h. absurd h), omega arith)
  nodes_accepted (suc t) i W c s r =
      let d = node_done i W c s (omega (arith, r)) in
      let N = const.noded first n gone frozen i W c in
      let same : ahead t (suc i) (plain.const_node i W).store ≡ ahead t (suc i) W.store = unfold ahead in (sum_apart (λ k. length ((plain.const_node i W).store.own (2 * k)) + length ((plain.const_node i W).store.own (2 * k + 1)))
      (λ k. length (W.store.own (2 * k)) + length (W.store.own (2 * k + 1))) t (suc i)
      (λ k h. both_lengths ((plain.const_node i W).store.own (2 * k)) (W.store.own (2 * k)) ((plain.const_node i W).store.own (2 * k + 1)) (W.store.own (2 * k + 1)) (N.turn.apart (2 * k) (λ q. omega arith)) (N.turn.apart (2 * k + 1) (λ q. omega arith)))) in
      let (q, f, k) = nodes_accepted t (suc i) (plain.const_node i W) N.cons d.short
      (omega (arith, r, d.kept, same, d.room)) in (
        ap (each const_node (from (suc i) t)) d.agrees ∙ q,
        λ T h. ⊎_elim (λ e. subst (λ U. AllAccepted (node_entries U.at U.before)) (sym e) d.accepted) (λ j. f T (subst (λ U. In T (turns (from (suc i) t) U)) d.agrees j)) h,
        omega (arith, d.kept, same, k),
      )

-- valued nodes lose clauses
drop_kept : (n : ℕ) (W : Work) → kept_clauses (const_drop n W).store ≤ kept_clauses W.store
unfolding const_drop
drop_kept n W = grind (arith, W.store, both_along, fewer_chains kept_clauses, removed_kept)

drops_kept : (ns : List ℕ) (W : Work) → kept_clauses (each const_drop ns W).store ≤ kept_clauses W.store
drops_kept = each_along (λ W N. kept_clauses N.store ≤ kept_clauses W.store) (fewer_chains (λ W. kept_clauses W.store)) const_drop drop_kept

-- the clauses of nodes, by literals
pub pairs : (f : ℕ → ℕ) (t i : ℕ) → sum_of (map (λ k. f (2 * k) + f (2 * k + 1)) (from i t)) ≡ sum_of (map f (from (2 * i) (2 * t)))
pairs f zero i = refl
pairs f (suc t) i = subst (λ m. f (2 * i) + f (2 * i + 1) + sum_of (map (λ k. f (2 * k) + f (2 * k + 1)) (from (suc i) t)) ≡ sum_of (map f (from (2 * i) m))) {x = suc (suc (2 * t))} {y = 2 * suc t} (omega arith)
    (omega (arith, ap f {x = 2 * i + 1} {y = suc (2 * i)} (omega arith), pairs f t (suc i) ∙ ap (λ m. sum_of (map f (from m (2 * t)))) {x = 2 * suc i} {y = suc (suc (2 * i))} (omega arith)))

module _ (first : Network) (W : Work) (G : Good first W) (L : Lawful W.store) (h : live_clauses W.store ≤ W.store.room / 2) where
  abbrev W₀ : Work
  W₀ = storing W (index_off W.store)

  off : (live_clauses W₀.store ≡ live_clauses W.store) × (W₀.store.dead_clauses ≡ 0) × (W₀.store.room ≡ W.store.room)
  unfolding index_off
  off = (unindex_live W.store, refl, refl)

  ahead_few : ahead W.top 1 W₀.store ≤ live_clauses W.store
  unfolding ahead live_clauses index_off
  ahead_few = subst (λ n. n ≤ sum_of (map (λ l. length (W.store.own l)) (from 0 2048))) (sym (pairs (λ l. length (W.store.own l)) W.top 1))
      (sum_part (λ l. length (W.store.own l)) 2048 0 (2 * W.top) (2 * 1) (omega arith) (omega (arith, G.small)))

  short₀ : AllShort W₀.store
  unfolding index_off
  short₀ = lawful_short W.store L

  accepted₀ : (each const_node (from 1 W.top) W₀ ≡ each plain.const_node (from 1 W.top) W₀) × ((T : Turn) → In T (turns (from 1 W.top) W₀) → AllAccepted (node_entries T.at T.before))
      × (kept_clauses (each plain.const_node (from 1 W.top) W₀).store ≤ kept_clauses W₀.store + ahead W.top 1 W₀.store)
  accepted₀ = nodes_accepted first (suc W.top) (λ k. has k W.out) W.frozen (omega (arith, G.small)) W.top 1 W₀ (const.begin first W G) short₀ (omega (arith, h, ahead_few, off.0, off.1, off.2))

  pub const_agrees : const_simplify W ≡ plain.const_simplify W
  unfolding const_simplify plain.const_simplify
  const_agrees = ap (each const_drop (nodes_of W)) (ap (λ ns. each const_node ns W₀) (const.suc_from W.top 0) ∙ accepted₀.0 ∙ sym (ap (λ ns. each plain.const_node ns W₀) (const.suc_from W.top 0)))

  pub const_doubles : live_clauses (const_simplify W).store ≤ 2 * live_clauses W.store
  unfolding const_simplify
  const_doubles = omega (
    arith,
    drops_kept (nodes_of W) (each const_node (nodes_of W) W₀),
    subst (λ U. kept_clauses U.store ≤ kept_clauses W₀.store + ahead W.top 1 W₀.store) (sym (ap (λ ns. each const_node ns W₀) (const.suc_from W.top 0) ∙ accepted₀.0)) accepted₀.2,
    ahead_few,
    off.0,
    off.1,
  )

  pub const_accepted : AllAccepted (const_entries W)
  const_accepted e i = go (flat_map_in (λ t. node_entries t.at t.before) (const_turns W) e i)
    where
      go : (T : Turn) × In T (const_turns W) × In e (node_entries T.at T.before) → (S : List ℕ) → simplified e.before.values e.clause ≡ Some S → Accepted e.before S
      go (T, j, k) = accepted₀.1 T (subst (λ ns. In T (turns ns W₀)) (const.suc_from W.top 0) j) e k

-- ## bve_simplify

-- the resolvents of a node that is taken out
pub kept_few : (W : Work) (v : ℕ) → given_up W v (all_resolvents W.store v) ≡ false
    → ((R : List ℕ) → In R (all_resolvents W.store v) → length R ≤ 32) × (length (all_resolvents W.store v) ≤ cost W.store v)
kept_few W v f =
    let (a, b) = or_parts (list_any (λ R. ltb 32 (length R)) (all_resolvents W.store v)) (ltb (cost W.store v) (length (all_resolvents W.store v))) f in
    ((λ R i. ltb-false 32 (length R) (any_none (λ R. ltb 32 (length R)) (all_resolvents W.store v) a R i)), ltb-false (cost W.store v) (length (all_resolvents W.store v)) b)

module _ (first : Network) where
  module _ (v : ℕ) (W : Work) (G : GoodIndexed first W) (L : Lawful W.store) where
    Rs : List (List ℕ)
    Rs = all_resolvents W.store v

    bound : (l : ℕ) (E : List ℕ) → In E (W.store.own l) → l < 2 * W.top + 2
    bound l E i = omega (arith, G.0.kept.clauses.small (node l) E (held_in W.store l E i))

    pub out_less : live_clauses (taken_out v W).store + cost W.store v ≤ live_clauses W.store
    out_less = taken_out_less v W L G.1 bound

    out_room : length (lemmas Rs) ≤ cost W.store v → kept_clauses (taken_out v W).store + length (lemmas Rs) ≤ (taken_out v W).store.room
    out_room le = omega (arith, le, out_less, taken_out_dead v W, L.within, (taken_out_keeps v W L).1)

    few : given_up W v Rs ≡ false → length (lemmas Rs) ≤ cost W.store v
    unfolding Rs
    few f = omega (arith, lemmas_length (all_resolvents W.store v), (kept_few W v f).1)

    -- a node with a cost is one of the work's, and was not taken out before
    eliminated_accepted : passed_over W v ≡ false → given_up W v Rs ≡ false → (eliminated v Rs W ≡ plain.eliminated v Rs W) × AllAccepted (entries (lemmas Rs) (taken_out v W))
    unfolding eliminated plain.eliminated Rs
    eliminated_accepted p f = adds_accepted (lemmas (all_resolvents W.store v)) (taken_out v W)
        (good_formed first (each plain.add (lemmas (all_resolvents W.store v)) (taken_out v W)) done.0 (adds_short (lemmas (all_resolvents W.store v)) (taken_out v W) (lemmas_short 32 (all_resolvents W.store v) (kept_few W v f).0) (lawful_short (taken_out v W).store (taken_out_keeps v W L).0)))
        (out_room (few f))
      where
        done : GoodIndexed first (plain.eliminated v (all_resolvents W.store v) W)
        done = eliminated_any first v W G p

    -- a clause removed for each that is entered
    pub takes_less : takes_out v W ≡ true → live_clauses (taken_out v W).store + length (lemmas (all_resolvents W.store v)) ≤ live_clauses W.store
    unfolding Rs
    takes_less e =
        let (a, b) = and_parts (not (passed_over W v)) (not (given_up W v (all_resolvents W.store v))) e in
        omega (arith, out_less, few (not-true (given_up W v (all_resolvents W.store v)) b))

    pub uses_none : (length ((uses_cleared v W).uses (2 * v)) ≡ 0) × (length ((uses_cleared v W).uses (2 * v + 1)) ≡ 0)
    uses_none = (none (2 * v) (omega arith), none (2 * v + 1) (omega arith))
      where
        none : (x : ℕ) → node x ≡ v → length ((uses_cleared v W).uses x) ≡ 0
        none = swept_none v W G.1 L.placed (λ l E i. last_in E (some_not_nil E (formed_parts E (L.formed l E i)).some)) bound

    pub attempt_agrees : attempt v W ≡ plain.attempt v W
    unfolding attempt plain.attempt Rs
    attempt_agrees = cond_same (passed_over W v) W (attempted v (all_resolvents W.store v) W) (plain.attempted v (all_resolvents W.store v) W)
        (λ e. cond_same (given_up W v (all_resolvents W.store v)) W (eliminated v (all_resolvents W.store v) W) (plain.eliminated v (all_resolvents W.store v) W) (λ f. (eliminated_accepted e f).0))
      where
        cond_same : (b : Bool) (x y z : Work) → (b ≡ false → y ≡ z) → cond b x y ≡ cond b x z
        cond_same true x y z h = refl
        cond_same false x y z h = h refl

    pub attempt_accepted : AllAccepted (attempt_entries v W)
    unfolding Rs
    attempt_accepted = cond_both (takes_out v W) (entries (lemmas (all_resolvents W.store v)) (taken_out v W)) [] AllAccepted
        (λ e. let (a, b) = and_parts (not (passed_over W v)) (not (given_up W v (all_resolvents W.store v))) e in
        (eliminated_accepted (not-true (passed_over W v) a) (not-true (given_up W v (all_resolvents W.store v)) b)).1)
        (λ e d i. absurd i)

    pub attempt_shrinks : live_clauses (attempt v W).store ≤ live_clauses W.store
    unfolding attempt Rs
    attempt_shrinks = cond_both (passed_over W v) W (attempted v (all_resolvents W.store v) W) (λ N. live_clauses N.store ≤ live_clauses W.store) (λ e. omega arith)
        (λ e. cond_both (given_up W v (all_resolvents W.store v)) W (eliminated v (all_resolvents W.store v) W) (λ N. live_clauses N.store ≤ live_clauses W.store) (λ f. omega arith)
        (λ f. subst (λ N. live_clauses N.store ≤ live_clauses W.store) (sym (eliminated_accepted e f).0) (unfold plain.eliminated in
        (omega (arith, out_less, few f, adds_live (lemmas (all_resolvents W.store v)) (taken_out v W))))))

    pub attempt_both : GoodIndexed first (attempt v W) × Lawful (attempt v W).store
    attempt_both = (subst (GoodIndexed first) (sym attempt_agrees) (attempt_good first v W G), (attempt_keeps v W L).0)

  -- a work met in the pass
  pub record Met (r : ℕ) (W : Work) : Type 0 where
    pub good : GoodIndexed first W
    pub lawful : Lawful W.store
    pub room : W.store.room ≡ r

  attempt_met : (r v : ℕ) (W : Work) → Met r W → Met r (attempt v W)
  attempt_met r v W m = let (a, b) = attempt_both v W m.good m.lawful in record { good = a; lawful = b; room = (attempt_keeps v W m.lawful).1 ∙ m.room }

  attempts_met : (r f : ℕ) (ws : List ℕ) (W : Work) → Met r W → Met r (attempts f ws W) × ((T : Turn) → In T (attempt_turns f ws W) → Met r T.before)
  unfolding attempts attempt_turns
  attempts_met r zero ws W m = (m, λ T i. absurd i)
  attempts_met r (suc f) [] W m = (m, λ T i. absurd i)
  attempts_met r (suc f) (k ∷ ks) W m =
      let n = least (use_count W.store) k ks in
      let (a, b) = attempts_met r f (but n (k ∷ ks)) (attempt n W) (attempt_met r n W m) in
      (a, λ T i. ⊎_elim (λ e. subst (λ U. Met r U.before) (sym e) m) (b T) i)

  attempts_shrink : (r f : ℕ) (ws : List ℕ) (W : Work) → Met r W → live_clauses (attempts f ws W).store ≤ live_clauses W.store
  unfolding attempts
  attempts_shrink r zero ws W m = omega arith
  attempts_shrink r (suc f) [] W m = omega arith
  attempts_shrink r (suc f) (k ∷ ks) W m =
      let n = least (use_count W.store) k ks in
      omega (arith, attempts_shrink r f (but n (k ∷ ks)) (attempt n W) (attempt_met r n W m), attempt_shrinks n W m.good m.lawful)

  module _ (W : Work) (G : Good first W) (L : Lawful W.store) where
    index_met : W.store.indexed ≡ false → Met W.store.room (storing W (index_on W.store))
    index_met off = record { good = index_good first W off G; lawful = (index_on_keeps W.store L).0; room = (index_on_keeps W.store L).1 }

    pub bve_good : Good first (bve_simplify W)
    unfolding bve_simplify
    bve_good = cond_both W.store.indexed W _ (Good first) (λ e. G) (λ e. (attempts_met W.store.room _ _ (storing W (index_on W.store)) (index_met e)).0.good.0)

    pub bve_shrinks : live_clauses (bve_simplify W).store ≤ live_clauses W.store
    unfolding bve_simplify
    bve_shrinks = grind (arith, W.store, W.top, index_live W.store, attempts_shrink W.store.room (suc W.top) (up_to (suc W.top)) (storing W (index_on W.store)), index_met)

    pub bve_met : (T : Turn) → In T (bve_turns W) → Met W.store.room T.before
    bve_met T = cond_both W.store.indexed [] (attempt_turns (suc W.top) (up_to (suc W.top)) (storing W (index_on W.store))) (λ Ts. In T Ts → Met W.store.room T.before)
        (λ e i. absurd i) (λ e i. (attempts_met W.store.room (suc W.top) (up_to (suc W.top)) (storing W (index_on W.store)) (index_met e)).1 T i)

    pub bve_accepted : AllAccepted (bve_entries W)
    bve_accepted e i = go (flat_map_in (λ t. attempt_entries t.at t.before) (bve_turns W) e i)
      where
        go : (T : Turn) × In T (bve_turns W) × In e (attempt_entries T.at T.before) → (S : List ℕ) → simplified e.before.values e.clause ≡ Some S → Accepted e.before S
        go (T, j, k) = attempt_accepted T.at T.before (bve_met T j).good (bve_met T j).lawful e k
