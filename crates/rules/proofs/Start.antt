-- A work that start makes keeps the network taken in, and none of its entries is refused. Assumes nothing.
use Rattle.std.proofs.Common.{◌≡◌, ℕ, zero, suc, ◌+◌, ◌/◌, ◌<◌, ◌≤◌, Bool, true, false, eqb, leb, ◌⊎◌, List, [], ◌∷◌, ◌++◌, map, length, get_or, Some, None, Ok, Err, filter, Option, Result, sym, refl, ap, ◌∙◌, subst, inl, inr, ⊎_elim, arith, flat_map}
use Rattle.std.proofs.lemmas.Bool.{cases_eq, both_ways, eqb-true, eq-eqb, leb-true}
use Rattle.std.proofs.lemmas.List.Concat.{flat_map-append}
use Rattle.std.proofs.lemmas.List.{length-append, length-map}
use Rattle.network.specs.Assignments.{node}
use Rattle.network.specs.Lists.{In}
use Rattle.network.specs.Networks.{Network, level, Gates}
use Rattle.network.specs.Clauses.{Ordered, Subsumes, owner, has}
use Rattle.network.specs.Values.{Values, nothing, with_value, sign, unit_of, literal, simplified}
use Rattle.network.proofs.Lists.{in_left, in_right, in_cases, in_kept, kept_in, map_in, in_flat_map, flat_map_in}
use Rattle.network.proofs.Levels.{below_agree}
use Rattle.network.proofs.Networks.{locals, clause_at}
use Rattle.network.proofs.Ordered.{owned_within}
use Rattle.network.proofs.Rows.{Distinct, pigeons}
use Rattle.image.specs.Headers.{top}
use Rattle.image.specs.Faults.{fault, tested}
use Rattle.image.specs.declared.fault.Fault.{Fault}
use Rattle.intake.specs.Answers.{accepts, loose_nodes, first_of}
use Rattle.intake.specs.Accepted.{Image, taken_in, total}
use Rattle.intake.proofs.Steps.{accepted_answer, then_ok, cond_ok}
use Rattle.intake.proofs.Meanings.{accepted_iff}
use Rattle.intake.proofs.LooseNodes.{every_node_has_a_value, ready_to_start}
use Rattle.rules.specs.Kept.{obey, Kept}
use Rattle.rules.specs.Store.{Meaning, from, up_to, live_clauses, kept_clauses, entered}
use Rattle.rules.specs.Held.{held}
use Rattle.rules.specs.Good.{Good}
use Rattle.rules.specs.Lawful.{Lawful}
use Rattle.rules.specs.Turns.{entries, AllAccepted}
use Rattle.rules.specs.Work.{Work, each, known_by}
use Rattle.rules.specs.Work as tested_work
use Rattle.rules.specs.Calls.{clauses_in, begun, started, unless_loose, start}
use Rattle.rules.proofs.Plain.{add_simplified, add}
use Rattle.rules.proofs.Kept.{obey_none, with_here, with_apart}
use Rattle.rules.proofs.Simplified.{says_at, simplified_some, simplified_none, unit_is, unit_true}
use Rattle.rules.proofs.Enter.{Plus, enter_kept}
use Rattle.rules.proofs.Drops.{swap_kept}
use Rattle.rules.proofs.Adds.{entered_plus, adds_top, adds_placed, adds_zero}
use Rattle.rules.proofs.Index.{in_up_to}
use Rattle.rules.proofs.Passes.{adds_keep}
use Rattle.rules.proofs.Lawful.{emptied_lawful, emptied_none}
use Rattle.rules.proofs.Accepted.{adds_short, adds_accepted, adds_live}
use Rattle.rules.proofs.Unrefused.{good_formed}
use Rattle.rules.proofs.Facts.{none_some}

-- ## Lists of clauses as networks

-- a list of clauses as a network
unfoldable pub by_owner : List (List ℕ) → Network
by_owner Cs k = filter (λ C. eqb (owner C) k) Cs

-- one number more
pub from_more : (t i : ℕ) → from i (suc t) ≡ from i t ++ ((i + t) ∷ [])
from_more zero i = ap (λ k. k ∷ []) (omega arith)
from_more (suc t) i = ap (λ ks. i ∷ ks) (from_more t (suc i) ∙ ap (λ k. from (suc i) t ++ (k ∷ [])) (omega arith))

pub from_in : (m i k : ℕ) → In k (from i m) → (i ≤ k) × (k < i + m)
from_in zero i k h = absurd h
from_in (suc m) i k h = ⊎_elim (λ e. (omega arith, omega arith)) (λ j. let (a, b) = from_in m (suc i) k j in (omega arith, omega arith)) h

in_owner : (Q : List (List ℕ)) (C : List ℕ) (k : ℕ) → In C Q → owner C ≡ k → In C (by_owner Q k)
unfolding by_owner
in_owner Q C k i e = in_kept (λ C. eqb (owner C) k) C Q i (eq-eqb (owner C) k e)

owner_in_list : (Q : List (List ℕ)) (C : List ℕ) (k : ℕ) → In C (by_owner Q k) → In C Q × (owner C ≡ k)
unfolding by_owner
owner_in_list Q C k i = let (a, b) = kept_in (λ C. eqb (owner C) k) C Q i in (a, eqb-true (owner C) k b)

-- ## The network taken in

-- a clause that names at most eight nodes besides 0 and its own is short
distinct_nodes : (C : List ℕ) → Ordered C → Distinct (map node C)
distinct_nodes [] o = tt
distinct_nodes (x ∷ C) (lo, o) = ((λ i. let (y, j, e) = map_in node (node x) C i in omega (arith, lo y j, e)), distinct_nodes C o)

narrow_short : (C xs : List ℕ) → Ordered C → ((l : ℕ) → In l C → In (node l) xs) → length C ≤ length xs
narrow_short C xs o h = omega (arith, length-map C node, pigeons (map node C) xs (distinct_nodes C o) (λ k i. let (l, j, e) = map_in node k C i in subst (λ n. In n xs) (sym e) (h l j)))

-- a clause of an accepted image is short
pub clause_short : (ws : List ℕ) → Image ws → (k : ℕ) (C : List ℕ) → In C (taken_in ws k) → length C ≤ 32
clause_short ws I zero C i = ⊎_elim (λ e. omega (arith, ap length e)) absurd i
clause_short ws I (suc k) C i =
    let placed = (every_node_has_a_value ws I).0 in
    let (xs, few, covers) = (I.nodes k (omega (arith, placed.small (suc k) C i))).narrow in
    let h = narrow_short C (0 ∷ suc k ∷ xs) (placed.order (suc k) C i) (λ l j. ⊎_elim inl (λ r. inr (⊎_elim inl inr r)) (covers C i l j)) in
    omega (arith, h, few)

module _ (ws : List ℕ) (I : Image ws) (fs : List Bool) (z : get_or fs 0 false ≡ true) (G : Gates (taken_in ws) (suc (top ws)) (λ n. get_or fs n false)) where
  abbrev first : Network
  first = taken_in ws

  in_clauses : (k : ℕ) (C : List ℕ) → In C (first k) → In C (clauses_in ws)
  unfolding clauses_in
  in_clauses k C i = in_flat_map (taken_in ws) (up_to (suc (top ws))) k C (in_up_to (suc (top ws)) k (G.placed.small k C i)) i

  clauses_at : (C : List ℕ) → In C (clauses_in ws) → (k : ℕ) × In C (first k)
  unfolding clauses_in
  clauses_at C i = let (k, a, b) = flat_map_in (taken_in ws) (up_to (suc (top ws))) C i in (k, b)

  to_list : (k : ℕ) (C : List ℕ) → In C (first k) → In C (by_owner (clauses_in ws) k)
  to_list k C i = in_owner (clauses_in ws) C k (in_clauses k C i) (G.placed.owned k C i)

  from_list : (k : ℕ) (C : List ℕ) → In C (by_owner (clauses_in ws) k) → In C (first k)
  from_list k C i =
      let (a, e) = owner_in_list (clauses_in ws) C k i in
      let (j, b) = clauses_at C a in
      subst (λ g. In C (first g)) (sym (G.placed.owned j C b) ∙ e) b

  begin : Kept first first (suc (top ws)) nothing (λ _. false) (λ n. get_or fs n false)
  begin = record {
    clauses = G.placed;
    total = G.total;
    unique = λ k l f g u. G.unique k l f;
    absent = λ w g. absurd (both_ways false refl g);
    there = λ k f. refl;
    base = z;
    zero = λ b u. absurd (none_some b u);
    obeyed = λ k σ s. below_agree (level first) (locals first (owned_within first (suc (top ws)) G.placed)) k σ (obey nothing σ) (λ j l. sym (obey_none nothing σ j refl)) s;
    settled = λ k b u. absurd (none_some b u);
    valued = λ k b u. absurd (none_some b u);
    kept = λ σ s. (s, λ k b u. absurd (none_some b u));
    back = λ σ s a. (σ, s, λ k g. refl);
  }

  mix : Network → Network → Network
  mix own rest k = own k ++ rest k

  -- the clauses Q are yet to be entered
  record Starting (Q : List (List ℕ)) (W : Work) : Type 0 where
    kept : Kept first (mix (held W.store) (by_owner Q)) (suc (top ws)) W.values (λ _. false) (λ n. get_or fs n false)
    units : (k : ℕ) (b : Bool) → W.values k ≡ Some b → In (unit_of k b) (held W.store k)

  in_mix : (own rest : Network) (k : ℕ) (E : List ℕ) → In E (own k) ⊎ In E (rest k) → In E (mix own rest k)
  unfolding mix
  in_mix own rest k E (inl h) = in_left E (own k) (rest k) h
  in_mix own rest k E (inr h) = in_right E (own k) (rest k) h

  mix_in : (own rest : Network) (k : ℕ) (E : List ℕ) → In E (mix own rest k) → In E (own k) ⊎ In E (rest k)
  unfolding mix
  mix_in own rest k E h = in_cases E (own k) (rest k) h

  mix_plus : (own new rest : Network) (S : List ℕ) → Plus own new S → Plus (mix own rest) (mix new rest) S
  mix_plus own new rest S p = record {
    old = λ k E i. in_mix new rest k E (⊎_elim (λ h. inl (p.old k E h)) inr (mix_in own rest k E i));
    here = in_mix new rest (owner S) S (inl p.here);
    cases = λ k E i. ⊎_elim (λ h. ⊎_elim (λ j. inl (in_mix own rest k E (inl j))) inr (p.cases k E h)) (λ h. inl (in_mix own rest k E (inr h))) (mix_in new rest k E i);
  }

  rest_cases : (C : List ℕ) (Q : List (List ℕ)) (k : ℕ) (E : List ℕ) → In E (by_owner (C ∷ Q) k) → In E (by_owner Q k) ⊎ (E ≡ C)
  rest_cases C Q k E i = let (h, e) = owner_in_list (C ∷ Q) E k i in ⊎_elim inr (λ j. inl (in_owner Q E k j e)) h

  rest_old : (C : List ℕ) (Q : List (List ℕ)) (k : ℕ) (E : List ℕ) → In E (by_owner Q k) → In E (by_owner (C ∷ Q) k)
  rest_old C Q k E i = let (h, e) = owner_in_list Q E k i in in_owner (C ∷ Q) E k (inr h) e

  -- C is done with, since a clause of the work is part of it
  done_with : (C : List ℕ) (Q : List (List ℕ)) (own : Network) (V : Values) → Kept first (mix own (by_owner (C ∷ Q))) (suc (top ws)) V (λ _. false) (λ n. get_or fs n false) → (B : List ℕ) → In B (own (owner B)) → Subsumes B C
      → Kept first (mix own (by_owner Q)) (suc (top ws)) V (λ _. false) (λ n. get_or fs n false)
  done_with C Q own V K B i s = swap_kept first (mix own (by_owner (C ∷ Q))) (suc (top ws)) V (λ _. false) (λ n. get_or fs n false) K (mix own (by_owner Q))
      (λ k E h. inl (in_mix own (by_owner (C ∷ Q)) k E (⊎_elim inl (λ j. inr (rest_old C Q k E j)) (mix_in own (by_owner Q) k E h))))
      (λ k E h. ⊎_elim (λ j. inl (in_mix own (by_owner Q) k E (inl j)))
      (λ j. ⊎_elim (λ m. inl (in_mix own (by_owner Q) k E (inr m))) (λ e. inr (B, in_mix own (by_owner Q) (owner B) B (inl i), λ l m. subst (In l) (sym e) (s l m))) (rest_cases C Q k E j)) (mix_in own (by_owner (C ∷ Q)) k E h))

  start_step : (C : List ℕ) (Q : List (List ℕ)) (W : Work) → Starting (C ∷ Q) W → Starting Q (add C W)
  unfolding add
  start_step C Q W st = go (simplified W.values C) refl
    where
      V : Values
      V = W.values

      own : Network
      own = mix (held W.store) (by_owner (C ∷ Q))

      in_c : In C (own (owner C))
      in_c = in_mix (held W.store) (by_owner (C ∷ Q)) (owner C) C (inr (in_owner (C ∷ Q) C (owner C) (inl refl) refl))

      units_known : (S : List ℕ) → Plus (held W.store) (held (entered S W.store)) S → (k : ℕ) (b : Bool) → known_by S V k ≡ Some b → In (unit_of k b) (held (entered S W.store) k)
      units_known [] p k b u = p.old k (unit_of k b) (st.units k b u)
      units_known (l ∷ m ∷ S) p k b u = p.old k (unit_of k b) (st.units k b u)
      units_known (l ∷ []) p k b u = ⊎_elim
          (λ e. subst (λ U. In U (held (entered (l ∷ []) W.store) k)) (sym (unit_is l) ∙ cc_unit e) (subst (λ g. In (l ∷ []) (held (entered (l ∷ []) W.store) g)) (sym e) p.here))
          (λ a. p.old k (unit_of k b) (st.units k b (sym (with_apart V (node l) (sign l) k a) ∙ u))) (cases_eq k (node l))
        where
          cc_unit : k ≡ node l → unit_of (node l) (sign l) ≡ unit_of k b
          cc_unit e = let q : sign l ≡ b = same (sym (with_here V (node l) (sign l)) ∙ ap (with_value V (node l) (sign l)) (sym e) ∙ u) in subst (λ g. unit_of (node l) (sign l) ≡ unit_of g b) (sym e) (ap (unit_of (node l)) q)
            where
              same : ◌≡◌ {A = Option Bool} (Some (sign l)) (Some b) → sign l ≡ b
              same h = cc

      go : (r : Option (List ℕ)) → simplified V C ≡ r → Starting Q (add_simplified r W)
      go None e =
          let (y, i, t) = simplified_none V C e in
          let (b, u, q) = says_at V y (Some true) t in
          record {
            kept = done_with C Q (held W.store) V st.kept (y ∷ []) (subst (λ U. In U (held W.store (node y))) (unit_true y b q) (st.units (node y) b u)) (λ l h. ⊎_elim (λ w. subst (λ z. In z C) (sym w) i) absurd h);
            units = st.units;
          }
      go (Some S) e =
          let p = entered_plus W.store S in
          record {
            kept = done_with C Q (held (entered S W.store)) (known_by S V)
                (enter_kept first own (mix (held (entered S W.store)) (by_owner (C ∷ Q))) (suc (top ws)) V (λ _. false) (λ n. get_or fs n false) st.kept (omega arith) C S e (st.kept.clauses.order (owner C) C in_c)
                (λ l h. (owner C, C, in_c, h)) (suc (owner C), λ σ s. clause_at own (suc (owner C)) (owner C) C σ s (omega arith) in_c) (mix_plus (held W.store) (held (entered S W.store)) (by_owner (C ∷ Q)) S p))
                S p.here (λ l h. ((simplified_some V C S e).0 l h).0);
            units = units_known S p;
          }

  starts : (Q : List (List ℕ)) (W : Work) → Starting Q W → Starting [] (each add Q W)
  starts [] W st = st
  starts (C ∷ Q) W st = starts Q (add C W) (start_step C Q W st)

  module _ (M : Meaning) where
    begun_none : (k : ℕ) (E : List ℕ) → In E (held (begun ws fs M).store k) → ⊥
    unfolding held
    begun_none k E h = h

    starting : Starting (clauses_in ws) (begun ws fs M)
    starting = record {
      kept = swap_kept first first (suc (top ws)) nothing (λ _. false) (λ n. get_or fs n false) begin (mix (held (begun ws fs M).store) (by_owner (clauses_in ws)))
          (λ k E h. inl (⊎_elim (λ j. absurd (begun_none k E j)) (from_list k E) (mix_in (held (begun ws fs M).store) (by_owner (clauses_in ws)) k E h)))
          (λ k E h. inl (in_mix (held (begun ws fs M).store) (by_owner (clauses_in ws)) k E (inr (to_list k E h))));
      units = λ k b u. absurd (none_some b u);
    }

    nil_rest : (k : ℕ) (E : List ℕ) → In E (by_owner [] k) → ⊥
    unfolding by_owner
    nil_rest k E h = h

    ended : (W : Work) → Starting [] W → Kept first (held W.store) (suc (top ws)) W.values (λ _. false) (λ n. get_or fs n false)
    ended W st = swap_kept first (mix (held W.store) (by_owner [])) (suc (top ws)) W.values (λ _. false) (λ n. get_or fs n false) st.kept (held W.store)
        (λ k E h. inl (in_mix (held W.store) (by_owner []) k E (inl h)))
        (λ k E h. inl (⊎_elim (λ j. j) (λ j. absurd (nil_rest k E j)) (mix_in (held W.store) (by_owner []) k E h)))

    zero_known : (each add (clauses_in ws) (begun ws fs M)).values 0 ≡ Some false
    unfolding clauses_in add simplified literal with_value
    zero_known = adds_zero (flat_map (taken_in ws) (from 1 (top ws))) (add (1 ∷ []) (begun ws fs M)) refl

    plain_good : Good first (each add (clauses_in ws) (begun ws fs M))
    plain_good =
        let (a, b, c) = adds_top (clauses_in ws) (begun ws fs M) in
        let N = each add (clauses_in ws) (begun ws fs M) in
        record {
          kept = subst (λ f. Kept first (held N.store) (suc N.top) N.values (λ k. has k N.out) f) (sym c)
              (subst (λ o. Kept first (held N.store) (suc N.top) N.values (λ k. has k o) (λ n. get_or fs n false)) (sym b)
              (subst (λ t. Kept first (held N.store) (suc t) N.values (λ k. has k []) (λ n. get_or fs n false)) (sym a) (ended N (starts (clauses_in ws) (begun ws fs M) starting))));
          placed = adds_placed (clauses_in ws) (begun ws fs M) (λ l C i. absurd i);
          small = omega (arith, a, I.header.few);
          zero_value = zero_known;
        }

    -- how many clauses are entered
    total_is : (k : ℕ) → length (flat_map (taken_in ws) (from 1 k)) ≡ total ws k
    total_is zero = refl
    total_is (suc k) = ap (λ xs. length (flat_map (taken_in ws) xs)) (from_more k 1) ∙ ap length (flat_map-append (taken_in ws) (from 1 k) ((1 + k) ∷ [])) ∙ length-append (flat_map (taken_in ws) (from 1 k)) (flat_map (taken_in ws) ((1 + k) ∷ []))
        ∙ (omega (arith, total_is k, length-append (taken_in ws (1 + k)) [] ∙ (omega arith) ∙ ap (λ j. length (taken_in ws j)) {x = 1 + k} {y = suc k} (omega arith)))

    entered_count : length (clauses_in ws) ≡ suc (total ws (top ws))
    unfolding clauses_in
    entered_count = ap suc (total_is (top ws))

    module _ (enough : suc (total ws (top ws)) ≤ M.room / 2) where
      none_live : kept_clauses (begun ws fs M).store ≡ 0
      none_live = emptied_none M

      accepted : (each tested_work.add (clauses_in ws) (begun ws fs M) ≡ each add (clauses_in ws) (begun ws fs M)) × AllAccepted (entries (clauses_in ws) (begun ws fs M))
      accepted = adds_accepted (clauses_in ws) (begun ws fs M)
          (good_formed first (each add (clauses_in ws) (begun ws fs M)) plain_good (adds_short (clauses_in ws) (begun ws fs M) (λ C i. let (k, j) = clauses_at C i in clause_short ws I k C j) (λ l C i. absurd i)))
          (omega (arith, none_live, entered_count, enough))

      pub start_good : Good first (started ws fs M)
      unfolding started
      start_good = subst (Good first) (sym accepted.0) plain_good

      pub start_accepted : AllAccepted (entries (clauses_in ws) (begun ws fs M))
      start_accepted = accepted.1

      pub start_lawful : Lawful (started ws fs M).store × ((started ws fs M).store.room ≡ M.room)
      unfolding started
      start_lawful = adds_keep (clauses_in ws) (begun ws fs M) (emptied_lawful M)

      pub start_live : live_clauses (started ws fs M).store ≤ M.room / 2
      unfolding started
      start_live = subst (λ W. live_clauses W.store ≤ M.room / 2) (sym accepted.0)
          (omega (arith, adds_live (clauses_in ws) (begun ws fs M), none_live, entered_count, enough))

      pub start_nodes : ((started ws fs M).top ≡ top ws) × ((started ws fs M).frozen ≡ (λ n. get_or fs n false))
      unfolding started
      start_nodes = let (a, b, c) = adds_top (clauses_in ws) (begun ws fs M) in (ap (λ W. W.top) accepted.0 ∙ a, ap (λ W. W.frozen) accepted.0 ∙ c)

-- ## What start makes sure of

first_none : (xs : List ℕ) → first_of xs ≡ None → xs ≡ []
first_none [] e = refl
first_none (x ∷ xs) e = cc

ok_same : (V W : Work) → ◌≡◌ {A = Result Work Fault} (Ok V) (Ok W) → V ≡ W
ok_same V W e = cc

ok_not : (f : Fault) (W : Work) → ◌≡◌ {A = Result Work Fault} (Err f) (Ok W) → ⊥
ok_not f W e = cc

-- what a work that start makes comes of
pub record Started (ws : List ℕ) (fs : List Bool) (M : Meaning) (W : Work) : Type 0 where
  pub image : Image ws
  pub gates : Gates (taken_in ws) (suc (top ws)) (λ n. get_or fs n false)
  pub enough : suc (total ws (top ws)) ≤ M.room / 2
  pub is : W ≡ started ws fs M

pub start_parts : (ws : List ℕ) (fs : List Bool) (M : Meaning) (W : Work) → accepts ws ≡ true → get_or fs 0 false ≡ true → start ws fs M ≡ Ok W → Started ws fs M W
unfolding start
start_parts ws fs M W right z e =
    let (u, a, b) = then_ok (tested (leb (suc (total ws (top ws))) (M.room / 2)) (fault 11 (suc (total ws (top ws))))) (λ _. unless_loose (first_of (loose_nodes ws fs (top ws))) (started ws fs M)) W e in
    let enough = leb-true (suc (total ws (top ws))) (M.room / 2) (cond_ok (leb (suc (total ws (top ws))) (M.room / 2)) tt u (fault 11 (suc (total ws (top ws)))) a).0 in
    let I : Image ws = (accepted_iff ws).0 (accepted_answer ws right) in
    let (n, w) = go (first_of (loose_nodes ws fs (top ws))) b in
    record { image = I; gates = ready_to_start ws fs I z (first_none (loose_nodes ws fs (top ws)) n); enough = enough; is = w }
  where
    go : (o : Option ℕ) → unless_loose o (started ws fs M) ≡ Ok W → (o ≡ None) × (W ≡ started ws fs M)
    go None q = (refl, sym (ok_same (started ws fs M) W q))
    go (Some n) q = absurd (ok_not (fault 12 n) W q)

-- ## Start by nodes

each_append : (xs ys : List (List ℕ)) (W : Work) → each tested_work.add (xs ++ ys) W ≡ each tested_work.add ys (each tested_work.add xs W)
each_append [] ys W = refl
each_append (x ∷ xs) ys W = each_append xs ys (tested_work.add x W)

each_flat_map : (f : ℕ → List (List ℕ)) (ns : List ℕ) (W : Work) → each tested_work.add (flat_map f ns) W ≡ each (λ n W. each tested_work.add (f n) W) ns W
each_flat_map f [] W = refl
each_flat_map f (n ∷ ns) W = each_append (f n) (flat_map f ns) W ∙ each_flat_map f ns (each tested_work.add (f n) W)

-- start enters the clauses of each node in turn
pub started_by_nodes : (ws : List ℕ) (fs : List Bool) (M : Meaning) → started ws fs M ≡ each (λ n W. each tested_work.add (taken_in ws n) W) (up_to (suc (top ws))) (begun ws fs M)
unfolding started clauses_in
started_by_nodes ws fs M = each_flat_map (taken_in ws) (up_to (suc (top ws))) (begun ws fs M)
