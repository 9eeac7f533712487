-- const_simplify keeps what is kept. Assumes nothing.
use Rattle.std.proofs.Common.{◌≡◌, ℕ, zero, suc, ◌+◌, ◌*◌, ◌<◌, ◌≤◌, Bool, true, false, cond, not, eqb, ltb, ◌⊎◌, List, [], ◌∷◌, ◌++◌, map, length, get_or, Some, None, Option, sym, refl, ap, ◌∙◌, subst, inl, inr, ⊎_elim, append_assoc, arith}
use Rattle.std.proofs.lemmas.Bool.{cases_eq, cases_lt, cases_Bool, cond_both, both_ways, eqb-true, eqb-false, ltb-false}
use Rattle.network.specs.Assignments.{Assignment, node, lit, holds}
use Rattle.network.specs.Lists.{In}
use Rattle.network.specs.Levels.{Below}
use Rattle.network.specs.Networks.{Network, level}
use Rattle.network.specs.Clauses.{Ordered, Subsumes, owner, has, last}
use Rattle.network.proofs.Literals.{lit_agree}
use Rattle.network.proofs.Lists.{in_left, any_some, any_from}
use Rattle.network.proofs.Networks.{clause_at}
use Rattle.network.specs.Values.{Values, nothing, with_value, sign, flipped, unit_of, literal, kept_literal, simplified}
use Rattle.rules.specs.Kept.{Kept}
use Rattle.rules.specs.Store.{Meaning, entered, index_off, from}
use Rattle.rules.specs.Held.{held, Placed}
use Rattle.rules.specs.Good.{Good}
use Rattle.rules.specs.Work.{Work, storing, valuing, each, known_by, clear, clear_all}
use Rattle.rules.proofs.Plain.{add_simplified, add, judged_by, judged, const_node, const_simplify}
use Rattle.rules.specs.Const.{goes, shrinks, stays, fate_of, marking, if_known, const_drop}
use Rattle.rules.proofs.Kept.{well, known, with_here, with_apart, unit_holds}
use Rattle.rules.proofs.Simplified.{Short, says_at, simplified_some, simplified_none, unit_is, unit_true}
use Rattle.rules.proofs.Enter.{Plus}
use Rattle.rules.proofs.Drops.{not_nil, PartAt, swap_kept}
use Rattle.rules.proofs.Verdicts.{owner_last, last_in}
use Rattle.rules.proofs.Places.{in_at, at_in, held_in, in_held, held_old}
use Rattle.rules.proofs.Index.{entered_own, entered_apart}
use Rattle.rules.proofs.Clear.{Left, Cleared, clear_is, clear_all_is, clear_all_empty}
use Rattle.rules.proofs.Adds.{entered_plus, entered_placed}
use Rattle.rules.proofs.Plus.{plus, plus_own, plus_unit, plus_cases, plus_kept, minus_kept, reason_drop, unit_owner}
use Rattle.rules.proofs.Facts.{none_some}
use Rattle.rules.proofs.Lives.{clear_part}
use Rattle.network.proofs.Ordered.{ordered_once, ordered_within}
use Rattle.std.proofs.lemmas.List.{append-nil, get_or_append_left, get_or_past, length-append, length-replicate}
use Rattle.network.proofs.Values.{simplified_ordered}

-- a clause of unvalued literals stays as it is
simplified_same : (V : Values) (S : List ℕ) → ((l : ℕ) → In l S → V (node l) ≡ None) → simplified V S ≡ Some S
unfolding simplified literal
simplified_same V [] h = refl
simplified_same V (l ∷ S) h = ap (λ o. kept_literal (flipped (sign l) o) l (simplified V S)) (h l (inl refl)) ∙ ap (kept_literal None l) (simplified_same V S (λ k i. h k (inr i)))

-- and one that is no shorter is the same
abbrev pub NoLonger : List ℕ → Option (List ℕ) → Type 0
NoLonger C None = Unit {0}
NoLonger C (Some S) = (length S ≤ length C) × (length C ≤ length S → S ≡ C)

longer_step : (o : Option Bool) (l : ℕ) (C : List ℕ) (r : Option (List ℕ)) → NoLonger C r → NoLonger (l ∷ C) (kept_literal o l r)
longer_step (Some true) l C r h = tt
longer_step (Some false) l C None h = tt
longer_step (Some false) l C (Some S) (a, b) = (omega arith, λ q. absurd (omega arith))
longer_step None l C None h = tt
longer_step None l C (Some S) (a, b) = (omega arith, λ q. ap (λ xs. l ∷ xs) (b (omega arith)))

pub no_longer : (V : Values) (C : List ℕ) → NoLonger C (simplified V C)
unfolding simplified
no_longer V [] = (omega arith, λ q. refl)
no_longer V (l ∷ C) = longer_step (literal V l) l C (simplified V C) (no_longer V C)

-- why a clause may go: a literal is true, or the last one false
abbrev pub Reason : Values → List ℕ → Type 0
Reason V C = ((y : ℕ) × In y C × (literal V y ≡ Some true)) ⊎ (literal V (last C) ≡ Some false)

literal_grow : (V N : Values) → ((k : ℕ) (b : Bool) → V k ≡ Some b → N k ≡ Some b) → (y : ℕ) (c : Bool) → literal V y ≡ Some c → literal N y ≡ Some c
unfolding literal
literal_grow V N g y c e = let (b, u, q) = says_at V y (Some c) e in ap (flipped (sign y)) (g (node y) b u ∙ sym u) ∙ e

reason_grow : (V N : Values) → ((k : ℕ) (b : Bool) → V k ≡ Some b → N k ≡ Some b) → (C : List ℕ) → Reason V C → Reason N C
reason_grow V N g C (inl (y, i, t)) = inl (y, i, literal_grow V N g y true t)
reason_grow V N g C (inr f) = inr (literal_grow V N g (last C) false f)

-- what a single literal makes known
known_cases : (S : List ℕ) (V : Values) (k : ℕ) (b : Bool) → known_by S V k ≡ Some b → (V k ≡ Some b) ⊎ (S ≡ unit_of k b)
known_cases [] V k b e = inl e
known_cases (l ∷ m ∷ S) V k b e = inl e
known_cases (l ∷ []) V k b e = ⊎_elim
    (λ q. inr (sym (unit_is l) ∙ ap (λ g. unit_of g (sign l)) (sym q) ∙ ap (unit_of k) (same (sym (with_here V (node l) (sign l)) ∙ ap (with_value V (node l) (sign l)) (sym q) ∙ e))))
    (λ a. inl (sym (with_apart V (node l) (sign l) k a) ∙ e)) (cases_eq k (node l))
  where
    same : ◌≡◌ {A = Option Bool} (Some (sign l)) (Some b) → sign l ≡ b
    same h = cc

known_grow : (S : List ℕ) (V : Values) → ((l : ℕ) → In l S → V (node l) ≡ None) → (k : ℕ) (b : Bool) → V k ≡ Some b → known_by S V k ≡ Some b
known_grow [] V h k b e = e
known_grow (l ∷ m ∷ S) V h k b e = e
known_grow (l ∷ []) V h k b e = with_apart V (node l) (sign l) k (λ q. none_some b (sym (h l (inl refl)) ∙ ap V (sym q) ∙ e)) ∙ e

known_apart : (S : List ℕ) (V : Values) (k : ℕ) → (k ≡ node (last S) → ⊥) → known_by S V k ≡ V k
known_apart [] V k a = refl
known_apart (l ∷ m ∷ S) V k a = refl
known_apart (l ∷ []) V k a = with_apart V (node l) (sign l) k a

unit_node : (k : ℕ) (b : Bool) (S : List ℕ) → S ≡ unit_of k b → (l : ℕ) × In l S × (node l ≡ k)
unfolding unit_of
unit_node k true S e = (2 * k, subst (In (2 * k)) (sym e) (inl refl), omega arith)
unit_node k false S e = (2 * k + 1, subst (In (2 * k + 1)) (sym e) (inl refl), omega arith)

mark_below : (marks : List Bool) (j : ℕ) → get_or marks j false ≡ true → j < length marks
mark_below marks j e = grind (arith, get_or_past marks j false, cases_lt j (length marks))

-- what a node's turn leaves alone
pub record Turn (m : ℕ) (W N : Work) : Type 0 where
  pub apart : (k : ℕ) → (node k ≡ m → ⊥) → N.store.own k ≡ W.store.own k
  pub values : (k : ℕ) → (k ≡ m → ⊥) → N.values k ≡ W.values k
  pub grow : (k : ℕ) (b : Bool) → W.values k ≡ Some b → N.values k ≡ Some b
  pub tops : (N.top ≡ W.top) × (N.out ≡ W.out) × (N.frozen ≡ W.frozen)

turn_same : (m : ℕ) (W : Work) → Turn m W W
turn_same m W = record { apart = λ k a. refl; values = λ k a. refl; grow = λ k b e. e; tops = (refl, refl, refl) }

turn_then : (m : ℕ) (W N R : Work) → Turn m W N → Turn m N R → Turn m W R
turn_then m W N R p q = record {
  apart = λ k a. q.apart k a ∙ p.apart k a;
  values = λ k a. q.values k a ∙ p.values k a;
  grow = λ k b e. q.grow k b (p.grow k b e);
  tops = (q.tops.0 ∙ p.tops.0, q.tops.1 ∙ p.tops.1, q.tops.2 ∙ p.tops.2);
}

-- where the node has no value at the end, nothing has changed
turn_path : (m : ℕ) (W N : Work) → Turn m W N → N.values m ≡ None → N.values ≡ W.values
turn_path m W N t u = grind (arith, known (W.values m), t.values, cases_eq, none_some, t.grow m)

module _ (first : Network) (n : ℕ) (gone frozen : Assignment) where
  pub record Consting (W : Work) : Type 0 where
    pub kc : Kept first (plus (held W.store) W.values gone) n nothing gone frozen
    pub placed : Placed W.store
    pub valued : (k : ℕ) (b : Bool) → W.values k ≡ Some b → k < n
    pub old : (σ : Assignment) → Below (level first) n σ → (k : ℕ) (b : Bool) → gone k ≡ true → W.values k ≡ Some b → σ k ≡ b

  module _ (W : Work) (c : Consting W) where
    abbrev pub P : Network
    P = plus (held W.store) W.values gone

    pub in_plus : (l : ℕ) (C : List ℕ) → In C (W.store.own l) → In C (P (node l))
    in_plus l C i = plus_own (held W.store) W.values gone (node l) C (held_in W.store l C i)

    not_gone : (l : ℕ) (C : List ℕ) → In C (W.store.own l) → (x : ℕ) → In x C → gone (node x) ≡ false
    not_gone l C i x j = ⊎_elim (λ g. absurd (c.kc.absent (node x) g (node l) C (in_plus l C i) x j refl)) (λ g. g) (cases_Bool (gone (node x)))

    pub last_here : (l : ℕ) (C : List ℕ) → In C (W.store.own l) → In (last C) C
    last_here l C i = last_in C (not_nil first P n nothing gone frozen c.kc (node l) C (in_plus l C i))

    -- the short form entered
    module _ (l : ℕ) (C S : List ℕ) (i : In C (W.store.own l)) (e : simplified W.values C ≡ Some S) (ls : last S ≡ last C) where
      abbrev V : Values
      V = W.values

      sh : Short V C S
      sh = simplified_some W.values C S e

      abbrev N : Work
      N = valuing (storing W (entered S W.store)) (known_by S W.values)

      add_is : add S W ≡ N
      unfolding add
      add_is = ap (λ o. add_simplified o W) (simplified_same W.values S (λ l i. (sh.0 l i).1))

      last_S : last S ≡ l
      last_S = ls ∙ c.placed l C i

      owner_S : owner S ≡ node l
      owner_S = owner_last S ∙ ap node last_S

      implied : (σ : Assignment) → Below (level P) (suc (node l)) σ → holds σ S ≡ true
      implied σ s = go (any_some (lit σ) C (clause_at P (suc (node l)) (node l) C σ s (omega arith) (in_plus l C i)))
        where
          false_one : (x : ℕ) → In x C → lit σ x ≡ true → literal W.values x ≡ Some false → holds σ S ≡ true
          false_one x j t f =
              let (b, u, q) = says_at W.values x (Some false) f in
              let w : σ (node x) ≡ b = unit_holds σ (node x) b (clause_at P (suc (node l)) (node x) (unit_of (node x) b) σ s (omega (arith, well first P n nothing gone frozen c.kc (node l) C (in_plus l C i) x j))
              (plus_unit (held W.store) W.values gone (node x) b (not_gone l C i x j) u)) in
              absurd (both_ways (lit σ x) (lit_agree σ (λ _. b) x w ∙ q) t)

          go : (x : ℕ) × In x C × (lit σ x ≡ true) → holds σ S ≡ true
          go (x, j, t) = ⊎_elim (λ h. any_from (lit σ) S x h t) (false_one x j t) (sh.1 x j)

      short_consting : Consting N
      short_consting = record {
        kc = swap_kept first P n nothing gone frozen c.kc (plus (held (entered S W.store)) (known_by S W.values) gone) added kept_old;
        placed = entered_placed W.store S c.placed;
        valued = λ k b u. ⊎_elim (c.valued k b) (λ q. let (x, h, w) = unit_node k b S q in
            omega (arith, well first P n nothing gone frozen c.kc (node l) C (in_plus l C i) x (sh.0 x h).0, c.kc.clauses.small (node l) C (in_plus l C i), w)) (known_cases S W.values k b u);
        old = λ σ s k b g u. ⊎_elim (c.old σ s k b g) (λ q. let (x, h, w) = unit_node k b S q in
            absurd (both_ways (gone k) (ap gone (sym w) ∙ not_gone l C i x (sh.0 x h).0) g)) (known_cases S W.values k b u);
      }
        where
          p : Plus (held W.store) (held (entered S W.store)) S
          p = entered_plus W.store S

          new_one : (k : ℕ) (E : List ℕ) → E ≡ S → owner S ≡ k → PartAt P k E
          new_one k E q w = subst (PartAt P k) (sym q) (record {
            whole = C;
            at = subst (λ g. In C (P g)) (sym owner_S ∙ w) (in_plus l C i);
            part = λ x h. (sh.0 x h).0;
            order = simplified_ordered W.values C S (c.kc.clauses.order (node l) C (in_plus l C i)) e;
            owned = w;
            implied = (suc (node l), implied);
          })

          added : (k : ℕ) (E : List ℕ) → In E (plus (held (entered S W.store)) (known_by S W.values) gone k)
              → In E (P k) ⊎ PartAt P k E
          added k E h = ⊎_elim (λ j. ⊎_elim (λ o. inl (plus_own (held W.store) W.values gone k E o)) (λ (q, w). inr (new_one k E q w)) (p.cases k E j))
              (λ (b, g, u, q). ⊎_elim (λ v. inl (subst (λ D. In D (P k)) (sym q) (plus_unit (held W.store) W.values gone k b g v)))
              (λ v. inr (new_one k E (q ∙ sym v) (ap owner v ∙ unit_owner k b))) (known_cases S W.values k b u)) (plus_cases (held (entered S W.store)) (known_by S W.values) gone k E h)

          kept_old : (k : ℕ) (E : List ℕ) → In E (P k) → In E (plus (held (entered S W.store)) (known_by S W.values) gone k) ⊎ ((B : List ℕ) × In B (plus (held (entered S W.store)) (known_by S W.values) gone (owner B)) × Subsumes B E)
          kept_old k E h = inl (⊎_elim (λ o. plus_own (held (entered S W.store)) (known_by S W.values) gone k E (p.old k E o))
              (λ (b, g, u, q). subst (λ D. In D (plus (held (entered S W.store)) (known_by S W.values) gone k)) (sym q) (plus_unit (held (entered S W.store)) (known_by S W.values) gone k b g (known_grow S W.values (λ l i. (sh.0 l i).1) k b u)))
              (plus_cases (held W.store) W.values gone k E h))

      short_turn : Turn (node l) W N
      short_turn = record {
        apart = λ k a. entered_apart W.store S k (λ q. a (ap node (q ∙ last_S)));
        values = λ k a. known_apart S W.values k (λ q. a (q ∙ ap node last_S));
        grow = known_grow S W.values (λ l i. (sh.0 l i).1);
        tops = (refl, refl, refl);
      }

      short_own : N.store.own l ≡ W.store.own l ++ (S ∷ [])
      short_own = subst (λ g. (entered S W.store).own g ≡ W.store.own g ++ (S ∷ [])) last_S (entered_own W.store S)

      short_others : (k : ℕ) → (k ≡ l → ⊥) → N.store.own k ≡ W.store.own k
      short_others k a = entered_apart W.store S k (λ q. a (q ∙ last_S))

    -- marked clauses of own l go, each for a reason
    module _ (l : ℕ) (marks : List Bool) (le : length marks ≤ length (W.store.own l))
        (why : (j : ℕ) → j < length (W.store.own l) → get_or marks j false ≡ true → Reason W.values (get_or (W.store.own l) j [])) where
      cleared_consting : Consting (storing W (clear l marks W.store))
      cleared_consting = record {
        kc = reason_drop first P n gone frozen c.kc (plus (held (clear l marks W.store)) W.values gone) part lost;
        placed = λ k E h. c.placed k E (clear_part l marks W.store k E h);
        valued = c.valued;
        old = c.old;
      }
        where
          M : Meaning
          M = clear l marks W.store

          part : (k : ℕ) (E : List ℕ) → In E (plus (held M) W.values gone k) → In E (P k)
          part k E h = ⊎_elim (λ j. let (g, q, o) = in_held M k E j in subst (λ g. In E (P g)) q (in_plus g E (clear_part l marks W.store g E o)))
              (λ (b, g, u, q). subst (λ D. In D (P k)) (sym q) (plus_unit (held W.store) W.values gone k b g u)) (plus_cases (held M) W.values gone k E h)

          by_reason : (E : List ℕ) → In E (W.store.own l) → Reason W.values E → ((B : List ℕ) × In B (plus (held M) W.values gone (owner B)) × Subsumes B E) ⊎ ((b : Bool) × In (unit_of (node l) b) (plus (held M) W.values gone (node l)))
          by_reason E i (inl (y, j, t)) =
              let (b, u, q) = says_at W.values y (Some true) t in
              inl (y ∷ [], subst (λ U. In U (plus (held M) W.values gone (node y))) (unit_true y b q) (plus_unit (held M) W.values gone (node y) b (not_gone l E i y j) u), λ x h. ⊎_elim (λ w. subst (λ z. In z E) (sym w) j) absurd h)
          by_reason E i (inr f) =
              let (b, u, q) = says_at W.values (last E) (Some false) f in
              let w : node (last E) ≡ node l = ap node (c.placed l E i) in
              inr (b, plus_unit (held M) W.values gone (node l) b (ap gone (sym w) ∙ not_gone l E i (last E) (last_here l E i)) (ap W.values (sym w) ∙ u))

          lost : (k : ℕ) (E : List ℕ) → In E (P k) → In E (plus (held M) W.values gone k) ⊎ (((B : List ℕ) × In B (plus (held M) W.values gone (owner B)) × Subsumes B E) ⊎ ((b : Bool) × In (unit_of k b) (plus (held M) W.values gone k)))
          lost k E h = ⊎_elim
              (λ j. ⊎_elim (λ o. inl (plus_own (held M) W.values gone k E o)) (λ (q, o). at_l k q E o (at_in (W.store.own l) E [] o)) (held_old W.store M l (clear_is l marks W.store le).apart k E j))
              (λ (b, g, u, q). inl (subst (λ D. In D (plus (held M) W.values gone k)) (sym q) (plus_unit (held M) W.values gone k b g u))) (plus_cases (held W.store) W.values gone k E h)
            where
              at_l : (k : ℕ) → node l ≡ k → (E : List ℕ) → In E (W.store.own l) → (j : ℕ) × (j < length (W.store.own l)) × (get_or (W.store.own l) j [] ≡ E)
                  → In E (plus (held M) W.values gone k) ⊎ (((B : List ℕ) × In B (plus (held M) W.values gone (owner B)) × Subsumes B E) ⊎ ((b : Bool) × In (unit_of k b) (plus (held M) W.values gone k)))
              at_l k q E o (j, lj, e) = ⊎_elim
                  (λ t. inr (subst (λ g. ((B : List ℕ) × In B (plus (held M) W.values gone (owner B)) × Subsumes B E) ⊎ ((b : Bool) × In (unit_of g b) (plus (held M) W.values gone g))) q (by_reason E o (subst (Reason W.values) e (why j lj t)))))
                  (λ f. inl (plus_own (held M) W.values gone k E (subst (λ g. In E (held M g)) q (held_in M l E ((clear_is l marks W.store le).stays E (j, lj, f, e)))))) (cases_Bool (get_or marks j false))

      cleared_turn : Turn (node l) W (storing W (clear l marks W.store))
      cleared_turn = record { apart = λ k a. (clear_is l marks W.store le).apart k (λ q. a (ap node q)); values = λ k a. refl; grow = λ k b e. e; tops = (refl, refl, refl) }

  -- the clauses of own l judged in turn
  pub record Judging (l : ℕ) (Cs : List (List ℕ)) (marks : List Bool) (W N : Work) : Type 0 where
    pub cons : Consting N
    pub turn : Turn (node l) W N
    pub ext : List (List ℕ)
    pub lists : N.store.own l ≡ W.store.own l ++ ext
    pub others : (k : ℕ) → (k ≡ l → ⊥) → N.store.own k ≡ W.store.own k
    pub len : length marks ≡ length Cs
    pub gone_ones : (j : ℕ) → j < length Cs → get_or marks j false ≡ true → Reason N.values (get_or Cs j [])
    pub left_ones : (j : ℕ) → j < length Cs → get_or marks j false ≡ false → N.values (node l) ≡ None → (S : List ℕ) × (simplified N.values (get_or Cs j []) ≡ Some S) × ((S ≡ get_or Cs j []) ⊎ In S ext)
    pub new_ones : (E : List ℕ) → In E ext → N.values (node l) ≡ None → simplified N.values E ≡ Some E

  module _ (l : ℕ) (C : List ℕ) (Cs : List (List ℕ)) (marks : List Bool) where
    -- one clause more in front: what is known of it, marked or not
    judged_more : (b : Bool) (W N : Work) (J : Judging l Cs marks W N) → (b ≡ true → Reason N.values C)
        → (b ≡ false → N.values (node l) ≡ None → (S : List ℕ) × (simplified N.values C ≡ Some S) × ((S ≡ C) ⊎ In S J.ext)) → Judging l (C ∷ Cs) (b ∷ marks) W N
    judged_more b W N J r s = record {
      cons = J.cons;
      turn = J.turn;
      ext = J.ext;
      lists = J.lists;
      others = J.others;
      len = ap suc J.len;
      gone_ones = at;
      left_ones = left;
      new_ones = J.new_ones;
    }
      where
        at : (j : ℕ) → j < suc (length Cs) → get_or (b ∷ marks) j false ≡ true → Reason N.values (get_or (C ∷ Cs) j [])
        at zero lj t = r t
        at (suc j) lj t = J.gone_ones j (omega arith) t

        left : (j : ℕ) → j < suc (length Cs) → get_or (b ∷ marks) j false ≡ false → N.values (node l) ≡ None → (S : List ℕ) × (simplified N.values (get_or (C ∷ Cs) j []) ≡ Some S) × ((S ≡ get_or (C ∷ Cs) j []) ⊎ In S J.ext)
        left zero lj f = s f
        left (suc j) lj f = J.left_ones j (omega arith) f

    judged_goes : (W N : Work) → Judging l Cs marks W N → Reason W.values C → Judging l (C ∷ Cs) (true ∷ marks) W N
    judged_goes W N J r = judged_more true W N J (λ t. reason_grow W.values N.values J.turn.grow C r) (λ f. absurd (both_ways true f refl))

    judged_stays : (W N : Work) → Judging l Cs marks W N → simplified W.values C ≡ Some C → Judging l (C ∷ Cs) (false ∷ marks) W N
    judged_stays W N J r = judged_more false W N J (λ t. absurd (both_ways false refl t)) (λ f u. (C, ap (λ V. simplified V C) (turn_path (node l) W N J.turn u) ∙ r, inl refl))

    judged_shrinks : (W : Work) (c : Consting W) (S : List ℕ) (i : In C (W.store.own l)) (e : simplified W.values C ≡ Some S) (ls : last S ≡ last C) (N : Work)
        → Judging l Cs marks (valuing (storing W (entered S W.store)) (known_by S W.values)) N → Judging l (C ∷ Cs) (false ∷ marks) W N
    judged_shrinks W c S i e ls N J =
        judged_more false W N entered_first (λ t. absurd (both_ways false refl t)) (λ f u. (S, ap (λ V. simplified V C) (turn_path (node l) W N both u) ∙ e, inr (inl refl)))
      where
        both : Turn (node l) W N
        both = turn_then (node l) W (valuing (storing W (entered S W.store)) (known_by S W.values)) N (short_turn W c l C S i e ls) J.turn

        -- the others, with S entered before them
        entered_first : Judging l Cs marks W N
        entered_first = record {
          cons = J.cons;
          turn = both;
          ext = S ∷ J.ext;
          lists = J.lists ∙ ap (λ xs. xs ++ J.ext) (short_own W c l C S i e ls) ∙ append_assoc (W.store.own l) (S ∷ []) J.ext;
          others = λ k a. J.others k a ∙ short_others W c l C S i e ls k a;
          len = J.len;
          gone_ones = J.gone_ones;
          left_ones = λ j lj f u. let (T, p, q) = J.left_ones j lj f u in (T, p, ⊎_elim inl (λ h. inr (inr h)) q);
          new_ones = λ E h u. ⊎_elim (λ q. subst (λ D. simplified N.values D ≡ Some D) (sym q) (ap (λ V. simplified V S) (turn_path (node l) W N both u) ∙ simplified_same W.values S (λ x m. ((simplified_some W.values C S e).0 x m).1))) (λ j. J.new_ones E j u) h;
        }

  abbrev pub JudgedAs : ℕ → List (List ℕ) → Work → List Bool × Work → Type 0
  JudgedAs l Cs W r = Judging l Cs r.0 W r.1

  -- the last literal of a clause whose short form ends otherwise is false
  last_false : (W : Work) (c : Consting W) (l : ℕ) (C S : List ℕ) → In C (W.store.own l) → simplified W.values C ≡ Some S → (last S ≡ last C → ⊥) → literal W.values (last C) ≡ Some false
  last_false W c l C S i e a = ⊎_elim (λ h. absurd (a (same h))) (λ f. f) (sh.1 (last C) (last_here W c l C i))
    where
      sh : Short W.values C S
      sh = simplified_some W.values C S e

      oC : Ordered C
      oC = c.kc.clauses.order (node l) C (in_plus W c l C i)

      same : In (last C) S → last S ≡ last C
      same h =
          let m : In (last S) S = last_in S (λ q. subst (In (last C)) q h) in
          let oS = simplified_ordered W.values C S oC e in
          ordered_once C oC (last S) (last C) (sh.0 (last S) m).0 (last_here W c l C i)
          (omega (arith, ordered_within S oS (last C) h, owner_last S, ordered_within C oC (last S) (sh.0 (last S) m).0, owner_last C))

  pub judged_is : (l : ℕ) (Cs : List (List ℕ)) (W : Work) → Consting W → ((E : List ℕ) → In E Cs → In E (W.store.own l)) → JudgedAs l Cs W (judged Cs W)
  unfolding judged
  judged_is l [] W c h = record {
    cons = c;
    turn = turn_same (node l) W;
    ext = [];
    lists = sym (append-nil (W.store.own l));
    others = λ k a. refl;
    len = refl;
    gone_ones = λ j lj. absurd (omega arith);
    left_ones = λ j lj. absurd (omega arith);
    new_ones = λ E i. absurd i;
  }
  judged_is l (C ∷ Cs) W c h = judged_step l C Cs W c (h C (inl refl)) (judged_is l Cs W c (λ E i. h E (inr i))) (λ N cN g. judged_is l Cs N cN (λ E i. g E (h E (inr i)))) (simplified W.values C) refl
    where
      judged_step : (l : ℕ) (C : List ℕ) (Cs : List (List ℕ)) (W : Work) (c : Consting W) → In C (W.store.own l) → JudgedAs l Cs W (judged Cs W)
          → ((N : Work) → Consting N → ((E : List ℕ) → In E (W.store.own l) → In E (N.store.own l)) → JudgedAs l Cs N (judged Cs N))
          → (o : Option (List ℕ)) → simplified W.values C ≡ o → JudgedAs l (C ∷ Cs) W (judged_by (fate_of C o) W (λ w. judged Cs w))
      judged_step l C Cs W c i J go None e = judged_goes l C Cs (judged Cs W).0 W (judged Cs W).1 J (inl (simplified_none W.values C e))
      judged_step l C Cs W c i J go (Some S) e =
          cond_both (eqb (last S) (last C)) (cond (ltb (length S) (length C)) (shrinks S) stays) goes (λ f. JudgedAs l (C ∷ Cs) W (judged_by f W (λ w. judged Cs w)))
          (λ t. let ls = eqb-true (last S) (last C) t in
          cond_both (ltb (length S) (length C)) (shrinks S) stays (λ f. JudgedAs l (C ∷ Cs) W (judged_by f W (λ w. judged Cs w)))
          (λ u. subst (λ N. JudgedAs l (C ∷ Cs) W (marking false (judged Cs N))) (sym (add_is W c l C S i e ls))
          (judged_shrinks l C Cs (judged Cs (short_work W S)).0 W c S i e ls (judged Cs (short_work W S)).1
          (go (short_work W S) (short_consting W c l C S i e ls) (λ E m. subst (In E) (sym (short_own W c l C S i e ls)) (in_left E (W.store.own l) (S ∷ []) m)))))
          (λ u. judged_stays l C Cs (judged Cs W).0 W (judged Cs W).1 J (e ∙ ap Some ((subst (NoLonger C) e (no_longer W.values C)).1 (ltb-false (length S) (length C) u)))))
          (λ t. judged_goes l C Cs (judged Cs W).0 W (judged Cs W).1 J (inr (last_false W c l C S i e (eqb-false (last S) (last C) t))))
        where
          short_work : Work → List ℕ → Work
          short_work W S = valuing (storing W (entered S W.store)) (known_by S W.values)

  -- a node is done: it has a value, or each of its clauses has its short form beside it
  abbrev pub DoneAt : Values → Meaning → ℕ → Type 0
  DoneAt V M k = ((b : Bool) × (V k ≡ Some b)) ⊎ ((C : List ℕ) → In C (held M k) → (S : List ℕ) × (simplified V C ≡ Some S) × In S (held M k))

  -- what is left of a list has its short form left
  half : (l : ℕ) (Cs : List (List ℕ)) (marks : List Bool) (W N : Work) (J : Judging l Cs marks W N) (V : Values) → N.values ≡ V → N.values (node l) ≡ None
      → (own : List (List ℕ)) → own ≡ Cs ++ J.ext → (E : List ℕ) → Left marks own E → (S : List ℕ) × (simplified V E ≡ Some S) × Left marks own S
  half l Cs marks W N J V v u own o E (j, lj, f, e) = ⊎_elim old_one new_one (cases_lt j (length Cs))
    where
      lj' : j < length (Cs ++ J.ext)
      lj' = subst (λ xs. j < length xs) o lj

      at : (S : List ℕ) → In S J.ext → Left marks own S
      at S h =
          let (t, lt, q) = at_in J.ext S [] h in (
            length Cs + t,
            subst (λ xs. length Cs + t < length xs) (sym o) (omega (arith, length-append Cs J.ext)),
            get_or_past marks (length Cs + t) false (omega (arith, J.len)),
            ap (λ xs. get_or xs (length Cs + t) []) o ∙ append_past Cs J.ext t ∙ q,
          )
        where
          append_past : (xs ys : List (List ℕ)) (t : ℕ) → get_or (xs ++ ys) (length xs + t) [] ≡ get_or ys t []
          append_past [] ys t = ap (λ m. get_or ys m []) (omega arith)
          append_past (x ∷ xs) ys t = ap (λ m. get_or (x ∷ xs ++ ys) m []) {x = suc (length xs) + t} {y = suc (length xs + t)} (omega arith) ∙ append_past xs ys t

      old_one : j < length Cs → (S : List ℕ) × (simplified V E ≡ Some S) × Left marks own S
      old_one l₁ =
          let (S, p, q) = J.left_ones j l₁ f u in
          let w : get_or Cs j [] ≡ E = sym (ap (λ xs. get_or xs j []) o ∙ get_or_append_left Cs J.ext [] j l₁) ∙ e in
          (S, ap (λ X. simplified X E) (sym v) ∙ ap (simplified N.values) (sym w) ∙ p, ⊎_elim (λ z. (j, lj, f, e ∙ sym w ∙ sym z)) (at S) q)

      new_one : length Cs ≤ j → (S : List ℕ) × (simplified V E ≡ Some S) × Left marks own S
      new_one l₁ = (E, ap (λ X. simplified X E) (sym v) ∙ J.new_ones E (in_ext Cs J.ext j l₁ lj' (sym (ap (λ xs. get_or xs j []) o) ∙ e)) u, (j, lj, f, e))
        where
          in_ext : (xs ys : List (List ℕ)) (j : ℕ) → length xs ≤ j → j < length (xs ++ ys) → get_or (xs ++ ys) j [] ≡ E → In E ys
          in_ext [] ys j a b q = subst (λ D. In D ys) q (in_at ys j [] b)
          in_ext (x ∷ xs) ys zero a b q = absurd (omega arith)
          in_ext (x ∷ xs) ys (suc j) a b q = in_ext xs ys j (omega arith) (omega arith) q

  pub record Noded (m : ℕ) (W N : Work) : Type 0 where
    pub cons : Consting N
    pub turn : Turn m W N
    pub done : DoneAt N.values N.store m

  module _ (m : ℕ) (W : Work) (c : Consting W) where
    abbrev l0 : ℕ
    l0 = 2 * m

    abbrev l1 : ℕ
    l1 = 2 * m + 1

    abbrev r0 : List Bool × Work
    r0 = judged (W.store.own l0) W

    abbrev r1 : List Bool × Work
    r1 = judged (W.store.own l1) r0.1

    J0 : Judging l0 (W.store.own l0) r0.0 W r0.1
    J0 = judged_is l0 (W.store.own l0) W c (λ E i. i)

    J1 : Judging l1 (W.store.own l1) r1.0 r0.1 r1.1
    J1 = judged_is l1 (W.store.own l1) r0.1 J0.cons (λ E i. subst (In E) (sym (J0.others l1 (λ q. omega (arith, q)))) i)

    at0 : node l0 ≡ m
    at0 = omega arith

    at1 : node l1 ≡ m
    at1 = omega arith

    own0 : r1.1.store.own l0 ≡ W.store.own l0 ++ J0.ext
    own0 = J1.others l0 (λ q. omega (arith, q)) ∙ J0.lists

    own1 : r1.1.store.own l1 ≡ W.store.own l1 ++ J1.ext
    own1 = J1.lists ∙ ap (λ xs. xs ++ J1.ext) (J0.others l1 (λ q. omega (arith, q)))

    le0 : length r0.0 ≤ length (r1.1.store.own l0)
    le0 = omega (arith, ap length own0, length-append (W.store.own l0) J0.ext, J0.len)

    why0 : (j : ℕ) → j < length (r1.1.store.own l0) → get_or r0.0 j false ≡ true → Reason r1.1.values (get_or (r1.1.store.own l0) j [])
    why0 j lj t =
        let lj' : j < length (W.store.own l0) = omega (arith, mark_below r0.0 j t, J0.len) in
        subst (Reason r1.1.values) (sym (ap (λ xs. get_or xs j []) own0 ∙ get_or_append_left (W.store.own l0) J0.ext [] j lj'))
        (reason_grow r0.1.values r1.1.values J1.turn.grow (get_or (W.store.own l0) j []) (J0.gone_ones j lj' t))

    abbrev W3 : Work
    W3 = storing r1.1 (clear l0 r0.0 r1.1.store)

    c3 : Consting W3
    c3 = cleared_consting r1.1 J1.cons l0 r0.0 le0 why0

    cl0 : Cleared l0 r0.0 r1.1.store (clear l0 r0.0 r1.1.store)
    cl0 = clear_is l0 r0.0 r1.1.store le0

    own3 : W3.store.own l1 ≡ W.store.own l1 ++ J1.ext
    own3 = cl0.apart l1 (λ q. omega (arith, q)) ∙ own1

    le1 : length r1.0 ≤ length (W3.store.own l1)
    le1 = omega (arith, ap length own3, length-append (W.store.own l1) J1.ext, J1.len)

    why1 : (j : ℕ) → j < length (W3.store.own l1) → get_or r1.0 j false ≡ true → Reason W3.values (get_or (W3.store.own l1) j [])
    why1 j lj t =
        let lj' : j < length (W.store.own l1) = omega (arith, mark_below r1.0 j t, J1.len) in
        subst (Reason r1.1.values) (sym (ap (λ xs. get_or xs j []) own3 ∙ get_or_append_left (W.store.own l1) J1.ext [] j lj')) (J1.gone_ones j lj' t)

    abbrev M4 : Meaning
    M4 = clear l1 r1.0 W3.store

    cl1 : Cleared l1 r1.0 W3.store M4
    cl1 = clear_is l1 r1.0 W3.store le1

    done_none : r1.1.values m ≡ None → (C : List ℕ) → In C (held M4 m) → (S : List ℕ) × (simplified r1.1.values C ≡ Some S) × In S (held M4 m)
    done_none u C h = let (l, q, i) = in_held M4 m C h in ⊎_elim (λ e. at_0 (subst (λ g. In C (M4.own g)) e i)) (λ a. at_1 (subst (λ g. In C (M4.own g)) {x = l} {y = l1} (omega (arith, a, q)) i)) (cases_eq l l0)
      where
        path : r1.1.values ≡ r0.1.values
        path = turn_path (node l1) r0.1 r1.1 J1.turn (ap r1.1.values at1 ∙ u)

        at_0 : In C (M4.own l0) → (S : List ℕ) × (simplified r1.1.values C ≡ Some S) × In S (held M4 m)
        at_0 i =
            let ap0 = cl1.apart l0 (λ q. omega (arith, q)) in
            let (S, e, k) = half l0 (W.store.own l0) r0.0 W r0.1 J0 r1.1.values (sym path) (ap (λ V. V (node l0)) (sym path) ∙ ap r1.1.values at0 ∙ u) (r1.1.store.own l0) own0 C (cl0.left C (subst (In C) ap0 i)) in
            (S, e, subst (λ g. In S (held M4 g)) at0 (held_in M4 l0 S (subst (In S) (sym ap0) (cl0.stays S k))))

        at_1 : In C (M4.own l1) → (S : List ℕ) × (simplified r1.1.values C ≡ Some S) × In S (held M4 m)
        at_1 i =
            let (S, e, k) = half l1 (W.store.own l1) r1.0 r0.1 r1.1 J1 r1.1.values refl (ap r1.1.values at1 ∙ u) (W3.store.own l1) own3 C (cl1.left C i) in
            (S, e, subst (λ g. In S (held M4 g)) at1 (held_in M4 l1 S (cl1.stays S k)))

    pub noded : Noded m W (const_node m W)
    unfolding const_node
    noded = record {
      cons = cleared_consting W3 c3 l1 r1.0 le1 why1;
      turn = turn_then m W r0.1 (storing W3 M4) (subst (λ g. Turn g W r0.1) at0 J0.turn)
          (turn_then m r0.1 r1.1 (storing W3 M4) (subst (λ g. Turn g r0.1 r1.1) at1 J1.turn)
          (turn_then m r1.1 W3 (storing W3 M4) (subst (λ g. Turn g r1.1 W3) at0 (cleared_turn r1.1 J1.cons l0 r0.0 le0 why0)) (subst (λ g. Turn g W3 (storing W3 M4)) at1 (cleared_turn W3 c3 l1 r1.0 le1 why1))));
      done = ⊎_elim (λ u. inr (done_none u)) inl (known (r1.1.values m));
    }

  held_same : (M N : Meaning) (k : ℕ) → ((l : ℕ) → node l ≡ k → N.own l ≡ M.own l) → held N k ≡ held M k
  unfolding held
  held_same M N k h = ap (λ xs. xs ++ N.own (2 * k + 1)) (h (2 * k) (omega arith)) ∙ ap (λ xs. M.own (2 * k) ++ xs) (h (2 * k + 1) (omega arith))

  simplified_agree : (V N : Values) (C : List ℕ) → ((l : ℕ) → In l C → V (node l) ≡ N (node l)) → simplified V C ≡ simplified N C
  unfolding simplified literal
  simplified_agree V N [] h = refl
  simplified_agree V N (l ∷ C) h = ap (λ o. kept_literal (flipped (sign l) o) l (simplified V C)) (h l (inl refl)) ∙ ap (kept_literal (flipped (sign l) (N (node l))) l) (simplified_agree V N C (λ k i. h k (inr i)))

  record Passed (i t : ℕ) (W N : Work) : Type 0 where
    cons : Consting N
    tops : (N.top ≡ W.top) × (N.out ≡ W.out) × (N.frozen ≡ W.frozen)
    low_values : (k : ℕ) → k < i → N.values k ≡ W.values k
    low_own : (l : ℕ) → node l < i → N.store.own l ≡ W.store.own l
    done : (k : ℕ) → i ≤ k → k < i + t → DoneAt N.values N.store k

  passed : (t i : ℕ) (W : Work) → Consting W → Passed i t W (each const_node (from i t) W)
  passed zero i W c = record { cons = c; tops = (refl, refl, refl); low_values = λ k l. refl; low_own = λ l h. refl; done = λ k a b. absurd (omega arith) }
  passed (suc t) i W c =
      let d = noded i W c in
      let r = passed t (suc i) (const_node i W) d.cons in
      record {
        cons = r.cons;
        tops = (r.tops.0 ∙ d.turn.tops.0, r.tops.1 ∙ d.turn.tops.1, r.tops.2 ∙ d.turn.tops.2);
        low_values = λ k l. r.low_values k (omega arith) ∙ d.turn.values k (λ e. omega arith);
        low_own = λ l h. r.low_own l (omega arith) ∙ d.turn.apart l (λ e. omega arith);
        done = λ k a b. ⊎_elim (λ e. subst (DoneAt (each const_node (from (suc i) t) (const_node i W)).values (each const_node (from (suc i) t) (const_node i W)).store) (sym e)
            (carried i W c (each const_node (from (suc i) t) (const_node i W)) d.cons r.low_values r.low_own d.done)) (λ e. r.done k (omega (arith, e)) (omega arith)) (cases_eq k i);
      }
    where
      carried : (i : ℕ) (W : Work) (c : Consting W) (N : Work) → Consting (const_node i W) → ((k : ℕ) → k < suc i → N.values k ≡ (const_node i W).values k) → ((l : ℕ) → node l < suc i → N.store.own l ≡ (const_node i W).store.own l)
          → DoneAt (const_node i W).values (const_node i W).store i → DoneAt N.values N.store i
      carried i W c N cW v o (inl (b, e)) = inl (b, v i (omega arith) ∙ e)
      carried i W c N cW v o (inr f) = inr (λ C h.
          let q = held_same (const_node i W).store N.store i (λ l e. o l (omega (arith, e))) in
          let h' = subst (In C) q h in
          let (S, e, m) = f C h' in
          (S, simplified_agree N.values (const_node i W).values C (λ l j. v (node l) (omega (arith, well first (plus (held (const_node i W).store) (const_node i W).values gone) n nothing gone frozen cW.kc i C (plus_own (held (const_node i W).store) (const_node i W).values gone i C h') l j))) ∙ e, subst (In S) (sym q) m))

  -- the clauses of a valued node go
  module _ (l : ℕ) (W : Work) (c : Consting W) (b : Bool) (u : W.values (node l) ≡ Some b) where
    why_all : (j : ℕ) → j < length (W.store.own l) → Reason W.values (get_or (W.store.own l) j [])
    unfolding literal
    why_all j lj =
        let C = get_or (W.store.own l) j [] in
        let i : In C (W.store.own l) = in_at (W.store.own l) j [] lj in
        go C (last_here W c l C i) (cond (sign (last C)) b (not b)) (ap (flipped (sign (last C))) (ap (λ x. W.values (node x)) (c.placed l C i) ∙ u))
      where
        go : (C : List ℕ) → In (last C) C → (d : Bool) → literal W.values (last C) ≡ Some d → Reason W.values C
        go C i true e = inl (last C, i, e)
        go C i false e = inr e

    all_consting : Consting (storing W (clear_all l W.store))
    unfolding clear_all
    all_consting = cleared_consting W c l _ (omega (arith, length-replicate (length (W.store.own l)) true)) (λ j lj t. why_all j lj)

  record Dropped (i t : ℕ) (W N : Work) : Type 0 where
    cons : Consting N
    tops : (N.top ≡ W.top) × (N.out ≡ W.out) × (N.frozen ≡ W.frozen)
    values : N.values ≡ W.values
    down : (l : ℕ) (E : List ℕ) → In E (N.store.own l) → In E (W.store.own l)
    low_own : (l : ℕ) → node l < i → N.store.own l ≡ W.store.own l
    unvalued : (l : ℕ) → W.values (node l) ≡ None → N.store.own l ≡ W.store.own l
    emptied : (l : ℕ) (b : Bool) → i ≤ node l → node l < i + t → W.values (node l) ≡ Some b → (E : List ℕ) → In E (N.store.own l) → ⊥

  -- one node
  drop_one : (i : ℕ) (W : Work) → Consting W → Dropped i 1 W (const_drop i W)
  unfolding const_drop
  drop_one i W c = go (W.values i) refl
    where
      go : (o : Option Bool) → W.values i ≡ o → Dropped i 1 W (if_known o (storing W (clear_all (2 * i + 1) (clear_all (2 * i) W.store))) W)
      go None e = record {
        cons = c;
        tops = (refl, refl, refl);
        values = refl;
        down = λ l E h. h;
        low_own = λ l h. refl;
        unvalued = λ l u. refl;
        emptied = λ l b p q u. absurd (none_some b (sym e ∙ ap W.values {x = i} {y = node l} (omega arith) ∙ u));
      }
      go (Some b) e = record {
        cons = all_consting (2 * i + 1) (storing W M₁) (all_consting (2 * i) W c b (ap W.values {x = node (2 * i)} {y = i} (omega arith) ∙ e)) b (ap W.values {x = node (2 * i + 1)} {y = i} (omega arith) ∙ e);
        tops = (refl, refl, refl);
        values = refl;
        down = λ l E h. (less (2 * i) W.store l E (less (2 * i + 1) M₁ l E h).0).0;
        low_own = λ l h. (clear_all_is (2 * i + 1) M₁).apart l (λ q. omega arith) ∙ (clear_all_is (2 * i) W.store).apart l (λ q. omega arith);
        unvalued = λ l u. (clear_all_is (2 * i + 1) M₁).apart l (λ q. clash l u (omega (arith, q))) ∙ (clear_all_is (2 * i) W.store).apart l (λ q. clash l u (omega (arith, q)));
        emptied = λ l d p q u E h. ⊎_elim (λ z. (less (2 * i) W.store l E (less (2 * i + 1) M₁ l E h).0).1 z) (λ z. (less (2 * i + 1) M₁ l E h).1 (omega (arith, z))) (cases_eq l (2 * i));
      }
        where
          M₁ : Meaning
          M₁ = clear_all (2 * i) W.store

          clash : (l : ℕ) → W.values (node l) ≡ None → node l ≡ i → ⊥
          clash l u q = none_some b (sym u ∙ ap W.values q ∙ e)

          less : (k : ℕ) (M : Meaning) (l : ℕ) (E : List ℕ) → In E ((clear_all k M).own l) → In E (M.own l) × (l ≡ k → ⊥)
          less k M l E h = ⊎_elim (λ z. absurd (clear_all_empty k M E (subst (λ g. In E ((clear_all k M).own g)) z h))) (λ a. (subst (In E) ((clear_all_is k M).apart l a) h, a)) (cases_eq l k)

  drops : (t i : ℕ) (W : Work) → Consting W → Dropped i t W (each const_drop (from i t) W)
  drops zero i W c = record { cons = c; tops = (refl, refl, refl); values = refl; down = λ l E h. h; low_own = λ l h. refl; unvalued = λ l u. refl; emptied = λ l b p q. absurd (omega arith) }
  drops (suc t) i W c =
      let d = drop_one i W c in
      let r = drops t (suc i) (const_drop i W) d.cons in
      record {
        cons = r.cons;
        tops = (r.tops.0 ∙ d.tops.0, r.tops.1 ∙ d.tops.1, r.tops.2 ∙ d.tops.2);
        values = r.values ∙ d.values;
        down = λ l E h. d.down l E (r.down l E h);
        low_own = λ l h. r.low_own l (omega arith) ∙ d.low_own l h;
        unvalued = λ l u. r.unvalued l (ap (λ V. V (node l)) d.values ∙ u) ∙ d.unvalued l u;
        emptied = λ l b p q u E h. ⊎_elim (λ e. d.emptied l b p (omega (arith, e)) u E (r.down l E h)) (λ e. r.emptied l b (omega (arith, e)) (omega arith) (ap (λ V. V (node l)) d.values ∙ u) E h) (cases_eq (node l) i);
      }

pub suc_from : (t i : ℕ) → map suc (from i t) ≡ from (suc i) t
suc_from zero i = refl
suc_from (suc t) i = ap (λ xs. suc i ∷ xs) (suc_from t (suc i))

module _ (first : Network) (W : Work) (G : Good first W) where
  abbrev pub top : ℕ
  top = W.top

  abbrev pub gone : Assignment
  gone k = has k W.out

  abbrev pub W₀ : Work
  W₀ = storing W (index_off W.store)

  pub begin : Consting first (suc top) gone W.frozen W₀
  unfolding index_off held
  begin = record {
    kc = plus_kept first (held W.store) (suc top) W.values gone W.frozen G.kept;
    placed = G.placed;
    valued = G.kept.valued;
    old = λ σ s k b g u. (G.kept.kept σ s).1 k b u;
  }

  abbrev W₁ : Work
  W₁ = each const_node (from 1 top) W₀

  p : Passed first (suc top) gone W.frozen 1 top W₀ W₁
  p = passed first (suc top) gone W.frozen top 1 W₀ begin

  abbrev W₂ : Work
  W₂ = each const_drop (from 1 top) W₁

  d : Dropped first (suc top) gone W.frozen 1 top W₁ W₂
  d = drops first (suc top) gone W.frozen top 1 W₁ p.cons

  pub final_is : const_simplify W ≡ W₂
  unfolding const_simplify
  final_is = ap (λ ns. each const_drop ns (each const_node ns W₀)) (suc_from top 0)

  no_valued : (k : ℕ) (b : Bool) → W₂.values k ≡ Some b → (k ≡ 0 → ⊥) → k < suc top → (C : List ℕ) → In C (held W₂.store k) → ⊥
  no_valued k b v a kn C i =
      let (l, q, h) = in_held W₂.store k C i in
      d.emptied l b (omega (arith, a, q)) (omega (arith, q)) (ap W₁.values q ∙ ap (λ V. V k) (sym d.values) ∙ v) C h

  short_beside : (k : ℕ) (C : List ℕ) → In C (held W₂.store k) → (k ≡ 0 → ⊥) → (S : List ℕ) × (simplified W₂.values C ≡ Some S) × In S (held W₂.store k)
  short_beside k C i a = ⊎_elim plain (λ (b, v). absurd (no_valued k b v a kn C i)) (known (W₂.values k))
    where
      kn : k < suc top
      kn = d.cons.kc.clauses.small k C (plus_own (held W₂.store) W₂.values gone k C i)

      plain : W₂.values k ≡ None → (S : List ℕ) × (simplified W₂.values C ≡ Some S) × In S (held W₂.store k)
      plain u = go (p.done k (omega (arith, a)) (omega (arith, kn)))
        where
          u₁ : W₁.values k ≡ None
          u₁ = ap (λ V. V k) (sym d.values) ∙ u

          q : held W₂.store k ≡ held W₁.store k
          q = held_same first (suc top) gone W.frozen W₁.store W₂.store k (λ l e. d.unvalued l (ap W₁.values e ∙ u₁))

          go : DoneAt first (suc top) gone W.frozen W₁.values W₁.store k → (S : List ℕ) × (simplified W₂.values C ≡ Some S) × In S (held W₂.store k)
          go (inl (b, e)) = absurd (none_some b (sym u₁ ∙ e))
          go (inr f) = let (S, e, m) = f C (subst (In C) q i) in (S, ap (λ V. simplified V C) d.values ∙ e, subst (In S) (sym q) m)

  zero_same : held W₂.store 0 ≡ held W.store 0
  unfolding index_off
  zero_same = held_same first (suc top) gone W.frozen W.store W₂.store 0 (λ l e. d.low_own l (omega (arith, e)) ∙ p.low_own l (omega (arith, e)))

  zero_val : W₂.values 0 ≡ Some false
  zero_val = ap (λ V. V 0) d.values ∙ p.low_values 0 (omega arith) ∙ G.zero_value

  pub const_good : Good first (const_simplify W)
  const_good = subst (Good first) (sym final_is) (record {
    kept = subst (λ f. Kept first (held W₂.store) (suc W₂.top) W₂.values (λ k. has k W₂.out) f) (sym (d.tops.2 ∙ p.tops.2))
        (subst (λ o. Kept first (held W₂.store) (suc W₂.top) W₂.values (λ k. has k o) W.frozen) (sym (d.tops.1 ∙ p.tops.1))
        (subst (λ t. Kept first (held W₂.store) (suc t) W₂.values gone W.frozen) (sym (d.tops.0 ∙ p.tops.0))
        (minus_kept first (held W₂.store) (suc top) W₂.values gone W.frozen d.cons.kc d.cons.valued d.cons.old
        (subst (In (unit_of 0 false)) (sym zero_same) (G.kept.zero false G.zero_value)) zero_val short_beside (λ k b v a C i. no_valued k b v a (d.cons.valued k b v) C i))));
    placed = d.cons.placed;
    small = omega (arith, d.tops.0 ∙ p.tops.0, G.small);
    zero_value = zero_val;
  })
