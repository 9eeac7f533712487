-- What is so of a simplifier that calls led to, and how it stays so. Assumes nothing.
use Rattle.std.proofs.Common.{◌≡◌, ℕ, zero, suc, ◌/◌, ◌≤◌, leb, eqb, Bool, true, false, cond, not, ◌&&◌, ◌↔◌, List, [], ◌∷◌, ◌++◌, Ok, Err, Result, get_or, replicate, Some, None, Option, sym, refl, ap, ◌∙◌, subst, arith}
use Rattle.std.proofs.lemmas.Bool.{eq-eqb}
use Rattle.std.proofs.Math.Logic.{∥∥₁_elim, ∥∥₁_map}
use mathlib.Core.Path.{fun_ext}
use native.Mathlib.Bridge.{le_prop}
use mathlib.Core.HLevel.{⊥_prop}
use denote.Struct.Props.{≡_prop}
use base.Stored.{coded_ℕ, coded_bool, coded_list}
use Rattle.network.specs.Clauses.{has}
use Rattle.network.specs.Lists.{In}
use Rattle.network.specs.Networks.{Network, Free}
use Rattle.network.proofs.Lists.{has_in, any_from}
use Rattle.clause.specs.Types.{values_of}
use Rattle.network.specs.Values.{nothing}
use Rattle.image.specs.Headers.{top}
use Rattle.image.specs.Faults.{fault, tested, ◌then◌}
use Rattle.image.specs.declared.fault.Fault.{Fault}
use Rattle.intake.specs.Answers.{accepts, loose_nodes, loose_at, first_of}
use Rattle.intake.specs.Accepted.{taken_in, total}
use Rattle.rules.specs.Store.{Meaning, emptied, live_clauses}
use Rattle.rules.specs.Held.{held}
use Rattle.rules.specs.Kept.{Kept}
use Rattle.rules.specs.Good.{Good}
use Rattle.rules.specs.Lawful.{Lawful}
use Rattle.rules.specs.Work.{Work, own_of, each, add}
use Rattle.rules.specs.Turns.{Turn, bve_turns}
use Rattle.rules.specs.Bve.{bve_simplify}
use Rattle.rules.specs.Calls.{start, started, begun, unless_loose, clauses_in, handed_out, words_out, Call, called}
use Rattle.rules.specs.Theorem.{flags, Reached, Right, SameSettings, SmallTurn}
use Rattle.rules.proofs.Theorem.{always_right, calls_lead_on, compared_alike, starts_well, reached_sound}
use Rattle.rules.proofs.Words.{words_read}
use Rattle.rules.proofs.Calls.{Sound, after_sound}
use Rattle.rules.proofs.Start.{Started, start_parts, start_nodes}
use Rattle.rules.proofs.Unrefused.{Met, bve_met, takes_less, attempt_shrinks, uses_none}
use Rattle.simplifier.specs.declared.state.Simplifier.{Simplifier}
use Rattle.simplifier.specs.Shown.{work_of}
use Rattle.starting.specs.Refused.{refused}
use Rattle.work.specs.Shown.{Marks, Shows, Underway, Leads}
use Rattle.work.specs.Promises.{Keeps, Gone, AllGone, SmallTurns, Faithful, words_of}
use Rattle.work.proofs.Searching.{settings_known}

-- ## Which nodes are frozen

-- a reached work has the nodes of its image, and has those frozen that its start had
nodes_as : (ws : List ℕ) (fs : List Bool) (W : Work) → Reached ws fs W → (W.top ≡ top ws) × (W.frozen ≡ flags fs)
nodes_as ws fs W R =
    let p = start_parts ws fs R.store R.first R.right R.zero R.starts in
    let (a, b) = start_nodes ws p.image fs R.zero p.gates R.store p.enough in
    let q = (reached_sound ws fs W R).nodes in
    (q.0 ∙ ap (λ U. U.top) p.is ∙ a, q.1 ∙ ap (λ U. U.frozen) p.is ∙ b)

loose_same : (ws : List ℕ) (fs gs : List Bool) → flags fs ≡ flags gs → (k : ℕ) → loose_nodes ws fs k ≡ loose_nodes ws gs k
unfolding loose_nodes
loose_same ws fs gs e zero = refl
loose_same ws fs gs e (suc k) =
    ap (λ ns. ns ++ cond (not (flags fs (suc k)) && loose_at ws (suc k)) (suc k ∷ []) []) (loose_same ws fs gs e k)
    ∙ ap (λ f. loose_nodes ws gs k ++ cond (not (f (suc k)) && loose_at ws (suc k)) (suc k ∷ []) []) e

-- what start makes, by the loose nodes and the work
abbrev by_loose : List ℕ → Meaning → List ℕ → Work → Result Work Fault
by_loose ws M ns W = tested (leb (suc (total ws (top ws))) (M.room / 2)) (fault 11 (suc (total ws (top ws)))) then (λ _. unless_loose (first_of ns) W)

start_same : (ws : List ℕ) (fs gs : List Bool) (M : Meaning) → flags fs ≡ flags gs → start ws fs M ≡ start ws gs M
unfolding start started
start_same ws fs gs M e =
    ap (λ ns. by_loose ws M ns (started ws fs M)) (loose_same ws fs gs e (top ws))
    ∙ ap (λ f. by_loose ws M (loose_nodes ws gs (top ws)) (each add (clauses_in ws) (record { top = top ws; frozen = f; store = emptied M; values = nothing; out = [] }))) e

-- only which nodes are frozen counts of the flags that a start is given
reached_by : (ws : List ℕ) (fs gs : List Bool) (W : Work) → flags fs ≡ flags gs → Reached ws fs W → Reached ws gs W
reached_by ws fs gs W e R = record {
  right = R.right;
  zero = ap (λ f. f 0) (sym e) ∙ R.zero;
  store = R.store;
  first = R.first;
  starts = sym (start_same ws fs gs R.store e) ∙ R.starts;
  calls = R.calls;
  is = R.is;
}

-- ## Start

-- a start that is not refused makes the work with every clause entered
pub start_is : (ws : List ℕ) (fs : List Bool) (M : Meaning) (u : Unit {0}) → Ok u ≡ refused (start ws fs M) → start ws fs M ≡ Ok (started ws fs M)
unfolding start
start_is ws fs M u e = go (leb (suc (total ws (top ws))) (M.room / 2)) (first_of (loose_nodes ws fs (top ws))) e
  where
    go : (b : Bool) (o : Option ℕ) → Ok u ≡ refused (tested b (fault 11 (suc (total ws (top ws)))) then (λ _. unless_loose o (started ws fs M)))
        → (tested b (fault 11 (suc (total ws (top ws)))) then (λ _. unless_loose o (started ws fs M))) ≡ Ok (started ws fs M)
    go true None q = refl
    go true (Some n) q = absurd (cc)
    go false o q = absurd (cc)

unset : (n k : ℕ) → flags (replicate n false) k ≡ false
unset zero k = refl
unset (suc n) zero = refl
unset (suc n) (suc k) = unset n k

module _ {S : Type 0} (meaning : S → Meaning) (ws : List ℕ) (fs : List Bool) (M : Meaning) (s : Simplifier S)
    (is : work_of meaning s [] ≡ started ws fs M) (none : s.taken_out ≡ replicate 1024 false) where
  pub none_marked : (k : ℕ) → flags s.taken_out k ≡ false
  none_marked k = ap (λ t. flags t k) none ∙ unset 1024 k

  pub shown_started : Shows meaning s (started ws fs M)
  shown_started = subst (Shows meaning s) is (record { is = refl; marks = none_marked })

  module _ (right : accepts ws ≡ true) (zero : flags fs 0 ≡ true) (starts : start ws fs M ≡ Ok (started ws fs M)) where
    first_reached : Reached ws fs (started ws fs M)
    first_reached = record { right = right; zero = zero; store = M; first = started ws fs M; starts = starts; calls = []; is = refl }

    frozen_started : flags s.frozen ≡ flags fs
    frozen_started = ap (λ W. W.frozen) is ∙ (nodes_as ws fs (started ws fs M) first_reached).1

    pub each_frozen : (n : ℕ) → flags s.frozen n ≡ flags fs n
    each_frozen n = ap (λ f. f n) frozen_started

    pub underway_started : Underway meaning ws s
    underway_started = record { work = started ws fs M; shown = shown_started; reached = reached_by ws fs s.frozen (started ws fs M) (sym frozen_started) first_reached }

    pub half_free : live_clauses (meaning s.store) ≤ (meaning s.store).room / 2
    half_free =
        let w = starts_well ws fs M (started ws fs M) right zero starts in
        subst (λ W. live_clauses W.store ≤ W.store.room / 2) (sym is) (subst (λ r. live_clauses (started ws fs M).store ≤ r / 2) (sym w.room) w.half_free)

-- ## Nodes taken out

-- whatever the order in which nodes were taken out, what a simplifier holds is sound
module _ {S : Type 0} (meaning : S → Meaning) (ws : List ℕ) (s : Simplifier S) (U : Underway meaning ws s) where
  right : Right ws s.frozen U.work
  right = always_right ws s.frozen U.work U.reached

  own_is : (l : ℕ) → (meaning s.store).own l ≡ own_of U.work l
  own_is l = ap (λ W. W.store.own l) U.shown.is

  out_in : (v : ℕ) → flags s.taken_out v ≡ true → In v U.work.out
  out_in v e = has_in v U.work.out (sym (U.shown.marks v) ∙ e)

  gone_of : AllGone meaning s
  gone_of v e = record {
    thawed = right.gone.thawed v (out_in v e);
    unnamed = λ l C i. right.gone.live v (out_in v e) l C (subst (In C) (own_is l) i);
  }

  -- the same work, with the nodes taken out in another order, is as good
  good_of : (W : Work) → Shows meaning s W → Good (taken_in ws) W × Lawful W.store
  good_of W T =
      let outs : (λ k. has k U.work.out) ≡ (λ k. has k W.out) = fun_ext (λ k. sym (U.shown.marks k) ∙ T.marks k) in
      let stores : U.work.store ≡ W.store = ap (λ V. V.store) (sym U.shown.is) ∙ ap (λ V. V.store) T.is in
      let P : Work → Type 0 = λ V. Good (taken_in ws) V in
      let at_s : Good (taken_in ws) (work_of meaning s U.work.out) = subst P (sym U.shown.is) right.levels in
      let turned : Good (taken_in ws) (work_of meaning s W.out) = record {
        kept = subst (λ g. Kept (taken_in ws) (held (meaning s.store)) (suc s.top) (values_of s.values) g (λ n. get_or s.frozen n false)) outs at_s.kept;
        placed = at_s.placed;
        small = at_s.small;
        zero_value = at_s.zero_value;
      } in
      (subst P T.is turned, subst Lawful stores right.lawful)

  turns_of : (W : Work) → Shows meaning s W → SmallTurns W
  turns_of W T t i =
      let (G, L) = good_of W T in
      let m = bve_met (taken_in ws) W G L t i in record {
        no_more = takes_less (taken_in ws) t.at t.before m.good m.lawful;
        fewer = attempt_shrinks (taken_in ws) t.at t.before m.good m.lawful;
        positive = (uses_none (taken_in ws) t.at t.before m.good m.lawful).0;
        negative = (uses_none (taken_in ws) t.at t.before m.good m.lawful).1;
      }

  pub shrinks_of : live_clauses (bve_simplify U.work).store ≤ live_clauses U.work.store
  shrinks_of = right.shrinks

  unordered : work_of meaning s [] ≡ record { top = U.work.top; frozen = U.work.frozen; store = U.work.store; values = U.work.values; out = [] }
  unordered = ap (λ W. record { top = W.top; frozen = W.frozen; store = W.store; values = W.values; out = [] }) U.shown.is

  words_is : words_of meaning s ≡ words_out U.work
  unfolding words_out handed_out
  words_is = ap words_out unordered

  zero_handed : handed_out (work_of meaning s []) 0 ≡ (1 ∷ []) ∷ []
  unfolding handed_out
  zero_handed = ap (λ W. handed_out W 0) unordered ∙ sym (right.read.network 0 (omega arith))

  settings_of : SameSettings (flags s.frozen) (words_of meaning s) ws
  settings_of = subst (λ vs. SameSettings (flags s.frozen) vs ws) (sym words_is) right.settings

  unnamed_of : (v : ℕ) → flags s.taken_out v ≡ true → (C : List ℕ) → In C (clauses_in (words_of meaning s)) → Free v C
  unnamed_of v e C i = right.gone.handed v (out_in v e) C (subst (λ vs. In C (clauses_in vs)) words_is i)

  compared_of : (us : List ℕ) (gs : List Bool) (V : Work) → Reached us gs V → ((n : ℕ) → flags s.frozen n ≡ flags gs n)
      → SameSettings (flags s.frozen) (words_of meaning s) (words_out V) ↔ SameSettings (flags s.frozen) ws us
  compared_of us gs V R e = subst (λ vs. SameSettings (flags s.frozen) vs (words_out V) ↔ SameSettings (flags s.frozen) ws us) (sym words_is)
      (compared_alike ws us s.frozen gs U.work V U.reached R e)

-- ## Calls

has_here : (v : ℕ) (vs : List ℕ) → In v vs → has v vs ≡ true
has_here v vs i = any_from (eqb v) vs v i (eq-eqb v v refl)

module _ {S : Type 0} (meaning : S → Meaning) (ws : List ℕ) (s t : Simplifier S) (c : Call) (leads : (W : Work) → Shows meaning s W → Shows meaning t (called c W)) where
  module _ (U : Underway meaning ws s) where
    N : Work
    N = called c U.work

    next : Shows meaning t (called c U.work)
    next = leads U.work U.shown

    -- where the rules' call leads from what s holds to what t holds, t is underway as s is
    underway_on : Underway meaning ws t
    underway_on =
        let R : Reached ws s.frozen (called c U.work) = calls_lead_on.reached ws s.frozen U.work U.reached c in
        record { work = called c U.work; shown = next; reached = reached_by ws s.frozen t.frozen (called c U.work) (sym (nodes_as ws s.frozen (called c U.work) R).1 ∙ ap (λ W. W.frozen) (sym next.is)) R }

    step : Sound (taken_in ws) U.work.store.room U.work (called c U.work)
    step = let q = reached_sound ws s.frozen U.work U.reached in
        after_sound (taken_in ws) U.work.store.room U.work (c ∷ []) U.work (record { good = q.good; lawful = q.lawful; room = refl; nodes = (refl, refl) })

    keeps_of : Keeps meaning s t
    keeps_of = record {
      top = ap (λ W. W.top) next.is ∙ step.nodes.0 ∙ ap (λ W. W.top) (sym U.shown.is);
      frozen = λ n. ap (λ W. W.frozen n) next.is ∙ ap (λ f. f n) step.nodes.1 ∙ ap (λ W. W.frozen n) (sym U.shown.is);
      room = ap (λ W. W.store.room) next.is ∙ step.room ∙ ap (λ W. W.store.room) (sym U.shown.is);
      out = λ v e. next.marks v ∙ has_here v (called c U.work).out (calls_lead_on.remembered c U.work v (out_in meaning ws s U v e));
    }

  pub keeps : ∥ Underway meaning ws s ∥₁ → Keeps meaning s t
  keeps h = record {
    top = ∥∥₁_elim h (≡_prop coded_ℕ _ _) (λ U. (keeps_of U).top);
    frozen = λ n. ∥∥₁_elim h (≡_prop coded_bool _ _) (λ U. (keeps_of U).frozen n);
    room = ∥∥₁_elim h (≡_prop coded_ℕ _ _) (λ U. (keeps_of U).room);
    out = λ v e. ∥∥₁_elim h (≡_prop coded_bool _ _) (λ U. (keeps_of U).out v e);
  }

  pub underway : ∥ Underway meaning ws s ∥₁ → ∥ Underway meaning ws t ∥₁
  underway h = ∥∥₁_map h (λ U. underway_on U)

-- ## What is so of all that is underway

module _ {S : Type 0} (meaning : S → Meaning) (ws : List ℕ) (s : Simplifier S) (h : ∥ Underway meaning ws s ∥₁) where
  pub top_is : s.top ≡ top ws
  top_is = ∥∥₁_elim h (≡_prop coded_ℕ _ _) (λ U. ap (λ W. W.top) U.shown.is ∙ (nodes_as ws s.frozen U.work U.reached).0)

  pub all_gone : AllGone meaning s
  all_gone v e = record {
    thawed = ∥∥₁_elim h (≡_prop coded_bool _ _) (λ U. (gone_of meaning ws s U v e).thawed);
    unnamed = λ l C i x j q. ∥∥₁_elim h ⊥_prop (λ U. (gone_of meaning ws s U v e).unnamed l C i x j q);
  }

  pub small_turns : (W : Work) → Shows meaning s W → SmallTurns W
  small_turns W T t i = record {
    no_more = λ e. ∥∥₁_elim h le_prop (λ U. (turns_of meaning ws s U W T t i).no_more e);
    fewer = ∥∥₁_elim h le_prop (λ U. (turns_of meaning ws s U W T t i).fewer);
    positive = ∥∥₁_elim h (≡_prop coded_ℕ _ _) (λ U. (turns_of meaning ws s U W T t i).positive);
    negative = ∥∥₁_elim h (≡_prop coded_ℕ _ _) (λ U. (turns_of meaning ws s U W T t i).negative);
  }

  pub faithful : Faithful meaning s ws (words_of meaning s)
  faithful = record {
    read = words_read (work_of meaning s []) s.small (∥∥₁_elim h (≡_prop (coded_list (coded_list coded_ℕ)) _ _) (λ U. zero_handed meaning ws s U));
    settings = settings_known (flags s.frozen) (words_of meaning s) ws (∥∥₁_map h (λ U. settings_of meaning ws s U));
    unnamed = λ v e C i x j q. ∥∥₁_elim h ⊥_prop (λ U. unnamed_of meaning ws s U v e C i x j q);
    compared = λ us gs V R e. (
      λ k. settings_known (flags s.frozen) ws us (∥∥₁_map h (λ U. (compared_of meaning ws s U us gs V R e).0 k)),
      λ k. settings_known (flags s.frozen) (words_of meaning s) (words_out V) (∥∥₁_map h (λ U. (compared_of meaning ws s U us gs V R e).1 k)),
    );
  }

-- what two of them hand out compares as the images that were taken in
module _ {S T : Type 0} (meaning : S → Meaning) (other : T → Meaning) (ws us : List ℕ) (s : Simplifier S) (t : Simplifier T) where
  pub compared : ∥ Underway meaning ws s ∥₁ → ∥ Underway other us t ∥₁ → ((n : ℕ) → flags s.frozen n ≡ flags t.frozen n)
      → SameSettings (flags s.frozen) (words_of meaning s) (words_of other t) ↔ SameSettings (flags s.frozen) ws us
  compared h k e = (
    λ a. settings_known (flags s.frozen) ws us (∥∥₁_map k (λ U. ((faithful meaning ws s h).compared us t.frozen U.work U.reached e).0 (subst (SameSettings (flags s.frozen) (words_of meaning s)) (words_is other us t U) a))),
    λ a. settings_known (flags s.frozen) (words_of meaning s) (words_of other t) (∥∥₁_map k (λ U. subst (SameSettings (flags s.frozen) (words_of meaning s)) (sym (words_is other us t U)) (((faithful meaning ws s h).compared us t.frozen U.work U.reached e).1 a))),
  )
