-- The theorem: what every work that calls reach keeps of the network taken in. Assumes nothing.
use Rattle.std.proofs.Common.{◌≡◌, ℕ, zero, suc, ◌+◌, ◌*◌, ◌/◌, ◌<◌, ◌≤◌, Bool, true, false, eqb, ◌⊎◌, ◌↔◌, List, [], ◌∷◌, ◌++◌, Some, None, Option, sym, refl, ap, ◌∙◌, subst, inl, inr, ⊎_elim, arith, flat_map}
use Rattle.std.proofs.lemmas.Bool.{cases_eq, cases_Bool, both_ways, eq-eqb}
use Rattle.network.specs.Assignments.{Assignment, node, put, holds, sat}
use Rattle.network.specs.Lists.{In}
use Rattle.network.specs.Levels.{Below}
use Rattle.network.specs.Networks.{Network, level, Free, Admits}
use Rattle.network.specs.Clauses.{has}
use Rattle.network.specs.Values.{Values, unit_of, Obeys}
use Rattle.network.proofs.Literals.{put_here, put_apart}
use Rattle.network.proofs.Lists.{all_at, all_from, any_from, in_flat_map, flat_map_in}
use Rattle.network.proofs.Holding.{holds_agree}
use Rattle.network.proofs.Levels.{below_more}
use Rattle.network.proofs.Networks.{clause_at}
use Rattle.image.specs.Headers.{top}
use Rattle.intake.specs.Accepted.{taken_in}
use Rattle.rules.specs.Kept.{obey, Known, Idle, Kept}
use Rattle.rules.specs.Store.{up_to, live_clauses}
use Rattle.rules.specs.Held.{held}
use Rattle.rules.specs.Good.{Good}
use Rattle.rules.specs.Lawful.{Lawful}
use Rattle.rules.specs.Work.{Work, own_of}
use Rattle.rules.specs.Turns.{Turn, bve_turns}
use Rattle.rules.specs.Calls.{clauses_in, only_unit, handed_out, words_out, Call, called, after}
use Rattle.rules.specs.Theorem.{flags, Reached, ReadAs, SameSettings, StartsWell, AlwaysRight, ComparedAlike, CallsLeadOn}
use Rattle.rules.proofs.Kept.{obey_some, obey_none, known, unit_holds}
use Rattle.rules.proofs.Plus.{unit_true_at, unit_free}
use Rattle.rules.proofs.Verdicts.{owner_in}
use Rattle.rules.proofs.Drops.{not_nil}
use Rattle.rules.proofs.Places.{held_in}
use Rattle.rules.proofs.Index.{in_up_to}
use Rattle.rules.proofs.Subsume.{subsume_granted}
use Rattle.rules.proofs.Outs.{attempt_logs, call_remembers}
use Rattle.rules.proofs.Unrefused.{const_accepted, const_doubles, Met, bve_met, bve_accepted, bve_shrinks, attempt_shrinks, takes_less, uses_none}
use Rattle.rules.proofs.Start.{from_in, Started, start_parts, start_good, start_accepted, start_lawful, start_live, start_nodes}
use Rattle.rules.proofs.Words.{words_read}
use Rattle.rules.proofs.Calls.{Sound, after_sound}

-- ## What is handed out

-- the clauses of a node that are handed out are its own, or its value
module _ (W : Work) (n : ℕ) where
  handed_cases : (C : List ℕ) → In C (handed_out W n) → In C (held W.store n) ⊎ ((b : Bool) × (W.frozen n ≡ true) × (W.values n ≡ Some b) × (C ≡ unit_of n b))
  unfolding handed_out held
  handed_cases C h = go (W.frozen n) (W.values n) refl refl h
    where
      go : (f : Bool) (o : Option Bool) → W.frozen n ≡ f → W.values n ≡ o → In C (only_unit n f o (own_of W (2 * n) ++ own_of W (2 * n + 1))) → In C (own_of W (2 * n) ++ own_of W (2 * n + 1)) ⊎ ((b : Bool) × (W.frozen n ≡ true) × (W.values n ≡ Some b) × (C ≡ unit_of n b))
      go f None p q i = inl i
      go true (Some b) p q i = inr (b, p, q, ⊎_elim (λ e. e) absurd i)
      go false (Some b) p q i = inl i

  handed_own : (C : List ℕ) → ((W.frozen n ≡ false) ⊎ (W.values n ≡ None)) → In C (held W.store n) → In C (handed_out W n)
  unfolding handed_out held
  handed_own C h i = grind (arith, both_ways (W.frozen n))

  handed_unit : (b : Bool) → W.frozen n ≡ true → W.values n ≡ Some b → In (unit_of n b) (handed_out W n)
  unfolding handed_out
  handed_unit b f v = subst (λ x. In (unit_of n b) (only_unit n x (W.values n) (own_of W (2 * n) ++ own_of W (2 * n + 1)))) (sym f)
      (subst (λ o. In (unit_of n b) (only_unit n true o (own_of W (2 * n) ++ own_of W (2 * n + 1)))) (sym v) (inl refl))

one_unit : unit_of 0 false ≡ 1 ∷ []
unfolding unit_of
one_unit = refl

has_here : (v : ℕ) (vs : List ℕ) → In v vs → has v vs ≡ true
has_here v vs i = any_from (eqb v) vs v i (eq-eqb v v refl)

module _ (ws : List ℕ) (W : Work) (G : Good (taken_in ws) W) (tops : W.top ≡ top ws) where
  abbrev n : ℕ
  n = suc W.top

  abbrev V : Values
  V = W.values

  abbrev own : Network
  own = held W.store

  abbrev K : Kept (taken_in ws) own n V (λ k. has k W.out) W.frozen
  K = G.kept

  -- the clauses taken in hold where the levels do
  to_levels : (σ : Assignment) → sat σ (clauses_in ws) ≡ true → Below (level (taken_in ws)) n σ
  unfolding clauses_in
  to_levels σ s j l = all_from (holds σ) (taken_in ws j) (λ C i. all_at (holds σ) (flat_map (taken_in ws) (up_to (suc (top ws)))) s C (in_flat_map (taken_in ws) (up_to (suc (top ws))) j C (in_up_to (suc (top ws)) j (omega (arith, tops))) i))

  from_levels : (σ : Assignment) → Below (level (taken_in ws)) n σ → sat σ (clauses_in ws) ≡ true
  unfolding clauses_in
  from_levels σ s = all_from (holds σ) (flat_map (taken_in ws) (up_to (suc (top ws)))) (λ C i.
      let (k, a, b) = flat_map_in (taken_in ws) (up_to (suc (top ws))) C i in
      clause_at (taken_in ws) n k C σ s (omega (arith, from_in (suc (top ws)) 0 k a, tops)) b)

  -- node 0 hands out the clause of its value
  zero_out : handed_out W 0 ≡ (1 ∷ []) ∷ []
  unfolding handed_out
  zero_out = ap (λ f. only_unit 0 f (V 0) (own_of W (2 * 0) ++ own_of W (2 * 0 + 1))) K.base ∙ ap (λ o. only_unit 0 true o (own_of W (2 * 0) ++ own_of W (2 * 0 + 1))) G.zero_value ∙ ap (λ C. C ∷ []) one_unit

  good_read : ReadAs W (words_out W)
  good_read = words_read W G.small zero_out

  out_in : (C : List ℕ) → In C (clauses_in (words_out W)) → (k : ℕ) × (k ≤ W.top) × In C (handed_out W k)
  unfolding clauses_in
  out_in C i =
      let (k, a, b) = flat_map_in (taken_in (words_out W)) (up_to (suc (top (words_out W)))) C i in
      let l : k ≤ W.top = omega (arith, from_in (suc (top (words_out W))) 0 k a, good_read.tops) in
      (k, l, subst (In C) (good_read.network k l) b)

  in_out : (C : List ℕ) (k : ℕ) → k ≤ W.top → In C (handed_out W k) → In C (clauses_in (words_out W))
  unfolding clauses_in
  in_out C k l i = in_flat_map (taken_in (words_out W)) (up_to (suc (top (words_out W)))) k C (in_up_to (suc (top (words_out W))) k (omega (arith, good_read.tops))) (subst (In C) (sym (good_read.network k l)) i)

  -- what holds of the work holds of what is handed out
  handed_holds : (σ : Assignment) → Below (level own) n σ → Obeys σ V → sat σ (clauses_in (words_out W)) ≡ true
  handed_holds σ s a = all_from (holds σ) (clauses_in (words_out W)) (λ C i.
      let (k, l, h) = out_in C i in
      ⊎_elim (clause_at own n k C σ s (omega arith)) (λ (b, f, v, e). ap (holds σ) e ∙ unit_true_at σ k b (a k b v)) (handed_cases W k C h))

  -- and what is handed out holds of the work, level by level
  module _ (σ : Assignment) (s : sat σ (clauses_in (words_out W)) ≡ true) where
    handed_at : (k : ℕ) → k ≤ W.top → (C : List ℕ) → In C (handed_out W k) → holds σ C ≡ true
    handed_at k l C i = all_at (holds σ) (clauses_in (words_out W)) s C (in_out C k l i)

    -- a frozen node has its known value
    frozen_value : (k : ℕ) (b : Bool) → W.frozen k ≡ true → V k ≡ Some b → σ k ≡ b
    frozen_value k b f v = unit_holds σ k b (handed_at k (omega (arith, K.valued k b v)) (unit_of k b) (handed_unit W k b f v))

    -- a node with a value: its clauses hold where the levels below do and the value is right
    valued_level : (k : ℕ) (b : Bool) → V k ≡ Some b → σ k ≡ b → Below (level own) k σ → level own k σ
    valued_level k b v e t = ⊎_elim by_clause by_idle (K.settled k b v)
      where
        by_idle : Idle own k b → level own k σ
        by_idle i = all_from (holds σ) (own k) (λ C j. let (y, h, q) = owner_in C (not_nil (taken_in ws) own n V (λ k. has k W.out) W.frozen K k C j) in
            absurd ((i k C y j h (q ∙ K.clauses.owned k C j)).0 refl))

        by_clause : Known own k b → level own k σ
        by_clause i =
            let (c, h) = K.total k σ t in
            let f : c ≡ b = sym (put_here σ k c) ∙ unit_holds (put σ k c) k b (all_at (holds (put σ k c)) (own k) h (unit_of k b) i) in
            all_from (holds σ) (own k) (λ C j. holds_agree σ (put σ k c) C (λ l m. ⊎_elim (λ q. subst (λ g. σ g ≡ put σ k c g) (sym q) (e ∙ sym f ∙ sym (put_here σ k c))) (λ a. sym (put_apart σ k c (node l) a)) (cases_eq (node l) k))
            ∙ all_at (holds (put σ k c)) (own k) h C j)

    back_level : (k : ℕ) → k < n → Below (level own) k σ → level own k σ
    back_level k l t = ⊎_elim (λ u. plain (inr u)) (λ (b, v). ⊎_elim (λ f. valued_level k b v (frozen_value k b f v) t) (λ f. plain (inl f)) (cases_Bool (W.frozen k))) (known (V k))
      where
        plain : (W.frozen k ≡ false) ⊎ (V k ≡ None) → level own k σ
        plain h = all_from (holds σ) (own k) (λ C i. handed_at k (omega arith) C (handed_own W k C h i))

    back_levels : (k : ℕ) → k ≤ n → Below (level own) k σ
    back_levels zero l = λ j m. absurd (omega arith)
    back_levels (suc k) l = below_more (level own) k σ (back_levels k (omega arith)) (back_level k l (back_levels k (omega arith)))

  good_admits : (setting : Assignment) → Admits (clauses_in (words_out W)) W.frozen setting ↔ Admits (clauses_in ws) W.frozen setting
  good_admits setting = (
    (λ (σ, s, a).
        let (τ, m, e) = K.back (obey V σ) (K.obeyed n σ (back_levels σ s n (omega arith))) (λ k b v. obey_some V σ k b v) in
        (τ, from_levels τ m, λ k f. e k (K.there k f) ∙ ⊎_elim (obey_none V σ k) (λ (b, v). obey_some V σ k b v ∙ sym (frozen_value σ s k b f v)) (known (V k)) ∙ a k f)),
    λ (σ, s, a). let (m, g) = K.kept σ (to_levels σ s) in (σ, handed_holds σ m g, a),
  )

  good_live : (v : ℕ) → In v W.out → (l : ℕ) (C : List ℕ) → In C (own_of W l) → Free v C
  good_live v i l C j = K.absent v (has_here v W.out i) (node l) C (held_in W.store l C j)

  good_thawed : (v : ℕ) → In v W.out → W.frozen v ≡ false
  good_thawed v i = ⊎_elim (λ f. absurd (both_ways (has v W.out) (K.there v f) (has_here v W.out i))) (λ f. f) (cases_Bool (W.frozen v))

  good_handed : (v : ℕ) → In v W.out → (C : List ℕ) → In C (clauses_in (words_out W)) → Free v C
  good_handed v i C j =
      let (k, l, h) = out_in C j in
      ⊎_elim (K.absent v (has_here v W.out i) k C) (λ (b, f, w, e). subst (Free v) (sym e) (unit_free k v b (λ q. both_ways (W.frozen v) (good_thawed v i) (ap W.frozen (sym q) ∙ f)))) (handed_cases W k C h)

-- ## Every work that calls reach

module _ (ws : List ℕ) (fs : List Bool) (W : Work) (R : Reached ws fs W) where
  parts : Started ws fs R.store R.first
  parts = start_parts ws fs R.store R.first R.right R.zero R.starts

  pub reached_sound : Sound (taken_in ws) R.store.room R.first W
  reached_sound = subst (Sound (taken_in ws) R.store.room R.first) (sym R.is) (after_sound (taken_in ws) R.store.room R.first R.calls R.first begun_sound)
    where
      p : Started ws fs R.store R.first
      p = parts

      lawful : Lawful R.first.store × (R.first.store.room ≡ R.store.room)
      lawful = subst (λ U. Lawful U.store × (U.store.room ≡ R.store.room)) (sym p.is) (start_lawful ws p.image fs R.zero p.gates R.store p.enough)

      begun_sound : Sound (taken_in ws) R.store.room R.first R.first
      begun_sound = record {
        good = subst (Good (taken_in ws)) (sym p.is) (start_good ws p.image fs R.zero p.gates R.store p.enough);
        lawful = lawful.0;
        room = lawful.1;
        nodes = (refl, refl);
      }

  first_nodes : (R.first.top ≡ top ws) × (R.first.frozen ≡ flags fs)
  first_nodes = subst (λ U. (U.top ≡ top ws) × (U.frozen ≡ flags fs)) (sym parts.is) (start_nodes ws parts.image fs R.zero parts.gates R.store parts.enough)

  tops : W.top ≡ top ws
  tops = reached_sound.nodes.0 ∙ first_nodes.0

  frozens : W.frozen ≡ flags fs
  frozens = reached_sound.nodes.1 ∙ first_nodes.1

  good : Good (taken_in ws) W
  good = reached_sound.good

  lawful : Lawful W.store
  lawful = reached_sound.lawful

  settings : SameSettings (flags fs) (words_out W) ws
  settings setting = subst (λ fr. Admits (clauses_in (words_out W)) fr setting ↔ Admits (clauses_in ws) fr setting) frozens (good_admits ws W good tops setting)

  met : (t : Turn) → In t (bve_turns W) → Met (taken_in ws) W.store.room t.before
  met t i = bve_met (taken_in ws) W good lawful t i

iff_trans : {A B C : Type 0} → A ↔ B → B ↔ C → A ↔ C
iff_trans (f, g) (h, k) = ((λ a. h (f a)), λ c. g (k c))

iff_sym : {A B : Type 0} → A ↔ B → B ↔ A
iff_sym (f, g) = (g, f)

pub starts_well : StartsWell
starts_well ws fs M W a z s =
    let p = start_parts ws fs M W a z s in
    record {
      unrefused = start_accepted ws p.image fs z p.gates M p.enough;
      half_free = subst (λ U. live_clauses U.store ≤ M.room / 2) (sym p.is) (start_live ws p.image fs z p.gates M p.enough);
      room = subst (λ U. U.store.room ≡ M.room) (sym p.is) (start_lawful ws p.image fs z p.gates M p.enough).1;
    }

pub always_right : AlwaysRight
always_right ws fs W R =
    let G = good ws fs W R in
    let L = lawful ws fs W R in
    let T = tops ws fs W R in
    record {
      read = good_read ws W G T;
      settings = settings ws fs W R;
      gone = record {
        thawed = λ v i. ap (λ fr. fr v) (sym (frozens ws fs W R)) ∙ good_thawed ws W G T v i;
        live = good_live ws W G T;
        handed = good_handed ws W G T;
      };
      turns = λ t i. let m = met ws fs W R t i in record {
        no_more = takes_less (taken_in ws) t.at t.before m.good m.lawful;
        fewer = attempt_shrinks (taken_in ws) t.at t.before m.good m.lawful;
        positive = (uses_none (taken_in ws) t.at t.before m.good m.lawful).0;
        negative = (uses_none (taken_in ws) t.at t.before m.good m.lawful).1;
      };
      shrinks = bve_shrinks (taken_in ws) W G L;
      doubles = const_doubles (taken_in ws) W G L;
      unrefused = record {
        in_const = const_accepted (taken_in ws) W G L;
        in_bve = bve_accepted (taken_in ws) W G L;
        in_subsume = subsume_granted (taken_in ws) (suc W.top) W.values (λ k. has k W.out) W.frozen W (G.kept, G.placed);
      };
      lawful = L;
      levels = G;
    }

pub compared_alike : ComparedAlike
compared_alike ws vs fs gs W V R S e = compare (settings ws fs W R) (λ setting. other (settings vs gs V S) setting)
  where
    other : SameSettings (flags gs) (words_out V) vs → SameSettings (flags fs) (words_out V) vs
    other s setting = let (f, g) = s setting in
        ((λ (σ, a, b). let (τ, c, d) = f (σ, a, λ k h. b k (e k ∙ h)) in (τ, c, λ k h. d k (sym (e k) ∙ h))), λ (σ, a, b). let (τ, c, d) = g (σ, a, λ k h. b k (e k ∙ h)) in (τ, c, λ k h. d k (sym (e k) ∙ h)))

    compare : SameSettings (flags fs) (words_out W) ws → SameSettings (flags fs) (words_out V) vs → SameSettings (flags fs) (words_out W) (words_out V) ↔ SameSettings (flags fs) ws vs
    compare a b = ((λ h setting. iff_trans (iff_sym (a setting)) (iff_trans (h setting) (b setting))), λ h setting. iff_trans (a setting) (iff_trans (h setting) (iff_sym (b setting))))

after_more : (cs ds : List Call) (W : Work) → after (cs ++ ds) W ≡ after ds (after cs W)
after_more [] ds W = refl
after_more (c ∷ cs) ds W = after_more cs ds (called c W)

pub calls_lead_on : CallsLeadOn
calls_lead_on = record {
  reached = λ ws fs W R c. record {
    right = R.right;
    zero = R.zero;
    store = R.store;
    first = R.first;
    starts = R.starts;
    calls = R.calls ++ (c ∷ []);
    is = ap (called c) R.is ∙ sym (after_more R.calls (c ∷ []) R.first);
  };
  logged = attempt_logs;
  remembered = call_remembers;
  room = λ ws fs W R. (reached_sound ws fs W R).room;
}
