-- Entries into a store that ends well formed and within its room are all accepted. Assumes nothing.
use Rattle.std.proofs.Common.{◌≡◌, ℕ, suc, ◌+◌, ◌<◌, ◌≤◌, Bool, true, false, ltb, List, [], ◌∷◌, length, Some, None, Option, sym, refl, ap, ◌∙◌, subst, inl, inr, ⊎_elim, arith}
use Rattle.std.proofs.lemmas.Bool.{cases_eq, and_from, lt-ltb}
use Rattle.network.specs.Clauses.{last, well_formed}
use Rattle.network.specs.Lists.{In}
use Rattle.network.specs.Values.{Values, simplified}
use Rattle.network.proofs.Lists.{in_left, in_right}
use Rattle.rules.specs.Store.{Meaning, live_clauses, kept_clauses, entered}
use Rattle.rules.specs.Work.{Work, each, add_simplified, add}
use Rattle.rules.specs.Const.{Fate, goes, shrinks, stays, fate_of, fate, marking, judged_by, judged}
use Rattle.rules.specs.Turns.{entries, judged_entries_by, judged_entries, Accepted, AllAccepted}
use Rattle.rules.proofs.Plain as plain
use Rattle.rules.proofs.Answers.{enter_yes}
use Rattle.rules.proofs.Index.{entered_own, entered_apart, entered_cases}
use Rattle.rules.proofs.Simplified.{simplified_some}
use Rattle.rules.proofs.Lives.{entered_live, entered_kept}
use Rattle.rules.proofs.Const.{NoLonger, no_longer}

-- every clause is well formed
abbrev pub AllFormed : Meaning → Type 0
AllFormed M = (l : ℕ) (C : List ℕ) → In C (M.own l) → well_formed C ≡ true

-- no clause is longer than 32 literals
abbrev pub AllShort : Meaning → Type 0
AllShort M = (l : ℕ) (C : List ℕ) → In C (M.own l) → length C ≤ 32

-- the clauses of M stay in N
abbrev pub Grows : Meaning → Meaning → Type 0
Grows M N = (l : ℕ) (C : List ℕ) → In C (M.own l) → In C (N.own l)

-- ## One entry

entered_grows : (S : List ℕ) (M : Meaning) → Grows M (entered S M)
entered_grows S M l C h = ⊎_elim
    (λ e. subst (λ g. In C ((entered S M).own g)) (sym e) (subst (In C) (sym (entered_own M S)) (in_left C (M.own (last S)) (S ∷ []) (subst (λ g. In C (M.own g)) e h))))
    (λ a. subst (In C) (sym (entered_apart M S l a)) h) (cases_eq l (last S))

entered_in : (S : List ℕ) (M : Meaning) → In S ((entered S M).own (last S))
entered_in S M = subst (In S) (sym (entered_own M S)) (in_right S (M.own (last S)) (S ∷ []) (inl refl))

entered_short : (S : List ℕ) (M : Meaning) → length S ≤ 32 → AllShort M → AllShort (entered S M)
entered_short S M s h l C i = ⊎_elim (h l C) (λ (q, e). omega (arith, ap length q, s)) (entered_cases M S l C i)

-- a clause entered without a test
module _ (C : List ℕ) (W : Work) where
  add_grows : Grows W.store (plain.add C W).store
  add_grows = plain.add_cases C W (λ N. Grows W.store N.store) (λ l E h. h) (λ S e. entered_grows S W.store)

  add_in : (S : List ℕ) → simplified W.values C ≡ Some S → In S ((plain.add C W).store.own (last S))
  unfolding plain.add
  add_in S e = subst (λ o. In S ((plain.add_simplified o W).store.own (last S))) (sym e) (entered_in S W.store)

  add_short : length C ≤ 32 → AllShort W.store → AllShort (plain.add C W).store
  add_short s h = plain.add_cases C W (λ N. AllShort N.store) h (λ S e. let n = (subst (NoLonger C) e (no_longer W.values C)).0 in entered_short S W.store (omega arith) h)

  add_kept : kept_clauses (plain.add C W).store ≤ suc (kept_clauses W.store)
  add_kept = plain.add_cases C W (λ N. kept_clauses N.store ≤ suc (kept_clauses W.store)) (omega arith) (λ S e. entered_kept S W.store)

  add_live : live_clauses (plain.add C W).store ≤ suc (live_clauses W.store)
  add_live = plain.add_cases C W (λ N. live_clauses N.store ≤ suc (live_clauses W.store)) (omega arith) (λ S e. entered_live S W.store)

  add_room : (plain.add C W).store.room ≡ W.store.room
  add_room = plain.add_cases C W (λ N. N.store.room ≡ W.store.room) refl (λ S e. unfold entered in refl)

  -- the entry is accepted, and so it makes no difference that it is tested
  abbrev Accepts : Type 0
  Accepts = (S : List ℕ) → simplified W.values C ≡ Some S → Accepted W S

  accepts_in : (N : Meaning) → Grows (plain.add C W).store N → AllFormed N → kept_clauses W.store < W.store.room → Accepts
  accepts_in N g f r S e = record {
    formed = f (last S) S (g (last S) S (add_in S e));
    room = r;
    unknown = λ l i. ((simplified_some W.values C S e).0 l i).1;
  }

  add_agrees : Accepts → add C W ≡ plain.add C W
  unfolding add plain.add
  add_agrees a = go (simplified W.values C) refl
    where
      go : (o : Option (List ℕ)) → simplified W.values C ≡ o → add_simplified o W ≡ plain.add_simplified o W
      go None e = refl
      go (Some S) e = grind (arith, enter_yes S W.store, W.store, and_from (well_formed S) (ltb (kept_clauses W.store) W.store.room), lt-ltb (kept_clauses W.store) W.store.room)

-- ## Entries one after another

adds_grow : (Cs : List (List ℕ)) (W : Work) → Grows W.store (each plain.add Cs W).store
adds_grow [] W l E h = h
adds_grow (C ∷ Cs) W l E h = adds_grow Cs (plain.add C W) l E (add_grows C W l E h)

pub adds_short : (Cs : List (List ℕ)) (W : Work) → ((C : List ℕ) → In C Cs → length C ≤ 32) → AllShort W.store → AllShort (each plain.add Cs W).store
adds_short [] W s h = h
adds_short (C ∷ Cs) W s h = adds_short Cs (plain.add C W) (λ D i. s D (inr i)) (add_short C W (s C (inl refl)) h)

pub adds_live : (Cs : List (List ℕ)) (W : Work) → live_clauses (each plain.add Cs W).store ≤ live_clauses W.store + length Cs
adds_live [] W = omega arith
adds_live (C ∷ Cs) W = omega (arith, adds_live Cs (plain.add C W), add_live C W)

pub adds_accepted : (Cs : List (List ℕ)) (W : Work) → AllFormed (each plain.add Cs W).store → kept_clauses W.store + length Cs ≤ W.store.room
    → (each add Cs W ≡ each plain.add Cs W) × AllAccepted (entries Cs W)
unfolding entries
adds_accepted [] W f r = (refl, λ e i. absurd i)
adds_accepted (C ∷ Cs) W f r =
    let a : Accepts C W = accepts_in C W (each plain.add Cs (plain.add C W)).store (adds_grow Cs (plain.add C W)) f (omega (arith, r)) in
    let p = add_agrees C W a in
    let (q, s) = adds_accepted Cs (plain.add C W) f (omega (arith, r, add_kept C W, add_room C W)) in (
      ap (each add Cs) p ∙ q,
      λ e i. ⊎_elim (λ w. subst (λ d. (S : List ℕ) → simplified d.before.values d.clause ≡ Some S → Accepted d.before S) (sym w) a)
          (λ j. s e (subst (λ U. In e (entries Cs U)) p j)) i,
    )

-- ## Clauses judged

module _ (Cs : List (List ℕ)) (W : Work) where
  -- what holds of a work after its entries holds after one more clause
  judged_cases : (P : List Bool × Work → Type 0) (C : List ℕ) → ((b : Bool) (r : List Bool × Work) → P r → P (marking b r)) → P (plain.judged Cs W) → ((S : List ℕ) → fate W.values C ≡ shrinks S → P (plain.judged Cs (plain.add S W))) → P (plain.judged (C ∷ Cs) W)
  unfolding plain.judged
  judged_cases P C m a b = go (fate W.values C) refl
    where
      go : (f : Fate) → fate W.values C ≡ f → P (plain.judged_by f W (λ w. plain.judged Cs w))
      go goes e = m true (plain.judged Cs W) a
      go stays e = m false (plain.judged Cs W) a
      go (shrinks S) e = m false (plain.judged Cs (plain.add S W)) (b S e)

pub judged_grows : (Cs : List (List ℕ)) (W : Work) → Grows W.store (plain.judged Cs W).1.store
judged_grows [] W l E h = unfold plain.judged in h
judged_grows (C ∷ Cs) W l E h = judged_cases Cs W (λ r. In E (r.1.store.own l)) C (λ b r p. p) (judged_grows Cs W l E h) (λ S e. judged_grows Cs (plain.add S W) l E (add_grows S W l E h))

-- the short form is no longer than the clause
shrinks_short : (V : Values) (C S : List ℕ) → fate V C ≡ shrinks S → length S ≤ length C
shrinks_short V C S e = go (simplified V C) (no_longer V C) e
  where
    is : (T : List ℕ) → shrinks T ≡ shrinks S → T ≡ S
    is T q = cc

    not_goes : goes ≡ shrinks S → ⊥
    not_goes q = cc

    not_stays : stays ≡ shrinks S → ⊥
    not_stays q = cc

    go : (o : Option (List ℕ)) → NoLonger C o → fate_of C o ≡ shrinks S → length S ≤ length C
    go None n q = absurd (not_goes q)
    go (Some T) (n, f) q = grind (arith, not_stays, not_goes)

pub judged_short : (Cs : List (List ℕ)) (W : Work) → ((C : List ℕ) → In C Cs → length C ≤ 32) → AllShort W.store → AllShort (plain.judged Cs W).1.store
judged_short [] W s h = unfold plain.judged in h
judged_short (C ∷ Cs) W s h = judged_cases Cs W (λ r. AllShort r.1.store) C (λ b r p. p) (judged_short Cs W (λ D i. s D (inr i)) h)
    (λ S e. judged_short Cs (plain.add S W) (λ D i. s D (inr i)) (add_short S W (omega (arith, shrinks_short W.values C S e, s C (inl refl))) h))

-- each clause makes one more at the most
pub judged_kept : (Cs : List (List ℕ)) (W : Work) → (kept_clauses (plain.judged Cs W).1.store ≤ kept_clauses W.store + length Cs) × ((plain.judged Cs W).1.store.room ≡ W.store.room)
judged_kept [] W = (unfold plain.judged in (same (kept_clauses W.store)), unfold plain.judged in refl)
  where
    same : (a : ℕ) → a ≤ a + 0
    same a = omega arith
judged_kept (C ∷ Cs) W = judged_cases Cs W (λ r. (kept_clauses r.1.store ≤ kept_clauses W.store + length (C ∷ Cs)) × (r.1.store.room ≡ W.store.room)) C (λ b r p. p)
    (let (a, b) = judged_kept Cs W in (omega (arith, a), b))
    (λ S e. let (a, b) = judged_kept Cs (plain.add S W) in
    (omega (arith, a, add_kept S W), b ∙ add_room S W))

pub judged_accepted : (Cs : List (List ℕ)) (W : Work) → AllFormed (plain.judged Cs W).1.store → kept_clauses W.store + length Cs ≤ W.store.room
    → (judged Cs W ≡ plain.judged Cs W) × AllAccepted (judged_entries Cs W)
unfolding judged plain.judged judged_entries
judged_accepted [] W f r = (refl, λ e i. absurd i)
judged_accepted (C ∷ Cs) W f r =
    go (fate W.values C) f
    (λ g. judged_accepted Cs W g (omega (arith, r)))
    (λ S g. judged_accepted Cs (plain.add S W) g (omega (arith, r, add_kept S W, add_room S W)))
  where
    go : (x : Fate) → AllFormed (plain.judged_by x W (λ w. plain.judged Cs w)).1.store
        → (AllFormed (plain.judged Cs W).1.store → (judged Cs W ≡ plain.judged Cs W) × AllAccepted (judged_entries Cs W))
        → ((S : List ℕ) → AllFormed (plain.judged Cs (plain.add S W)).1.store → (judged Cs (plain.add S W) ≡ plain.judged Cs (plain.add S W)) × AllAccepted (judged_entries Cs (plain.add S W)))
        → (judged_by x W (λ w. judged Cs w) ≡ plain.judged_by x W (λ w. plain.judged Cs w)) × AllAccepted (judged_entries_by x W (λ w. judged_entries Cs w))
    go goes g a b = let (q, s) = a g in (ap (marking true) q, s)
    go stays g a b = let (q, s) = a g in (ap (marking false) q, s)
    go (shrinks S) g a b =
        let c : Accepts S W = accepts_in S W (plain.judged Cs (plain.add S W)).1.store (judged_grows Cs (plain.add S W)) g (omega (arith, r)) in
        let p = add_agrees S W c in
        let (q, s) = b S g in (
          ap (λ U. marking false (judged Cs U)) p ∙ ap (marking false) q,
          λ e i. ⊎_elim (λ w. subst (λ d. (T : List ℕ) → simplified d.before.values d.clause ≡ Some T → Accepted d.before T) (sym w) c)
              (λ j. s e (subst (λ U. In e (judged_entries Cs U)) p j)) i,
        )
