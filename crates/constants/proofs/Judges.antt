-- Clauses judged one after another. Assumes nothing.
use Rattle.std.proofs.Common.{◌≡◌, ℕ, suc, ◌+◌, ◌<◌, ◌≤◌, Bool, false, eqb, List, [], ◌∷◌, ◌++◌, length, get_or, set, take, drop, sym, ap, ◌∙◌, subst, ⊎_elim, append_assoc, arith}
use Rattle.std.proofs.Math.Seq.{take-suc-set, drop-cons}
use Rattle.std.proofs.lemmas.Bool.{cases_eq, cases_lt}
use Rattle.std.proofs.lemmas.List.{append-nil, get_or_append_left, get_or_past, get_or-take, drop_all, length-append, map-append, take_all}
use Rattle.network.specs.Clauses.{last}
use Rattle.rules.specs.Store.{Meaning, clause_at, enterable, entered, enter}
use Rattle.rules.specs.Lawful.{Lawful}
use Rattle.rules.specs.Work.{Work, add}
use Rattle.rules.specs.Const.{Fate, goes, shrinks, stays, fate, judged_by, judged}
use Rattle.rules.proofs.Along.{entry_cases, allowed_along, Chains}
use Rattle.rules.proofs.Formed.{formed_parts}
use Rattle.rules.proofs.Index.{entered_own, entered_apart}
use Rattle.rules.proofs.Places.{in_at}
use Rattle.simplifier.specs.Marks.{marked}

-- a clause of a store has at most 32 literals
clause_short : (M : Meaning) → Lawful M → (l i : ℕ) → length (clause_at M l i) ≤ 32
clause_short M L l i = ⊎_elim
    (λ h. (formed_parts (clause_at M l i) (L.formed l (clause_at M l i) (in_at (M.own l) i [] h))).short)
    (λ h. subst (λ C. length C ≤ 32) (sym (get_or_past (M.own l) i [] h)) (omega arith)) (cases_lt i (length (M.own l)))

-- ## One clause

-- a clause K of a store with its fate
pub one_judged : (M : Meaning) → Lawful M → (l i : ℕ) (K : List ℕ) (W : Work) (f : Fate) → K ≡ clause_at M l i → (length K ≤ 32 → f ≡ fate W.values K)
    → judged (clause_at M l i ∷ []) W ≡ judged_by f W (λ w. ([], w))
unfolding judged
one_judged M L l i K W f e h =
    ap (λ C. judged_by (fate W.values C) W (λ w. ([], w))) (sym e)
    ∙ ap (λ h. judged_by h W (λ w. ([], w))) (sym (h (subst (λ C. length C ≤ 32) (sym e) (clause_short M L l i))))

-- a clause before others
pub then_others : (C : List ℕ) (Cs : List (List ℕ)) (W V : Work) (b : Bool) → judged (C ∷ []) W ≡ (b ∷ [], V) → judged (C ∷ Cs) W ≡ (b ∷ (judged Cs V).0, (judged Cs V).1)
unfolding judged
then_others C Cs W V b = go (fate W.values C)
  where
    parts : {w : Work} {a : Bool} → ◌≡◌ {A = List Bool × Work} (a ∷ [], w) (b ∷ [], V) → ◌≡◌ {A = List Bool × Work} (a ∷ (judged Cs w).0, (judged Cs w).1) (b ∷ (judged Cs V).0, (judged Cs V).1)
    parts {w} {a} e = let p = ap (λ (r : List Bool × Work). get_or r.0 0 false) e in let q = ap (λ (r : List Bool × Work). r.1) e in cc

    go : (f : Fate) → judged_by f W (λ w. ([], w)) ≡ (b ∷ [], V) → judged_by f W (λ w. judged Cs w) ≡ (b ∷ (judged Cs V).0, (judged Cs V).1)
    go goes e = parts e
    go (shrinks S) e = parts e
    go stays e = parts e

-- ## Own lists grow at their ends

abbrev pub Grows : Meaning → Meaning → Type 0
Grows M N = (k : ℕ) → (ys : List (List ℕ)) × (N.own k ≡ M.own k ++ ys)

pub grows_chains : Chains Grows
grows_chains = record {
  same = λ M k. ([], sym (append-nil (M.own k)));
  next = λ M N R p q k. let (ys, e) = p k in let (zs, f) = q k in (ys ++ zs, f ∙ ap (λ xs. xs ++ zs) e ∙ append_assoc (M.own k) ys zs);
}

entered_grows : (C : List ℕ) (M : Meaning) → Grows M (entered C M)
entered_grows C M k = ⊎_elim (λ e. subst (λ l. (ys : List (List ℕ)) × ((entered C M).own l ≡ M.own l ++ ys)) (sym e) (C ∷ [], entered_own M C))
    (λ a. ([], entered_apart M C k a ∙ sym (append-nil (M.own k)))) (cases_eq k (last C))

enter_grows : (C : List ℕ) (M : Meaning) → Grows M (enter C M).0
unfolding enter
enter_grows C M = allowed_along Grows grows_chains (enterable M C) M (entered C M) (λ e. entered_grows C M)

judged_grows : (Cs : List (List ℕ)) (W : Work) → Grows W.store (judged Cs W).1.store
unfolding judged
judged_grows [] W = grows_chains.same W.store
judged_grows (C ∷ Cs) W = go (fate W.values C) (judged_grows Cs)
  where
    go : (f : Fate) → ((N : Work) → Grows N.store (judged Cs N).1.store) → Grows W.store (judged_by f W (λ w. judged Cs w)).1.store
    go goes h = h W
    go stays h = h W
    go (shrinks S) h = grows_chains.next W.store (add S W).store (judged Cs (add S W)).1.store (entry_cases S W (λ N. Grows W.store N.store) (grows_chains.same W.store) (λ T e. enter_grows T W.store)) (h (add S W))

-- the first clauses of an own list stand where they stood
pub clause_stays : (M N : Meaning) → Grows M N → (l i n : ℕ) → i < n → n ≤ length (M.own l) → clause_at N l i ≡ get_or (take n (M.own l)) i []
clause_stays M N g l i n li le = let (ys, e) = g l in ap (λ xs. get_or xs i []) e ∙ get_or_append_left (M.own l) ys [] i (omega arith) ∙ sym (get_or-take n (M.own l) i [] li)

pub list_grows : (M N : Meaning) → Grows M N → (l : ℕ) → length (M.own l) ≤ length (N.own l)
list_grows M N g l = let (ys, e) = g l in omega (arith, ap length e, length-append (M.own l) ys)

pub judging_grows : (Cs : List (List ℕ)) (W V : Work) (bs : List Bool) → judged Cs W ≡ (bs, V) → Grows W.store V.store
judging_grows Cs W V bs e = subst (λ (r : List Bool × Work). Grows W.store r.1.store) e (judged_grows Cs W)

-- ## Clauses in turn

-- the first i of the clauses Cs are judged: their marks stand in the words, and the work is now at W
abbrev pub Judging : List (List ℕ) → Work → ℕ → List ℕ → Work → Type 0
Judging Cs W₀ i ws W = judged Cs W₀ ≡ (marked (take i ws) ++ (judged (drop i Cs) W).0, (judged (drop i Cs) W).1)

one_more_suc : (Cs : List (List ℕ)) (W₀ W V : Work) (i : ℕ) (ws : List ℕ) (w : ℕ) (b : Bool) → i < length Cs → i < length ws
    → Judging Cs W₀ i ws W → judged (get_or Cs i [] ∷ []) W ≡ (b ∷ [], V) → eqb w 1 ≡ b → Judging Cs W₀ (suc i) (set ws i w) V
one_more_suc Cs W₀ W V i ws w b lc lw J e m =
    J ∙ ap (λ r. (marked (take i ws) ++ r.0, r.1)) (ap (λ xs. judged xs W) (drop-cons Cs i [] lc) ∙ then_others (get_or Cs i []) (drop (suc i) Cs) W V b e)
    ∙ ap (λ bs. (bs, (judged (drop (suc i) Cs) V).1)) (shift (judged (drop (suc i) Cs) V).0)
  where
    shift : (rest : List Bool) → marked (take i ws) ++ (b ∷ rest) ≡ marked (take (suc i) (set ws i w)) ++ rest
    shift rest =
        ap (λ c. marked (take i ws) ++ (c ∷ rest)) (sym m) ∙ sym (append_assoc (marked (take i ws)) (eqb w 1 ∷ []) rest)
        ∙ ap (λ bs. bs ++ rest) (sym (ap marked (take-suc-set ws i w lw) ∙ map-append (λ w. eqb w 1) (take i ws) (w ∷ [])))

pub one_more : (Cs : List (List ℕ)) (W₀ W V : Work) (i : ℕ) (ws : List ℕ) (w : ℕ) (b : Bool) → i < length Cs → i < length ws
    → Judging Cs W₀ i ws W → judged (get_or Cs i [] ∷ []) W ≡ (b ∷ [], V) → eqb w 1 ≡ b → Judging Cs W₀ (i + 1) (set ws i w) V
one_more Cs W₀ W V i ws w b lc lw J e m = let q : suc i ≡ i + 1 = omega arith in subst (λ k. Judging Cs W₀ k (set ws i w) V) q (one_more_suc Cs W₀ W V i ws w b lc lw J e m)

pub none_left : (Cs : List (List ℕ)) (W₀ W : Work) (i : ℕ) (ws : List ℕ) → length Cs ≡ i → length ws ≡ i → Judging Cs W₀ i ws W → judged Cs W₀ ≡ (marked ws, W)
unfolding judged
none_left Cs W₀ W i ws ec ew J = J ∙ ap (λ xs. (marked xs ++ (judged (drop i Cs) W).0, (judged (drop i Cs) W).1)) (take_all i ws (omega arith)) ∙ ap (λ Ds. (marked ws ++ (judged Ds W).0, (judged Ds W).1)) (drop_all i Cs (omega arith)) ∙ ap (λ bs. (bs, W)) (append-nil (marked ws))
