-- What take-in tells, in the words of the subject. Assumes nothing.
use Rattle.std.proofs.Common.{◌≡◌, ℕ, zero, suc, ◌+◌, ◌^◌, ◌<◌, ◌≤◌, Bool, true, false, cond, eqb, ltb, leb, ◌⊎◌, ◌↔◌, List, [], ◌∷◌, ◌++◌, length, take, drop, Ok, Err, Result, sym, refl, ap, ◌∙◌, subst, inl, inr, ⊎_elim, arith, length-drop}
use Rattle.std.specs.List.{list_all}
use Rattle.std.proofs.lemmas.List.{take-append-drop, length-take-le}
use Rattle.std.proofs.lemmas.Bool.{cond-true, cond-false, eq-eqb, eqb-true, eqb-false, cases_Bool, cases_eq, and_parts, and_from, lt-ltb, ltb-true, le-leb, leb-true, leb-false, both_ways}
use Rattle.network.specs.Clauses.{owner, in_order_from, in_order, owned, Rising}
use Rattle.network.specs.Assignments.{node}
use Rattle.network.specs.Lists.{In}
use Rattle.network.proofs.Lists.{all_at, all_from}
use Rattle.image.specs.Faults.{fault, ◌then◌, tested}
use Rattle.image.specs.Runs.{length_fits, whole_by, whole, clauses_by, clauses, written}
use Rattle.image.proofs.Walks.{whole_put, clauses_put, whole_end, clauses_end}
use Rattle.network.specs.Rows.{lower, no_value, some_row, Narrow, Valued, Tight, Clash, Loose}
use Rattle.intake.specs.Answers.{searched, rows_answer, node_answer, nodes_answer, take_in_answer}
use Rattle.image.specs.Headers.{top, stated_count, offset, climbs, headed, run}
use Rattle.intake.specs.Accepted.{Header, Uncut, Once, Sorted, OwnedBy, Formed, IllFormed, total, Image, Refused, Answers, ReadBack}
use Rattle.image.proofs.Heads.{head_from, headed_from, climbs_at, climbs_none, climbs_more}
use Rattle.intake.proofs.Steps.{then_at, then_stop, nodes_none, nodes_more}
use Rattle.network.proofs.Rows.{narrow_from, narrow_back, valued_from, tight_from, clash_from, loose_from}
use Rattle.image.specs.declared.fault.Fault.{Fault}

-- the order of a clause
order_parts : (p : ℕ) (C : List ℕ) → in_order_from p C ≡ true → ((y : ℕ) → In y C → p < node y) × Rising C × Once C
order_parts p [] h = ((λ y i. absurd i), tt, tt)
order_parts p (x ∷ C) h =
    let (a, b) = and_parts (ltb p (node x)) _ h in
    let l : p < node x = ltb-true p (node x) a in
    let (f, r, o) = order_parts (node x) C b in
    ((λ y i. above y i l f), ((λ y i. let q = f y i in omega (arith, q)), r), ((λ y i e. let q = f y i in omega (arith, q, e)), o))
  where
    above : (y : ℕ) → In y (x ∷ C) → p < node x → ((y : ℕ) → In y C → node x < node y) → p < node y
    above y (inl e) l f = omega (arith, l, ap node e)
    above y (inr i) l f = omega (arith, l, f y i)

in_order_back : (x : ℕ) (C : List ℕ) → Rising (x ∷ C) → Once (x ∷ C) → in_order_from (node x) C ≡ true
in_order_back x [] r o = refl
in_order_back x (y ∷ C) r o =
    let a = r.0 y (inl refl) in
    let b = o.0 y (inl refl) in
    and_from _ _ (lt-ltb (node x) (node y) (omega (arith, a, b))) (in_order_back y C r.1 o.1)

pub order_from : (C : List ℕ) → in_order C ≡ true → Rising C × Once C
order_from [] h = (tt, tt)
order_from (x ∷ C) h =
    let (f, r, o) = order_parts (node x) C h in
    (((λ y i. let q = f y i in omega (arith, q)), r), ((λ y i e. let q = f y i in omega (arith, q, e)), o))

pub order_back : (C : List ℕ) → Rising C × Once C → in_order C ≡ true
order_back [] h = refl
order_back (x ∷ C) (r, o) = in_order_back x C r o

pub sorted_from : (Cs : List (List ℕ)) → list_all in_order Cs ≡ true → Sorted Cs
sorted_from Cs h C i = order_from C (all_at in_order Cs h C i)

pub sorted_back : (Cs : List (List ℕ)) → Sorted Cs → list_all in_order Cs ≡ true
sorted_back Cs h = all_from in_order Cs (λ C i. order_back C (h C i))

pub owned_from : (n : ℕ) (Cs : List (List ℕ)) → list_all (owned n) Cs ≡ true → OwnedBy n Cs
owned_from n Cs h C i = eqb-true (owner C) n (all_at (owned n) Cs h C i)

pub owned_back : (n : ℕ) (Cs : List (List ℕ)) → OwnedBy n Cs → list_all (owned n) Cs ≡ true
owned_back n Cs h = all_from (owned n) Cs (λ C i. eq-eqb (owner C) n (h C i))

-- a run
uncut_by : (f : ℕ) (xs : List ℕ) → length xs ≤ f → whole_by f xs ≡ true → (xs ≡ written (clauses_by f xs)) × ((C : List ℕ) → In C (clauses_by f xs) → 0 < length C)
unfolding whole_by clauses_by written
uncut_by f [] l h = (refl, λ C i. absurd i)
uncut_by zero (n ∷ ws) l h = absurd (omega arith)
uncut_by (suc f) (n ∷ ws) l h =
    let (a, b) = and_parts (length_fits n ws) _ h in
    let (z, m) = and_parts (ltb 0 n) (leb n (length ws)) a in
    let p : 0 < n = ltb-true 0 n z in
    let q : n ≤ length ws = leb-true n (length ws) m in
    let t : length (take n ws) ≡ n = length-take-le n ws q in
    let (e, g) = uncut_by f (drop n ws) (omega (arith, length-drop n ws)) b in
    (sym (ap (λ (k : ℕ). k ∷ (take n ws ++ written (clauses_by f (drop n ws)))) t ∙ ap (λ (ys : List ℕ). n ∷ (take n ws ++ ys)) (sym e) ∙ ap (λ (ys : List ℕ). n ∷ ys) (take-append-drop n ws)), λ C i. each C i (omega (arith, t, p)) g)
  where
    each : (C : List ℕ) → In C (take n ws ∷ clauses_by f (drop n ws)) → 0 < length (take n ws) → ((C : List ℕ) → In C (clauses_by f (drop n ws)) → 0 < length C) → 0 < length C
    each C (inl e) p g = subst (λ (D : List ℕ). 0 < length D) (sym e) p
    each C (inr i) p g = g C i

pub uncut_from : (xs : List ℕ) → whole xs ≡ true → Uncut xs
unfolding whole
uncut_from xs h = let (e, g) = uncut_by (length xs) xs (omega arith) h in (clauses_by (length xs) xs, e, g)

pub written_whole : (Cs : List (List ℕ)) → ((C : List ℕ) → In C Cs → 0 < length C) → whole (written Cs) ≡ true
unfolding written
written_whole [] h = whole_end
written_whole (C ∷ Cs) h = whole_put C (written Cs) (h C (inl refl)) ∙ written_whole Cs (λ D i. h D (inr i))

pub uncut_back : (xs : List ℕ) → Uncut xs → whole xs ≡ true
uncut_back xs (Cs, e, h) = ap whole e ∙ written_whole Cs h

-- what the search tells
abbrev pub RowsAnswers : ℕ → List ℕ → Result Bool Fault → Type 0
RowsAnswers n xs (Ok b) = Narrow n (clauses xs) × Valued n (clauses xs) × (b ≡ true → Loose n (clauses xs)) × (b ≡ false → Tight n (clauses xs))
RowsAnswers n xs (Err f) = ((f ≡ fault 5 n) × (Narrow n (clauses xs) → ⊥)) ⊎ ((f ≡ fault 6 n) × Narrow n (clauses xs) × Clash n (clauses xs))

pub rows_mean : (n : ℕ) (xs : List ℕ) → RowsAnswers n xs (rows_answer n xs)
unfolding rows_answer searched
rows_mean n xs =
    ⊎_elim
    (λ (w : leb (length (lower n (clauses xs))) 8 ≡ true).
    let narrow = narrow_from n (clauses xs) (leb-true _ _ w) in
    ⊎_elim
    (λ (h : p ≡ true). subst (RowsAnswers n xs) (sym (first w ∙ cond-true _ _ _ h)) (inr (refl, narrow, clash_from n (clauses xs) h)))
    (λ (h : p ≡ false). subst (RowsAnswers n xs) (sym (first w ∙ cond-false _ _ _ h)) (narrow, valued_from n (clauses xs) h, loose_from n (clauses xs), tight_from n (clauses xs)))
    (cases_Bool p))
    (λ (w : leb (length (lower n (clauses xs))) 8 ≡ false).
    subst (RowsAnswers n xs) (sym (then_stop (tested (leb (length (lower n (clauses xs))) 8) (fault 5 n)) _ (fault 5 n) (cond-false _ _ _ w))) (inl (refl, λ h. let l = leb-false _ _ w in omega (arith, l, narrow_back n (clauses xs) h))))
    (cases_Bool (leb (length (lower n (clauses xs))) 8))
  where
    p : Bool
    p = some_row (no_value (lower n (clauses xs)) n (clauses xs)) (2 ^ length (lower n (clauses xs)))

    first : leb (length (lower n (clauses xs))) 8 ≡ true → rows_answer n xs ≡ searched (lower n (clauses xs)) n (clauses xs)
    first w = then_at (tested (leb (length (lower n (clauses xs))) 8) (fault 5 n)) _ tt (cond-true _ _ _ w)

-- a node
abbrev pub NodeAnswers : ℕ → List ℕ → Result ℕ Fault → Type 0
NodeAnswers n xs (Ok d) = Formed n xs × (d ≡ length (clauses xs))
NodeAnswers n xs (Err f) = IllFormed n xs f

last_step : (n : ℕ) (xs : List ℕ) (r : Result Bool Fault) → Uncut xs → Sorted (clauses xs) → OwnedBy n (clauses xs) → RowsAnswers n xs r → NodeAnswers n xs (r then (λ _. Ok (length (clauses xs))))
last_step n xs (Ok b) u s o (a, v, l, t) = (record { uncut = u; sorted = s; owned = o; narrow = a; valued = v }, refl)
last_step n xs (Err f) u s o (inl (e, h)) = inr (inr (inr (inl (e, u, s, o, h))))
last_step n xs (Err f) u s o (inr (e, a, h)) = inr (inr (inr (inr (e, u, s, o, a, h))))

pub node_means : (n : ℕ) (xs : List ℕ) → NodeAnswers n xs (node_answer n xs)
unfolding node_answer
node_means n xs =
    ⊎_elim
    (λ (w : whole xs ≡ true).
    ⊎_elim
    (λ (o : list_all in_order (clauses xs) ≡ true).
    ⊎_elim
    (λ (i : list_all (owned n) (clauses xs) ≡ true).
    subst (NodeAnswers n xs) (sym (then_at (counted) rest (length (clauses xs)) (cond-true _ _ _ w) ∙ then_at (tested (list_all in_order (clauses xs)) (fault 3 n)) _ tt (cond-true _ _ _ o) ∙ then_at (tested (list_all (owned n) (clauses xs)) (fault 4 n)) _ tt (cond-true _ _ _ i)))
    (last_step n xs (rows_answer n xs) (uncut_from xs w) (sorted_from (clauses xs) o) (owned_from n (clauses xs) i) (rows_mean n xs)))
    (λ (i : list_all (owned n) (clauses xs) ≡ false).
    subst (NodeAnswers n xs) (sym (then_at (counted) rest (length (clauses xs)) (cond-true _ _ _ w) ∙ then_at (tested (list_all in_order (clauses xs)) (fault 3 n)) _ tt (cond-true _ _ _ o) ∙ then_stop (tested (list_all (owned n) (clauses xs)) (fault 4 n)) _ (fault 4 n) (cond-false _ _ _ i)))
    (inr (inr (inl (refl, uncut_from xs w, sorted_from (clauses xs) o, λ h. both_ways _ i (owned_back n (clauses xs) h))))))
    (cases_Bool (list_all (owned n) (clauses xs))))
    (λ (o : list_all in_order (clauses xs) ≡ false).
    subst (NodeAnswers n xs) (sym (then_at (counted) rest (length (clauses xs)) (cond-true _ _ _ w) ∙ then_stop (tested (list_all in_order (clauses xs)) (fault 3 n)) _ (fault 3 n) (cond-false _ _ _ o)))
    (inr (inl (refl, uncut_from xs w, λ h. both_ways _ o (sorted_back (clauses xs) h)))))
    (cases_Bool (list_all in_order (clauses xs))))
    (λ (w : whole xs ≡ false).
    subst (NodeAnswers n xs) (sym (then_stop (counted) rest (fault 2 n) (cond-false _ _ _ w))) (inl (refl, λ h. both_ways _ w (uncut_back xs h))))
    (cases_Bool (whole xs))
  where
    counted : Result ℕ Fault
    counted = cond (whole xs) (Ok (length (clauses xs))) (Err (fault 2 n))

    rest : ℕ → Result ℕ Fault
    rest c = tested (list_all in_order (clauses xs)) (fault 3 n) then (λ _. tested (list_all (owned n) (clauses xs)) (fault 4 n) then (λ _. rows_answer n xs then (λ _. Ok c)))

-- all nodes
abbrev pub NodesAnswers : List ℕ → ℕ → Result ℕ Fault → Type 0
NodesAnswers ws k (Ok c) = ((j : ℕ) → j < k → Formed (suc j) (run ws (suc j))) × (c ≡ total ws k)
NodesAnswers ws k (Err f) = (j : ℕ) × (j < k) × ((i : ℕ) → i < j → Formed (suc i) (run ws (suc i))) × IllFormed (suc j) (run ws (suc j)) f

nodes_step : (ws : List ℕ) (k : ℕ) (r s : Result ℕ Fault) → NodesAnswers ws k r → NodeAnswers (suc k) (run ws (suc k)) s → NodesAnswers ws (suc k) (r then (λ c. s then (λ d. Ok (c + d))))
nodes_step ws k (Err f) s (j, l, g, h) a = (j, omega arith, g, h)
nodes_step ws k (Ok c) (Err f) (g, e) a = (k, omega arith, g, a)
nodes_step ws k (Ok c) (Ok d) (g, e) (b, i) = ((λ j l. ⊎_elim (λ (q : j ≡ k). subst (λ (x : ℕ). Formed (suc x) (run ws (suc x))) (sym q) b) (λ (q : j ≡ k → ⊥). g j (omega arith)) (cases_eq j k)), omega (arith, e, i))

pub nodes_means : (ws : List ℕ) (k : ℕ) → NodesAnswers ws k (nodes_answer ws k)
nodes_means ws zero = subst (NodesAnswers ws 0) (sym (nodes_none ws)) ((λ j l. absurd (omega arith)), refl)
nodes_means ws (suc k) =
    subst (NodesAnswers ws (suc k)) (sym (nodes_more ws k)) (nodes_step ws k (nodes_answer ws k) (node_answer (suc k) (run ws (suc k))) (nodes_means ws k) (node_means (suc k) (run ws (suc k))))

-- the head
climbs_from : (ws : List ℕ) (m : ℕ) → ((k : ℕ) → k < m → offset ws k ≤ offset ws (suc k)) → climbs ws m ≡ true
climbs_from ws zero h = climbs_none ws
climbs_from ws (suc m) h = climbs_more ws m ∙ and_from _ _ (le-leb _ _ (h m (omega arith))) (climbs_from ws m (λ k l. h k (omega arith)))

pub header_from : (ws : List ℕ) → headed ws ≡ true → Header ws
header_from ws t =
    let h = head_from ws t in
    record { three = h.three; few = h.few; long = h.long; first = h.first; climb = λ k l. climbs_at ws (top ws) k h.climb l; last = h.last }

pub header_back : (ws : List ℕ) → Header ws → headed ws ≡ true
header_back ws h =
    headed_from ws (record { three = h.three; few = h.few; long = h.long; first = h.first; climb = climbs_from ws (top ws) h.climb; last = h.last })

-- the image
image_step : (ws : List ℕ) (r : Result ℕ Fault) → Header ws → NodesAnswers ws (top ws) r → Answers ws (r then (λ c. tested (eqb (stated_count ws) c) (fault 7 0)))
image_step ws (Err f) h (j, l, g, i) = inr (inl (h, (j, l, g, i)))
image_step ws (Ok c) h (g, e) =
    ⊎_elim
    (λ (t : eqb (stated_count ws) c ≡ true). subst (Answers ws) (sym (cond-true _ _ _ t)) (record { header = h; nodes = g; count = eqb-true _ _ t ∙ e }))
    (λ (t : eqb (stated_count ws) c ≡ false). subst (Answers ws) (sym (cond-false _ _ _ t)) (inr (inr (h, g, refl, λ i. eqb-false _ _ t (i ∙ sym e)))))
    (cases_Bool (eqb (stated_count ws) c))

pub answer_means : (ws : List ℕ) → Answers ws (take_in_answer ws)
unfolding take_in_answer
answer_means ws =
    ⊎_elim
    (λ (t : headed ws ≡ true). subst (Answers ws) (sym (then_at head rest (top ws) (cond-true _ _ _ t))) (image_step ws (nodes_answer ws (top ws)) (header_from ws t) (nodes_means ws (top ws))))
    (λ (t : headed ws ≡ false). subst (Answers ws) (sym (then_stop head rest (fault 1 0) (cond-false _ _ _ t))) (inl (refl, λ h. both_ways _ t (header_back ws h))))
    (cases_Bool (headed ws))
  where
    head : Result ℕ Fault
    head = cond (headed ws) (Ok (top ws)) (Err (fault 1 0))

    rest : ℕ → Result (Unit {0}) Fault
    rest m = nodes_answer ws m then (λ c. tested (eqb (stated_count ws) c) (fault 7 0))

-- and the other way: a right image is opened
pub formed_not : (n : ℕ) (xs : List ℕ) (f : Fault) → Formed n xs → IllFormed n xs f → ⊥
formed_not n xs f g (inl (e, h)) = h g.uncut
formed_not n xs f g (inr (inl (e, u, h))) = h g.sorted
formed_not n xs f g (inr (inr (inl (e, u, s, h)))) = h g.owned
formed_not n xs f g (inr (inr (inr (inl (e, u, s, o, h))))) = h g.narrow
formed_not n xs f g (inr (inr (inr (inr (e, u, s, o, a, (σ, z, h)))))) = let (b, t) = g.valued σ z in both_ways _ (h b) t

pub image_not : (ws : List ℕ) (f : Fault) → Image ws → Refused ws f → ⊥
image_not ws f i (inl (e, h)) = h i.header
image_not ws f i (inr (inl (h, (k, l, g, b)))) = formed_not (suc k) (run ws (suc k)) f (i.nodes k l) b
image_not ws f i (inr (inr (h, g, e, n))) = n i.count

accepted_from : (ws : List ℕ) (r : Result (Unit {0}) Fault) → Image ws → Answers ws r → r ≡ Ok tt
accepted_from ws (Ok u) i a = refl
accepted_from ws (Err f) i a = absurd (image_not ws f i a)

pub accepted_iff : (ws : List ℕ) → (take_in_answer ws ≡ Ok tt) ↔ Image ws
accepted_iff ws = ((λ e. subst (Answers ws) e (answer_means ws)), λ i. accepted_from ws (take_in_answer ws) i (answer_means ws))

pub read_back : ReadBack
unfolding written
read_back [] = clauses_end
read_back (C ∷ Cs) = clauses_put C (written Cs) ∙ ap (λ (Ds : List (List ℕ)). C ∷ Ds) (read_back Cs)
