-- What take-in answers, step by step. Assumes nothing.
use Rattle.std.proofs.Common.{◌≡◌, ℕ, zero, suc, ◌+◌, ◌-◌, ◌<◌, ◌≤◌, Bool, true, false, cond, eqb, List, [], ◌∷◌, length, drop, Ok, Err, Result, sym, refl, ap, ◌∙◌, subst, ⊎_elim, arith, length-drop}
use Rattle.std.specs.List.{list_all}
use Rattle.std.proofs.lemmas.List.{length-take}
use Rattle.std.proofs.lemmas.Bool.{cases_lt, eqb-true, le-leb, lt-leb, eq-eqb, ne_eqb, cond-true, cond-false, cases_eq}
use Rattle.image.specs.Faults.{fault, ◌then◌, tested}
use Rattle.image.specs.Runs.{whole, clauses, clauses_by, clauses_pass}
use Rattle.network.specs.Clauses.{in_order, owned}
use Rattle.network.specs.Rows.{lower}
use Rattle.intake.specs.Answers.{searched, rows_answer, node_answer, nodes_answer, take_in_answer, accepts}
use Rattle.image.specs.Headers.{top, stated_count, offset, headed, run}
use Rattle.image.proofs.Walks.{whole_end, whole_none}
use Rattle.image.proofs.Shapes.{pass_whole}
use Rattle.image.proofs.Heads.{Head, head_from, run_within, run_is, run_past, offset_more}
use Rattle.image.specs.declared.fault.Fault.{Fault}

-- results that came out
pub then_ok : {X Y : Type 0} (r : Result X Fault) (f : X → Result Y Fault) (y : Y) → (r then f) ≡ Ok y → (x : X) × (r ≡ Ok x) × (f x ≡ Ok y)
then_ok (Ok x) f y h = (x, refl, h)
then_ok (Err e) f y h = absurd (let z : ◌≡◌ {A = ℕ} 0 1 = cc in omega arith)

pub cond_ok : {X : Type 0} (b : Bool) (x y : X) (f : Fault) → ◌≡◌ {A = Result X Fault} (cond b (Ok x) (Err f)) (Ok y) → (b ≡ true) × (x ≡ y)
cond_ok true x y f h = (refl, cc)
cond_ok false x y f h = absurd (let z : ◌≡◌ {A = ℕ} 0 1 = cc in omega arith)

pub then_at : {X Y : Type 0} (r : Result X Fault) (f : X → Result Y Fault) (x : X) → r ≡ Ok x → (r then f) ≡ f x
then_at {X = X} r f x e = ap (λ (z : Result X Fault). z then f) e

pub then_stop : {X Y : Type 0} (r : Result X Fault) (f : X → Result Y Fault) (e : Fault) → r ≡ Err e → (r then f) ≡ Err e
then_stop {X = X} r f x e = ap (λ (z : Result X Fault). z then f) e

-- rows
pub rows_wide : (n : ℕ) (ws : List ℕ) (e : Fault) → e ≡ fault 5 n → 8 < length (lower n (clauses ws)) → Err e ≡ rows_answer n ws
unfolding rows_answer
rows_wide n ws e i h = ap Err i ∙ sym (then_stop _ (λ _. searched (lower n (clauses ws)) n (clauses ws)) (fault 5 n) (cond-false _ _ _ (lt-leb _ _ h)))

pub rows_narrow : (n : ℕ) (ws xs ys : List ℕ) (r : Result Bool Fault) → r ≡ searched xs n (clauses ws) → xs ≡ ys → ys ≡ lower n (clauses ws) → length xs ≤ 8 → r ≡ rows_answer n ws
unfolding rows_answer
rows_narrow n ws xs ys r e a b h =
    let l : length (lower n (clauses ws)) ≤ 8 = omega (arith, h, ap length (a ∙ b)) in
    e ∙ ap (λ (z : List ℕ). searched z n (clauses ws)) (a ∙ b) ∙ sym (then_at _ (λ _. searched (lower n (clauses ws)) n (clauses ws)) tt (cond-true _ _ _ (le-leb _ _ l)))

-- a node
clauses_few : (f : ℕ) (ws : List ℕ) → length (clauses_by f ws) ≤ length ws
unfolding clauses_by
clauses_few f [] = omega arith
clauses_few zero (n ∷ ws) = omega arith
clauses_few (suc f) (n ∷ ws) = omega (arith, clauses_few f (drop n ws), length-drop n ws)

pub clauses_short : (ws : List ℕ) → length (clauses ws) ≤ length ws
unfolding clauses
clauses_short ws = clauses_few (length ws) ws

pub record NodePassed (n : ℕ) (ws : List ℕ) (d : ℕ) : Type 0 where
  pub whole_is : whole ws ≡ true
  pub order : list_all in_order (clauses ws) ≡ true
  pub owner : list_all (owned n) (clauses ws) ≡ true
  pub loose : Bool
  pub rows : rows_answer n ws ≡ Ok loose
  pub count : length (clauses ws) ≡ d

pub node_parts : (n : ℕ) (ws : List ℕ) (d : ℕ) → node_answer n ws ≡ Ok d → NodePassed n ws d
unfolding node_answer
node_parts n ws d h =
    let (c, a, h1) = then_ok (cond (whole ws) (Ok (length (clauses ws))) (Err (fault 2 n))) _ d h in
    let (_, b, h2) = then_ok (tested (list_all in_order (clauses ws)) (fault 3 n)) _ d h1 in
    let (_, o, h3) = then_ok (tested (list_all (owned n) (clauses ws)) (fault 4 n)) _ d h2 in
    let (l, r, h4) = then_ok (rows_answer n ws) _ d h3 in
    let (w, e) = cond_ok (whole ws) (length (clauses ws)) c (fault 2 n) a in
    record {
      whole_is = w;
      order = (cond_ok (list_all in_order (clauses ws)) tt _ (fault 3 n) b).0;
      owner = (cond_ok (list_all (owned n) (clauses ws)) tt _ (fault 4 n) o).0;
      loose = l;
      rows = r;
      count = e ∙ (cc);
    }

-- the tests of a node one after another, as the code makes them
module _ (n : ℕ) (ws : List ℕ) where
  abbrev counted : Result ℕ Fault
  counted = cond (whole ws) (Ok (length (clauses ws))) (Err (fault 2 n))

  abbrev ordered : Result (Unit {0}) Fault
  ordered = clauses_pass in_order (fault 3 n) n ws

  abbrev placed : Result (Unit {0}) Fault
  placed = clauses_pass (owned n) (fault 4 n) n ws

  -- the same tests, where the run is not cut
  steps_are : (c : ℕ) → Ok c ≡ counted → node_answer n ws ≡ (ordered then (λ _. placed then (λ _. rows_answer n ws then (λ _. Ok c))))
  unfolding node_answer
  steps_are c h =
      let (w, e) = cond_ok (whole ws) (length (clauses ws)) c (fault 2 n) (sym h) in
      then_at counted _ c (sym h)
      ∙ ap (λ (r : Result (Unit {0}) Fault). r then (λ _. tested (list_all (owned n) (clauses ws)) (fault 4 n) then (λ _. rows_answer n ws then (λ _. Ok c)))) (sym (pass_whole in_order (fault 3 n) n ws w))
      ∙ ap (λ (r : Result (Unit {0}) Fault). ordered then (λ _. r then (λ _. rows_answer n ws then (λ _. Ok c)))) (sym (pass_whole (owned n) (fault 4 n) n ws w))

  pub node_cut : (e : Fault) → Err e ≡ counted → Err e ≡ node_answer n ws
  unfolding node_answer
  node_cut e h = sym (then_stop counted _ e (sym h))

  module _ (c : ℕ) (h : Ok c ≡ counted) where
    pub node_order : (e : Fault) → Err e ≡ ordered → Err e ≡ node_answer n ws
    node_order e p = sym (steps_are c h ∙ then_stop ordered _ e (sym p))

    pub node_owner : (u : Unit {0}) (e : Fault) → Ok u ≡ ordered → Err e ≡ placed → Err e ≡ node_answer n ws
    node_owner u e o p = sym (steps_are c h ∙ then_at ordered _ u (sym o) ∙ then_stop placed _ e (sym p))

    pub node_rows : (u v : Unit {0}) (e : Fault) → Ok u ≡ ordered → Ok v ≡ placed → Err e ≡ rows_answer n ws → Err e ≡ node_answer n ws
    node_rows u v e o p r = sym (steps_are c h ∙ then_at ordered _ u (sym o) ∙ then_at placed _ v (sym p) ∙ then_stop (rows_answer n ws) _ e (sym r))

    pub node_right : (u v : Unit {0}) (b : Bool) → Ok u ≡ ordered → Ok v ≡ placed → Ok b ≡ rows_answer n ws → Ok c ≡ node_answer n ws
    node_right u v b o p r = sym (steps_are c h ∙ then_at ordered _ u (sym o) ∙ then_at placed _ v (sym p) ∙ then_at (rows_answer n ws) _ b (sym r))

-- all nodes
pub nodes_none : (ws : List ℕ) → nodes_answer ws 0 ≡ Ok 0
unfolding nodes_answer
nodes_none ws = refl

pub nodes_more : (ws : List ℕ) (k : ℕ) → nodes_answer ws (suc k) ≡ (nodes_answer ws k then (λ c. node_answer (suc k) (run ws (suc k)) then (λ d. Ok (c + d))))
unfolding nodes_answer
nodes_more ws k = refl

pub nodes_on : (ws : List ℕ) (k c d : ℕ) → nodes_answer ws k ≡ Ok c → node_answer (suc k) (run ws (suc k)) ≡ Ok d → nodes_answer ws (suc k) ≡ Ok (c + d)
nodes_on ws k c d a b =
    nodes_more ws k ∙ then_at (nodes_answer ws k) _ c a ∙ then_at (node_answer (suc k) (run ws (suc k))) (λ (x : ℕ). Ok (c + x)) d b

pub nodes_stop : (ws : List ℕ) (k c : ℕ) (e : Fault) → nodes_answer ws k ≡ Ok c → node_answer (suc k) (run ws (suc k)) ≡ Err e → nodes_answer ws (suc k) ≡ Err e
nodes_stop ws k c e a b =
    nodes_more ws k ∙ then_at (nodes_answer ws k) _ c a ∙ then_stop (node_answer (suc k) (run ws (suc k))) (λ (x : ℕ). Ok (c + x)) e b

pub nodes_stay : (ws : List ℕ) (e : Fault) (d k m : ℕ) → d + k ≡ m → nodes_answer ws k ≡ Err e → nodes_answer ws m ≡ Err e
nodes_stay ws e zero k m i h = let j : m ≡ k = omega arith in ap (nodes_answer ws) j ∙ h
nodes_stay ws e (suc d) k m i h =
    nodes_stay ws e d (suc k) m (omega arith) (nodes_more ws k ∙ then_stop (nodes_answer ws k) _ e h)

pub nodes_at : (ws : List ℕ) (m c k : ℕ) → nodes_answer ws m ≡ Ok c → k < m → (d : ℕ) × NodePassed (suc k) (run ws (suc k)) d
nodes_at ws zero c k h l = absurd (omega arith)
nodes_at ws (suc m) c k h l =
    let (a, p, q) = then_ok (nodes_answer ws m) _ c (sym (nodes_more ws m) ∙ h) in
    let (d, r, s) = then_ok (node_answer (suc m) (run ws (suc m))) _ c q in
    ⊎_elim (λ (e : k ≡ m). (d, subst (λ (j : ℕ). NodePassed (suc j) (run ws (suc j)) d) (sym e) (node_parts (suc m) (run ws (suc m)) d r))) (λ (n : k ≡ m → ⊥). nodes_at ws m a k p (omega arith)) (cases_eq k m)

-- so many nodes have no more clauses than words
abbrev pub Counting : List ℕ → ℕ → ℕ → Type 0
Counting ws k c = (nodes_answer ws k ≡ Ok c) × (c ≤ offset ws k)

pub run_length : (ws : List ℕ) (k : ℕ) → k < top ws → length (run ws (suc k)) ≤ offset ws (suc k) - offset ws k
run_length ws k l = omega (arith, ap length (run_is ws k l), length-take (offset ws (suc k) - offset ws k) (drop (offset ws k) ws))

pub counting_on : (ws : List ℕ) (k c d : ℕ) → Head ws → k < top ws → Counting ws k c → Ok d ≡ node_answer (suc k) (run ws (suc k)) → Counting ws (suc k) (c + d) × (c + d ≤ length ws)
counting_on ws k c d h l (p, q) e =
    let n = node_parts (suc k) (run ws (suc k)) d (sym e) in
    let w = run_within ws k h l in
    let b : c + d ≤ offset ws (suc k) = omega (arith, n.count, clauses_short (run ws (suc k)), run_length ws k l, w.0, offset_more ws k, q) in
    ((nodes_on ws k c d p (sym e), b), omega (arith, b, w.1, offset_more ws k))

pub counting_stop : (ws : List ℕ) (k c m : ℕ) (e : Fault) → k < m → Counting ws k c → Err e ≡ node_answer (suc k) (run ws (suc k)) → Err e ≡ nodes_answer ws m
counting_stop ws k c m e l (p, q) h = sym (nodes_stay ws e (m - suc k) (suc k) m (omega arith) (nodes_stop ws k c e p (sym h)))

-- the answer at the run of node k + 1
pub node_here : (ws xs : List ℕ) (n m k : ℕ) → xs ≡ run ws n → m ≡ n → n ≡ suc k → node_answer m xs ≡ node_answer (suc k) (run ws (suc k))
node_here ws xs n m k a b e = ap (node_answer m) (a ∙ ap (run ws) e) ∙ ap (λ (z : ℕ). node_answer z (run ws (suc k))) (b ∙ e)

-- the whole image
pub record ImagePassed (ws : List ℕ) : Type 0 where
  pub head : Head ws
  pub headed_is : headed ws ≡ true
  pub nodes : nodes_answer ws (top ws) ≡ Ok (stated_count ws)

pub answer_parts : (ws : List ℕ) (u : Unit {0}) → take_in_answer ws ≡ Ok u → ImagePassed ws
unfolding take_in_answer
answer_parts ws u h =
    let (m, a, h1) = then_ok (cond (headed ws) (Ok (top ws)) (Err (fault 1 0))) _ u h in
    let (c, b, h2) = then_ok (nodes_answer ws m) _ u h1 in
    let (t, e) = cond_ok (headed ws) (top ws) m (fault 1 0) a in
    let (v, _) = cond_ok (eqb (stated_count ws) c) tt u (fault 7 0) h2 in
    record { head = head_from ws t; headed_is = t; nodes = ap (nodes_answer ws) e ∙ b ∙ ap Ok (sym (eqb-true (stated_count ws) c v)) }

accepted_iff : (r : Result (Unit {0}) Fault) → (elim r [ Ok _ ↦ true | Err f ↦ false ]) ≡ true → r ≡ Ok tt
accepted_iff (Ok u) h = refl
accepted_iff (Err e) h = absurd (let z : ◌≡◌ {A = ℕ} 0 1 = cc in omega arith)

pub accepted_answer : (ws : List ℕ) → accepts ws ≡ true → take_in_answer ws ≡ Ok tt
unfolding accepts
accepted_answer ws h = accepted_iff (take_in_answer ws) h

pub accepted_parts : (ws : List ℕ) → accepts ws ≡ true → ImagePassed ws
accepted_parts ws h = answer_parts ws tt (accepted_answer ws h)

pub accepts_from : (ws : List ℕ) (u : Unit {0}) → Ok u ≡ take_in_answer ws → accepts ws ≡ true
unfolding accepts
accepts_from ws u h = ap (λ (r : Result (Unit {0}) Fault). elim r [ Ok _ ↦ true | Err f ↦ false ]) (sym h)

pub head_came : (ws : List ℕ) (t : ℕ) → Ok t ≡ cond (headed ws) (Ok (top ws)) (Err (fault 1 0)) → (headed ws ≡ true) × (t ≡ top ws)
head_came ws t h = let (a, b) = cond_ok (headed ws) (top ws) t (fault 1 0) (sym h) in (a, sym b)

-- the words of every node of an accepted image are whole
pub accepted_whole : (ws : List ℕ) (n : ℕ) → accepts ws ≡ true → whole (run ws n) ≡ true
accepted_whole ws zero h = whole_end
accepted_whole ws (suc k) h =
    ⊎_elim (λ (l : k < top ws). let (d, n) = nodes_at ws (top ws) (stated_count ws) k (accepted_parts ws h).nodes l in n.whole_is)
    (λ (g : top ws ≤ k). whole_none (run ws (suc k)) (run_past ws (suc k) (omega arith))) (cases_lt k (top ws))

-- the answer
pub answer_head : (ws : List ℕ) (e : Fault) → ◌≡◌ {A = Result ℕ Fault} (Err e) (cond (headed ws) (Ok (top ws)) (Err (fault 1 0))) → Err e ≡ take_in_answer ws
unfolding take_in_answer
answer_head ws e h = sym (then_stop (cond (headed ws) (Ok (top ws)) (Err (fault 1 0))) _ e (sym h))

module _ (ws : List ℕ) (t : ℕ) where
  pub answer_nodes : (e : Fault) → Ok t ≡ cond (headed ws) (Ok (top ws)) (Err (fault 1 0)) → Err e ≡ nodes_answer ws t → Err e ≡ take_in_answer ws
  unfolding take_in_answer
  answer_nodes e h i = sym (then_at (cond (headed ws) (Ok (top ws)) (Err (fault 1 0))) _ t (sym h) ∙ then_stop (nodes_answer ws t) _ e (sym i))

  pub answer_count : (c : ℕ) → Ok t ≡ cond (headed ws) (Ok (top ws)) (Err (fault 1 0)) → Ok c ≡ nodes_answer ws t → (stated_count ws ≡ c → ⊥) → Err (fault 7 0) ≡ take_in_answer ws
  unfolding take_in_answer
  answer_count c h i n = sym (then_at (cond (headed ws) (Ok (top ws)) (Err (fault 1 0))) _ t (sym h) ∙ then_at (nodes_answer ws t) _ c (sym i) ∙ cond-false _ _ _ (ne_eqb _ _ n))

  pub answer_open : (c : ℕ) → Ok t ≡ cond (headed ws) (Ok (top ws)) (Err (fault 1 0)) → Ok c ≡ nodes_answer ws t → stated_count ws ≡ c → Ok tt ≡ take_in_answer ws
  unfolding take_in_answer
  answer_open c h i n = sym (then_at (cond (headed ws) (Ok (top ws)) (Err (fault 1 0))) _ t (sym h) ∙ then_at (nodes_answer ws t) _ c (sym i) ∙ cond-true _ _ _ (eq-eqb _ _ n))
