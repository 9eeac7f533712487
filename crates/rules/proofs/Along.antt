-- What holds over each step holds over a whole pass: of steps in turn, of clearing, of the three passes. Assumes nothing.
use Rattle.std.proofs.Common.{◌≡◌, ℕ, zero, suc, ◌+◌, ◌*◌, ◌<◌, ◌≤◌, Bool, true, false, ◌&&◌, eqb, ltb, List, [], ◌∷◌, map, length, get_or, Some, None, Option, refl, ◌∙◌}
use Rattle.std.specs.List.{swap_remove}
use Rattle.std.proofs.Math.Nat.{le_refl, le_trans}
use Rattle.std.proofs.lemmas.Bool.{cond_both, ltb-true}
use Rattle.network.specs.Values.{simplified}
use Rattle.network.specs.Lemmas.{lemmas}
use Rattle.rules.specs.Store.{Ref, live, dead, Meaning, after_retired, removed, allowed, retire, shorten, index_on, index_off}
use Rattle.rules.specs.Work.{Work, storing, taking_out, own_of, each, nodes_of, literals_of, add_simplified, add, cleared, clear, clear_all}
use Rattle.rules.specs.Const.{Fate, goes, shrinks, stays, fate, judged_by, judged, const_node, if_known, const_drop, const_simplify}
use Rattle.rules.specs.Bve.{all_resolvents, use_count, use_marks, uses_cleared, taken_out, eliminated, passed_over, given_up, attempted, attempt, least, but, attempts, bve_simplify}
use Rattle.rules.specs.Subsume.{Verdict, apart, subsumed, merged, both_lost, long_lost, verdict, place_after, on_verdict, checked_from, checked, walk_on, walked, walk}
use Rattle.rules.specs.Subsume as rule

-- a relation that holds over no step, and over two steps if it holds over each
pub record Chains {S : Type 0} (R : S → S → Type 0) : Type 0 where
  pub same : (s : S) → R s s
  pub next : (s t u : S) → R s t → R t u → R s u

-- P stays, f stays, f does not grow
pub stays_chains : {S : Type 0} (P : S → Type 0) → Chains (λ s t. P s → P t)
stays_chains P = record { same = λ s p. p; next = λ s t u f g p. g (f p) }

pub equal_chains : {S X : Type 0} (f : S → X) → Chains (λ s t. f t ≡ f s)
equal_chains f = record { same = λ s. refl; next = λ s t u p q. q ∙ p }

pub fewer_chains : {S : Type 0} (f : S → ℕ) → Chains (λ s t. f t ≤ f s)
fewer_chains f = record { same = λ s. le_refl (f s); next = λ s t u p q. le_trans q p }

pub each_along : {X S : Type 0} (R : S → S → Type 0) → Chains R → (f : X → S → S) → ((x : X) (s : S) → R s (f x s)) → (xs : List X) (s : S) → R s (each f xs s)
each_along R o f h [] s = o.same s
each_along R o f h (x ∷ xs) s = o.next s (f x s) (each f xs (f x s)) (h x s) (each_along R o f h xs (f x s))

-- a change that a store may refuse
pub allowed_along : (R : Meaning → Meaning → Type 0) → Chains R → (b : Bool) (M N : Meaning) → (b ≡ true → R M N) → R M (allowed b M N).0
allowed_along R o b M N h = cond_both {A = Meaning × Bool} b (N, true) (M, false) (λ r. R M r.0) h (λ e. o.same M)

-- an entry, by cases: a literal of the clause is true, or what is left of it is asked to come in
pub entry_cases : (C : List ℕ) (W : Work) (P : Work → Type 0) → P W → ((S : List ℕ) → simplified W.values C ≡ Some S → P (add_simplified (Some S) W)) → P (add C W)
unfolding add
entry_cases C W P p = go (simplified W.values C)
  where
    go : (o : Option (List ℕ)) → ((S : List ℕ) → o ≡ Some S → P (add_simplified (Some S) W)) → P (add_simplified o W)
    go None h = p
    go (Some S) h = h S refl

-- ## Clearing

module _ (R : Meaning → Meaning → Type 0) (o : Chains R) (removes : (l i : ℕ) (M : Meaning) → i < length (M.own l) → R M (removed l i M)) where
  pub cleared_along : (f l i : ℕ) (marks : List Bool) (M : Meaning) → R M (cleared f l i marks M)
  unfolding cleared
  cleared_along zero l i marks M = o.same M
  cleared_along (suc f) l i marks M = cond_both (ltb i (length (M.own l))) _ M (R M)
      (λ e. cond_both (get_or marks i false) (cleared f l i (swap_remove marks i false) (removed l i M)) (cleared f l (suc i) marks M) (R M)
      (λ t. o.next M (removed l i M) (cleared f l i (swap_remove marks i false) (removed l i M)) (removes l i M (ltb-true i (length (M.own l)) e)) (cleared_along f l i (swap_remove marks i false) (removed l i M)))
      (λ t. cleared_along f l (suc i) marks M))
      (λ e. o.same M)

  pub clear_along : (l : ℕ) (marks : List Bool) (M : Meaning) → R M (clear l marks M)
  unfolding clear
  clear_along l marks M = cleared_along (length (M.own l)) l 0 _ M

  pub clear_all_along : (l : ℕ) (M : Meaning) → R M (clear_all l M)
  unfolding clear_all
  clear_all_along l M = clear_along l _ M

  pub both_along : (n : ℕ) (M : Meaning) → R M (clear_all (2 * n + 1) (clear_all (2 * n) M))
  both_along n M = o.next M (clear_all (2 * n) M) (clear_all (2 * n + 1) (clear_all (2 * n) M)) (clear_all_along (2 * n) M) (clear_all_along (2 * n + 1) (clear_all (2 * n) M))

  pub taken_out_along : (n : ℕ) (W : Work) → R W.store (taken_out n W).store
  unfolding taken_out
  taken_out_along n W = o.next W.store (uses_cleared n W) (taken_out n W).store
      (each_along R o (λ l M. clear l (use_marks M n l) M) (λ l M. clear_along l (use_marks M n l) M) (literals_of W) W.store) (both_along n (uses_cleared n W))

-- ## const_simplify and bve_simplify

-- a relation that holds over the changes of a work that these passes make
pub record Steps (R : Work → Work → Type 0) : Type 0 where
  pub chains : Chains R
  pub enters : (C : List ℕ) (W : Work) → R W (add C W)
  pub removes : (l i : ℕ) (W : Work) → i < length (W.store.own l) → R W (storing W (removed l i W.store))
  pub takes : (n : ℕ) (W : Work) → R W (taking_out W n)

module _ (R : Work → Work → Type 0) (s : Steps R) where
  abbrev o : Chains R
  o = s.chains

  -- the relation over changes of the store alone
  abbrev At : Work → Meaning → Meaning → Type 0
  At W M N = R (storing W M) (storing W N)

  at : (W : Work) → Chains (At W)
  at W = record { same = λ M. o.same (storing W M); next = λ M N P. o.next (storing W M) (storing W N) (storing W P) }

  removes_at : (W : Work) (l i : ℕ) (M : Meaning) → i < length (M.own l) → At W M (removed l i M)
  removes_at W l i M = s.removes l i (storing W M)

  pub judged_along : (Cs : List (List ℕ)) (W : Work) → R W (judged Cs W).1
  unfolding judged
  judged_along [] W = o.same W
  judged_along (C ∷ Cs) W = go (fate W.values C) (judged_along Cs)
    where
      go : (f : Fate) → ((N : Work) → R N (judged Cs N).1) → R W (judged_by f W (λ w. judged Cs w)).1
      go goes h = h W
      go stays h = h W
      go (shrinks S) h = o.next W (add S W) (judged Cs (add S W)).1 (s.enters S W) (h (add S W))

  pub node_along : (n : ℕ) (W : Work) → R W (const_node n W)
  unfolding const_node
  node_along n W =
      let p = judged (own_of W (2 * n)) W in
      let q = judged (own_of W (2 * n + 1)) p.1 in
      let M = clear (2 * n) p.0 q.1.store in
      o.next W p.1 (const_node n W) (judged_along (own_of W (2 * n)) W)
      (o.next p.1 q.1 (const_node n W) (judged_along (own_of W (2 * n + 1)) p.1)
      (o.next q.1 (storing q.1 M) (const_node n W) (clear_along (At q.1) (at q.1) (removes_at q.1) (2 * n) p.0 q.1.store) (clear_along (At q.1) (at q.1) (removes_at q.1) (2 * n + 1) q.0 M)))

  pub drop_along : (n : ℕ) (W : Work) → R W (const_drop n W)
  unfolding const_drop
  drop_along n W = go (W.values n)
    where
      go : (k : Option Bool) → R W (if_known k (storing W (clear_all (2 * n + 1) (clear_all (2 * n) W.store))) W)
      go None = o.same W
      go (Some b) = both_along (At W) (at W) (removes_at W) n W.store

  pub const_along : ((W : Work) → R W (storing W (index_off W.store))) → (W : Work) → R W (const_simplify W)
  unfolding const_simplify
  const_along off W =
      let W₀ = storing W (index_off W.store) in
      let W₁ = each const_node (nodes_of W) W₀ in
      o.next W W₀ (const_simplify W) (off W) (o.next W₀ W₁ (const_simplify W) (each_along R o const_node node_along (nodes_of W) W₀) (each_along R o const_drop drop_along (nodes_of W) W₁))

  pub eliminated_along : (n : ℕ) (Rs : List (List ℕ)) (W : Work) → R W (eliminated n Rs W)
  unfolding eliminated taken_out
  eliminated_along n Rs W =
      let V = taking_out W n in
      o.next W V (eliminated n Rs W) (s.takes n W)
      (o.next V (taken_out n W) (eliminated n Rs W) (taken_out_along (At V) (at V) (removes_at V) n W) (each_along R o add s.enters (lemmas Rs) (taken_out n W)))

  pub attempt_along : (n : ℕ) (W : Work) → R W (attempt n W)
  unfolding attempt
  attempt_along n W = cond_both (passed_over W n) W (attempted n (all_resolvents W.store n) W) (R W) (λ e. o.same W)
      (λ e. cond_both (given_up W n (all_resolvents W.store n)) W (eliminated n (all_resolvents W.store n) W) (R W) (λ f. o.same W) (λ f. eliminated_along n (all_resolvents W.store n) W))

  pub attempts_along : (f : ℕ) (ws : List ℕ) (W : Work) → R W (attempts f ws W)
  unfolding attempts
  attempts_along zero ws W = o.same W
  attempts_along (suc f) [] W = o.same W
  attempts_along (suc f) (k ∷ ks) W =
      let n = least (use_count W.store) k ks in
      o.next W (attempt n W) (attempts f (but n (k ∷ ks)) (attempt n W)) (attempt_along n W) (attempts_along f (but n (k ∷ ks)) (attempt n W))

  pub bve_along : ((W : Work) → R W (storing W (index_on W.store))) → (W : Work) → R W (bve_simplify W)
  unfolding bve_simplify
  bve_along on W = cond_both W.store.indexed W _ (R W) (λ e. o.same W)
      (λ e. o.next W (storing W (index_on W.store)) (attempts (suc W.top) _ (storing W (index_on W.store))) (on W) (attempts_along (suc W.top) _ (storing W (index_on W.store))))

-- ## subsume_simplify

module _ (R : Meaning → Meaning → Type 0) (o : Chains R) (retires : (l i : ℕ) (M : Meaning) → R M (retire l i M).0) (shortens : (l i x : ℕ) (M : Meaning) → R M (shorten l i x M).0) where
  verdict_along : (v : Verdict) (l i k j : ℕ) (Rs : List Ref) (M : Meaning) (go : ℕ → List Ref → Meaning → Meaning × ℕ) → ((i₁ : ℕ) (Rs₁ : List Ref) (M₁ : Meaning) → R M₁ (go i₁ Rs₁ M₁).0)
      → R M (on_verdict v l i k j Rs M go (λ M₁ p. (M₁, p))).0
  verdict_along apart l i k j Rs M go f = f i Rs M
  verdict_along subsumed l i k j Rs M go f = o.next M (retire k j M).0 (go _ _ (retire k j M).0).0 (retires k j M) (f (place_after k j l i) (map (after_retired k j) Rs) (retire k j M).0)
  verdict_along (merged x) l i k j Rs M go f =
      let N = (shorten l i x M).0 in
      o.next M N (go _ _ (retire k j N).0).0 (shortens l i x M) (o.next N (retire k j N).0 (go _ _ (retire k j N).0).0 (retires k j N) (f (place_after k j l i) (map (after_retired k j) Rs) (retire k j N).0))
  verdict_along both_lost l i k j Rs M go f = o.next M (retire k j M).0 (retire l (place_after k j l i) (retire k j M).0).0 (retires k j M) (retires l (place_after k j l i) (retire k j M).0)
  verdict_along long_lost l i k j Rs M go f = o.next M (retire k j M).0 (go _ _ (retire k j M).0).0 (retires k j M) (f (place_after k j l i) (map (after_retired k j) Rs) (retire k j M).0)
  verdict_along (rule.strengthened x) l i k j Rs M go f = o.next M (shorten k j x M).0 (go _ _ (shorten k j x M).0).0 (shortens k j x M) (f i Rs (shorten k j x M).0)

  checked_along : (f l i : ℕ) (Rs : List Ref) (M : Meaning) → R M (checked_from f l i Rs M).0
  unfolding checked_from
  checked_along zero l i Rs M = o.same M
  checked_along (suc f) l i [] M = o.same M
  checked_along (suc f) l i (dead ∷ Rs) M = checked_along f l i Rs M
  checked_along (suc f) l i (live k j ∷ Rs) M = cond_both (eqb k l && eqb j i) (checked_from f l i Rs M) _ (λ r. R M r.0) (λ e. checked_along f l i Rs M)
      (λ e. verdict_along (verdict (get_or (M.own l) i []) (get_or (M.own k) j [])) l i k j Rs M (λ i₁ Rs₁ M₁. checked_from f l i₁ Rs₁ M₁) (λ i₁ Rs₁ M₁. checked_along f l i₁ Rs₁ M₁))

  walked_along : (f l i : ℕ) (M : Meaning) → R M (walked f l i M)
  unfolding walked checked
  walked_along zero l i M = o.same M
  walked_along (suc f) l i M = cond_both (ltb i (length (M.own l))) (walk_on (checked l i M) (walked f l)) M (R M)
      (λ e. o.next M (checked l i M).0 (walked f l (checked l i M).1 (checked l i M).0) (checked_along _ l i _ M) (walked_along f l (checked l i M).1 (checked l i M).0)) (λ e. o.same M)

  pub walks_along : (ls : List ℕ) (M : Meaning) → R M (each walk ls M)
  walks_along = each_along R o walk (λ l M. walked_along (length (M.own l)) l 0 M)
