-- The attempts one after another, as nodes are handed out. Assumes nothing.
use Rattle.std.proofs.Common.{◌↔◌, ◌≡◌, ℕ, zero, suc, ◌+◌, ◌*◌, ◌≤◌, Bool, true, false, cond, not, ◌||◌, ltb, eqb, List, [], ◌∷◌, ◌++◌, length, Some, None, sym, refl, ap, ◌∙◌, subst, inl, inr, ⊎_elim, arith}
use Rattle.std.proofs.lemmas.Bool.{cond_both}
use Rattle.network.specs.Clauses.{Rising, has}
use Rattle.network.specs.Lists.{In}
use Rattle.network.proofs.Lists.{kept_in}
use Rattle.network.proofs.Resolution.{rising_kept}
use Rattle.rules.specs.Store.{Meaning, from, up_to}
use Rattle.rules.specs.Bve.{use_count, least, but, attempt, attempts}
use Rattle.rules.proofs.Index.{in_up_to}
use Rattle.rules.proofs.Start.{from_in}
use Rattle.simplifier.specs.Shown.{work_of}
use Rattle.simplifier.specs.declared.state.Simplifier.{Simplifier}
use Rattle.waiting.specs.Waits.{Waits, WaitAll, SameWait, Next, Counting, both_counts}
use Rattle.waiting.specs.declared.waiting.Waiting.{Waiting}
use Rattle.elimination.specs.Outs.{flag, with_node, Made}

-- ## The next node

-- the first for which a function is least, by one that is the same on these
least_same : (f g : ℕ → ℕ) (k : ℕ) (ks : List ℕ) → ((j : ℕ) → In j (k ∷ ks) → f j ≡ g j) → least f k ks ≡ least g k ks
least_same f g k [] h = refl
least_same f g k (j ∷ ks) h =
    ap (λ b. cond b (least f j ks) (least f k ks)) (let p = h j (inr (inl refl)) in let q = h k (inl refl) in cc)
    ∙ ap (λ x. cond (ltb (g j) (g k)) x (least f k ks)) (least_same f g j ks (λ i l. h i (inr l)))
    ∙ ap (λ x. cond (ltb (g j) (g k)) (least g j ks) x) (least_same f g k ks (λ i l. h i (⊎_elim inl (λ r. inr (inr r)) l)))

least_in : (f : ℕ → ℕ) (k : ℕ) (ks : List ℕ) → In (least f k ks) (k ∷ ks)
least_in f k [] = inl refl
least_in f k (j ∷ ks) = cond_both (ltb (f j) (f k)) (least f j ks) (least f k ks) (λ x. In x (k ∷ j ∷ ks)) (λ t. inr (least_in f j ks)) (λ t. ⊎_elim inl (λ r. inr (inr r)) (least_in f k ks))

-- so many numbers from i on rise
from_rising : (t i : ℕ) → Rising (from i t)
from_rising zero i = tt
from_rising (suc t) i = (λ k h. (from_in t (suc i) k h).0, from_rising t (suc i))

-- what was answered is the first for which the uses are fewest, if one waits
module _ (f : ℕ → ℕ) (w : Waiting) where
  next_node : (n : ℕ) (ns : List ℕ) → Next f ns (Some n) w → (k : ℕ) × (ks : List ℕ) × (ns ≡ k ∷ ks) × (n ≡ least f k ks) × WaitAll w (but n ns)
  next_node n [] h = absurd cc
  next_node n (k ∷ ks) (e, a) = let q : n ≡ least f k ks = cc in (k, ks, refl, q, subst (λ m. WaitAll w (but m (k ∷ ks))) (sym q) a)

  next_none : (ns : List ℕ) → Next f ns None w → ns ≡ []
  next_none [] h = refl
  next_none (k ∷ ks) (e, a) = absurd cc

-- ## One node more, or none

with_length : (b : Bool) (n : ℕ) (ns : List ℕ) → length (with_node b n ns) ≡ length ns + cond b 1 0
with_length true n ns = omega arith
with_length false n ns = omega arith

at_most_one : (b : Bool) → cond b 1 0 ≤ 1
at_most_one true = omega arith
at_most_one false = omega arith

with_others : (b : Bool) (n : ℕ) (ns out : List ℕ) → with_node b n ns ++ out ≡ with_node b n (ns ++ out)
with_others true n ns out = refl
with_others false n ns out = refl

or_three : (a b c : Bool) → (a || b || c) ≡ (a || false || (b || c))
or_three true b c = refl
or_three false b c = refl

with_has : (b : Bool) (n k : ℕ) (ns : List ℕ) (x : Bool) → (has k (with_node b n ns) || x) ≡ (has k (with_node b n []) || (has k ns || x))
with_has true n k ns x = or_three (eqb k n) (has k ns) x
with_has false n k ns x = refl

-- ## The attempts

module _ {S : Type 0} (meaning : S → Meaning) where
  -- the nodes that still wait, with so many attempts to go, and those that were taken out, as many as were counted; what is to come
  -- makes the whole of it
  pub record Under (fuel count : ℕ) (s t : Simplifier S) (w : Waiting) : Type 0 where
    pub waits : List ℕ
    pub rises : Rising waits
    pub small : (n : ℕ) → In n waits → n ≤ s.top
    pub all : WaitAll w waits
    pub nodes : List ℕ
    pub many : count ≡ length nodes
    pub few : count + fuel ≤ suc s.top
    pub left : (out : List ℕ) → attempts fuel waits (work_of meaning t (nodes ++ out)) ≡ attempts (suc s.top) (up_to (suc s.top)) (work_of meaning s out)
    pub flags : (k : ℕ) → flag t.taken_out k ≡ (has k nodes || flag s.taken_out k)

  pub at_first : (s : Simplifier S) (w : Waiting) → ((n : ℕ) → Waits w n ↔ (n ≤ s.top)) → Under (suc s.top) 0 s s w
  at_first s w h = record {
    waits = up_to (suc s.top);
    rises = from_rising (suc s.top) 0;
    small = λ n i. omega (arith, (from_in (suc s.top) 0 n i).1);
    all = λ n. (λ a. in_up_to (suc s.top) n (omega (arith, (h n).0 a)), λ i. (h n).1 (omega (arith, (from_in (suc s.top) 0 n i).1)));
    nodes = [];
    many = refl;
    few = omega arith;
    left = λ out. refl;
    flags = λ k. refl;
  }

  -- no attempt is to come, or none waits
  pub at_last : (count : ℕ) (s t : Simplifier S) (w : Waiting) → Under 0 count s t w → Made meaning count s t
  unfolding attempts
  at_last count s t w u = record { nodes = u.nodes; many = u.many; made = u.left; flags = u.flags }

  pub none_waits : (fuel count : ℕ) (s t : Simplifier S) (v w : Waiting) → Under (suc fuel) count s t v → ((ns : List ℕ) → Rising ns → WaitAll v ns → Next (both_counts v) ns None w) → Made meaning count s t
  unfolding attempts
  none_waits fuel count s t v w u h =
      let e = next_none (both_counts v) w u.waits (h u.waits u.rises u.all) in
      record { nodes = u.nodes; many = u.many; made = λ out. ap (λ ns. attempts (suc fuel) ns (work_of meaning t (u.nodes ++ out))) (sym e) ∙ u.left out; flags = u.flags }

  -- a node was handed out
  module _ (fuel count n : ℕ) (s t : Simplifier S) (v w : Waiting) (u : Under (suc fuel) count s t v) (c : Counting (meaning t.store) s.top v)
      (h : (ns : List ℕ) → Rising ns → WaitAll v ns → Next (both_counts v) ns (Some n) w) where
    handed : (k : ℕ) × (ks : List ℕ) × (u.waits ≡ k ∷ ks) × (n ≡ least (both_counts v) k ks) × WaitAll w (but n u.waits)
    handed = next_node (both_counts v) w n u.waits (h u.waits u.rises u.all)

    pub handed_small : n ≤ s.top
    handed_small = let (k, ks, e, q, a) = handed in u.small n (subst (λ ns. In n ns) (sym e) (subst (λ m. In m (k ∷ ks)) (sym q) (least_in (both_counts v) k ks)))

    turn : (out : List ℕ) → attempts fuel (but n u.waits) (attempt n (work_of meaning t (u.nodes ++ out))) ≡ attempts (suc s.top) (up_to (suc s.top)) (work_of meaning s out)
    unfolding attempts
    turn out =
        let (k, ks, e, q, a) = handed in
        let W = work_of meaning t (u.nodes ++ out) in
        let same : n ≡ least (use_count W.store) k ks =
        q ∙ least_same (both_counts v) (use_count W.store) k ks (λ j i. let le = u.small j (subst (In j) (sym e) i) in omega (arith, c (2 * j) (omega (arith, le)), c (2 * j + 1) (omega (arith, le)))) in
        ap (λ ns. attempts fuel (but n ns) (attempt n W)) e
        ∙ ap (λ m. attempts fuel (but m (k ∷ ks)) (attempt m W)) same
        ∙ ap (λ ns. attempts (suc fuel) ns W) (sym e) ∙ u.left out

    -- and attempted
    module _ (b : Bool) (more : ℕ) (t' : Simplifier S) (w' : Waiting)
        (counted : more ≡ count + cond b 1 0)
        (made : (out : List ℕ) → work_of meaning t' (with_node b n out) ≡ attempt n (work_of meaning t out))
        (flags : (k : ℕ) → flag t'.taken_out k ≡ (has k (with_node b n []) || flag t.taken_out k)) (same : SameWait w w')
      where
        pub one_on : Under fuel more s t' w'
        one_on = record {
          waits = but n u.waits;
          rises = rising_kept (λ j. not (eqb j n)) u.waits u.rises;
          small = λ j i. u.small j (kept_in (λ j. not (eqb j n)) j u.waits i).0;
          all = λ j. (λ x. (handed.4 j).0 ((same j).0 x), λ x. (same j).1 ((handed.4 j).1 x));
          nodes = with_node b n u.nodes;
          many = omega (arith, counted, with_length b n u.nodes, u.many);
          few = omega (arith, counted, at_most_one b, u.few);
          left = λ out.
              ap (λ ns. attempts fuel (but n u.waits) (work_of meaning t' ns)) (with_others b n u.nodes out) ∙ ap (attempts fuel (but n u.waits)) (made (u.nodes ++ out)) ∙ turn out;
          flags = λ k. flags k ∙ ap (λ x. has k (with_node b n []) || x) (u.flags k) ∙ sym (with_has b n k u.nodes (flag s.taken_out k));
        }
