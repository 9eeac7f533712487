-- Every call keeps what is kept, and leaves the nodes and the frozen ones as they are. Assumes nothing.
use Rattle.std.proofs.Common.{◌≡◌, ℕ, suc, ◌/◌, ◌≤◌, leb, List, [], ◌∷◌, Result, sym, refl, ◌∙◌, subst}
use Rattle.std.proofs.lemmas.Bool.{cond_both, leb-true}
use Rattle.network.specs.Networks.{Network}
use Rattle.network.specs.Clauses.{has}
use Rattle.image.specs.declared.fault.Fault.{Fault}
use Rattle.rules.specs.Store.{live_clauses}
use Rattle.rules.specs.Good.{Good}
use Rattle.rules.specs.Lawful.{Lawful}
use Rattle.rules.specs.Work.{Work, add}
use Rattle.rules.specs.Const.{const_simplify}
use Rattle.rules.specs.Bve.{bve_simplify}
use Rattle.rules.specs.Subsume.{subsume_simplify}
use Rattle.rules.specs.Calls.{need, lent, half, const_answer, bve_answer, subsume_answer, simplify_answer, simplified_work, finalized, with_live, with_out, Call, const_call, bve_call, subsume_call, simplify_call, finalize_call, called, after}
use Rattle.rules.proofs.Subsume.{subsume_kept}
use Rattle.rules.proofs.Const.{const_good}
use Rattle.rules.proofs.Along.{Chains, Steps, entry_cases, const_along, bve_along}
use Rattle.rules.proofs.Passes.{const_keeps, bve_keeps, subsume_keeps}
use Rattle.rules.proofs.Unrefused.{const_agrees, bve_good}

-- the nodes and the frozen ones stay
abbrev pub SameNodes : Work → Work → Type 0
SameNodes W N = (N.top ≡ W.top) × (N.frozen ≡ W.frozen)

nodes_chains : Chains SameNodes
nodes_chains = record { same = λ W. (refl, refl); next = λ W N R (a, b) (c, d). (c ∙ a, d ∙ b) }

add_nodes : (C : List ℕ) (W : Work) → SameNodes W (add C W)
add_nodes C W = entry_cases C W (SameNodes W) (refl, refl) (λ S e. (refl, refl))

nodes_steps : Steps SameNodes
nodes_steps = record { chains = nodes_chains; enters = add_nodes; removes = λ l i W h. (refl, refl); takes = λ n W. (refl, refl) }

pub const_nodes : (W : Work) → SameNodes W (const_simplify W)
const_nodes = const_along SameNodes nodes_steps (λ W. (refl, refl))

bve_nodes : (W : Work) → SameNodes W (bve_simplify W)
bve_nodes = bve_along SameNodes nodes_steps (λ W. (refl, refl))

subsume_nodes : (W : Work) → SameNodes W (subsume_simplify W)
unfolding subsume_simplify
subsume_nodes W = (refl, refl)

-- what holds of a work between calls
module _ (first : Network) where
  pub record Sound (r : ℕ) (V W : Work) : Type 0 where
    pub good : Good first W
    pub lawful : Lawful W.store
    pub room : W.store.room ≡ r
    pub nodes : SameNodes V W

  const_sound : (r : ℕ) (V W : Work) → live_clauses W.store ≤ W.store.room / 2 → Sound r V W → Sound r V (const_simplify W)
  const_sound r V W h S =
      let p = const_agrees first W S.good S.lawful h in
      let (a, b) = const_keeps W S.lawful in
      record {
        good = subst (Good first) (sym p) (const_good first W S.good);
        lawful = a;
        room = b ∙ S.room;
        nodes = nodes_chains.next V W (const_simplify W) S.nodes (const_nodes W);
      }

  bve_sound : (r : ℕ) (V W : Work) → Sound r V W → Sound r V (bve_simplify W)
  bve_sound r V W S = let (a, b) = bve_keeps W S.lawful in
      record { good = bve_good first W S.good S.lawful; lawful = a; room = b ∙ S.room; nodes = nodes_chains.next V W (bve_simplify W) S.nodes (bve_nodes W) }

  subsume_good : (W : Work) → Good first W → Good first (subsume_simplify W)
  unfolding subsume_simplify
  subsume_good W G =
      let (k, p) = subsume_kept first (suc W.top) W.values (λ k. has k W.out) W.frozen W (G.kept, G.placed) in
      record { kept = k; placed = p; small = G.small; zero_value = G.zero_value }

  subsume_sound : (r : ℕ) (V W : Work) → Sound r V W → Sound r V (subsume_simplify W)
  subsume_sound r V W S = let (a, b) = subsume_keeps W S.lawful in
      record { good = subsume_good W S.good; lawful = a; room = b ∙ S.room; nodes = nodes_chains.next V W (subsume_simplify W) S.nodes (subsume_nodes W) }

  lent_sound : {X : Type 0} (r : ℕ) (V W : Work) (n : ℕ) (x : Work × Result X Fault) → Sound r V W → Sound r V x.0 → Sound r V (lent n W x).0
  lent_sound r V W n x S T = cond_both (leb (need W) n) x _ (λ y. Sound r V y.0) (λ e. T) (λ e. S)

  half_sound : {X : Type 0} (r : ℕ) (V W : Work) (x : Work × Result X Fault) → Sound r V W → (live_clauses W.store ≤ W.store.room / 2 → Sound r V x.0) → Sound r V (half W x).0
  half_sound r V W x S T = cond_both (leb (live_clauses W.store) (W.store.room / 2)) x _ (λ y. Sound r V y.0) (λ e. T (leb-true (live_clauses W.store) (W.store.room / 2) e)) (λ e. S)

  called_sound : (r : ℕ) (V : Work) (c : Call) (W : Work) → Sound r V W → Sound r V (called c W)
  unfolding called const_answer bve_answer subsume_answer simplify_answer
  called_sound r V (const_call n) W S = lent_sound r V W n (half W (with_live (const_simplify W))) S (half_sound r V W (with_live (const_simplify W)) S (λ h. const_sound r V W h S))
  called_sound r V (bve_call n) W S = lent_sound r V W n (with_out W (bve_simplify W)) S (bve_sound r V W S)
  called_sound r V (subsume_call n) W S = lent_sound r V W n (with_live (subsume_simplify W)) S (subsume_sound r V W S)
  called_sound r V (simplify_call n m) W S = lent_sound r V W n (half W (finalized m (simplified_work W))) S
      (half_sound r V W (finalized m (simplified_work W)) S (λ h. subsume_sound r V (bve_simplify (const_simplify W)) (bve_sound r V (const_simplify W) (const_sound r V W h S))))
  called_sound r V (finalize_call m) W S = S

  pub after_sound : (r : ℕ) (V : Work) (cs : List Call) (W : Work) → Sound r V W → Sound r V (after cs W)
  after_sound r V [] W S = S
  after_sound r V (c ∷ cs) W S = after_sound r V cs (called c W) (called_sound r V c W S)
