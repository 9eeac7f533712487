-- The nodes taken out are logged, and no call forgets one. Assumes nothing.
use Rattle.std.proofs.Common.{◌≡◌, ℕ, ◌+◌, ◌*◌, ◌/◌, Bool, true, cond, not, leb, List, [], ◌∷◌, Some, None, Option, Result, sym, refl, ◌∙◌, subst, inl, inr}
use Rattle.std.proofs.lemmas.Bool.{cond_both, and_parts, not-true}
use Rattle.network.specs.Lists.{In}
use Rattle.network.specs.Lemmas.{lemmas}
use Rattle.image.specs.declared.fault.Fault.{Fault}
use Rattle.rules.specs.Store.{live_clauses, index_off}
use Rattle.rules.specs.Work.{Work, storing, own_of, each, nodes_of, add, clear_all}
use Rattle.rules.specs.Const.{Fate, goes, shrinks, stays, fate, judged_by, judged, const_node, if_known, const_drop, const_simplify}
use Rattle.rules.specs.Bve.{all_resolvents, taken_out, eliminated, passed_over, given_up, attempted, attempt, bve_simplify}
use Rattle.rules.specs.Subsume.{subsume_simplify}
use Rattle.rules.specs.Turns.{takes_out}
use Rattle.rules.specs.Calls.{need, lent, half, const_answer, bve_answer, subsume_answer, simplify_answer, simplified_work, finalized, with_live, with_out, Call, const_call, bve_call, subsume_call, simplify_call, finalize_call, called}
use Rattle.rules.proofs.Along.{equal_chains, each_along, entry_cases, Steps, const_along, bve_along}

-- no step of const_simplify logs a node
add_out : (C : List ℕ) (W : Work) → (add C W).out ≡ W.out
add_out C W = entry_cases C W (λ N. N.out ≡ W.out) refl (λ S e. refl)

judged_out : (Cs : List (List ℕ)) (W : Work) → (judged Cs W).1.out ≡ W.out
unfolding judged
judged_out [] W = refl
judged_out (C ∷ Cs) W = go (fate W.values C) (judged_out Cs)
  where
    go : (f : Fate) → ((N : Work) → (judged Cs N).1.out ≡ N.out) → (judged_by f W (λ w. judged Cs w)).1.out ≡ W.out
    go goes h = h W
    go stays h = h W
    go (shrinks S) h = h (add S W) ∙ add_out S W

node_out : (n : ℕ) (W : Work) → (const_node n W).out ≡ W.out
unfolding const_node
node_out n W = judged_out (own_of W (2 * n + 1)) (judged (own_of W (2 * n)) W).1 ∙ judged_out (own_of W (2 * n)) W

drop_out : (n : ℕ) (W : Work) → (const_drop n W).out ≡ W.out
unfolding const_drop
drop_out n W = go (W.values n)
  where
    go : (o : Option Bool) → (if_known o (storing W (clear_all (2 * n + 1) (clear_all (2 * n) W.store))) W).out ≡ W.out
    go None = refl
    go (Some b) = refl

each_out : {X : Type 0} (f : X → Work → Work) → ((x : X) (W : Work) → (f x W).out ≡ W.out) → (xs : List X) (W : Work) → (each f xs W).out ≡ W.out
each_out f = each_along (λ W N. N.out ≡ W.out) (equal_chains (λ W. W.out)) f

const_out : (W : Work) → (const_simplify W).out ≡ W.out
unfolding const_simplify
const_out W =
    let U = storing W (index_off W.store) in
    each_out const_drop drop_out (nodes_of W) (each const_node (nodes_of W) U) ∙ each_out const_node node_out (nodes_of W) U

-- an elimination logs its node, and no other
eliminated_out : (n : ℕ) (Rs : List (List ℕ)) (W : Work) → (eliminated n Rs W).out ≡ n ∷ W.out
unfolding eliminated taken_out
eliminated_out n Rs W = each_out add add_out (lemmas Rs) (taken_out n W)

-- the nodes taken out of W are taken out of N
abbrev Remembers : Work → Work → Type 0
Remembers W N = (v : ℕ) → In v W.out → In v N.out

add_remembers : (C : List ℕ) (W : Work) → Remembers W (add C W)
add_remembers C W = entry_cases C W (Remembers W) (λ v i. i) (λ S e v i. i)

remembers : Steps Remembers
remembers = record {
  chains = record { same = λ W v i. i; next = λ W N R f g v i. g v (f v i) };
  enters = add_remembers;
  removes = λ l i W h v j. j;
  takes = λ n W v i. inr i;
}

eliminated_logs : (n : ℕ) (Rs : List (List ℕ)) (W : Work) → In n (eliminated n Rs W).out
eliminated_logs n Rs W = subst (In n) (sym (eliminated_out n Rs W)) (inl refl)

pub attempt_logs : (n : ℕ) (W : Work) → takes_out n W ≡ true → In n (attempt n W).out
unfolding attempt
attempt_logs n W e =
    let (a, b) = and_parts (not (passed_over W n)) (not (given_up W n (all_resolvents W.store n))) e in
    subst (λ c. In n (cond c W (attempted n (all_resolvents W.store n) W)).out) (sym (not-true (passed_over W n) a))
    (subst (λ c. In n (cond c W (eliminated n (all_resolvents W.store n) W)).out) (sym (not-true (given_up W n (all_resolvents W.store n)) b))
    (eliminated_logs n (all_resolvents W.store n) W))

bve_remembers : (W : Work) → Remembers W (bve_simplify W)
bve_remembers = bve_along Remembers remembers (λ W v i. i)

const_remembers : (W : Work) → Remembers W (const_simplify W)
const_remembers = const_along Remembers remembers (λ W v i. i)

subsume_remembers : (W : Work) → Remembers W (subsume_simplify W)
unfolding subsume_simplify
subsume_remembers W v i = i

lent_remembers : {X : Type 0} (W : Work) (n : ℕ) (x : Work × Result X Fault) → Remembers W x.0 → Remembers W (lent n W x).0
lent_remembers W n x h = cond_both (leb (need W) n) x _ (λ y. Remembers W y.0) (λ e. h) (λ e v i. i)

half_remembers : {X : Type 0} (W : Work) (x : Work × Result X Fault) → Remembers W x.0 → Remembers W (half W x).0
half_remembers W x h = cond_both (leb (live_clauses W.store) (W.store.room / 2)) x _ (λ y. Remembers W y.0) (λ e. h) (λ e v i. i)

pub call_remembers : (c : Call) (W : Work) (v : ℕ) → In v W.out → In v (called c W).out
unfolding called const_answer bve_answer subsume_answer simplify_answer
call_remembers (const_call n) W = lent_remembers W n (half W (with_live (const_simplify W))) (half_remembers W (with_live (const_simplify W)) (const_remembers W))
call_remembers (bve_call n) W = lent_remembers W n (with_out W (bve_simplify W)) (bve_remembers W)
call_remembers (subsume_call n) W = lent_remembers W n (with_live (subsume_simplify W)) (subsume_remembers W)
call_remembers (simplify_call n m) W = lent_remembers W n (half W (finalized m (simplified_work W))) (half_remembers W (finalized m (simplified_work W))
    (λ v i. subsume_remembers (bve_simplify (const_simplify W)) v (bve_remembers (const_simplify W) v (const_remembers W v i))))
call_remembers (finalize_call m) W = λ v i. i
