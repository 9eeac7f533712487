-- The turns of nodes one after another. Assumes nothing.
use Rattle.std.proofs.Common.{◌≡◌, ℕ, suc, ◌+◌, ◌*◌, ◌-◌, ◌<◌, ◌≤◌, Bool, true, false, not, is_some, List, [], map, length, take, Some, None, Option, refl, ap, ◌∙◌, arith}
use Rattle.std.proofs.Math.Seq.{take-append_seam}
use Rattle.std.proofs.lemmas.Bool.{both_ways}
use Rattle.rules.specs.Store.{Meaning, from, up_to}
use Rattle.rules.specs.Work.{Work, storing, own_of, each, clear, clear_all}
use Rattle.rules.specs.Const.{judged, then_negative, both_cleared, const_node, if_known, const_drop}
use Rattle.constants.proofs.Judges.{Grows}

-- the whole own list, as long as it was
pub list_was : (M N : Meaning) → Grows M N → (l n : ℕ) → n ≡ length (M.own l) → take n (N.own l) ≡ M.own l
list_was M N g l n e = let (ys, q) = g l in ap (λ k. take k (N.own l)) e ∙ ap (take (length (M.own l))) q ∙ take-append_seam (M.own l) ys

-- a node's turn, where so many clauses of each literal were judged
pub node_turn : (n : ℕ) (W V U : Work) (ms ns : List Bool) → judged (own_of W (2 * n)) W ≡ (ms, V) → judged (own_of W (2 * n + 1)) V ≡ (ns, U)
    → const_node n W ≡ storing U (clear (2 * n + 1) ns (clear (2 * n) ms U.store))
unfolding const_node
node_turn n W V U ms ns p q = ap (then_negative n (own_of W (2 * n + 1))) p ∙ ap (both_cleared n ms) q

-- the nodes from n on, up to the highest
abbrev pub nodes_from : ℕ → ℕ → List ℕ
nodes_from top n = map suc (from (n - 1) (suc top - n))

pub nodes_all : (top : ℕ) → nodes_from top 1 ≡ map suc (up_to top)
nodes_all top = let e : suc top - 1 ≡ top = omega arith in ap (λ k. map suc (from 0 k)) e

-- the first of those
pub nodes_first : {Y : Type 0} (f : ℕ → Y → Y) (top n : ℕ) (y : Y) → 1 ≤ n → n ≤ top → each f (nodes_from top n) y ≡ each f (nodes_from top (n + 1)) (f n y)
nodes_first f top n y pos le =
    let e : suc top - n ≡ suc (suc top - (n + 1)) = omega arith in
    let a : suc (n - 1) ≡ n = omega arith in
    let b : n ≡ n + 1 - 1 = omega arith in
    ap (λ k. each f (map suc (from (n - 1) k)) y) e
    ∙ ap (λ k. each f (map suc (from k (suc top - (n + 1)))) (f k y)) a
    ∙ ap (λ k. each f (map suc (from k (suc top - (n + 1)))) (f n y)) b

pub nodes_none : (top n : ℕ) → top < n → nodes_from top n ≡ []
nodes_none top n lt = let e : suc top - n ≡ 0 = omega arith in ap (λ k. map suc (from (n - 1) k)) e

-- a node with a value loses its clauses, and any other keeps them
pub drops : (n : ℕ) (W : Work) → not (is_some (W.values n)) ≡ false → const_drop n W ≡ storing W (clear_all (2 * n + 1) (clear_all (2 * n) W.store))
unfolding const_drop
drops n W = go (W.values n)
  where
    go : (o : Option Bool) → not (is_some o) ≡ false → if_known o (storing W (clear_all (2 * n + 1) (clear_all (2 * n) W.store))) W ≡ storing W (clear_all (2 * n + 1) (clear_all (2 * n) W.store))
    go None e = absurd (both_ways true e refl)
    go (Some b) e = refl

pub keeps : (n : ℕ) (W : Work) → not (is_some (W.values n)) ≡ true → const_drop n W ≡ W
unfolding const_drop
keeps n W = go (W.values n)
  where
    go : (o : Option Bool) → not (is_some o) ≡ true → if_known o (storing W (clear_all (2 * n + 1) (clear_all (2 * n) W.store))) W ≡ W
    go None e = refl
    go (Some b) e = absurd (both_ways false refl e)
