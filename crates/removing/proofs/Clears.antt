-- The clauses that name a node, cleared one by one. Assumes nothing.
use Rattle.std.proofs.Common.{◌≡◌, ℕ, suc, ◌+◌, ◌-◌, ◌<◌, ◌≤◌, Bool, true, false, ltb, List, [], ◌++◌, map, length, get_or, take, set, Option, replicate, sym, ap, ◌∙◌, subst, arith}
use Rattle.std.specs.Option.{option_flatten}
use Rattle.std.specs.List.{swap_remove}
use Rattle.std.proofs.lemmas.Bool.{lt-ltb, cond-true, cond-false}
use Rattle.std.proofs.Math.ListN.{get_or-map}
use Rattle.std.proofs.lemmas.List.{take-map, map-set, length-map, append-nil}
use Rattle.rules.specs.Lawful.{Lawful}
use Rattle.rules.specs.Store.{Meaning, removed}
use Rattle.rules.specs.Work.{cleared, clear}
use Rattle.rules.proofs.Index.{removed_own, removed_length, removed_indexed}
use Rattle.network.specs.Clauses.{front}
use Rattle.waiting.specs.Waits.{counts_of, times, SameWait}
use Rattle.waiting.specs.declared.waiting.Waiting.{Waiting}
use Rattle.waiting.proofs.Kept.{goes_counting}
use Rattle.simplifier.proofs.Cursors.{Cursor, Answered, on_removed}
use Rattle.removing.specs.Follows.{Follows}
use Rattle.removing.specs.Outs.{names, without_named}
use Rattle.removing.proofs.Following.{follows_none, follows_two}

-- the last item moved to a place, and then mapped
map_swap : {X Y : Type 0} (f : X → Y) (d : X) (xs : List X) (i : ℕ) → map f (swap_remove xs i d) ≡ swap_remove (map f xs) i (f d)
map_swap f d xs i =
    let n = length xs - 1 in
    let same : length (map f xs) - 1 ≡ n = omega (arith, length-map xs f) in
    sym (take-map f n (set xs i (get_or xs n d))) ∙ ap (take n) (map-set f xs i (get_or xs n d) ∙ ap (set (map f xs) i) (sym (get_or-map f xs n d)))
    ∙ ap (λ m. take m (set (map f xs) i (get_or (map f xs) m (f d)))) (sym same)

module _ (f l i : ℕ) (marks : List Bool) (M : Meaning) (h : i < length (M.own l)) where
  marked_goes : get_or marks i false ≡ true → cleared (suc f) l i marks M ≡ cleared f l i (swap_remove marks i false) (removed l i M)
  unfolding cleared
  marked_goes t = cond-true (ltb i (length (M.own l))) _ M (lt-ltb i (length (M.own l)) h) ∙ cond-true (get_or marks i false) _ (cleared f l (suc i) marks M) t

  other_stays : get_or marks i false ≡ false → cleared (suc f) l i marks M ≡ cleared f l (suc i) marks M
  unfolding cleared
  other_stays t = cond-true (ltb i (length (M.own l))) _ M (lt-ltb i (length (M.own l)) h) ∙ cond-false (get_or marks i false) (cleared f l i (swap_remove marks i false) (removed l i M)) _ t

module _ (n l : ℕ) where
  -- what is left to clear from place i on
  pub rest : ℕ → Meaning → Meaning
  rest i M = cleared (length (M.own l) - i) l i (map (names n) (M.own l)) M

  pub rest_start : (M : Meaning) → rest 0 M ≡ without_named n l M
  unfolding rest without_named clear
  rest_start M =
      let marks = map (names n) (M.own l) in
      let none : length (M.own l) - length marks ≡ 0 = omega (arith, length-map (M.own l) (names n)) in
      let all : length (M.own l) - 0 ≡ length (M.own l) = omega arith in
      let whole : marks ++ replicate (length (M.own l) - length marks) false ≡ marks = ap (λ m. marks ++ replicate m false) none ∙ append-nil marks in
      (λ j. cleared (all j) l 0 (sym whole j) M)

  pub rest_done : (i : ℕ) (M : Meaning) → length (M.own l) ≤ i → rest i M ≡ M
  unfolding rest cleared
  rest_done i M h = let none : length (M.own l) - i ≡ 0 = omega arith in ap (λ f. cleared f l i (map (names n) (M.own l)) M) none

  module _ (i : ℕ) (M : Meaning) (h : i < length (M.own l)) where
    one_more : rest i M ≡ cleared (suc (length (M.own l) - suc i)) l i (map (names n) (M.own l)) M
    unfolding rest
    one_more = let more : length (M.own l) - i ≡ suc (length (M.own l) - suc i) = omega arith in ap (λ f. cleared f l i (map (names n) (M.own l)) M) more

    mark_at : get_or (map (names n) (M.own l)) i false ≡ names n (get_or (M.own l) i [])
    mark_at = get_or-map (names n) (M.own l) i []

    pub rest_goes : names n (get_or (M.own l) i []) ≡ true → rest i (removed l i M) ≡ rest i M
    unfolding rest one_more
    rest_goes t =
        let fewer : length ((removed l i M).own l) - i ≡ length (M.own l) - suc i = omega (arith, removed_length M l i) in
        let marks : map (names n) ((removed l i M).own l) ≡ swap_remove (map (names n) (M.own l)) i false = ap (map (names n)) (removed_own M l i) ∙ map_swap (names n) [] (M.own l) i in
        (λ j. cleared (fewer j) l i (marks j) (removed l i M)) ∙ sym (one_more ∙ marked_goes (length (M.own l) - suc i) l i (map (names n) (M.own l)) M h (mark_at ∙ t))

    pub rest_stays : names n (get_or (M.own l) i []) ≡ false → rest (i + 1) M ≡ rest i M
    unfolding rest one_more
    rest_stays t =
        let next : i + 1 ≡ suc i = omega arith in
        (λ j. cleared (length (M.own l) - next j) l (next j) (map (names n) (M.own l)) M) ∙ sym (one_more ∙ other_stays (length (M.own l) - suc i) l i (map (names n) (M.own l)) M h (mark_at ∙ t))

  -- how far the clearing has come: from M and v it has come to N and w, with the place i next, after k clauses
  pub record Going (i k : ℕ) (M N : Meaning) (v w : Waiting) : Type 0 where
    pub left : rest i N ≡ without_named n l M
    pub far : length (N.own l) + k ≡ i + length (M.own l)
    pub follows : Follows M N v w

  pub going_starts : (M : Meaning) (v : Waiting) → Going 0 0 M M v v
  going_starts M v = record { left = rest_start M; far = omega arith; follows = follows_none M v }

  module _ (i k : ℕ) (M N : Meaning) (v w : Waiting) (g : Going i k M N v w) where
    pub going_ends : length (N.own l) ≤ i → N ≡ without_named n l M
    going_ends h = sym (rest_done i N h) ∙ g.left

    module _ (h : i < length (N.own l)) where
      pub going_stays : names n (get_or (N.own l) i []) ≡ false → Going (i + 1) (k + 1) M N v w
      going_stays t = record { left = rest_stays i N h t ∙ g.left; far = omega (arith, g.far); follows = g.follows }

      pub going_goes : names n (get_or (N.own l) i []) ≡ true → Lawful N → Lawful (removed l i N) → (x : Waiting) → SameWait w x
          → ((k : ℕ) → k < 2048 → counts_of x k ≡ counts_of w k - times k (front (get_or (N.own l) i []))) → Going i (k + 1) M (removed l i N) v x
      going_goes t L L' x s e = record {
        left = rest_goes i N h t ∙ g.left;
        far = omega (arith, g.far, removed_length N l i);
        follows = follows_two M N (removed l i N) v w x g.follows (record { index = λ J. removed_indexed N l i J h; waits = s; counts = λ J top c. goes_counting N J L l i h L' top w x e c });
      }

-- over a store: what its clauses mean, and at which place of an own list a handle stands
module _ {S H : Type 0} (meaning : S → Meaning) (at : S → H → ℕ → ℕ → Type 0) where
  module _ (n l k : ℕ) (M : Meaning) (v : Waiting) where
    -- after k clauses of own l, with the clause at hand next
    abbrev pub Cleared : S → Waiting → Option H → Type 0
    Cleared s w o = (i : ℕ) × Cursor (at s) (meaning s) l i o × Going n l i k M (meaning s) v w

    pub cleared_same : (s s' : S) (w w' : Waiting) (o o' : Option H) → s' ≡ s → w' ≡ w → o' ≡ o → Cleared s w o → Cleared s' w' o'
    cleared_same s s' w w' o o' a b e c = subst (λ t. Cleared t w' o') (sym a) (subst (λ t. Cleared s t o') (sym b) (subst (λ t. Cleared s w t) (sym e) c))

  module _ (n l k : ℕ) (M : Meaning) (v w : Waiting) (s : S) (h : H) (i : ℕ) (here : at s h l i × (i < length ((meaning s).own l))) (g : Going n l i k M (meaning s) v w) (C : List ℕ) (is : C ≡ get_or ((meaning s).own l) i []) (b : Bool) (told : b ≡ names n C) where
    pub clause_stays : b ≡ false → (o : Option H) → Cursor (at s) (meaning s) l (i + 1) o → Cleared n l (k + 1) M v s w o
    clause_stays t o q = (i + 1, q, going_stays n l i k M (meaning s) v w g here.1 (ap (names n) (sym is) ∙ sym told ∙ t))

    pub clause_goes : b ≡ true → ((t : S) → Lawful (meaning t)) → (s' : S) (x : Waiting) → meaning s' ≡ removed l i (meaning s) → SameWait w x
        → ((j : ℕ) → j < 2048 → counts_of x j ≡ counts_of w j - times j (front C)) → (r : Option (Option H)) (o : Option H) → o ≡ option_flatten r → Answered (at s') (meaning s') l i r → Cleared n l (k + 1) M v s' x o
    clause_goes t lawful s' x e same counts r o f q = (
      i,
      on_removed (at s') (meaning s') l i r o f q,
      subst (λ N. Going n l i (k + 1) M N v x) (sym e)
          (going_goes n l i k M (meaning s) v w g here.1 (ap (names n) (sym is) ∙ sym told ∙ t) (lawful s) (subst Lawful e (lawful s')) x same (subst (λ D. (j : ℕ) → j < 2048 → counts_of x j ≡ counts_of w j - times j (front D)) is counts)),
    )
