-- Clauses entered one after another, with the counts told. Assumes nothing.
use Rattle.std.proofs.Common.{◌≡◌, ℕ, suc, ◌+◌, ◌-◌, ◌^◌, ◌<◌, ◌≤◌, Bool, true, false, ltb, min, List, [], ◌∷◌, ◌++◌, map, filter, length, get_or, take, sym, refl, ap, ◌∙◌, subst, arith}
use Rattle.std.proofs.lemmas.Bool.{and_from, and_parts, lt-ltb, le-leb, cond-true, cond-false}
use Rattle.std.proofs.lemmas.List.{length-take-le, get_or-take, take_more, append-nil, map-append}
use Rattle.std.proofs.lemmas.List.Elements.{filter-append}
use Rattle.lemmas.specs.Lines.{clauses_of, Lined}
use Rattle.lemmas.specs.Words.{named}
use Rattle.lemmas.specs.declared.Lemmas.{Lemmas}
use Rattle.network.specs.Clauses.{front, well_formed}
use Rattle.rules.specs.Lawful.{Lawful}
use Rattle.rules.specs.Store.{Meaning, kept_clauses, enterable, entered, enter}
use Rattle.rules.specs.Work.{add, each}
use Rattle.rules.proofs.Index.{entered_indexed}
use Rattle.simplifier.specs.Shown.{work_of}
use Rattle.simplifier.specs.declared.state.Simplifier.{Simplifier}
use Rattle.waiting.specs.Waits.{counts_of, times, SameWait}
use Rattle.waiting.specs.declared.waiting.Waiting.{Waiting}
use Rattle.waiting.proofs.Kept.{comes_counting}
use Rattle.removing.specs.Follows.{Follows}
use Rattle.removing.specs.Owed.{stands, owed, Settled}
use Rattle.removing.proofs.Following.{follows_none, follows_two}
use Rattle.removing.proofs.Ruled.{each_parts}

-- ## One clause

module _ (M N : Meaning) (D : List ℕ) (made : N ≡ (enter D M).0) where
  pub refused_follows : enterable M D ≡ false → (v : Waiting) → Follows M N v v
  unfolding enter
  refused_follows f v = let is = made ∙ ap (λ (r : Meaning × Bool). r.0) (cond-false (enterable M D) (entered D M, true) (M, false) f) in subst (λ P. Follows M P v v) (sym is) (follows_none M v)

  pub entered_follows : enterable M D ≡ true → Lawful N → M.room ≤ 4096 → (v w : Waiting) → SameWait v w → ((k : ℕ) → k < 2048 → counts_of w k ≡ min (counts_of v k + times k (front D)) (2 ^ 32 - 1)) → Follows M N v w
  unfolding enter
  entered_follows t L small v w s e =
      let is = made ∙ ap (λ (r : Meaning × Bool). r.0) (cond-true (enterable M D) (entered D M, true) (M, false) t) in
      let formed = (and_parts (well_formed D) (ltb (kept_clauses M) M.room) t).0 in
      subst (λ P. Follows M P v w) (sym is) (record { index = entered_indexed M D; waits = s; counts = λ I top c. comes_counting M I D formed small (subst Lawful is L) top v w e c })

-- ## All

module _ {S : Type 0} (meaning : S → Meaning) where
  pub settled_none : (s : Simplifier S) (v : Waiting) → Settled meaning [] s s v v
  settled_none s v = record { made = λ out. refl; flags = refl; follows = follows_none (meaning s.store) v }

  pub settled_more : (Cs Ds : List (List ℕ)) (s t u : Simplifier S) (v w x : Waiting) → Settled meaning Cs s t v w → Settled meaning Ds t u w x → Settled meaning (Cs ++ Ds) s u v x
  settled_more Cs Ds s t u v w x a b = record {
    made = λ out. b.made out ∙ ap (each add Ds) (a.made out) ∙ sym (each_parts add Cs Ds (work_of meaning s out));
    flags = b.flags ∙ a.flags;
    follows = follows_two (meaning s.store) (meaning t.store) (meaning u.store) v w x a.follows b.follows;
  }

  pub settled_same : (Cs Ds : List (List ℕ)) (s t u : Simplifier S) (v w x : Waiting) → Ds ≡ Cs → u ≡ t → x ≡ w → Settled meaning Cs s t v w → Settled meaning Ds s u v x
  settled_same Cs Ds s t u v w x a b e d = subst (λ Es. Settled meaning Es s u v x) (sym a) (subst (λ y. Settled meaning Cs s y v x) (sym b) (subst (Settled meaning Cs s t v) (sym e) d))

-- ## The line

module _ {X : Type 0} (f : ℕ → X) (p : ℕ → Bool) (xs : List ℕ) where
  -- one number more
  pub line_taken : (i : ℕ) → i < length xs → p (get_or xs i 0) ≡ true → map f (filter p (take (i + 1) xs)) ≡ map f (filter p (take i xs)) ++ (f (get_or xs i 0) ∷ [])
  line_taken i h t = ap (map f) (ap (filter p) (take_more xs i 0 h) ∙ filter-append p (take i xs) (get_or xs i 0 ∷ []) ∙ ap (λ ys. filter p (take i xs) ++ ys) (cond-true (p (get_or xs i 0)) (get_or xs i 0 ∷ []) [] t)) ∙ map-append f (filter p (take i xs)) (get_or xs i 0 ∷ [])

  pub line_passed : (i : ℕ) → i < length xs → p (get_or xs i 0) ≡ false → map f (filter p (take (i + 1) xs)) ≡ map f (filter p (take i xs))
  line_passed i h t = ap (map f) (ap (filter p) (take_more xs i 0 h) ∙ filter-append p (take i xs) (get_or xs i 0 ∷ []) ∙ ap (λ ys. filter p (take i xs) ++ ys) (cond-false (p (get_or xs i 0)) (get_or xs i 0 ∷ []) [] t) ∙ append-nil (filter p (take i xs)))

-- a test that all pass keeps all
filter_all : (p : ℕ → Bool) (xs : List ℕ) → ((i : ℕ) → i < length xs → p (get_or xs i 0) ≡ true) → filter p xs ≡ xs
filter_all p [] h = refl
filter_all p (x ∷ xs) h = cond-true (p x) (x ∷ filter p xs) (filter p xs) (h 0 (omega arith)) ∙ ap (λ ys. x ∷ ys) (filter_all p xs (λ i l. h (suc i) (omega arith)))

-- where each number of the line names a clause that has its words, all that it names are owed
pub owed_lined : (n : ℕ) (w : Lemmas) → Lined (clauses_of w) w.order.now n → owed n w ≡ named (clauses_of w) (take n w.order.now)
owed_lined n w d = ap (named (clauses_of w)) (filter_all (stands w) (take n w.order.now) (λ i h.
    let long = length-take-le n w.order.now d.within in
    let in' : i < n = omega arith in
    let s = d.stands i in' in
    subst (λ k. stands w k ≡ true) (sym (get_or-take n w.order.now i 0 in')) (and_from _ _ (and_from _ _ (lt-ltb _ _ s.counted) (le-leb _ _ s.room)) (le-leb _ _ s.short))))
