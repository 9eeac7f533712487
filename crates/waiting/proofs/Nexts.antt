-- The first entry of a heap of nodes is the node with the fewest uses, of those the lowest. Assumes nothing.
use Rattle.std.proofs.Common.{◌≡◌, ℕ, zero, suc, ◌<◌, true, false, not, eqb, ltb, ◌↔◌, ◌⊎◌, List, [], ◌∷◌, Some, None, Option, length, sym, refl, ap, subst, inl, inr, ⊎_elim, arith}
use Rattle.std.specs.Prelude.{MatchOption, ⊤}
use Rattle.std.specs.List.{ContainsAt as Has}
use Rattle.std.proofs.ByRecursion.{has_shuffled, all-has}
use Rattle.std.proofs.lemmas.Bool.{both_ways, cond_both}
use Rattle.std.proofs.lemmas.Bool.Decides.{nat_tests}
use Rattle.std.proofs.lemmas.List.Sorted.{IsPermutation-sym}
use Rattle.network.specs.Lists.{In}
use Rattle.network.specs.Clauses.{Rising}
use Rattle.network.proofs.Lists.{in_kept, kept_in}
use Rattle.queue.specs.Keys.{by_key, by_key_orders}
use Rattle.queue.specs.Heaps.{Heap, Popped}
use Rattle.queue.specs.Orders.{Test}
use Rattle.queue.specs.Places.{Placed}
use Rattle.queue.specs.Waiting.{waiting}
use Rattle.queue.specs.declared.Queue.{Queue}
use Rattle.queue.proofs.Index.{place_of}
use Rattle.rules.specs.Bve.{least, but}
use Rattle.waiting.specs.Waits.{WaitAll, Next}
use Rattle.waiting.specs.declared.waiting.Waiting.{Waiting}

-- an entry of a list with one more
has_cases : (e j : ℕ) (ys : List ℕ) → Has (e ∷ ys) j → (j ≡ e) ⊎ Has ys j
has_cases e j ys (zero, l, at) = inl (sym (at 0))
has_cases e j ys (suc k, l, at) = inr (k, omega arith, at)

has_later : (e j : ℕ) (ys : List ℕ) → Has ys j → Has (e ∷ ys) j
has_later e j ys (k, l, at) = (suc k, omega arith, at)

has_first : (e : ℕ) (ys : List ℕ) → Has (e ∷ ys) e
has_first e ys = (0, omega arith, λ d. refl)

module _ (f : ℕ → ℕ) where
  -- e stands before each other of the list
  abbrev Ahead : ℕ → List ℕ → Type 0
  Ahead e ns = (j : ℕ) → In j ns → (j ≡ e → ⊥) → by_key f e j ≡ true

  least_is : (e n : ℕ) (ks : List ℕ) → In e (n ∷ ks) → Rising (n ∷ ks) → Ahead e (n ∷ ks) → least f n ks ≡ e
  least_is e n [] h r a = grind arith
  least_is e n (k ∷ ks) h r a =
      cond_both (ltb (f k) (f n)) (least f k ks) (least f n ks) (λ m. m ≡ e)
      (λ t. least_is e k ks (⊎_elim (λ q. absurd (first q t)) (λ i. i) h) r.1 (λ j i. a j (inr i)))
      (λ t. least_is e n ks (⊎_elim inl (⊎_elim (λ q. absurd (second q t)) inr) h) (λ y i. r.0 y (inr i), r.1.1) (λ j i. a j (⊎_elim inl (λ l. inr (inr l)) i)))
    where
      rises : n < k
      rises = r.0 k (inl refl)

      first : e ≡ n → ltb (f k) (f n) ≡ true → ⊥
      first q t = let b = a k (inr (inl refl)) (λ z. omega (arith, z, q, rises)) in grind (arith, nat_tests, b, t, q, ap f q)

      second : e ≡ k → ltb (f k) (f n) ≡ false → ⊥
      second q t = let b = a n (inl refl) (λ z. omega (arith, z, q, rises)) in grind (arith, nat_tests, b, t, q, rises, ap f q)

  -- nothing was left to hand out
  next_none : (w : Waiting) (q : Queue) (ns : List ℕ) → waiting q ≡ [] → w.queue ≡ q → ((n : ℕ) → Has (waiting q) n ↔ In n ns) → Next f ns None w
  next_none w q [] e same all = (refl, λ n. (λ h. absurd (none n (subst (λ r. Has (waiting r) n) same h)), λ h. absurd h))
    where
      none : (n : ℕ) → Has (waiting q) n → ⊥
      none n h = (all n).0 h
  next_none w q (k ∷ ks) e same all = let h = subst (λ ys. Has ys k) e ((all k).1 (inl refl)) in absurd (omega (arith, h.1))

  module _ (w : Waiting) (xs : List ℕ) (e : ℕ) (heap : Heap (by_key f) xs) (p : Popped (by_key f) xs e (waiting w.queue)) where
    ahead_all : (ns : List ℕ) → ((n : ℕ) → Has xs n ↔ In n ns) → Ahead e ns
    ahead_all ns all j h ne = ⊎_elim (λ q. absurd (ne q)) (λ later. all-has (λ y. by_key f e y ≡ true) (waiting w.queue) j (p.first heap) later) (has_cases e j (waiting w.queue) (has_shuffled xs (e ∷ waiting w.queue) j p.shuffled ((all j).1 h)))

    left_all : (ns : List ℕ) → ((n : ℕ) → Has xs n ↔ In n ns) → WaitAll w (but e ns)
    left_all ns all n = (stays, leaves)
      where
        apart : Has (waiting w.queue) n → n ≡ e → ⊥
        apart h q = both_ways (by_key f e e) ((by_key_orders f).apart e) (all-has (λ y. by_key f e y ≡ true) (waiting w.queue) e (p.first heap) (subst (Has (waiting w.queue)) q h))

        stays : Has (waiting w.queue) n → In n (but e ns)
        stays h = in_kept (λ j. not (eqb j e)) n ns ((all n).0 (has_shuffled (e ∷ waiting w.queue) xs n (IsPermutation-sym xs (e ∷ waiting w.queue) p.shuffled) (has_later e n (waiting w.queue) h))) (grind (arith, nat_tests, apart h))

        leaves : In n (but e ns) → Has (waiting w.queue) n
        leaves h =
            let (i, t) = kept_in (λ j. not (eqb j e)) n ns h in
            ⊎_elim (λ q. absurd (grind (arith, nat_tests, q, t))) (λ l. l) (has_cases e n (waiting w.queue) (has_shuffled xs (e ∷ waiting w.queue) n p.shuffled ((all n).1 i)))

    -- the first entry was handed out
    pub next_some : (ns : List ℕ) → Rising ns → ((n : ℕ) → Has xs n ↔ In n ns) → Next f ns (Some e) w
    next_some [] r all = absurd ((all e).0 (has_shuffled (e ∷ waiting w.queue) xs e (IsPermutation-sym xs (e ∷ waiting w.queue) p.shuffled) (has_first e (waiting w.queue))))
    next_some (k ∷ ks) r all =
        let is : In e (k ∷ ks) = (all e).0 (has_shuffled (e ∷ waiting w.queue) xs e (IsPermutation-sym xs (e ∷ waiting w.queue) p.shuffled) (has_first e (waiting w.queue))) in
        let q : least f k ks ≡ e = least_is e k ks is r (ahead_all (k ∷ ks) all) in
        (ap Some (sym q), subst (λ n. WaitAll w (but n (k ∷ ks))) (sym q) (left_all (k ∷ ks) all))

-- what a pop answers
pub next_is : (f : ℕ → ℕ) (w : Waiting) (q : Queue) (r : Option ℕ) → Heap (by_key f) (waiting q) → MatchOption r ((waiting q ≡ []) × (w.queue ≡ q)) (λ e. Popped (by_key f) (waiting q) e (waiting w.queue))
    → (ns : List ℕ) → Rising ns → ((n : ℕ) → Has (waiting q) n ↔ In n ns) → Next f ns r w
next_is f w q None heap p ns r all = next_none f w q ns p.0 p.1 all
next_is f w q (Some e) heap p ns r all = next_some f w (waiting q) e heap p ns r all

-- what a pop hands out has its place
pub popped_below : (ahead : Test) (xs ys ps : List ℕ) (Q : Type 0) (r : Option ℕ) → MatchOption r ((xs ≡ []) × Q) (λ e. Popped ahead xs e ys) → Placed xs ps → MatchOption r ⊤ (λ e. e < length ps)
popped_below ahead xs ys ps Q None p h = tt
popped_below ahead xs ys ps Q (Some e) p h = (place_of xs ps e h (has_shuffled (e ∷ ys) xs e (IsPermutation-sym xs (e ∷ ys) p.shuffled) (has_first e ys))).0
