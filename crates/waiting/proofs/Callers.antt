-- The next node in the words of the rules, for a loop that takes all waiting nodes in turn. Assumes nothing.
use Rattle.std.proofs.Common.{◌≡◌, ℕ, zero, suc, ◌+◌, ◌*◌, ◌≤◌, Bool, not, eqb, ltb, cond, List, [], ◌∷◌, filter, Some, Option, refl, ap, ◌∙◌, subst, inl, inr, ⊎_elim, arith}
use Rattle.std.proofs.lemmas.Bool.{cond_both}
use Rattle.network.specs.Lists.{In}
use Rattle.network.specs.Clauses.{Rising}
use Rattle.network.proofs.Lists.{kept_in}
use Rattle.rules.specs.Bve.{use_count, least, but}
use Rattle.rules.specs.Store.{Meaning, from, up_to}
use Rattle.rules.proofs.Index.{in_up_to}
use Rattle.rules.proofs.Start.{from_in}
use Rattle.waiting.specs.Waits.{both_counts, WaitAll, Next, Counting, Begins}
use Rattle.waiting.specs.declared.waiting.Waiting.{Waiting}

-- the first least by one count is that by another, where both agree
least_same : (f g : ℕ → ℕ) (n : ℕ) (ks : List ℕ) → ((j : ℕ) → In j (n ∷ ks) → f j ≡ g j) → least f n ks ≡ least g n ks
least_same f g n [] e = refl
least_same f g n (k ∷ ks) e =
    let here = e n (inl refl) in
    let next = e k (inr (inl refl)) in
    let first = least_same f g k ks (λ j i. e j (inr i)) in
    let other = least_same f g n ks (λ j i. e j (⊎_elim inl (λ l. inr (inr l)) i)) in
    (λ i. cond (ltb (next i) (here i)) (first i) (other i))

-- while the counts are those of a store, the next node is the one with the fewest uses there
pub next_counted : (M : Meaning) (top : ℕ) (v w : Waiting) (r : Option ℕ) (ns : List ℕ) → Counting M top v → ((n : ℕ) → In n ns → n ≤ top) → Next (both_counts v) ns r w → Next (use_count M) ns r w
next_counted M top v w r [] c low p = p
next_counted M top v w r (k ∷ ks) c low p =
    let counted : (n : ℕ) → In n (k ∷ ks) → both_counts v n ≡ use_count M n = λ n i. let h = low n i in (λ j. c (2 * n) (omega arith) j + c (2 * n + 1) (omega arith) j) in
    let e = least_same (both_counts v) (use_count M) k ks counted in
    (p.0 ∙ ap Some e, subst (λ n. WaitAll w (but n (k ∷ ks))) e p.1)

-- the others rise as they did
pub but_rising : (n : ℕ) (ns : List ℕ) → Rising ns → Rising (but n ns)
but_rising n ns = kept (λ j. not (eqb j n)) ns
  where
    kept : (p : ℕ → Bool) (xs : List ℕ) → Rising xs → Rising (filter p xs)
    kept p [] r = r
    kept p (x ∷ xs) (h, r) = cond_both (p x) (x ∷ filter p xs) (filter p xs) Rising (λ t. (λ y i. h y (kept_in p y xs i).0, kept p xs r)) (λ f. kept p xs r)

-- the numbers from 0 on rise
pub up_to_rising : (m : ℕ) → Rising (up_to m)
up_to_rising m = rises m 0
  where
    rises : (m a : ℕ) → Rising (from a m)
    rises zero a = tt
    rises (suc m) a = (λ y i. omega (arith, (from_in m (suc a) y i).0), rises m (suc a))

-- at the beginning the nodes 0 to top wait
pub begins_waiting : (M : Meaning) (top : ℕ) (w : Waiting) → Begins M top w → WaitAll w (up_to (suc top))
begins_waiting M top w b n = (λ h. in_up_to (suc top) n (omega (arith, (b.waits n).0 h)), λ i. (b.waits n).1 (omega (arith, (from_in (suc top) 0 n i).1)))
