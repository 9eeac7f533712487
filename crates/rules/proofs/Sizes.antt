-- How many clauses a subsume_simplify leaves, and how many words are handed out. Assumes nothing.
use Rattle.std.proofs.Common.{◌≡◌, ℕ, zero, suc, ◌+◌, ◌*◌, ◌≤◌, Bool, true, false, List, [], ◌∷◌, ◌++◌, map, length, Some, None, Option, sym, refl, subst, inl, inr, ⊎_elim, arith, flat_map}
use Rattle.std.proofs.lemmas.List.{length-append}
use Rattle.network.specs.Lists.{In}
use Rattle.network.specs.Values.{unit_of}
use Rattle.network.proofs.Lists.{in_cases}
use Rattle.image.specs.Runs.{written}
use Rattle.rules.specs.Store.{from, literals, sum_of, live_clauses, index_on}
use Rattle.rules.specs.Lawful.{Lawful}
use Rattle.rules.specs.Work.{Work, own_of, each, literals_of}
use Rattle.rules.specs.Subsume.{walk, subsume_simplify}
use Rattle.rules.specs.Calls.{only_unit, handed_out, runs_out, words_out}
use Rattle.rules.proofs.HowMany.{sum_part}
use Rattle.rules.proofs.Along.{fewer_chains, walks_along}
use Rattle.rules.proofs.Lives.{retire_fewer, shorten_fewer, index_live, unindex_live}
use Rattle.rules.proofs.Formed.{formed_parts}
use Rattle.rules.proofs.Const.{suc_from}
use Rattle.rules.proofs.Unrefused.{pairs}
use Rattle.rules.proofs.Words.{words_count}

-- ## subsume_simplify

pub subsume_fewer : (W : Work) → live_clauses (subsume_simplify W).store ≤ live_clauses W.store
unfolding subsume_simplify
subsume_fewer W =
    let M = index_on W.store in
    let N = each walk (literals_of W) M in
    let h : live_clauses N ≤ live_clauses M = walks_along (λ M N. live_clauses N ≤ live_clauses M) (fewer_chains live_clauses) retire_fewer shorten_fewer (literals_of W) M in
    omega (arith, unindex_live N, h, index_live W.store)

-- ## Words

written_few : (Cs : List (List ℕ)) → ((C : List ℕ) → In C Cs → length C ≤ 32) → length (written Cs) ≤ 33 * length Cs
unfolding written
written_few [] h = omega arith
written_few (C ∷ Cs) h = omega (arith, length-append C (written Cs), h C (inl refl), written_few Cs (λ D i. h D (inr i)))

module _ (W : Work) (L : Lawful W.store) where
  run_few : (n : ℕ) → length (written (handed_out W n)) ≤ 33 * (length (own_of W (2 * n)) + length (own_of W (2 * n + 1))) + 2
  unfolding handed_out
  run_few n = go (W.frozen n) (W.values n)
    where
      own_few : length (written (own_of W (2 * n) ++ own_of W (2 * n + 1))) ≤ 33 * (length (own_of W (2 * n)) + length (own_of W (2 * n + 1))) + 2
      own_few = omega (
        arith,
        length-append (own_of W (2 * n)) (own_of W (2 * n + 1)),
        written_few (own_of W (2 * n) ++ own_of W (2 * n + 1))
            (λ C i. ⊎_elim (λ j. (formed_parts C (L.formed (2 * n) C j)).short) (λ j. (formed_parts C (L.formed (2 * n + 1) C j)).short) (in_cases C (own_of W (2 * n)) (own_of W (2 * n + 1)) i)),
      )

      unit_few : (b : Bool) → length (written (unit_of n b ∷ [])) ≤ 33 * (length (own_of W (2 * n)) + length (own_of W (2 * n + 1))) + 2
      unit_few b = unfold written unit_of in (omega arith)

      go : (f : Bool) (o : Option Bool) → length (written (only_unit n f o (own_of W (2 * n) ++ own_of W (2 * n + 1)))) ≤ 33 * (length (own_of W (2 * n)) + length (own_of W (2 * n + 1))) + 2
      go f None = own_few
      go true (Some b) = unit_few b
      go false (Some b) = own_few

  runs_few : (t i : ℕ) → length (flat_map (λ r. r) (map (λ n. written (handed_out W n)) (from i t))) ≤ 33 * sum_of (map (λ n. length (own_of W (2 * n)) + length (own_of W (2 * n + 1))) (from i t)) + 2 * t
  runs_few zero i = omega arith
  runs_few (suc t) i = omega (arith, length-append (written (handed_out W i)) (flat_map (λ r. r) (map (λ n. written (handed_out W n)) (from (suc i) t))), run_few i, runs_few t (suc i))

pub words_few : (W : Work) → Lawful W.store → W.top ≤ 1023 → length (words_out W) ≤ 3 * W.top + 3 + 33 * live_clauses W.store
unfolding live_clauses
words_few W L small = sums (length (words_out W)) W.top (length (flat_map (λ r. r) (runs_out W))) (sum_of (map (λ n. length (own_of W (2 * n)) + length (own_of W (2 * n + 1))) (from 1 W.top))) (sum_of (map (λ l. length (W.store.own l)) (from (2 * 1) (2 * W.top)))) (sum_of (map (λ l. length (W.store.own l)) literals))
    (words_count W) (subst (λ ns. length (flat_map (λ r. r) (map (λ n. written (handed_out W n)) ns)) ≤ 33 * sum_of (map (λ n. length (own_of W (2 * n)) + length (own_of W (2 * n + 1))) (from 1 W.top)) + 2 * W.top) (sym (suc_from W.top 0)) (runs_few W L W.top 1))
    (pairs (λ l. length (W.store.own l)) W.top 1) (sum_part (λ l. length (W.store.own l)) 2048 0 (2 * W.top) (2 * 1) (omega arith) (omega arith))
  where
    sums : (a t g s p l : ℕ) → a ≡ t + 3 + g → g ≤ 33 * s + 2 * t → s ≡ p → p ≤ l → a ≤ 3 * t + 3 + 33 * l
    sums a t g s p l h q r w = omega arith
