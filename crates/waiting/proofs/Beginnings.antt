-- What waits first, with what counts. Assumes nothing.
use Rattle.std.proofs.Common.{◌≡◌, ℕ, ◌+◌, ◌*◌, ◌<◌, ◌≤◌, ◌↔◌, length, get_or, ◌∙◌, ⊎_elim, arith}
use Rattle.std.specs.List.{range_with_len, ContainsAt as Has}
use Rattle.std.specs.List.Sorted.{IsPermutation}
use Rattle.std.proofs.ByRecursion.{has_shuffled}
use Rattle.std.proofs.lemmas.Bool.{cases_lt}
use Rattle.std.proofs.lemmas.List.{get_or_past}
use Rattle.std.proofs.lemmas.List.FromFn.{length-range_with_len, get_or-range_with_len}
use Rattle.std.proofs.lemmas.List.Sorted.{IsPermutation-sym}
use Rattle.queue.proofs.Lines.{counting_below}
use Rattle.queue.specs.Waiting.{waiting}
use Rattle.rules.specs.Store.{Meaning, count}
use Rattle.waiting.specs.Waits.{Begins}
use Rattle.waiting.specs.declared.waiting.Waiting.{Waiting}

-- the numbers up to top
up_to_top : (top n : ℕ) → Has (range_with_len 0 (top + 1)) n ↔ (n ≤ top)
up_to_top top n = (λ h. omega (arith, counting_below 0 (top + 1) n h), λ h. (n, omega (arith, length-range_with_len 0 (top + 1)), λ d. get_or-range_with_len 0 (top + 1) n d (omega arith) ∙ omega arith))

module _ (M : Meaning) (top : ℕ) (w : Waiting) (small : top ≤ 1023) (long : length w.counts.now ≡ 2048) where
  pub begins : ((l : ℕ) → l < 2048 → l < 2 * top + 2 → get_or w.counts.now l 0 ≡ count M l) → ((l : ℕ) → l < 2048 → 2 * top + 2 ≤ l → get_or w.counts.now l 0 ≡ 0)
      → IsPermutation (range_with_len 0 (top + 1)) (waiting w.queue) → Begins M top w
  begins counts none p = record {
    counts = λ l h. counts l (omega arith) h;
    none = λ l h. ⊎_elim (λ a. none l a h) (λ a. get_or_past w.counts.now l 0 (omega arith)) (cases_lt l 2048);
    waits = λ n. (
      λ h. (up_to_top top n).0 (has_shuffled (waiting w.queue) (range_with_len 0 (top + 1)) n (IsPermutation-sym (range_with_len 0 (top + 1)) (waiting w.queue) p) h),
      λ h. has_shuffled (range_with_len 0 (top + 1)) (waiting w.queue) n p ((up_to_top top n).1 h),
    );
  }
