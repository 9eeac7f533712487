-- What handing out answers, once the need is known. Assumes nothing.
use Rattle.std.proofs.Common.{◌≡◌, ℕ, ◌<◌, ◌≤◌, leb, List, [], ◌++◌, length, drop, Ok, Err, sym, refl, ap, ◌∙◌, arith}
use Rattle.std.proofs.lemmas.Bool.{cond-true, cond-false, le-leb, lt-leb}
use Rattle.image.specs.Faults.{fault}
use Rattle.image.specs.declared.fault.Fault.{Fault}
use Rattle.rules.specs.Store.{Meaning}
use Rattle.rules.specs.Work.{Work}
use Rattle.rules.specs.Calls.{handed_out, words_out, finalize_answer}
use Rattle.simplifier.specs.Shown.{work_of}
use Rattle.simplifier.specs.declared.state.Simplifier.{Simplifier}
use Rattle.handing_out.specs.Outcome.{counted, left_in}

module _ {S : Type 0} (M : S → Meaning) (s : Simplifier S) (n : ℕ) where
  abbrev W : Work
  W = work_of M s []

  -- the nodes that are gone make no difference
  gone_same : (gone : List ℕ) → finalize_answer n (work_of M s gone) ≡ finalize_answer n W
  unfolding finalize_answer words_out handed_out
  gone_same gone = refl

  -- too few words
  refused : (gone : List ℕ) → n < length (words_out W) → finalize_answer n (work_of M s gone) ≡ Err (fault 14 (length (words_out W)))
  unfolding finalize_answer
  refused gone h = gone_same gone ∙ cond-false (leb (length (words_out W)) n) (Ok (words_out W)) (Err (fault 14 (length (words_out W)))) (lt-leb (length (words_out W)) n h)

  -- enough words
  given : (gone : List ℕ) → length (words_out W) ≤ n → finalize_answer n (work_of M s gone) ≡ Ok (words_out W)
  unfolding finalize_answer
  given gone h = gone_same gone ∙ cond-true (leb (length (words_out W)) n) (Ok (words_out W)) (Err (fault 14 (length (words_out W)))) (le-leb (length (words_out W)) n h)

  module _ (need : ℕ) (e : need ≡ length (words_out W)) (gone : List ℕ) where
    pub refused_answer : n < need → (f : Fault) → f ≡ fault 14 need → Err f ≡ counted (finalize_answer n (work_of M s gone))
    refused_answer h f p = ap Err (p ∙ ap (fault 14) e) ∙ sym (ap counted (refused gone (omega arith)))

    pub refused_words : n < need → (old : List ℕ) → old ≡ left_in old (finalize_answer n (work_of M s gone))
    refused_words h old = sym (ap (left_in old) (refused gone (omega arith)))

    pub given_answer : need ≤ n → Ok need ≡ counted (finalize_answer n (work_of M s gone))
    given_answer h = ap Ok e ∙ sym (ap counted (given gone (omega arith)))

    pub given_words : need ≤ n → (old : List ℕ) → words_out W ++ drop (length (words_out W)) old ≡ left_in old (finalize_answer n (work_of M s gone))
    given_words h old = sym (ap (left_in old) (given gone (omega arith)))
