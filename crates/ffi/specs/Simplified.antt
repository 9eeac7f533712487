-- What the library answers of the words lent to it, and what it writes in them. Assumes nothing.
use Rattle.std.specs.Prelude.{ℕ, ◌≤◌, Bool, true, false, List, length, Err, Ok, Result, IfErr, IfOk}
use Rattle.image.specs.Faults.{◌then◌}
use Rattle.image.specs.declared.fault.Fault.{Fault}
use Rattle.intake.specs.Answers.{only_zero}
use Rattle.input.specs.Inputs.{image_answer, with_frozen}
use Rattle.rules.specs.Store.{Meaning}
use Rattle.rules.specs.Calls.{start, simplify_answer}
use Rattle.rules.specs.Theorem.{SameSettings, flags}
use Rattle.slotted.specs.Tied.{blank}
use Rattle.store.specs.Checks.{checked}

-- the words that simplify writes of the work that starts of an image, flags of frozen nodes and a store; n working words and room for
-- m words are lent
unfoldable pub simplified_over : ℕ → ℕ → List ℕ → List Bool → Meaning → Result (List ℕ) Fault
simplified_over n m ws fs M = start ws fs M then (λ W. (simplify_answer n m W).1)

-- the check of a store of a kind, indexed or scanned
abbrev pub store_checked : Bool → ℕ → ℕ → Result (Unit {0}) Fault
store_checked true room words = checked 120 16384 room words
store_checked false room words = checked 48 4096 room words

-- what comes before a store is made in so many words: the image ws is taken in, the nodes ns are frozen in order, the store is checked
unfoldable pub prepared : Bool → List ℕ → List ℕ → ℕ → ℕ → Result (Unit {0}) Fault
prepared indexed ws ns room words = image_answer ws ns then (λ _. store_checked indexed room words)

-- the words written: those that simplify writes of the work over an empty store
abbrev pub simplified : Bool → List ℕ → List ℕ → ℕ → ℕ → ℕ → ℕ → Result (List ℕ) Fault
simplified indexed ws ns room words n m = prepared indexed ws ns room words then (λ _. simplified_over n m ws (with_frozen only_zero ns) (blank room))

-- ## What C is told

-- 0, or the number of the refusal
abbrev pub number_told : Result (List ℕ) Fault → ℕ
number_told (Ok ws) = 0
number_told (Err f) = f.number

-- how many words were written, or the place of the refusal
abbrev pub place_told : Result (List ℕ) Fault → ℕ
place_told (Ok ws) = length ws
place_told (Err f) = f.place

-- ## What holds of every answer

-- the image handed out admits exactly the settings of the frozen nodes that the image taken in admits
abbrev pub Settled : List ℕ → List ℕ → Result (List ℕ) Fault → Type 0
Settled ws ns r = IfOk r (λ vs. SameSettings (flags (with_frozen only_zero ns)) vs ws)

-- where it is a refusal, its number is one of the table, and so not 0
pub record Numbered {X : Type 0} (r : Result X Fault) : Type 0 where
  pub number : IfErr r (λ f. (1 ≤ f.number) × (f.number ≤ 14))
