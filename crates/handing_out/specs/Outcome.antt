-- What handing out answers, and what it leaves in the words lent to it. Assumes nothing.
use Rattle.std.specs.Prelude.{ℕ, List, ◌++◌, length, drop, Ok, Err, Result}
use Rattle.image.specs.declared.fault.Fault.{Fault}

-- the number of words in place of the words
abbrev pub counted : Result (List ℕ) Fault → Result ℕ Fault
counted (Ok ws) = Ok (length ws)
counted (Err f) = Err f

-- the words of an answer in front of the lent words that are past them; the lent words as they were where it is refused
abbrev pub left_in : List ℕ → Result (List ℕ) Fault → List ℕ
left_in old (Ok ws) = ws ++ drop (length ws) old
left_in old (Err f) = old
