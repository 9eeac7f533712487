-- What the types of the code stand for in the definitions of `network`. Assumes nothing.
use Rattle.std.specs.Prelude.{ℕ, Bool, true, false, cond, not, List, Some, None, Option, ◌==◌, slice_index_or}
use Rattle.network.specs.Values.{Values}
use Rattle.clause.specs.declared.literals.Lit.{Lit}
use Rattle.clause.specs.declared.literals.Lbool.{Lbool}
use Rattle.clause.specs.declared.literals.Lbool.TheVariants.{False, True, Unknown}

-- what a known value tells of a node
abbrev pub told : Lbool → Option Bool
told False = Some false
told True = Some true
told Unknown = None

-- what a byte tells of a node: 1 true, 0 false, any other nothing
abbrev pub told_by : ℕ → Option Bool
told_by n = cond (n == 1) (Some true) (cond (n == 0) (Some false) None)

-- whether what is known is b
abbrev pub is : Bool → Option Bool → Bool
is b None = false
is b (Some v) = cond b v (not v)

-- the values that a slice holds by node; past its end nothing is known
abbrev pub values_of : List Lbool → Values
values_of vs n = told (slice_index_or vs n Unknown)

-- the answer of a test with its literal as a word
abbrev pub worded : Bool × Option Lit → Bool × Option ℕ
worded (b, None) = (b, None)
worded (b, Some l) = (b, Some l.word)
