-- The resolvents of a node as they are collected in lent words. Assumes nothing.
use Rattle.std.specs.Prelude.{◌≡◌, ℕ, Bool, true, not, ◌||◌, List, ◌++◌, length, nat_lt, flat_map, option_to_list}
use Rattle.std.specs.List.{list_any, range_with_len}
use Rattle.network.specs.Assignments.{opposite}
use Rattle.network.specs.Resolution.{resolve}
use Rattle.lemmas.specs.Words.{named, SameLent}
use Rattle.rules.specs.Store.{Meaning, Ref}
use Rattle.rules.specs.Bve.{referred_clause, resolvents, greatest_length}
use Rattle.resolving.specs.declared.resolvents.Resolvents.{Resolvents}

-- one of the clauses is longer than 32 literals, or there are more than `most`: at the cost of a node, what `given_up` of the rules says
abbrev pub too_much : ℕ → List (List ℕ) → Bool
too_much most Rs = list_any (λ R. nat_lt greatest_length (length R)) Rs || nat_lt most (length Rs)

-- the resolvent of the clause C upon p with the clause that the ref r is to, if there is one
abbrev pub resolvent_with : Meaning → ℕ → List ℕ → Ref → List (List ℕ)
resolvent_with M p C r = option_to_list (resolve p C (referred_clause M r))

-- the resolvents of the clause C upon p with the clauses that the refs rs are to
abbrev pub resolvents_with : Meaning → ℕ → List Ref → List ℕ → List (List ℕ)
resolvents_with M p rs C = flat_map (resolvent_with M p C) rs

-- the resolvents upon p of the clauses that have it last, with the uses of its opposite
abbrev pub of_sign : Meaning → ℕ → List (List ℕ)
of_sign M p = resolvents M p (M.own p) (M.uses (opposite p))

-- the resolvents that stand in the words
abbrev pub collected : Resolvents → List (List ℕ)
collected R = named (record { lengths = R.lengths; literals = R.literals }) (range_with_len 0 R.count)

-- the clauses Rs come after those that stand there, if b; otherwise all these are too much. The same words stay lent
pub record Added (Rs : List (List ℕ)) (b : Bool) (R R' : Resolvents) : Type 0 where
  pub when : b ≡ not (too_much R.most (collected R ++ Rs))
  pub added : b ≡ true → collected R' ≡ collected R ++ Rs
  pub most : R'.most ≡ R.most
  pub lengths : SameLent R.lengths R'.lengths
  pub literals : SameLent R.literals R'.literals
