-- What own lists hold. Assumes nothing.
use Rattle.std.specs.Prelude.{◌≡◌, ℕ, ◌+◌, ◌<◌, List, length, slice_index}
use Rattle.owned.specs.Totals.{total}
use Rattle.owned.specs.Layout.{own_at, lost_at, clause_in, listed_in}
use Rattle.owned.specs.declared.owned.Owned.{Owned}

-- the slots of the own list of l
abbrev pub own : Owned → ℕ → List ℕ
own s l = own_at s.room s.links.now l

-- the lost slots: those of retired clauses that uses have
abbrev pub lost : Owned → List ℕ
lost s = lost_at s.room s.links.now

-- the clause in slot x
abbrev pub text : Owned → ℕ → List ℕ
text s x = clause_in s.texts.now x

-- the literals that uses have slot x at: those of its clause but the last, and those that it lost
abbrev pub listed : Owned → ℕ → List ℕ
listed s x = listed_in s.texts.now x

-- how many slots are not free
abbrev pub kept : Owned → ℕ
kept s = total 2048 (λ l. length (own s l)) + length (lost s)

-- slot x stands at place i of the own list of l
abbrev pub At : Owned → ℕ → ℕ → ℕ → Type 0
At s x l i = (i < length (own s l)) × (slice_index (own s l) i ≡ x)
