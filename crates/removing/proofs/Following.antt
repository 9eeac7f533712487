-- Changes of a store, one after another, and what follows. Assumes nothing.
use Rattle.rules.specs.Store.{Meaning}
use Rattle.waiting.specs.declared.waiting.Waiting.{Waiting}
use Rattle.waiting.proofs.Waits.{same_trans}
use Rattle.removing.specs.Follows.{Follows}

-- no change
pub follows_none : (M : Meaning) (v : Waiting) → Follows M M v v
follows_none M v = record { index = λ I. I; waits = λ n. (λ h. h, λ h. h); counts = λ I top c. c }

-- two changes
pub follows_two : (M N P : Meaning) (v w x : Waiting) → Follows M N v w → Follows N P w x → Follows M P v x
follows_two M N P v w x a b = record { index = λ I. b.index (a.index I); waits = same_trans v w x a.waits b.waits; counts = λ I top c. b.counts (a.index I) top (a.counts I top c) }
