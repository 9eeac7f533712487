-- The check of a store's room and words. Assumes nothing.
use Rattle.std.specs.Prelude.{ℕ, ◌+◌, ◌*◌, ◌%◌, Bool, ◌&&◌, Result, ◌==◌, nat_le}
use Rattle.image.specs.declared.fault.Fault.{Fault}
use Rattle.image.specs.Faults.{fault, tested, ◌then◌}

-- a room that a store can have: even, and from 2 to 4,096
abbrev pub fair_room : ℕ → Bool
fair_room room = nat_le 2 room && (nat_le room 4096 && room % 2 == 0)

-- the words for so many clauses, by the words for each and the words besides
abbrev pub need_of : ℕ → ℕ → ℕ → ℕ
need_of each fixed room = each * room + fixed

-- refused with 9 at the room, if no store can have it, and else with 10 at the need, if the words are fewer
abbrev pub checked : ℕ → ℕ → ℕ → ℕ → Result (Unit {0}) Fault
checked each fixed room words = tested (fair_room room) (fault 9 room) then (λ _. tested (nat_le (need_of each fixed room) words) (fault 10 (need_of each fixed room)))

-- whether that check refuses nothing
abbrev pub sized : ℕ → ℕ → ℕ → ℕ → Bool
sized each fixed room words = fair_room room && nat_le (need_of each fixed room) words
