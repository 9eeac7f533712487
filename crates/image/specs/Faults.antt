-- Refusals: a number from the table, and a place. 1 head, 2 cut, 3 order, 4 owner, 5 wide, 6 clash, 7 count, 8 stranger,
-- 9 room, 10 short, 11 full, 12 loose, 13 half, 14 margin.
-- Assumes nothing.
use Rattle.std.specs.Prelude.{ℕ, Bool, cond, Ok, Err, Result}
use Rattle.image.specs.declared.fault.Fault.{Fault}
use Rattle.image.specs.declared.fault.Refusal.{Refusal}
use Rattle.image.specs.declared.fault.Refusal.TheVariants.{Head, Cut, Order, Owner, Wide, Clash, Count, Stranger, Room, Short, Full, Loose, Half, Margin}

-- the refusal with number n at the place p
abbrev pub fault : ℕ → ℕ → Fault
fault n p = record { number = n; place = p }

-- the number of a refusal in the table
abbrev pub number_of : Refusal → ℕ
number_of Head = 1
number_of Cut = 2
number_of Order = 3
number_of Owner = 4
number_of Wide = 5
number_of Clash = 6
number_of Count = 7
number_of Stranger = 8
number_of Room = 9
number_of Short = 10
number_of Full = 11
number_of Loose = 12
number_of Half = 13
number_of Margin = 14

-- go on with what was found, or stop at the refusal
infixr 20 ◌then◌
abbrev pub ◌then◌ : {X Y : Type 0} → Result X Fault → (X → Result Y Fault) → Result Y Fault
◌then◌ r f = elim r [ Ok x ↦ f x | Err e ↦ Err e ]

-- refused with f unless b
abbrev pub tested : Bool → Fault → Result (Unit {0}) Fault
tested b f = cond b (Ok tt) (Err f)
