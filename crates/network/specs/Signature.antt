-- The signature of a clause: 128 bits in two halves, to which each literal adds the bit of its number modulo 128.
-- Assumes nothing.
use Rattle.std.specs.Prelude.{◌≡◌, ℕ, ◌+◌, ◌-◌, ◌/◌, ◌%◌, ◌^◌, Bool, cond, ◌&&◌, List, ◌==◌, fold, bit_and, bit_or, count_ones, nat_lt}
use Rattle.network.specs.Lists.{In}

-- the place of a literal's bit among the 128
abbrev pub place : ℕ → ℕ
place l = l % 128

-- bit j of n
abbrev pub bit : ℕ → ℕ → ℕ
bit n j = n / 2 ^ j % 2

-- the low half n with the bit of a literal, where the bit stands there
abbrev pub low : ℕ → ℕ → ℕ
low n l = cond (nat_lt (place l) 64) (bit_or n (2 ^ place l)) n

-- the high half n with the bit of a literal, where the bit stands there
abbrev pub high : ℕ → ℕ → ℕ
high n l = cond (nat_lt (place l) 64) n (bit_or n (2 ^ (place l - 64)))

-- the signature of a clause, its low half first: each half takes in one literal after another
abbrev pub signature : List ℕ → ℕ × ℕ
signature C = (fold low 0 C, fold high 0 C)

-- bit j of the 128
abbrev pub bit_at : ℕ × ℕ → ℕ → ℕ
bit_at s j = cond (nat_lt j 64) (bit s.0 j) (bit s.1 (j - 64))

-- the signature s has the bit of each literal of D, as that of D has, and that of any clause that D is part of
abbrev pub Covers : ℕ × ℕ → List ℕ → Type 0
Covers s D = (l : ℕ) → In l D → bit_at s (place l) ≡ 1

-- no bit of s is missing in t
abbrev pub within : ℕ × ℕ → ℕ × ℕ → Bool
within s t = bit_and s.0 t.0 == s.0 && bit_and s.1 t.1 == s.1

-- how many bits of s are missing in t
abbrev pub missing : ℕ × ℕ → ℕ × ℕ → ℕ
missing s t = count_ones (s.0 - bit_and s.0 t.0) + count_ones (s.1 - bit_and s.1 t.1)
