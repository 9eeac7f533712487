-- A word with its last bit turned, and what is known of a literal that is true where its node is. Assumes nothing.
use Rattle.std.proofs.Common.{◌≡◌, ℕ, ◌%◌, Bool, true, Some, None, Option, refl, arith}
use lib.Bits.{bit_xor, bit_and, xor_add_and, and_mask}
use Rattle.std.proofs.lemmas.Bool.Decides.{nat_tests}
use Rattle.network.specs.Assignments.{opposite}
use Rattle.network.specs.Values.{flipped}

pub xor_opposite : (l : ℕ) → bit_xor l 1 ≡ opposite l
unfolding opposite
xor_opposite l = let e = xor_add_and l 1 in let m : bit_and l 1 ≡ l % 2 = and_mask l 1 in grind (arith, nat_tests)

pub flipped_same : (o : Option Bool) → o ≡ flipped true o
flipped_same None = refl
flipped_same (Some b) = refl
