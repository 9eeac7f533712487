-- What a literal and a clause say of an assignment. Assumes nothing.
use Rattle.std.proofs.Common.{◌≡◌, ℕ, Bool, not, ◌⊎◌, arith}
use Rattle.std.proofs.lemmas.Bool.Decides.{nat_tests}
use Rattle.network.specs.Assignments.{Assignment, node, opposite, lit, put}

pub neg_neg : (l : ℕ) → opposite (opposite l) ≡ l
unfolding opposite
neg_neg l = grind (arith, nat_tests)

pub node_neg : (l : ℕ) → node (opposite l) ≡ node l
unfolding opposite
node_neg l = grind (arith, nat_tests)

pub neg_apart : (l : ℕ) → opposite l ≡ l → ⊥
unfolding opposite
neg_apart l e = grind (arith, nat_tests)

pub node_cases : (l m : ℕ) → node l ≡ node m → (l ≡ m) ⊎ (l ≡ opposite m)
unfolding opposite
node_cases l m e = grind (arith, nat_tests)

pub lit_neg : (σ : Assignment) (l : ℕ) → lit σ (opposite l) ≡ not (lit σ l)
unfolding opposite lit
lit_neg σ l = grind (arith, nat_tests)

pub lit_agree : (σ τ : Assignment) (l : ℕ) → σ (node l) ≡ τ (node l) → lit σ l ≡ lit τ l
unfolding lit
lit_agree σ τ l e = rw e

pub put_here : (σ : Assignment) (n : ℕ) (b : Bool) → put σ n b n ≡ b
unfolding put
put_here σ n b = grind (arith, nat_tests)

pub put_apart : (σ : Assignment) (n : ℕ) (b : Bool) (k : ℕ) → (k ≡ n → ⊥) → put σ n b k ≡ σ k
unfolding put
put_apart σ n b k h = grind (arith, nat_tests)

-- what is known of opposite literals, for `grind`
pub ruleset signs = (node_neg, neg_apart, node_cases, lit_neg)
