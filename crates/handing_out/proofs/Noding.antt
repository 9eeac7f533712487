-- The run of a node, by what becomes of its clauses. Assumes nothing.
use Rattle.std.proofs.Common.{◌≡◌, ℕ, ◌+◌, ◌*◌, List, [], ◌∷◌, ◌++◌, length, ap, ◌∙◌}
use Rattle.std.proofs.lemmas.List.{length-append}
use Rattle.image.specs.Runs.{written}
use Rattle.rules.specs.Work.{Work, own_of}
use Rattle.rules.specs.Calls.{only_unit, handed_out}
use Rattle.handing_out.proofs.Alone.{handed_is}
use Rattle.handing_out.proofs.Runs.{written_append, written_one}

-- one literal alone
pub run_alone : (W : Work) (n l : ℕ) → ((Cs : List (List ℕ)) → only_unit n (W.frozen n) (W.values n) Cs ≡ (l ∷ []) ∷ []) → written (handed_out W n) ≡ 1 ∷ l ∷ []
run_alone W n l e = ap written (handed_is W n (λ Cs. (l ∷ []) ∷ []) e) ∙ written_one (l ∷ [])

-- the two own lists
pub run_lists : (W : Work) (n : ℕ) → ((Cs : List (List ℕ)) → only_unit n (W.frozen n) (W.values n) Cs ≡ Cs) → written (handed_out W n) ≡ written (own_of W (2 * n)) ++ written (own_of W (2 * n + 1))
run_lists W n e = ap written (handed_is W n (λ Cs. Cs) e) ∙ written_append (own_of W (2 * n)) (own_of W (2 * n + 1))

-- as long as both together
pub lists_length : (W : Work) (n : ℕ) → ((Cs : List (List ℕ)) → only_unit n (W.frozen n) (W.values n) Cs ≡ Cs) → length (written (handed_out W n)) ≡ length (written (own_of W (2 * n))) + length (written (own_of W (2 * n + 1)))
lists_length W n e = ap length (run_lists W n e) ∙ length-append (written (own_of W (2 * n))) (written (own_of W (2 * n + 1)))
