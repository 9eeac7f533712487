-- What start answers, once its tests are known. Assumes nothing.
use Rattle.std.proofs.Common.{◌≡◌, ℕ, suc, ◌/◌, ◌<◌, ◌≤◌, leb, Bool, true, false, List, Err, Option, sym, ap, ◌∙◌}
use Rattle.std.proofs.lemmas.Bool.{le-leb, lt-leb}
use Rattle.image.specs.Faults.{fault, tested, ◌then◌}
use Rattle.image.specs.Headers.{top}
use Rattle.image.specs.declared.fault.Fault.{Fault}
use Rattle.intake.specs.Answers.{loose_nodes, first_of}
use Rattle.intake.specs.Accepted.{total}
use Rattle.rules.specs.Store.{Meaning}
use Rattle.rules.specs.Calls.{unless_loose, start, started}
use Rattle.starting.specs.Refused.{refused}

module _ (ws : List ℕ) (fs : List Bool) (M : Meaning) (n : ℕ) (e : n ≡ suc (total ws (top ws))) where
  -- what is answered, by the test of the room
  by_room : (b : Bool) → leb n (M.room / 2) ≡ b → start ws fs M ≡ (tested b (fault 11 n) then (λ _. unless_loose (first_of (loose_nodes ws fs (top ws))) (started ws fs M)))
  unfolding start
  by_room b t =
      ap (λ k. tested (leb k (M.room / 2)) (fault 11 k) then (λ _. unless_loose (first_of (loose_nodes ws fs (top ws))) (started ws fs M))) (sym e)
      ∙ ap (λ c. tested c (fault 11 n) then (λ _. unless_loose (first_of (loose_nodes ws fs (top ws))) (started ws fs M))) t

  -- too many clauses
  pub full : M.room / 2 < n → (f : Fault) → f ≡ fault 11 n → Err f ≡ refused (start ws fs M)
  full h f p = ap Err p ∙ sym (ap refused (by_room false (lt-leb n (M.room / 2) h)))

  -- the lowest loose node, if there is one
  pub loose : n ≤ M.room / 2 → (o : Option ℕ) → o ≡ first_of (loose_nodes ws fs (top ws)) → refused (unless_loose o (started ws fs M)) ≡ refused (start ws fs M)
  loose h o p = ap (λ q. refused (unless_loose q (started ws fs M))) p ∙ sym (ap refused (by_room true (le-leb n (M.room / 2) h)))
