-- Where a store answers yes. Assumes nothing.
use Rattle.std.proofs.Common.{◌≡◌, ℕ, ◌<◌, Bool, true, eqb, List, [], length, get_or, sym, refl, ap, ◌∙◌, ⊎_elim}
use Rattle.std.proofs.lemmas.Bool.{and_from, lt-ltb, eq-eqb}
use Rattle.network.specs.Assignments.{node}
use Rattle.network.specs.Lists.{In}
use Rattle.network.specs.Clauses.{has, front, owner}
use Rattle.network.proofs.Lists.{any_from}
use Rattle.rules.specs.Store.{Meaning, allowed, present, enterable, droppable, entered, retired, shortened, enter, retire, shorten}
use Rattle.rules.proofs.Verdicts.{owner_last}
use Rattle.rules.proofs.TakenOut.{front_or_last}

allowed_yes : (b : Bool) (M N : Meaning) → b ≡ true → allowed b M N ≡ (N, true)
allowed_yes b M N e = ap (λ c. allowed c M N) e

pub enter_yes : (C : List ℕ) (M : Meaning) → enterable M C ≡ true → enter C M ≡ (entered C M, true)
unfolding enter
enter_yes C M e = allowed_yes (enterable M C) M (entered C M) e

pub retire_yes : (l i : ℕ) (M : Meaning) → i < length (M.own l) → retire l i M ≡ (retired l i M, true)
unfolding retire
retire_yes l i M h = allowed_yes (present M l i) M (retired l i M) (lt-ltb i (length (M.own l)) h)

pub shorten_yes : (l i x : ℕ) (M : Meaning) → droppable M l i x ≡ true → shorten l i x M ≡ (shortened l i x M, true)
unfolding shorten
shorten_yes l i x M h = allowed_yes (droppable M l i x) M (shortened l i x M) h

pub has_from : (x : ℕ) (C : List ℕ) → In x C → has x C ≡ true
has_from x C i = any_from (eqb x) C x i (eq-eqb x x refl)

-- a literal of another node than the owner's stands before the last place
pub droppable_yes : (M : Meaning) (l i x : ℕ) → i < length (M.own l) → In x (get_or (M.own l) i []) → (node x ≡ owner (get_or (M.own l) i []) → ⊥) → droppable M l i x ≡ true
droppable_yes M l i x li h a = and_from (present M l i) (has x (front (get_or (M.own l) i []))) (lt-ltb i (length (M.own l)) li)
    (has_from x (front (get_or (M.own l) i [])) (⊎_elim (λ f. f) (λ e. absurd (a (ap node e ∙ sym (owner_last (get_or (M.own l) i []))))) (front_or_last (get_or (M.own l) i []) x h)))
