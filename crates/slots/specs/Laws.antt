-- Each change of the slots is the change of the meaning. Assumes nothing.
use Rattle.std.specs.Prelude.{◌≡◌, ℕ, suc, ◌<◌, Bool, true, false, cond, ◌&&◌, List, [], ◌∷◌, ◌++◌, length, filter, ◌≢◌, slice_index, flat_map}
use Rattle.std.specs.List.{AllByRecursion, list_any}
use Rattle.network.specs.Clauses.{last, front, has, without}
use Rattle.rings.specs.Rings.{Lacks, at, drop_at}
use Rattle.rules.specs.Store.{entered, removed, retired, shortened, index_on, literals}
use Rattle.slots.specs.Slots.{meant, Kept, filled_by_last}

-- of slots in lists, whatever keeps them
pub record SlotLaws : Type 0 where
  -- a slot that nothing has is given the clause C, and comes last in its own list and in the uses of its other literals
  pub enters : (room : ℕ) (ix : Bool) (own used text own' used' text' : ℕ → List ℕ) (lost x : ℕ) (C : List ℕ) → ((l : ℕ) → Lacks x (own l)) → ((k : ℕ) → Lacks x (used k)) →
      ((l : ℕ) → own' l ≡ at own (last C) (own (last C) ++ (x ∷ [])) l) → ((k : ℕ) → used' k ≡ cond (ix && has k (front C)) (used k ++ (x ∷ [])) (used k)) →
      text' x ≡ C → ((l : ℕ) → AllByRecursion (λ y. text' y ≡ text y) (own l)) → ((k : ℕ) → AllByRecursion (λ y. text' y ≡ text y) (used k)) →
      meant room ix own' used' text' lost ≡ entered C (meant room ix own used text lost)
  -- the slot at place i leaves, the last comes to its place, and the uses lose it
  pub removes : (own own' text : ℕ → List ℕ) → Kept own text → (l i : ℕ) → i < length (own l) → ((m : ℕ) → own' m ≡ at own l (filled_by_last 0 i (own l)) m) →
      (room : ℕ) (ix : Bool) (used used' : ℕ → List ℕ) (lost : ℕ) → ((m : ℕ) → used' m ≡ without (slice_index (own l) i) (used m)) →
      meant room ix own' used' text lost ≡ removed l i (meant room ix own used text lost)
  -- the slot at place i leaves, order kept, and is lost if a list of uses has it
  pub retires : (own text : ℕ → List ℕ) → Kept own text → (l i : ℕ) → i < length (own l) → (own' : ℕ → List ℕ) → ((m : ℕ) → own' m ≡ at own l (drop_at i (own l)) m) →
      (room : ℕ) (ix : Bool) (used : ℕ → List ℕ) (lost lost' : ℕ) → lost' ≡ cond (list_any (λ m. has (slice_index (own l) i) (used m)) literals) (suc lost) lost →
      meant room ix own' used text lost' ≡ retired l i (meant room ix own used text lost)
  -- the clause of the slot at place i loses v, not its last literal
  pub shortens : (own text : ℕ → List ℕ) → Kept own text → (l i : ℕ) → i < length (own l) → (text' : ℕ → List ℕ) (v : ℕ) → text' (slice_index (own l) i) ≡ without v (text (slice_index (own l) i)) → last (text' (slice_index (own l) i)) ≡ l →
      (room : ℕ) (ix : Bool) (used : ℕ → List ℕ) (lost : ℕ) → ((m : ℕ) → AllByRecursion (λ y. (y ≢ slice_index (own l) i) → text' y ≡ text y) (own m)) → ((m : ℕ) → AllByRecursion (λ y. (y ≢ slice_index (own l) i) → text' y ≡ text y) (used m)) →
      meant room ix own used text' lost ≡ shortened l i v (meant room ix own used text lost)
  -- each literal's uses are filled with the slots whose clause has it before the last place
  pub indexes : (room : ℕ) (own used used' text : ℕ → List ℕ) (lost : ℕ) → Kept own text → ((m : ℕ) → used' m ≡ flat_map (λ l. filter (λ x. has m (front (text x))) (own l)) literals) →
      meant room true own used' text 0 ≡ index_on (meant room false own used text lost)
