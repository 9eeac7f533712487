-- A store's meaning by slots: the slots of each own list, the slots of each list of uses, and the clause in each slot.
-- Assumes nothing.
use Rattle.std.specs.Prelude.{◌≡◌, ℕ, suc, ◌-◌, Bool, cond, List, [], ◌∷◌, map, length, take, ◌==◌, slice_index_or, slice_set}
use Rattle.std.specs.List.{AllByRecursion}
use Rattle.rings.specs.Rings.{Differ}
use Rattle.network.specs.Clauses.{last}
use Rattle.rules.specs.Store.{Meaning, Ref, live, dead}

-- the place of slot x among those of an own list, from place k on
unfoldable pub seek : ℕ → ℕ → ℕ → List ℕ → Ref
seek l x k [] = dead
seek l x k (y ∷ ys) = cond (y == x) (live l k) (seek l x (suc k) ys)

-- where slot x stands
abbrev pub ref : (own : ℕ → List ℕ) (text : ℕ → List ℕ) → ℕ → Ref
ref own text x = seek (last (text x)) x 0 (own (last (text x)))

-- the meaning of a store with these slots in its own lists and its lists of uses, and this clause in each slot
abbrev pub meant : ℕ → Bool → (own used : ℕ → List ℕ) → (text : ℕ → List ℕ) → ℕ → Meaning
meant room ix own used text lost = record {
  room = room;
  indexed = ix;
  own = λ l. map text (own l);
  uses = λ k. map (ref own text) (used k);
  dead_clauses = lost;
}

-- what the own lists keep: each slot's clause ends in the list's literal, and no slot is twice in a list
pub record Kept (own : ℕ → List ℕ) (text : ℕ → List ℕ) : Type 0 where
  pub ends : (l : ℕ) → AllByRecursion (λ x. last (text x) ≡ l) (own l)
  pub differ : (l : ℕ) → Differ (own l)

-- the list without its place i, to which the last comes: cut first, and then written
abbrev pub filled_by_last : {X : Type 0} → X → ℕ → List X → List X
filled_by_last d i xs = slice_set (take (length xs - 1) xs) i (slice_index_or xs (length xs - 1) d)
