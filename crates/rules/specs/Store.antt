-- What a store of clauses means, and what each change makes of that.
-- Assumes nothing.
use Rattle.std.specs.Prelude.{ℕ, zero, suc, ◌+◌, ◌-◌, Bool, true, false, cond, not, ◌&&◌, List, [], ◌∷◌, ◌++◌, map, length, filter, ◌==◌, nat_lt, slice_index_or, slice_set, flat_map}
use Rattle.std.specs.List.{list_any, swap_remove, remove as removed_at}
use Rattle.network.specs.Clauses.{without, has, last, front, well_formed}

-- what a list of uses refers to: place i of the clauses whose last literal is l, or a clause that is there no more
pub data Ref : Type 0 where
  live : ℕ → ℕ → Ref
  dead : Ref

-- room: how many clauses a store can keep; own l: the clauses whose last literal is l;
-- uses l: where l stands before the last place; dead-clauses: how many clauses only lists of uses have
pub record Meaning : Type 0 where
  pub room : ℕ
  pub indexed : Bool
  pub own : ℕ → List (List ℕ)
  pub uses : ℕ → List Ref
  pub dead_clauses : ℕ

-- the ref is to place i of own l
abbrev pub is_at : ℕ → ℕ → Ref → Bool
is_at l i (live k j) = k == l && j == i
is_at l i dead = false

-- the ref is to a clause that is there no more
abbrev pub is_dead : Ref → Bool
is_dead (live k j) = false
is_dead dead = true

-- so many numbers from i on, by successors, as the proofs count (the library's `range_with_len` adds 1)
abbrev pub from : ℕ → ℕ → List ℕ
from i zero = []
from i (suc n) = i ∷ from (suc i) n

-- the numbers below n
abbrev pub up_to : ℕ → List ℕ
up_to n = from 0 n

-- the literals of the nodes up to 1,023
abbrev pub literals : List ℕ
literals = up_to 2048

-- the sum, head by head, as the proofs count (the library's `sum` is a fold)
abbrev pub sum_of : List ℕ → ℕ
sum_of [] = 0
sum_of (n ∷ ns) = n + sum_of ns

-- how many pass the test, head by head (the library's `count_by` is a fold)
unfoldable pub how_many : {X : Type 0} → (X → Bool) → List X → ℕ
how_many p [] = 0
how_many p (x ∷ xs) = cond (p x) (suc (how_many p xs)) (how_many p xs)

-- the count of a literal is the length of its list of uses
abbrev pub count : Meaning → ℕ → ℕ
count M l = length (M.uses l)

-- how many clauses are live: in an own list
unfoldable pub live_clauses : Meaning → ℕ
live_clauses M = sum_of (map (λ l. length (M.own l)) literals)

-- how many clauses are kept, live or dead
abbrev pub kept_clauses : Meaning → ℕ
kept_clauses M = live_clauses M + M.dead_clauses

-- the clause at place i of own l, empty where there is none
abbrev pub clause_at : Meaning → ℕ → ℕ → List ℕ
clause_at M l i = slice_index_or (M.own l) i []

-- f with the value x at l
unfoldable pub changed : {X : Type 0} → (ℕ → X) → ℕ → X → ℕ → X
changed f l x k = cond (k == l) x (f k)

-- ## Effects

-- no clause and no index
abbrev pub emptied : Meaning → Meaning
emptied M = record { room = M.room; indexed = false; own = λ l. []; uses = λ l. []; dead_clauses = 0 }

-- the list of uses with one more, if b
abbrev pub with_use : Bool → List Ref → Ref → List Ref
with_use b rs r = cond b (rs ++ (r ∷ [])) rs

-- C comes last in its own list and, with an index, in the uses of each literal but its last
unfoldable pub entered : List ℕ → Meaning → Meaning
entered C M = record {
  room = M.room;
  indexed = M.indexed;
  own = changed M.own (last C) (M.own (last C) ++ (C ∷ []));
  uses = λ x. with_use (M.indexed && has x (front C)) (M.uses x) (live (last C) (length (M.own (last C))));
  dead_clauses = M.dead_clauses;
}

-- a ref to the place `from` of own l becomes one to the place `to`
abbrev pub moved_ref : ℕ → ℕ → ℕ → Ref → Ref
moved_ref l from to r = cond (is_at l from r) (live l to) r

-- place i of own l goes, and the list's last clause comes there; refs to the one leave, and refs to the other follow it
unfoldable pub removed : ℕ → ℕ → Meaning → Meaning
removed l i M = record {
  room = M.room;
  indexed = M.indexed;
  own = changed M.own l (swap_remove (M.own l) i []);
  uses = λ x. map (moved_ref l (length (M.own l) - 1) i) (filter (λ r. not (is_at l i r)) (M.uses x));
  dead_clauses = M.dead_clauses;
}

-- a ref once place i of own l is retired: dead if it was to that place, and one place less if it was behind
abbrev pub after_retired : ℕ → ℕ → Ref → Ref
after_retired l i dead = dead
after_retired l i (live k j) = cond (k == l) (cond (j == i) dead (cond (nat_lt i j) (live k (j - 1)) (live k j))) (live k j)

-- some list of uses has place i of own l
abbrev pub referred : Meaning → ℕ → ℕ → Bool
referred M l i = list_any (λ x. list_any (is_at l i) (M.uses x)) literals

-- place i of own l goes, order kept; lists of uses that have it keep it as dead
unfoldable pub retired : ℕ → ℕ → Meaning → Meaning
retired l i M = record {
  room = M.room;
  indexed = M.indexed;
  own = changed M.own l (removed_at (M.own l) i);
  uses = λ x. map (after_retired l i) (M.uses x);
  dead_clauses = cond (referred M l i) (suc M.dead_clauses) M.dead_clauses;
}

-- place i of own l loses the literal x, and the uses stay
unfoldable pub shortened : ℕ → ℕ → ℕ → Meaning → Meaning
shortened l i x M = record {
  room = M.room;
  indexed = M.indexed;
  own = changed M.own l (slice_set (M.own l) i (without x (slice_index_or (M.own l) i [])));
  uses = M.uses;
  dead_clauses = M.dead_clauses;
}

-- the list with r in front, if b
abbrev pub with_first : Bool → Ref → List Ref → List Ref
with_first b r rs = cond b (r ∷ rs) rs

-- where x stands before the last place, among the clauses Cs of own l, the first of which has the place i
unfoldable pub places : ℕ → ℕ → ℕ → List (List ℕ) → List Ref
places x l i [] = []
places x l i (C ∷ Cs) = with_first (has x (front C)) (live l i) (places x l (suc i) Cs)

-- the uses of every literal are filled, by nodes rising
abbrev pub filled : Meaning → Meaning
filled M = record {
  room = M.room;
  indexed = true;
  own = M.own;
  uses = λ x. flat_map (λ l. places x l 0 (M.own l)) literals;
  dead_clauses = 0;
}

-- the same, unless an index stands
unfoldable pub index_on : Meaning → Meaning
index_on M = cond M.indexed M (filled M)

-- the uses are dropped
unfoldable pub index_off : Meaning → Meaning
index_off M = record { room = M.room; indexed = false; own = M.own; uses = λ x. []; dead_clauses = 0 }

-- ## Calls, each with its answer: no, with nothing changed, or yes

-- yes with N if b, and else no with M
abbrev pub allowed : Bool → Meaning → Meaning → Meaning × Bool
allowed b M N = cond b (N, true) (M, false)

-- own l has a place i
abbrev pub present : Meaning → ℕ → ℕ → Bool
present M l i = nat_lt i (length (M.own l))

-- C may be entered: it is well formed, and fewer clauses are kept than there is room for
abbrev pub enterable : Meaning → List ℕ → Bool
enterable M C = well_formed C && nat_lt (kept_clauses M) M.room

-- x may be dropped from place i of own l: it stands there, before the last place
abbrev pub droppable : Meaning → ℕ → ℕ → ℕ → Bool
droppable M l i x = present M l i && has x (front (clause_at M l i))

-- entering
unfoldable pub enter : List ℕ → Meaning → Meaning × Bool
enter C M = allowed (enterable M C) M (entered C M)

-- removing
unfoldable pub remove : ℕ → ℕ → Meaning → Meaning × Bool
remove l i M = allowed (present M l i) M (removed l i M)

-- retiring
unfoldable pub retire : ℕ → ℕ → Meaning → Meaning × Bool
retire l i M = allowed (present M l i) M (retired l i M)

-- shortening
unfoldable pub shorten : ℕ → ℕ → ℕ → Meaning → Meaning × Bool
shorten l i x M = allowed (droppable M l i x) M (shortened l i x M)
