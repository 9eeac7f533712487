-- Every call of a store and every pass keeps the meaning of the store lawful, and its room. Assumes nothing.
use Rattle.std.proofs.Common.{◌≡◌, ℕ, zero, suc, ◌+◌, ◌<◌, ◌≤◌, Bool, true, false, not, ◌&&◌, eqb, ltb, ◌⊎◌, List, [], ◌∷◌, map, length, refl, ◌∙◌, subst, inl, inr, ⊎_elim, arith}
use Rattle.std.proofs.lemmas.Bool.{cases_eq, both_ways, ltb-true}
use Rattle.std.proofs.lemmas.Bool.Decides.{nat_tests}
use Rattle.network.specs.Lists.{In}
use Rattle.rules.specs.Store.{Ref, live, dead, Meaning, is_at, is_dead, from, sum_of, how_many, count, live_clauses, kept_clauses, entered, removed, retired, shortened, index_on, index_off, present, enterable, droppable, enter, remove, retire, shorten}
use Rattle.rules.specs.Lawful.{Lawful, ChangesLawful, PassesLawful}
use Rattle.rules.specs.Work.{Work, each, literals_of, add}
use Rattle.rules.specs.Const.{const_node, const_simplify}
use Rattle.rules.specs.Bve.{taken_out, attempt, bve_simplify}
use Rattle.rules.specs.Subsume.{walk, subsume_simplify}
use Rattle.rules.proofs.HowMany.{count_more, count_none, count_either}
use Rattle.rules.proofs.Along.{Chains, each_along, entry_cases, allowed_along, taken_out_along, Steps, node_along, const_along, attempt_along, bve_along, walks_along}
use Rattle.rules.proofs.Lawful.{own_small, entered_lawful, removed_lawful, retired_lawful, shortened_lawful, index_on_lawful, index_on_room, index_off_lawful, emptied_lawful}

-- N comes of M by lawful changes
abbrev pub Keeps : Meaning → Meaning → Type 0
Keeps M N = Lawful M → Lawful N × (N.room ≡ M.room)

pub keeps_chains : Chains Keeps
keeps_chains = record { same = λ M L. (L, refl); next = λ M N R f g L. let (a, b) = f L in let (c, d) = g a in (c, d ∙ b) }

entered_room : (C : List ℕ) (M : Meaning) → (entered C M).room ≡ M.room
unfolding entered
entered_room C M = refl

removed_room : (l i : ℕ) (M : Meaning) → (removed l i M).room ≡ M.room
unfolding removed
removed_room l i M = refl

retired_room : (l i : ℕ) (M : Meaning) → (retired l i M).room ≡ M.room
unfolding retired
retired_room l i M = refl

shortened_room : (l i x : ℕ) (M : Meaning) → (shortened l i x M).room ≡ M.room
unfolding shortened
shortened_room l i x M = refl

pub enter_keeps : (C : List ℕ) (M : Meaning) → Keeps M (enter C M).0
unfolding enter
enter_keeps C M = allowed_along Keeps keeps_chains (enterable M C) M (entered C M) (λ e L. (entered_lawful C M L e, entered_room C M))

removed_keeps : (l i : ℕ) (M : Meaning) → i < length (M.own l) → Keeps M (removed l i M)
removed_keeps l i M h L = (removed_lawful l i M L h, removed_room l i M)

remove_keeps : (l i : ℕ) (M : Meaning) → Keeps M (remove l i M).0
unfolding remove
remove_keeps l i M = allowed_along Keeps keeps_chains (present M l i) M (removed l i M) (λ e. removed_keeps l i M (ltb-true i (length (M.own l)) e))

retire_keeps : (l i : ℕ) (M : Meaning) → Keeps M (retire l i M).0
unfolding retire
retire_keeps l i M = allowed_along Keeps keeps_chains (present M l i) M (retired l i M) (λ e L. (retired_lawful l i M L (ltb-true i (length (M.own l)) e), retired_room l i M))

shorten_keeps : (l i x : ℕ) (M : Meaning) → Keeps M (shorten l i x M).0
unfolding shorten
shorten_keeps l i x M = allowed_along Keeps keeps_chains (droppable M l i x) M (shortened l i x M) (λ e L. (shortened_lawful l i x M L e, shortened_room l i x M))

pub index_on_keeps : (M : Meaning) → Keeps M (index_on M)
index_on_keeps M L = (index_on_lawful M L, index_on_room M L)

pub index_off_keeps : (M : Meaning) → Keeps M (index_off M)
index_off_keeps M L = (index_off_lawful M L, unfold index_off in refl)

pub changes_lawful : ChangesLawful
changes_lawful = record {
  begins = emptied_lawful;
  enters = enter_keeps;
  removes = remove_keeps;
  retires = retire_keeps;
  shortens = shorten_keeps;
  indexes = index_on_keeps;
  unindexes = index_off_keeps;
}

-- ## The passes

abbrev pub KeepsWork : Work → Work → Type 0
KeepsWork W N = Keeps W.store N.store

pub add_keeps : (C : List ℕ) (W : Work) → KeepsWork W (add C W)
add_keeps C W = entry_cases C W (KeepsWork W) (keeps_chains.same W.store) (λ S e. enter_keeps S W.store)

keeps_work : Chains KeepsWork
keeps_work = record { same = λ W. keeps_chains.same W.store; next = λ W N R. keeps_chains.next W.store N.store R.store }

pub keeps_steps : Steps KeepsWork
keeps_steps = record { chains = keeps_work; enters = add_keeps; removes = λ l i W. removed_keeps l i W.store; takes = λ n W. keeps_chains.same W.store }

pub adds_keep : (Cs : List (List ℕ)) (W : Work) → KeepsWork W (each add Cs W)
adds_keep = each_along KeepsWork keeps_work add add_keeps

pub const_node_keeps : (n : ℕ) (W : Work) → KeepsWork W (const_node n W)
const_node_keeps = node_along KeepsWork keeps_steps

pub taken_out_keeps : (n : ℕ) (W : Work) → KeepsWork W (taken_out n W)
taken_out_keeps = taken_out_along Keeps keeps_chains removed_keeps

pub attempt_keeps : (n : ℕ) (W : Work) → KeepsWork W (attempt n W)
attempt_keeps = attempt_along KeepsWork keeps_steps

pub const_keeps : (W : Work) → KeepsWork W (const_simplify W)
const_keeps = const_along KeepsWork keeps_steps (λ W. index_off_keeps W.store)

pub bve_keeps : (W : Work) → KeepsWork W (bve_simplify W)
bve_keeps = bve_along KeepsWork keeps_steps (λ W. index_on_keeps W.store)

pub subsume_keeps : (W : Work) → KeepsWork W (subsume_simplify W)
unfolding subsume_simplify
subsume_keeps W =
    let M = index_on W.store in
    let N = each walk (literals_of W) M in
    keeps_chains.next W.store M (index_off N) (index_on_keeps W.store)
    (keeps_chains.next M N (index_off N) (walks_along Keeps keeps_chains retire_keeps shorten_keeps (literals_of W) M) (index_off_keeps N))

pub passes_lawful : PassesLawful
passes_lawful = record { const = const_keeps; bve = bve_keeps; subsume = subsume_keeps }

-- ## Counts

-- a ref to one of the first n places of own l
abbrev low_at : ℕ → ℕ → Ref → Bool
low_at l n dead = false
low_at l n (live k j) = eqb k l && ltb j n

-- a ref to a place of own k for some k below m
abbrev low : ℕ → Ref → Bool
low m dead = false
low m (live k j) = ltb k m

module _ (M : Meaning) (L : Lawful M) (x : ℕ) where
  low_count : (l n : ℕ) → how_many (low_at l n) (M.uses x) ≤ n
  low_count l zero = omega (arith, count_none (low_at l 0) (M.uses x) (λ r h e. none r e))
    where
      none : (r : Ref) → low_at l 0 r ≡ true → ⊥
      none dead e = both_ways false refl e
      none (live k j) e = grind (arith, nat_tests)
  low_count l (suc n) = omega (arith, count_either (low_at l (suc n)) (low_at l n) (is_at l n) (M.uses x) (λ r h e. split r e), low_count l n, L.once x l n)
    where
      split : (r : Ref) → low_at l (suc n) r ≡ true → (low_at l n r ≡ true) ⊎ (is_at l n r ≡ true)
      split dead e = absurd (both_ways false refl e)
      split (live k j) e = ⊎_elim (λ q. inr (grind (arith, nat_tests))) (λ a. inl (grind (arith, nat_tests))) (cases_eq j n)

  live_count : (n i : ℕ) → how_many (λ r. low (i + n) r && not (low i r)) (M.uses x) ≤ sum_of (map (λ l. length (M.own l)) (from i n))
  live_count zero i = omega (arith, count_none (λ r. low (i + 0) r && not (low i r)) (M.uses x) (λ r h e. none r e))
    where
      none : (r : Ref) → (low (i + 0) r && not (low i r)) ≡ true → ⊥
      none dead e = both_ways false refl e
      none (live k j) e = grind (arith, nat_tests)
  live_count (suc n) i = omega (arith, count_either (λ r. low (i + suc n) r && not (low i r)) (low_at i (length (M.own i))) (λ r. low (suc i + n) r && not (low (suc i) r)) (M.uses x) (λ r h e. split r h e), low_count i (length (M.own i)), live_count n (suc i))
    where
      split : (r : Ref) → In r (M.uses x) → (low (i + suc n) r && not (low i r)) ≡ true → (low_at i (length (M.own i)) r ≡ true) ⊎ ((low (suc i + n) r && not (low (suc i) r)) ≡ true)
      split dead h e = absurd (both_ways false refl e)
      split (live k j) h e = ⊎_elim (λ q. inl (here q (subst (λ g. j < length (M.own g)) q (L.named x k j h)))) (λ a. inr (grind (arith, nat_tests))) (cases_eq k i)
        where
          here : k ≡ i → j < length (M.own i) → (eqb k i && ltb j (length (M.own i))) ≡ true
          here q b = grind (arith, nat_tests)

  all_counted : (rs : List Ref) → length rs ≤ how_many (λ r. not (is_dead r)) rs + how_many is_dead rs
  unfolding how_many
  all_counted [] = omega arith
  all_counted (dead ∷ rs) = omega (arith, all_counted rs)
  all_counted (live k j ∷ rs) = omega (arith, all_counted rs)

  count_small : count M x ≤ kept_clauses M
  unfolding live_clauses
  count_small = sums (count M x) (how_many (λ r. not (is_dead r)) (M.uses x)) (how_many is_dead (M.uses x)) (how_many (λ r. low (0 + 2048) r && not (low 0 r)) (M.uses x)) (sum_of (map (λ l. length (M.own l)) (from 0 2048))) M.dead_clauses
      (all_counted (M.uses x)) (count_more (λ r. not (is_dead r)) (λ r. low (0 + 2048) r && not (low 0 r)) (M.uses x) there) (live_count 2048 0) (L.mourned x)
    where
      sums : (c a d b t e : ℕ) → c ≤ a + d → a ≤ b → b ≤ t → d ≤ e → c ≤ t + e
      sums c a d b t e p q r s = omega arith

      there : (r : Ref) → In r (M.uses x) → not (is_dead r) ≡ true → (low (0 + 2048) r && not (low 0 r)) ≡ true
      there dead h e = absurd (both_ways false refl e)
      there (live k j) h e = let b = own_small M L k j (L.named x k j h) in grind (arith, nat_tests)

pub counts_small : (M : Meaning) → Lawful M → (x : ℕ) → count M x ≤ kept_clauses M
counts_small M L x = count_small M L x
