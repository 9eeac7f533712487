-- How many clauses are live after a change. Assumes nothing.
use Rattle.std.proofs.Common.{◌≡◌, ℕ, suc, ◌-◌, ◌<◌, ◌≤◌, List, [], ◌∷◌, map, length, get_or, sym, refl, ap, ◌∙◌, subst, ⊎_elim, arith, Bool}
use Rattle.std.specs.List.{swap_remove}
use Rattle.std.proofs.lemmas.Bool.{cases_eq, cond_both, ltb-true}
use Rattle.std.proofs.lemmas.List.Edits.{length-remove}
use Rattle.std.proofs.lemmas.List.{length-append}
use Rattle.network.specs.Lists.{In}
use Rattle.network.specs.Clauses.{last}
use Rattle.rules.specs.Store.{Meaning, literals, sum_of, live_clauses, kept_clauses, entered, removed, retired, shortened, index_on, index_off, droppable, retire, shorten}
use Rattle.rules.proofs.Places.{in_at, at_in, retired_own, retired_apart, shortened_length, part_at}
use Rattle.rules.proofs.Index.{removed_own, removed_apart, removed_length, swap_length, swap_here, swap_other, entered_own, entered_apart}
use Rattle.rules.proofs.Along.{equal_chains, fewer_chains, allowed_along, clear_along}
use Rattle.rules.proofs.HowMany.{sum_apart, sum_less, sum_up, sum_le}
use Rattle.rules.specs.Work.{clear}

pub entered_live : (C : List ℕ) (M : Meaning) → live_clauses (entered C M) ≤ suc (live_clauses M)
unfolding live_clauses
entered_live C M = sum_up (λ k. length ((entered C M).own k)) (λ k. length (M.own k)) (last C) 2048 0
    (omega (arith, ap length (entered_own M C), length-append (M.own (last C)) (C ∷ []))) (λ k a. ap length (entered_apart M C k a))

pub entered_kept : (C : List ℕ) (M : Meaning) → kept_clauses (entered C M) ≤ suc (kept_clauses M)
entered_kept C M = let d : (entered C M).dead_clauses ≡ M.dead_clauses = unfold entered in refl in omega (arith, entered_live C M)

-- one list with a clause less, and one that is no longer
less_at : (M N : Meaning) (l : ℕ) → l < 2048 → ((k : ℕ) → (k ≡ l → ⊥) → N.own k ≡ M.own k) → suc (length (N.own l)) ≡ length (M.own l) → suc (live_clauses N) ≡ live_clauses M
unfolding live_clauses
less_at M N l b a e = sum_less (λ k. length (N.own k)) (λ k. length (M.own k)) l 2048 0 (omega arith) (omega arith) e (λ k d. ap length (a k d))

fewer_at : (M N : Meaning) (l : ℕ) → ((k : ℕ) → (k ≡ l → ⊥) → N.own k ≡ M.own k) → length (N.own l) ≤ length (M.own l) → live_clauses N ≤ live_clauses M
unfolding live_clauses
fewer_at M N l a h = sum_le (λ k. length (N.own k)) (λ k. length (M.own k)) 2048 0
    (λ k. ⊎_elim (λ e. subst (λ g. length (N.own g) ≤ length (M.own g)) (sym e) h) (λ d. omega (arith, ap length (a k d))) (cases_eq k l))

pub removed_live : (M : Meaning) (l i : ℕ) → l < 2048 → i < length (M.own l) → suc (live_clauses (removed l i M)) ≡ live_clauses M
removed_live M l i b li = less_at M (removed l i M) l b (removed_apart M l i) (omega (arith, removed_length M l i))

swap_part : (i : ℕ) (xs : List (List ℕ)) (E : List ℕ) → In E (swap_remove xs i []) → In E xs
swap_part i xs E h =
    let (j, lj, e) = at_in (swap_remove xs i []) E [] h in
    let lt : j < length xs - 1 = omega (arith, swap_length [] i xs) in
    ⊎_elim (λ q. subst (λ D. In D xs) (sym (swap_here [] i xs (omega (arith, q))) ∙ ap (λ g. get_or (swap_remove xs i []) g []) (sym q) ∙ e) (in_at xs (length xs - 1) [] (omega arith)))
    (λ a. subst (λ D. In D xs) (sym (swap_other [] i j xs lt a) ∙ e) (in_at xs j [] (omega arith))) (cases_eq j i)

pub removed_part : (M : Meaning) (l i k : ℕ) (E : List ℕ) → In E ((removed l i M).own k) → In E (M.own k)
removed_part M l i = part_at M (removed l i M) l (removed_apart M l i) (λ E h. swap_part i (M.own l) E (subst (In E) (removed_own M l i) h))

pub clear_part : (l : ℕ) (marks : List Bool) (M : Meaning) (k : ℕ) (E : List ℕ) → In E ((clear l marks M).own k) → In E (M.own k)
clear_part l marks M k E = clear_along (λ M N. In E (N.own k) → In E (M.own k)) (record { same = λ M h. h; next = λ M N P f g h. f (g h) }) (λ l i M h. removed_part M l i k E) l marks M

pub retired_live : (M : Meaning) (l i : ℕ) → l < 2048 → i < length (M.own l) → suc (live_clauses (retired l i M)) ≡ live_clauses M
retired_live M l i b li = less_at M (retired l i M) l b (retired_apart M l i) (omega (arith, ap length (retired_own M l i), length-remove (M.own l) i li))

pub shortened_live : (M : Meaning) (l i x : ℕ) → live_clauses (shortened l i x M) ≡ live_clauses M
unfolding live_clauses
shortened_live M l i x = sum_apart (λ k. length ((shortened l i x M).own k)) (λ k. length (M.own k)) 2048 0 (λ k h. shortened_length M l i x k)

pub index_live : (M : Meaning) → live_clauses (index_on M) ≡ live_clauses M
unfolding index_on live_clauses
index_live M = cond_both M.indexed M _ (λ N. sum_of (map (λ l. length (N.own l)) literals) ≡ sum_of (map (λ l. length (M.own l)) literals)) (λ e. refl) (λ e. refl)

pub unindex_live : (M : Meaning) → live_clauses (index_off M) ≡ live_clauses M
unfolding index_off live_clauses
unindex_live M = refl

-- a removal leaves no more clauses, and as many dead ones
pub removed_dead : (M : Meaning) (l i : ℕ) → (removed l i M).dead_clauses ≡ M.dead_clauses
unfolding removed
removed_dead M l i = refl

pub removed_fewer : (M : Meaning) (l i : ℕ) → live_clauses (removed l i M) ≤ live_clauses M
removed_fewer M l i = fewer_at M (removed l i M) l (removed_apart M l i) (omega (arith, removed_length M l i))

pub removed_kept : (M : Meaning) (l i : ℕ) → kept_clauses (removed l i M) ≤ kept_clauses M
removed_kept M l i = omega (arith, removed_fewer M l i, removed_dead M l i)

pub retire_fewer : (l i : ℕ) (M : Meaning) → live_clauses (retire l i M).0 ≤ live_clauses M
unfolding retire
retire_fewer l i M = grind (arith, allowed_along, fewer_chains live_clauses, fewer_at, retired_apart, retired_own, length-remove, ltb-true i)

-- a shortening leaves as many clauses
pub shorten_same : (l i x : ℕ) (M : Meaning) → live_clauses (shorten l i x M).0 ≡ live_clauses M
unfolding shorten
shorten_same l i x M = allowed_along (λ M N. live_clauses N ≡ live_clauses M) (equal_chains live_clauses) (droppable M l i x) M (shortened l i x M) (λ e. shortened_live M l i x)

pub shorten_fewer : (l i x : ℕ) (M : Meaning) → live_clauses (shorten l i x M).0 ≤ live_clauses M
shorten_fewer l i x M = omega (arith, shorten_same l i x M)
