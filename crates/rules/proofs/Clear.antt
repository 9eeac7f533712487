-- Marked clauses cleared from a list. Assumes nothing.
use Rattle.std.proofs.Common.{◌≡◌, ℕ, zero, suc, ◌+◌, ◌-◌, ◌<◌, ◌≤◌, Bool, true, false, ltb, List, [], ◌∷◌, ◌++◌, length, get_or, replicate, sym, refl, ap, ◌∙◌, subst, ⊎_elim, arith}
use Rattle.std.specs.List.{swap_remove}
use Rattle.std.proofs.lemmas.Bool.{cases_eq, cond_both, both_ways, ltb-true, ltb-false}
use Rattle.std.proofs.lemmas.List.{get_or-replicate, length-append, length-replicate}
use Rattle.network.specs.Lists.{In}
use Rattle.rules.specs.Store.{Meaning, removed}
use Rattle.rules.specs.Index.{Indexed}
use Rattle.rules.specs.Work.{cleared, clear, clear_all}
use Rattle.rules.proofs.Places.{in_at, at_in}
use Rattle.rules.proofs.Index.{removed_own, removed_apart, removed_length, removed_indexed, swap_length, swap_here, swap_other}

-- E stands at a place that is not marked
abbrev pub Left : List Bool → List (List ℕ) → List ℕ → Type 0
Left marks xs E = (j : ℕ) × (j < length xs) × (get_or marks j false ≡ false) × (get_or xs j [] ≡ E)

pub record Cleared (l : ℕ) (marks : List Bool) (M N : Meaning) : Type 0 where
  pub apart : (k : ℕ) → (k ≡ l → ⊥) → N.own k ≡ M.own k
  pub left : (E : List ℕ) → In E (N.own l) → Left marks (M.own l) E
  pub stays : (E : List ℕ) → Left marks (M.own l) E → In E (N.own l)
  pub index : Indexed M → Indexed N
  pub flag : N.indexed ≡ M.indexed

module _ (l : ℕ) where
  -- nothing is marked
  done : (i : ℕ) (marks : List Bool) (M : Meaning) → ((j : ℕ) → j < i → get_or marks j false ≡ false) → length (M.own l) ≤ i → Cleared l marks M M
  done i marks M u le = record {
    apart = λ k a. refl;
    left = λ E h. let (j, lj, e) = at_in (M.own l) E [] h in (j, lj, u j (omega arith), e);
    stays = λ E (j, lj, m, e). subst (λ C. In C (M.own l)) e (in_at (M.own l) j [] lj);
    index = λ I. I;
    flag = refl;
  }

  module _ (i : ℕ) (marks : List Bool) (M : Meaning) (len : length marks ≡ length (M.own l)) (li : i < length (M.own l)) (t : get_or marks i false ≡ true) where
    swapped_left : (E : List ℕ) → Left (swap_remove marks i false) ((removed l i M).own l) E → Left marks (M.own l) E
    swapped_left E (j, lj, u, e) = grind (arith, len, removed_length M l i, removed_own M l i, swap_here false i marks, swap_here [] i (M.own l), swap_other false i j marks, swap_other [] i j (M.own l), cases_eq j i)

    swapped_stays : (E : List ℕ) → Left marks (M.own l) E → Left (swap_remove marks i false) ((removed l i M).own l) E
    swapped_stays E (j, lj, u, e) = grind (arith, len, t, removed_length M l i, removed_own M l i, swap_here false i marks, swap_here [] i (M.own l), swap_other false i j marks, swap_other [] i j (M.own l), cases_eq j (length (M.own l) - 1))

    still_unmarked : ((j : ℕ) → j < i → get_or marks j false ≡ false) → (j : ℕ) → j < i → get_or (swap_remove marks i false) j false ≡ false
    still_unmarked h j lj = swap_other false i j marks (omega (arith, len)) (λ q. omega arith) ∙ h j lj

    swap_cleared : (N : Meaning) → Cleared l (swap_remove marks i false) (removed l i M) N → Cleared l marks M N
    swap_cleared N c = record {
      apart = λ k a. c.apart k a ∙ removed_apart M l i k a;
      left = λ E h. swapped_left E (c.left E h);
      stays = λ E h. c.stays E (swapped_stays E h);
      index = λ I. c.index (removed_indexed M l i I li);
      flag = unfold removed in c.flag;
    }

  cleared_is : (f i : ℕ) (marks : List Bool) (M : Meaning) → length marks ≡ length (M.own l) → ((j : ℕ) → j < i → get_or marks j false ≡ false)
      → length (M.own l) ≤ i + f → Cleared l marks M (cleared f l i marks M)
  unfolding cleared
  cleared_is zero i marks M len u le = done i marks M u (omega arith)
  cleared_is (suc f) i marks M len u le = cond_both (ltb i (length (M.own l))) _ M (Cleared l marks M)
      (λ e. let li = ltb-true i (length (M.own l)) e in
      cond_both (get_or marks i false) (cleared f l i (swap_remove marks i false) (removed l i M)) (cleared f l (suc i) marks M) (Cleared l marks M)
      (λ t. swap_cleared i marks M len li t (cleared f l i (swap_remove marks i false) (removed l i M))
      (cleared_is f i (swap_remove marks i false) (removed l i M) (omega (arith, swap_length false i marks, removed_length M l i, len)) (still_unmarked i marks M len li t u) (omega (arith, removed_length M l i))))
      (λ t. cleared_is f (suc i) marks M len (λ j lj. ⊎_elim (λ q. ap (λ g. get_or marks g false) q ∙ t) (λ a. u j (omega (arith, a))) (cases_eq j i)) (omega arith)))
      (λ e. done i marks M u (ltb-false i (length (M.own l)) e))

replicate_false : (n j : ℕ) → get_or (replicate n false) j false ≡ false
replicate_false zero j = refl
replicate_false (suc n) zero = refl
replicate_false (suc n) (suc j) = replicate_false n j

-- unmarked places past the marks
padded : (marks : List Bool) (n j : ℕ) → get_or (marks ++ replicate n false) j false ≡ get_or marks j false
padded [] n j = replicate_false n j
padded (m ∷ marks) n zero = refl
padded (m ∷ marks) n (suc j) = padded marks n j

pub clear_is : (l : ℕ) (marks : List Bool) (M : Meaning) → length marks ≤ length (M.own l) → Cleared l marks M (clear l marks M)
unfolding clear
clear_is l marks M le =
    let c = cleared_is l (length (M.own l)) 0 (marks ++ replicate (length (M.own l) - length marks) false) M
    (omega (arith, length-append marks (replicate (length (M.own l) - length marks) false), length-replicate (length (M.own l) - length marks) false)) (λ j lj. absurd (omega arith)) (omega arith) in
    record {
      apart = c.apart;
      left = λ E h. let (j, lj, u, e) = c.left E h in (j, lj, sym (padded marks (length (M.own l) - length marks) j) ∙ u, e);
      stays = λ E (j, lj, u, e). c.stays E (j, lj, padded marks (length (M.own l) - length marks) j ∙ u, e);
      index = c.index;
      flag = c.flag;
    }

pub clear_all_is : (l : ℕ) (M : Meaning) → Cleared l (replicate (length (M.own l)) true) M (clear_all l M)
unfolding clear_all
clear_all_is l M = clear_is l (replicate (length (M.own l)) true) M (omega (arith, length-replicate (length (M.own l)) true))

-- nothing is left
pub clear_all_empty : (l : ℕ) (M : Meaning) (E : List ℕ) → In E ((clear_all l M).own l) → ⊥
clear_all_empty l M E h = let (j, lj, u, e) = (clear_all_is l M).left E h in both_ways (get_or (replicate (length (M.own l)) true) j false) u (get_or-replicate (length (M.own l)) j true false lj)
