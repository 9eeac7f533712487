-- What is collected after a resolvent has been written behind the others. Assumes nothing.
use Rattle.std.proofs.Common.{◌≡◌, ℕ, ◌+◌, ◌*◌, ◌<◌, ◌≤◌, true, false, not, ◌⊎◌, List, [], ◌∷◌, ◌++◌, map, length, get_or, take, drop, set, Some, None, Option, sym, ap, ◌∙◌, inl, inr, ⊎_elim, append-nil, arith, length-set, length-drop}
use borrow.Rule.Slice.PartMut.{put_mid, mid_of, same_len_mid}
use Rattle.std.specs.Prelude.{option_to_list}
use Rattle.std.specs.List.{range_with_len}
use Rattle.std.proofs.lemmas.List.{length-take-le, get_or-set_same, get_or-set_other}
use Rattle.std.proofs.lemmas.List.FromFn.{length-map-range_with_len, map-range_with_len_more}
use Rattle.std.proofs.lemmas.Slice.{take-put_mid_below}
use Rattle.clause.specs.Written.{Writes}
use Rattle.resolving.specs.Collected.{too_much, collected, Added}
use Rattle.resolving.specs.declared.resolvents.Resolvents.{Resolvents}
use Rattle.resolving.proofs.Fits.{fits, last_much}
use Rattle.resolving.proofs.Written.{wrote_none, wrote_some}
use Rattle.resolving.proofs.Words.{clause_in, clauses_same, clause_written}

-- what is collected is not too much
pub collected_fits : (R : Resolvents) → too_much R.most (collected R) ≡ false
collected_fits R = fits R.most (clause_in R.lengths.now R.literals.now) R.count (λ k h. omega (arith, length-take-le (get_or R.lengths.now k 0) (drop (32 * k) R.literals.now) (omega (arith, length-drop (32 * k) R.literals.now, R.room, R.within, R.short k h)), R.short k h)) R.within

-- clauses that stand there now are added
pub added_there : (Rs : List (List ℕ)) (R R' : Resolvents) → collected R' ≡ collected R ++ Rs → R'.most ≡ R.most → (R'.lengths.ghost_name ≡ R.lengths.ghost_name) × (length R'.lengths.now ≡ length R.lengths.now)
    → (R'.literals.ghost_name ≡ R.literals.ghost_name) × (length R'.literals.now ≡ length R.literals.now) → Added Rs true R R'
added_there Rs R R' e m l w = record {
  when = sym (ap not (sym (ap (too_much R.most) e) ∙ ap (λ k. too_much k (collected R')) (sym m) ∙ collected_fits R'));
  added = λ t. e;
  most = m;
  lengths = l;
  literals = w;
}

-- what is written behind the others, `most` words of the 64 there: the clause o, if there is one
module _ (R R' : Resolvents) (k : ℕ) (sixty_four : k ≡ 64) (ys : List ℕ) (words : R'.literals.now ≡ put_mid (32 * R.count) k R.literals.now ys) (size : length ys ≡ length (mid_of (32 * R.count) k R.literals.now)) (may : R'.most ≡ R.most) (name_l : R'.lengths.ghost_name ≡ R.lengths.ghost_name) (name_w : R'.literals.ghost_name ≡ R.literals.ghost_name) (o : Option (List ℕ)) (most : ℕ) (few : most ≤ 64) where
  before : 32 * R.count ≤ length R.literals.now
  before = omega (arith, R.room, R.within)

  wide : length R'.literals.now ≡ length R.literals.now
  wide = ap length words ∙ same_len_mid (32 * R.count) k R.literals.now ys size

  enough : most ≤ length (mid_of (32 * R.count) k R.literals.now)
  enough =
      let W = R.literals.now in
      omega (arith, length-take-le k (drop (32 * R.count) W) (omega (arith, length-drop (32 * R.count) W, R.room, R.within, sixty_four)), sixty_four, few)

  kept : ((j : ℕ) → j < R.count → get_or R'.lengths.now j 0 ≡ get_or R.lengths.now j 0) → map (clause_in R'.lengths.now R'.literals.now) (range_with_len 0 R.count) ≡ collected R
  kept counts =
      clauses_same R.lengths.now R'.lengths.now R.literals.now R'.literals.now R.count R.short counts
      (ap (take (32 * R.count)) words ∙ take-put_mid_below (32 * R.count) k R.literals.now ys (32 * R.count) (omega arith) before)

  -- there was no clause
  pub none_added : Writes most None o (mid_of (32 * R.count) k R.literals.now) ys → R'.count ≡ R.count → R'.lengths.now ≡ R.lengths.now → Added (option_to_list o) true R R'
  none_added w count same =
      added_there (option_to_list o) R R'
      (ap (λ n. map (clause_in R'.lengths.now R'.literals.now) (range_with_len 0 n)) count ∙ kept (λ j h. ap (λ L. get_or L j 0) same) ∙ sym (append-nil (collected R)) ∙ ap (λ p. collected R ++ option_to_list p) (sym (wrote_none enough o w)))
      may (name_l, ap length same) (name_w, wide)

  -- the clause was one too many or too long
  pub not_added : (n : ℕ) → Writes most (Some n) o (mid_of (32 * R.count) k R.literals.now) ys → (R.count ≡ R.most) ⊎ (32 < n) → length R'.lengths.now ≡ length R.lengths.now → Added (option_to_list o) false R R'
  not_added n w h same =
      let (xs, e, len, front) = wrote_some enough n o w in
      record {
        when = sym (ap (λ p. not (too_much R.most (collected R ++ option_to_list p))) e ∙ ap not (last_much R.most (collected R) xs (⊎_elim (λ q. inr (omega (arith, length-map-range_with_len (clause_in R.lengths.now R.literals.now) 0 R.count))) (λ l. inl (omega arith)) h)));
        added = λ t. absurd cc;
        most = may;
        lengths = (name_l, same);
        literals = (name_w, wide);
      }

  -- the clause came
  pub one_added : (n : ℕ) → Writes most (Some n) o (mid_of (32 * R.count) k R.literals.now) ys → (R.count ≡ R.most → ⊥) → R'.count ≡ R.count + 1 → R'.lengths.now ≡ set R.lengths.now R.count n → Added (option_to_list o) true R R'
  one_added n w free count lengths =
      let (xs, e, len, front) = wrote_some enough n o w in
      let L' = R'.lengths.now in
      let W' = R'.literals.now in
      let W = R.literals.now in
      let at : get_or L' R.count 0 ≡ length xs = ap (λ L. get_or L R.count 0) lengths ∙ get_or-set_same R.lengths.now R.count n 0 (omega (arith, R.counted, R.within)) ∙ len in
      let last : clause_in L' W' R.count ≡ xs =
      ap (λ m. take m (drop (32 * R.count) W')) at
      ∙ ap (λ V. take (length xs) (drop (32 * R.count) V)) (words ∙ ap (put_mid (32 * R.count) k W) front)
      ∙ clause_written W xs (drop n (mid_of (32 * R.count) k W)) (32 * R.count) k before
      in
      added_there (option_to_list o) R R'
      (ap (λ m. map (clause_in L' W') (range_with_len 0 m)) count ∙ map-range_with_len_more (clause_in L' W') 0 R.count R.count (omega arith)
      ∙ ap (λ Cs. Cs ++ (clause_in L' W' R.count ∷ [])) (kept (λ j h. ap (λ L. get_or L j 0) lengths ∙ get_or-set_other R.lengths.now R.count j n 0 (λ q. omega arith)))
      ∙ ap (λ C. collected R ++ (C ∷ [])) last ∙ ap (λ p. collected R ++ option_to_list p) (sym e))
      may (name_l, ap length lengths ∙ length-set R.lengths.now R.count n) (name_w, wide)
