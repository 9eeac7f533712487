-- Clauses that stand in words, 32 words for each. Assumes nothing.
use Rattle.std.proofs.Common.{◌≡◌, ℕ, zero, suc, ◌+◌, ◌*◌, ◌<◌, ◌≤◌, List, ◌∷◌, ◌++◌, map, length, get_or, take, drop, sym, refl, ap, ◌∙◌, append_assoc, arith}
use borrow.Rule.Slice.PartMut.{put_mid, post_of}
use Rattle.std.specs.List.{range_with_len}
use Rattle.std.proofs.lemmas.List.{length-take-le, take_at, drop_at, drop-take, take-take}

-- the clause number k, of the lengths L, in the words W
abbrev pub clause_in : List ℕ → List ℕ → ℕ → List ℕ
clause_in L W k = take (get_or L k 0) (drop (32 * k) W)

-- what two functions make of the same numbers
map_alike : {X : Type 0} (f g : ℕ → X) (n a : ℕ) → ((k : ℕ) → k < a + n → f k ≡ g k) → map f (range_with_len a n) ≡ map g (range_with_len a n)
map_alike f g zero a h = refl
map_alike f g (suc n) a h = ap (λ y. y ∷ map f (range_with_len (a + 1) n)) (h a (omega arith)) ∙ ap (λ ys. g a ∷ ys) (map_alike f g n (a + 1) (λ k l. h k (omega arith)))

module _ (L L' W W' : List ℕ) (n : ℕ) (short : (k : ℕ) → k < n → get_or L k 0 ≤ 32) (counts : (k : ℕ) → k < n → get_or L' k 0 ≡ get_or L k 0) (words : take (32 * n) W' ≡ take (32 * n) W) where
  cut : (V : List ℕ) (k m : ℕ) → k < n → m ≤ 32 → take m (drop (32 * k) V) ≡ drop (32 * k) (take (32 * k + m) (take (32 * n) V))
  cut V k m h s = sym (drop-take (32 * k) m V) ∙ ap (drop (32 * k)) (sym (take-take (32 * k + m) (32 * n) V (omega arith)))

  clause_same : (k : ℕ) → k < n → clause_in L' W' k ≡ clause_in L W k
  clause_same k h =
      let m = get_or L k 0 in
      ap (λ j. take j (drop (32 * k) W')) (counts k h) ∙ cut W' k m h (short k h) ∙ ap (λ V. drop (32 * k) (take (32 * k + m) V)) words ∙ sym (cut W k m h (short k h))

  -- the first n clauses stay where their words and lengths do
  pub clauses_same : map (clause_in L' W') (range_with_len 0 n) ≡ map (clause_in L W) (range_with_len 0 n)
  clauses_same = map_alike (clause_in L' W') (clause_in L W) n 0 (λ k h. clause_same k (omega arith))

-- a clause that is written with other words behind it
pub clause_written : (W xs ys : List ℕ) (a k : ℕ) → a ≤ length W → take (length xs) (drop a (put_mid a k W (xs ++ ys))) ≡ xs
clause_written W xs ys a k h =
    ap (take (length xs)) (drop_at (take a W) ((xs ++ ys) ++ post_of a k W) a (length-take-le a W h) ∙ append_assoc xs ys (post_of a k W)) ∙ take_at xs (ys ++ post_of a k W) (length xs) refl
