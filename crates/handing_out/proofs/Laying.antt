-- Words in place of others, one part after another. Assumes nothing.
use Rattle.std.proofs.Common.{◌≡◌, ℕ, ◌+◌, ◌≤◌, List, [], ◌++◌, length, take, drop, sym, refl, ap, ◌∙◌, append-nil, append_assoc, arith}
use Rattle.std.proofs.lemmas.List.{length-append, length-take-le, length-drop, take_at, take-append-drop, drop-drop, drop_all}
use Rattle.std.proofs.Math.Seq.{drop-append-add}
use borrow.Rule.Slice.PartMut.{put_mid}
use Rattle.handing_out.specs.Writing.{laid, Wrote}
use Rattle.handing_out.specs.declared.write.Writer.{Writer}

-- after a write to a part as long as what is written
pub put_laid : (at k : ℕ) (ws xs : List ℕ) → k ≡ length xs → put_mid at k ws xs ≡ laid at xs ws
unfolding laid
put_laid at k ws xs e = ap (λ ys. take at ws ++ (xs ++ ys)) (drop-drop k at ws ∙ ap (λ n. drop (at + n) ws) e)

-- words behind those that were written
laid_split : (at : ℕ) (xs ws : List ℕ) → laid at xs ws ≡ (take at ws ++ xs) ++ drop (at + length xs) ws
unfolding laid
laid_split at xs ws = sym (append_assoc (take at ws) xs (drop (at + length xs) ws))

module _ (at : ℕ) (xs ws : List ℕ) (room : at + length xs ≤ length ws) where
  front_length : length (take at ws ++ xs) ≡ at + length xs
  front_length = omega (arith, length-append (take at ws) xs, length-take-le at ws (omega arith))

  pub laid_length : length (laid at xs ws) ≡ length ws
  laid_length = omega (arith, ap length (laid_split at xs ws), length-append (take at ws ++ xs) (drop (at + length xs) ws), front_length, length-drop (at + length xs) ws)

  laid_front : take (at + length xs) (laid at xs ws) ≡ take at ws ++ xs
  laid_front = ap (take (at + length xs)) (laid_split at xs ws) ∙ take_at (take at ws ++ xs) (drop (at + length xs) ws) (at + length xs) front_length

  laid_back : (n : ℕ) → drop (at + length xs + n) (laid at xs ws) ≡ drop (at + length xs + n) ws
  laid_back n =
      ap (drop (at + length xs + n)) (laid_split at xs ws) ∙ ap (λ m. drop (m + n) ((take at ws ++ xs) ++ drop (at + length xs) ws)) (sym front_length)
      ∙ drop-append-add (take at ws ++ xs) (drop (at + length xs) ws) n ∙ drop-drop n (at + length xs) ws

  -- one part after another
  pub laid_laid : (ys : List ℕ) → laid (at + length xs) ys (laid at xs ws) ≡ laid at (xs ++ ys) ws
  unfolding laid
  laid_laid ys =
      ap (λ zs. zs ++ (ys ++ drop (at + length xs + length ys) (laid at xs ws))) laid_front ∙ ap (λ zs. (take at ws ++ xs) ++ (ys ++ zs)) (laid_back (length ys))
      ∙ append_assoc (take at ws) xs (ys ++ drop (at + length xs + length ys) ws) ∙ ap (λ zs. take at ws ++ zs) (sym (append_assoc xs ys (drop (at + length xs + length ys) ws)))
      ∙ ap (λ n. take at ws ++ ((xs ++ ys) ++ drop n ws)) (omega (arith, length-append xs ys))

-- two writes after one another are one
pub wrote_both : {xs ys : List ℕ} {w v u : Writer} → w.at + length xs ≤ length w.words.now → Wrote xs w v → Wrote ys v u → Wrote (xs ++ ys) w u
wrote_both {xs} {ys} {w} {v} {u} room p q = record {
  same_reference = q.same_reference ∙ p.same_reference;
  at = omega (arith, p.at, q.at, length-append xs ys);
  words = q.words ∙ ap (λ n. laid n ys v.words.now) p.at ∙ ap (laid (w.at + length xs) ys) p.words ∙ laid_laid w.at xs w.words.now room ys;
}

-- a write leaves as many words
pub wrote_length : {xs : List ℕ} {w v : Writer} → w.at + length xs ≤ length w.words.now → Wrote xs w v → length v.words.now ≡ length w.words.now
wrote_length {xs} {w} {v} room p = ap length p.words ∙ laid_length w.at xs w.words.now room

-- writing equal words
pub wrote_same : {xs ys : List ℕ} {w v : Writer} → xs ≡ ys → Wrote xs w v → Wrote ys w v
wrote_same {xs} {ys} {w} {v} e p = record { same_reference = p.same_reference; at = p.at ∙ ap (λ zs. w.at + length zs) e; words = p.words ∙ ap (λ zs. laid w.at zs w.words.now) e }

-- writing nothing
pub wrote_nothing : (w : Writer) → Wrote [] w w
unfolding laid
wrote_nothing w = record {
  same_reference = refl;
  at = omega arith;
  words = sym (ap (λ n. take w.at w.words.now ++ drop n w.words.now) (omega arith) ∙ take-append-drop w.at w.words.now);
}

-- as many words as there are places, from the first on
pub laid_whole : (at : ℕ) (xs ws : List ℕ) → at ≡ 0 → length xs ≡ length ws → laid at xs ws ≡ xs
unfolding laid
laid_whole at xs ws z e = ap (λ n. take n ws ++ (xs ++ drop (n + length xs) ws)) z ∙ ap (λ ys. xs ++ ys) (drop_all (0 + length xs) ws (omega arith)) ∙ append-nil xs

-- words from the first place on
pub laid_first : (at : ℕ) (xs ws : List ℕ) → at ≡ 0 → laid at xs ws ≡ xs ++ drop (length xs) ws
unfolding laid
laid_first at xs ws z = ap (λ n. take n ws ++ (xs ++ drop (n + length xs) ws)) z ∙ ap (λ n. xs ++ drop n ws) (omega arith)
