-- The header and the runs of an image as they are written, node by node. Assumes nothing.
use Rattle.std.proofs.Common.{◌≡◌, ℕ, zero, suc, ◌+◌, ◌-◌, ◌<◌, ◌≤◌, List, [], ◌∷◌, ◌++◌, length, take, drop, sym, ap, ◌∙◌, append_assoc, arith, flat_map}
use Rattle.std.proofs.lemmas.List.{length-append, length-drop, length-map, length-take-le, drop-drop}
use Rattle.image.specs.Runs.{written}
use Rattle.rules.specs.Store.{from}
use Rattle.rules.specs.Lawful.{Lawful}
use Rattle.rules.specs.Work.{Work}
use Rattle.rules.specs.Calls.{ends, handed_out, count_out, words_out}
use Rattle.rules.proofs.Index.{from_length}
use Rattle.rules.proofs.Sizes.{words_few}
use Rattle.rules.proofs.Words.{ends_length}
use Rattle.handing_out.specs.Writing.{Wrote}
use Rattle.handing_out.specs.declared.write.Writer.{Writer}
use Rattle.handing_out.proofs.Images.{runs, words, runs_more, words_more, runs_all, words_all}
use Rattle.handing_out.proofs.Laying.{wrote_both, wrote_length, wrote_same, laid_whole, laid_first}

-- one run more
ends_more : (Rs : List (List ℕ)) (r : List ℕ) (at : ℕ) → ends at (Rs ++ (r ∷ [])) ≡ ends at Rs ++ ((at + length (flat_map (λ x. x) Rs) + length r) ∷ [])
ends_more [] r at = ap (λ n. n ∷ []) (omega arith)
ends_more (q ∷ Rs) r at = ap (λ ns. (at + length q) ∷ ns) (ends_more Rs r (at + length q) ∙ ap (λ n. ends (at + length q) Rs ++ (n ∷ [])) (omega (arith, length-append q (flat_map (λ x. x) Rs))))

-- the words old are lent, in two parts: the writer h1 of the first has written three words, the writer r0 of the other nothing
pub record Begun (W : Work) (old : List ℕ) (h1 r0 : Writer) : Type 0 where
  pub room : length (words_out W) ≤ length old
  pub h0 : Writer
  pub head : h0.words.now ≡ take (W.top + 3) old
  pub head_at : h0.at ≡ 0
  pub rest : r0.words.now ≡ drop (W.top + 3) old
  pub rest_at : r0.at ≡ 0
  pub first : Wrote (W.top ∷ count_out W ∷ (W.top + 3) ∷ []) h0 h1

-- the ends of the first k runs are written, by which h1 has become h, and these runs, by which r0 has become r
pub record Upto (W : Work) (k : ℕ) (h1 h r0 r : Writer) : Type 0 where
  pub below : k ≤ W.top
  pub ends : Wrote (ends (W.top + 3) (runs W k)) h1 h
  pub runs : Wrote (words W k) r0 r

module _ (W : Work) where
  offsets_length : (k : ℕ) → length (ends (W.top + 3) (runs W k)) ≡ k
  offsets_length k = ends_length (runs W k) (W.top + 3) ∙ length-map (from 1 k) (λ n. written (handed_out W n)) ∙ from_length k 1

  -- fewer runs have no more words
  fewer : (k d : ℕ) → length (words W k) ≤ length (words W (k + d))
  fewer k zero = omega (arith, ap (λ j. length (words W j)) {x = k} {y = k + 0} (omega arith))
  fewer k (suc d) = omega (arith, fewer k d, ap length (words_more W (k + d)), length-append (words W (k + d)) (written (handed_out W (suc (k + d)))), ap (λ j. length (words W j)) {x = k + suc d} {y = suc (k + d)} (omega arith))

  among : (k : ℕ) → k ≤ W.top → length (words W k) ≤ length (words W W.top)
  among k l = omega (arith, fewer k (W.top - k), ap (λ j. length (words W j)) {x = k + (W.top - k)} {y = W.top} (omega arith))

  module _ {old : List ℕ} {h1 r0 : Writer} (b : Begun W old h1 r0) where
    long : W.top + 3 + length (words W W.top) ≤ length old
    long = omega (arith, words_all W, b.room)

    first_room : b.h0.at + 3 ≤ length b.h0.words.now
    first_room = omega (arith, b.head_at, ap length b.head, length-take-le (W.top + 3) old (omega (arith, long)))

    head_length : length h1.words.now ≡ W.top + 3
    head_length = wrote_length first_room b.first ∙ ap length b.head ∙ length-take-le (W.top + 3) old (omega (arith, long))

    rest_length : length r0.words.now + (W.top + 3) ≡ length old
    rest_length = omega (arith, ap length b.rest, length-drop (W.top + 3) old, long)

    module _ {k : ℕ} {h r : Writer} (u : Upto W k h1 h r0 r) where
      -- as many words as before
      ends_room : h1.at + length (ends (W.top + 3) (runs W k)) ≤ length h1.words.now
      ends_room = omega (arith, head_length, b.first.at, b.head_at, offsets_length k, u.below)

      runs_room : r0.at + length (words W k) ≤ length r0.words.now
      runs_room = omega (arith, rest_length, b.rest_at, among k u.below, long)

      module _ (less : k < W.top) where
        -- the next offset has a word
        pub offset_room : h.at + 1 ≤ length h.words.now
        offset_room = omega (arith, wrote_length ends_room u.ends, head_length, u.ends.at, b.first.at, b.head_at, offsets_length k)

        -- the next run has its words
        pub run_room : r.at + length (written (handed_out W (suc k))) ≤ length r.words.now
        run_room = omega (arith, wrote_length runs_room u.runs, rest_length, u.runs.at, b.rest_at, among (suc k) less, long, ap length (words_more W k), length-append (words W k) (written (handed_out W (suc k))))

        module _ {r' : Writer} (q : Wrote (written (handed_out W (suc k))) r r') where
          after_run : r'.at ≡ length (words W (suc k))
          after_run = omega (arith, q.at, u.runs.at, b.rest_at, ap length (words_more W k), length-append (words W k) (written (handed_out W (suc k))))

          -- where the run ends is a small number
          pub end_small : Lawful W.store → W.top ≤ 1023 → W.store.room ≤ 4096 → W.top + 3 + r'.at ≤ 138240
          end_small L t s = omega (arith, after_run, among (suc k) less, words_all W, words_few W L t, L.within)

          -- a node more
          pub node_more : (end : ℕ) → end ≡ W.top + 3 + r'.at → (h' : Writer) → Wrote (end ∷ []) h h' → Upto W (suc k) h1 h' r0 r'
          node_more end e h' p = record {
            below = less;
            ends =
                wrote_same
                (ap (λ n. ends (W.top + 3) (runs W k) ++ (n ∷ [])) (omega (arith, e, after_run, ap length (words_more W k), length-append (words W k) (written (handed_out W (suc k))))) ∙ sym (ends_more (runs W k) (written (handed_out W (suc k))) (W.top + 3)) ∙ ap (ends (W.top + 3)) (sym (runs_more W k)))
                (wrote_both ends_room u.ends p);
            runs = wrote_same (sym (words_more W k)) (wrote_both runs_room u.runs q);
          }

      -- the whole image
      pub all_written : {zs : List ℕ} → k ≡ W.top → zs ≡ h.words.now ++ r.words.now → zs ≡ words_out W ++ drop (length (words_out W)) old
      all_written t p =
          p ∙ ap (λ zs. zs ++ r.words.now) header_words ∙ ap (λ zs. (W.top ∷ count_out W ∷ (W.top + 3) ∷ ends (W.top + 3) (runs W k)) ++ zs) runs_words
          ∙ sym (append_assoc (W.top ∷ count_out W ∷ (W.top + 3) ∷ ends (W.top + 3) (runs W k)) (words W k) (drop (W.top + 3 + length (words W k)) old))
          ∙ ap (λ zs. zs ++ drop (W.top + 3 + length (words W k)) old) whole ∙ ap (λ n. words_out W ++ drop n old) (ap (λ j. W.top + 3 + length (words W j)) t ∙ sym (words_all W))
        where
          header_words : h.words.now ≡ W.top ∷ count_out W ∷ (W.top + 3) ∷ ends (W.top + 3) (runs W k)
          header_words =
              let p = wrote_both (omega (arith, head_length, b.head_at, wrote_length first_room b.first)) b.first u.ends in
              p.words ∙ laid_whole b.h0.at (W.top ∷ count_out W ∷ (W.top + 3) ∷ ends (W.top + 3) (runs W k)) b.h0.words.now b.head_at (omega (arith, offsets_length k, t, head_length, wrote_length first_room b.first))

          runs_words : r.words.now ≡ words W k ++ drop (W.top + 3 + length (words W k)) old
          runs_words = u.runs.words ∙ laid_first r0.at (words W k) r0.words.now b.rest_at ∙ ap (λ zs. words W k ++ drop (length (words W k)) zs) b.rest ∙ ap (λ zs. words W k ++ zs) (drop-drop (length (words W k)) (W.top + 3) old)

          whole : (W.top ∷ count_out W ∷ (W.top + 3) ∷ ends (W.top + 3) (runs W k)) ++ words W k ≡ words_out W
          whole = unfold words_out in (ap (λ rs. (W.top ∷ count_out W ∷ (W.top + 3) ∷ ends (W.top + 3) rs) ++ flat_map (λ x. x) rs) (ap (runs W) t ∙ sym (runs_all W)))
