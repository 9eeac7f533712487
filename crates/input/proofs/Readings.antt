-- The steps of reading an input. Assumes nothing.
use Rattle.std.proofs.Common.{◌≡◌, ℕ, zero, suc, ◌+◌, ◌*◌, ◌/◌, ◌%◌, ◌<◌, ◌≤◌, List, [], ◌∷◌, ◌++◌, length, get_or, map, take, drop, Ok, Err, Result, sym, refl, ap, ◌∙◌, drop_of_length-le, arith}
use Rattle.std.proofs.lemmas.List.{append-nil}
use Rattle.std.proofs.lemmas.Bool.{and_from, eq-eqb, le-leb, cond-true}
use Rattle.std.specs.Int.{w32, from_le_bytes}
use Rattle.std.specs.Simd.{first_chunks}
use Rattle.intake.specs.Answers.{take_in_answer}
use Rattle.intake.proofs.Steps.{then_at, then_stop}
use Rattle.image.specs.declared.fault.Fault.{Fault}
use Rattle.input.specs.Inputs.{word, words_of, input_words, parts, freeze_answer, image_answer, open_answer}

words_step : (xs : List ℕ) → 4 ≤ length xs → words_of xs ≡ word (get_or xs 0 0) (get_or xs 1 0) (get_or xs 2 0) (get_or xs 3 0) ∷ words_of (drop 4 xs)
unfolding words_of
words_step [] h = absurd (omega arith)
words_step (a ∷ []) h = absurd (omega arith)
words_step (a ∷ b ∷ []) h = absurd (omega arith)
words_step (a ∷ b ∷ c ∷ []) h = absurd (omega arith)
words_step (a ∷ b ∷ c ∷ d ∷ xs) h = refl

words_none : (xs : List ℕ) → length xs < 4 → words_of xs ≡ []
unfolding words_of
words_none [] h = refl
words_none (a ∷ []) h = refl
words_none (a ∷ b ∷ []) h = refl
words_none (a ∷ b ∷ c ∷ []) h = refl
words_none (a ∷ b ∷ c ∷ d ∷ xs) h = absurd (omega arith)

-- the words of a list are those of its chunks of four bytes
words_are : (n : ℕ) (xs : List ℕ) → 4 * n ≤ length xs → length xs < 4 * n + 4 → words_of xs ≡ map (from_le_bytes w32) (first_chunks 4 n xs)
words_are zero xs h l = words_none xs (omega arith)
words_are (suc n) [] h l = absurd (omega arith)
words_are (suc n) (a ∷ []) h l = absurd (omega arith)
words_are (suc n) (a ∷ b ∷ []) h l = absurd (omega arith)
words_are (suc n) (a ∷ b ∷ c ∷ []) h l = absurd (omega arith)
words_are (suc n) (a ∷ b ∷ c ∷ d ∷ xs) h l =
    words_step (a ∷ b ∷ c ∷ d ∷ xs) (omega arith) ∙ ap (λ (w : ℕ). w ∷ words_of xs) (omega arith) ∙ ap (λ (ws : List ℕ). from_le_bytes w32 (a ∷ b ∷ c ∷ d ∷ []) ∷ ws) (words_are n xs (omega arith) (omega arith))

-- so many words are written, and the others stand
abbrev pub Decoding : List (List ℕ) → ℕ → List ℕ → List ℕ → Type 0
Decoding words k old out = (take k out ++ map (from_le_bytes w32) (drop k words) ≡ map (from_le_bytes w32) words) × (drop k out ≡ drop k old)

pub decoding_end : (bytes old out : List ℕ) (words : List (List ℕ)) (k n : ℕ) → words ≡ first_chunks 4 (length bytes / 4) bytes → k ≡ n → length words ≡ n → n ≡ length bytes / 4 → n ≤ 16384 → length bytes % 4 ≡ 0 → Decoding words k old out
    → (n ≤ 16384) × (input_words bytes ≡ Ok (take n out)) × (drop n out ≡ drop n old)
decoding_end bytes old out words k n c i l q few m (a, d) =
    let f = from_le_bytes w32 in
    let e : take n out ≡ words_of bytes =
    ap (λ (j : ℕ). take j out) (sym i) ∙ sym (append-nil (take k out)) ∙ ap (λ (z : List (List ℕ)). take k out ++ map f z) (sym (drop_of_length-le words (omega arith))) ∙ a ∙ ap (map f) c ∙ sym (words_are (length bytes / 4) bytes (omega arith) (omega arith)) in
    (few, cond-true _ _ _ (and_from _ _ (le-leb (length bytes) 65536 (omega arith)) (eq-eqb _ _ m)) ∙ ap Ok (sym e), ap (λ (j : ℕ). drop j out) (sym i) ∙ d ∙ ap (λ (j : ℕ). drop j old) i)

-- an image and nodes
module _ (ws ns : List ℕ) where
  pub image_refused : (f : Fault) → Err f ≡ take_in_answer ws → Err f ≡ image_answer ws ns
  image_refused f i = sym (then_stop (take_in_answer ws) _ f (sym i))

  pub image_all : (u : Unit {0}) (c : List ℕ) (r : Result (Unit {0}) Fault) → Ok u ≡ take_in_answer ws → c ≡ ws → r ≡ freeze_answer c ns → r ≡ image_answer ws ns
  image_all u c r i q h = h ∙ ap (λ (z : List ℕ). freeze_answer z ns) q ∙ sym (then_at (take_in_answer ws) _ u (sym i))

-- the whole input
pub input_split : (ws : List ℕ) (f : Fault) → parts ws ≡ Err f → Err f ≡ open_answer ws
unfolding open_answer
input_split ws f e = sym (then_stop (parts ws) _ f e)

module _ (ws a b : List ℕ) (e : parts ws ≡ Ok (a, b)) where
  pub input_all : (r : Result (Unit {0}) Fault) → r ≡ image_answer b a → r ≡ open_answer ws
  unfolding open_answer
  input_all r h = h ∙ sym (then_at (parts ws) _ (a, b) e)
