-- The image handed out is read as the clauses handed out. Assumes nothing.
use Rattle.std.proofs.Common.{◌≡◌, ℕ, zero, suc, ◌+◌, ◌-◌, ◌<◌, ◌≤◌, List, [], ◌∷◌, ◌++◌, map, length, get_or, take, drop, sym, refl, ap, ◌∙◌, arith, flat_map}
use Rattle.std.proofs.lemmas.List.{get_or_append_left, length-append, length-map, take_at}
use Rattle.std.proofs.Math.Seq.{drop-append-add}
use Rattle.image.specs.Headers.{top, stated_count, offset, run}
use Rattle.image.specs.Runs.{clauses, written}
use Rattle.image.proofs.Heads.{run_is}
use Rattle.intake.specs.Accepted.{taken_in, total}
use Rattle.intake.proofs.Meanings.{read_back}
use Rattle.rules.specs.Store.{from, sum_of}
use Rattle.rules.specs.Work.{Work, nodes_of}
use Rattle.rules.specs.Calls.{handed_out, runs_out, ends, count_out, words_out}
use Rattle.rules.specs.Theorem.{ReadAs}
use Rattle.rules.proofs.Const.{suc_from}
use Rattle.rules.proofs.Index.{map_from, from_length}

-- ## Runs one after another

-- how many words stand before run k
before : ℕ → List (List ℕ) → ℕ
before zero Rs = 0
before (suc k) [] = 0
before (suc k) (r ∷ Rs) = length r + before k Rs

pub ends_length : (Rs : List (List ℕ)) (a : ℕ) → length (ends a Rs) ≡ length Rs
ends_length [] a = refl
ends_length (r ∷ Rs) a = ap suc (ends_length Rs (a + length r))

ends_at : (Rs : List (List ℕ)) (a k : ℕ) → k < length Rs → get_or (ends a Rs) k 0 ≡ a + before (suc k) Rs
unfolding before
ends_at [] a k l = absurd (omega arith)
ends_at (r ∷ Rs) a zero l = omega arith
ends_at (r ∷ Rs) a (suc k) l = omega (arith, ends_at Rs (a + length r) k (omega arith))

piece : (Rs : List (List ℕ)) (k : ℕ) → k < length Rs → take (length (get_or Rs k [])) (drop (before k Rs) (flat_map (λ r. r) Rs)) ≡ get_or Rs k []
unfolding before
piece [] k l = absurd (omega arith)
piece (r ∷ Rs) zero l = take_at r (flat_map (λ r. r) Rs) (length r) refl
piece (r ∷ Rs) (suc k) l = ap (take (length (get_or Rs k []))) (drop-append-add r (flat_map (λ r. r) Rs) (before k Rs)) ∙ piece Rs k (omega arith)

before_more : (Rs : List (List ℕ)) (k : ℕ) → k < length Rs → before (suc k) Rs ≡ before k Rs + length (get_or Rs k [])
unfolding before
before_more [] k l = absurd (omega arith)
before_more (r ∷ Rs) zero l = omega arith
before_more (r ∷ Rs) (suc k) l = omega (arith, before_more Rs k (omega arith))

before_all : (Rs : List (List ℕ)) → before (length Rs) Rs ≡ length (flat_map (λ r. r) Rs)
unfolding before
before_all [] = refl
before_all (r ∷ Rs) = omega (arith, before_all Rs, length-append r (flat_map (λ r. r) Rs))

-- ## The image

module _ (W : Work) where
  abbrev ws : List ℕ
  ws = words_out W

  abbrev Rs : List (List ℕ)
  Rs = runs_out W

  nodes_from : nodes_of W ≡ from 1 W.top
  nodes_from = suc_from W.top 0

  runs_length : length Rs ≡ W.top
  runs_length = length-map (nodes_of W) (λ n. written (handed_out W n)) ∙ ap length nodes_from ∙ from_length W.top 1

  run_at : (k : ℕ) → k < W.top → get_or Rs k [] ≡ written (handed_out W (suc k))
  run_at k l = ap (λ ns. get_or (map (λ n. written (handed_out W n)) ns) k []) nodes_from ∙ map_from (λ n. written (handed_out W n)) [] W.top 1 k l ∙ ap (λ n. written (handed_out W n)) {x = 1 + k} {y = suc k} (omega arith)

  top_is : top ws ≡ W.top
  unfolding words_out
  top_is = refl

  count_is : stated_count ws ≡ count_out W
  unfolding words_out
  count_is = refl

  offset_is : (k : ℕ) → k ≤ W.top → offset ws k ≡ W.top + 3 + before k Rs
  unfolding words_out before
  offset_is zero l = omega arith
  offset_is (suc k) l = ap (λ n. get_or (words_out W) n 0) {x = suc k + 2} {y = suc (suc (suc k))} (omega arith) ∙ (unfold words_out in (get_or_append_left (ends (W.top + 3) Rs) (flat_map (λ r. r) Rs) 0 k (omega (arith, ends_length Rs (W.top + 3), runs_length))))
      ∙ ends_at Rs (W.top + 3) k (omega (arith, runs_length))

  words_length : length ws ≡ W.top + 3 + before W.top Rs
  unfolding words_out
  words_length = omega (arith, length-append (ends (W.top + 3) Rs) (flat_map (λ r. r) Rs), ends_length Rs (W.top + 3) ∙ runs_length, sym (before_all Rs) ∙ ap (λ n. before n Rs) runs_length)

  pub words_count : length (words_out W) ≡ W.top + 3 + length (flat_map (λ r. r) (runs_out W))
  words_count = words_length ∙ ap (λ n. W.top + 3 + n) (ap (λ n. before n Rs) (sym runs_length) ∙ before_all Rs)

  step : (k : ℕ) → k < W.top → before (suc k) Rs ≡ before k Rs + length (get_or Rs k [])
  step k l = before_more Rs k (omega (arith, runs_length))

  -- past the header
  drop_header : (b : ℕ) → drop (W.top + 3 + b) ws ≡ drop b (flat_map (λ r. r) Rs)
  unfolding words_out
  drop_header b = ap (λ n. drop n (W.top ∷ count_out W ∷ (W.top + 3) ∷ (ends (W.top + 3) Rs ++ flat_map (λ r. r) Rs))) {x = W.top + 3 + b} {y = suc (suc (suc (length (ends (W.top + 3) Rs) + b)))} (omega (arith, ends_length Rs (W.top + 3), runs_length))
      ∙ drop-append-add (ends (W.top + 3) Rs) (flat_map (λ r. r) Rs) b

  run_read : (k : ℕ) → k < W.top → run ws (suc k) ≡ get_or Rs k []
  run_read k l = run_is ws k (omega (arith, top_is)) ∙ ap (λ n. take n (drop (offset ws k) ws)) {x = offset ws (suc k) - offset ws k} {y = length (get_or Rs k [])} (omega (arith, offset_is k (omega arith), offset_is (suc k) (omega arith), step k l))
      ∙ ap (λ n. take (length (get_or Rs k [])) (drop n ws)) (offset_is k (omega arith)) ∙ ap (take (length (get_or Rs k []))) (drop_header (before k Rs)) ∙ piece Rs k (omega (arith, runs_length))

  clauses_read : (k : ℕ) → k < W.top → clauses (run ws (suc k)) ≡ handed_out W (suc k)
  clauses_read k l = ap clauses (run_read k l ∙ run_at k l) ∙ read_back (handed_out W (suc k))

  total_read : (k : ℕ) → k ≤ W.top → total ws k ≡ sum_of (map (λ n. length (handed_out W n)) (from 1 k))
  total_read zero l = refl
  total_read (suc k) l =
      omega (arith, total_read k (omega arith), ap length (clauses_read k l))
      ∙ sym (sum_more k 1 ∙ ap (λ m. sum_of (map (λ n. length (handed_out W n)) (from 1 k)) + length (handed_out W m)) {x = 1 + k} {y = suc k} (omega arith))
    where
      sum_more : (t i : ℕ) → sum_of (map (λ n. length (handed_out W n)) (from i (suc t))) ≡ sum_of (map (λ n. length (handed_out W n)) (from i t)) + length (handed_out W (i + t))
      sum_more zero i = omega (arith, ap (λ n. length (handed_out W n)) {x = i} {y = i + 0} (omega arith))
      sum_more (suc t) i = omega (arith, sum_more t (suc i), ap (λ n. length (handed_out W n)) {x = suc i + t} {y = i + suc t} (omega arith))

  module _ (small : W.top ≤ 1023) (zero_out : handed_out W 0 ≡ (1 ∷ []) ∷ []) where
    network_read : (n : ℕ) → n ≤ W.top → taken_in ws n ≡ handed_out W n
    network_read zero l = sym zero_out
    network_read (suc k) l = clauses_read k l

    pub words_read : ReadAs W (words_out W)
    words_read = record {
      header = record {
        three = omega (arith, words_length);
        few = omega (arith, top_is);
        long = omega (arith, words_length, top_is);
        first = offset_is 0 (omega arith) ∙ unfold before in (omega (arith, top_is));
        climb = λ k l. omega (arith, offset_is k (omega (arith, top_is)), offset_is (suc k) (omega (arith, top_is)), step k (omega (arith, top_is)));
        last = ap (offset ws) top_is ∙ offset_is W.top (omega arith) ∙ sym words_length;
      };
      tops = top_is;
      runs = λ n p l. run_of n p l;
      network = network_read;
      counted = count_is ∙ ap (λ ns. sum_of (map (λ n. length (handed_out W n)) ns)) nodes_from ∙ sym (total_read W.top (omega arith)) ∙ ap (total ws) (sym top_is);
    }
      where
        run_of : (n : ℕ) → 0 < n → n ≤ W.top → clauses (run ws n) ≡ handed_out W n
        run_of zero p l = absurd (omega arith)
        run_of (suc k) p l = clauses_read k l
