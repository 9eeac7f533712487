-- The image, node by node. Assumes nothing.
use Rattle.std.proofs.Common.{◌≡◌, ℕ, suc, ◌+◌, ◌*◌, ◌≤◌, List, [], ◌∷◌, ◌++◌, map, length, sym, ap, ◌∙◌, append-nil, arith, flat_map}
use Rattle.std.proofs.lemmas.List.{length-append, map-append}
use Rattle.std.proofs.lemmas.Grind.{flat_map-append}
use Rattle.image.specs.Runs.{written}
use Rattle.rules.specs.Store.{from, sum_of}
use Rattle.rules.specs.Work.{Work}
use Rattle.rules.specs.Calls.{handed_out, runs_out, count_out, words_out}
use Rattle.rules.proofs.Const.{suc_from}
use Rattle.rules.proofs.Start.{from_more}
use Rattle.rules.proofs.Words.{words_count}
use Rattle.handing_out.specs.Sizes.{Measures}
use Rattle.handing_out.specs.declared.measure.Size.{Size}

-- the nodes 1 to k, and one more
nodes_more : (k : ℕ) → from 1 (suc k) ≡ from 1 k ++ (suc k ∷ [])
nodes_more k = from_more k 1 ∙ ap (λ n. from 1 k ++ (n ∷ [])) (omega arith)

sum_append : (ns ms : List ℕ) → sum_of (ns ++ ms) ≡ sum_of ns + sum_of ms
sum_append [] ms = omega arith
sum_append (n ∷ ns) ms = omega (arith, sum_append ns ms)

module _ (W : Work) where
  -- the runs of the nodes 1 to k
  abbrev pub runs : ℕ → List (List ℕ)
  runs k = map (λ n. written (handed_out W n)) (from 1 k)

  -- the words of these runs
  abbrev pub words : ℕ → List ℕ
  words k = flat_map (λ r. r) (runs k)

  -- how many clauses the nodes 1 to k have
  abbrev pub clauses : ℕ → ℕ
  clauses k = sum_of (map (λ n. length (handed_out W n)) (from 1 k))

  pub runs_more : (k : ℕ) → runs (suc k) ≡ runs k ++ (written (handed_out W (suc k)) ∷ [])
  runs_more k = ap (map (λ n. written (handed_out W n))) (nodes_more k) ∙ map-append (λ n. written (handed_out W n)) (from 1 k) (suc k ∷ [])

  pub words_more : (k : ℕ) → words (suc k) ≡ words k ++ written (handed_out W (suc k))
  words_more k = ap (flat_map (λ r. r)) (runs_more k) ∙ flat_map-append (λ r. r) (runs k) (written (handed_out W (suc k)) ∷ []) ∙ ap (λ xs. words k ++ xs) (append-nil (written (handed_out W (suc k))))

  clauses_more : (k : ℕ) → clauses (suc k) ≡ clauses k + length (handed_out W (suc k))
  clauses_more k =
      omega (
        arith,
        ap (λ ns. sum_of (map (λ n. length (handed_out W n)) ns)) (nodes_more k),
        ap sum_of (map-append (λ n. length (handed_out W n)) (from 1 k) (suc k ∷ [])),
        sum_append (map (λ n. length (handed_out W n)) (from 1 k)) (length (handed_out W (suc k)) ∷ []),
      )

  -- the whole image
  pub runs_all : runs_out W ≡ runs W.top
  runs_all = ap (map (λ n. written (handed_out W n))) (suc_from W.top 0)

  pub words_all : length (words_out W) ≡ W.top + 3 + length (words W.top)
  words_all = words_count W ∙ ap (λ rs. W.top + 3 + length (flat_map (λ r. r) rs)) runs_all

  pub clauses_all : count_out W ≡ clauses W.top
  clauses_all = ap (λ ns. sum_of (map (λ n. length (handed_out W n)) ns)) (suc_from W.top 0)

-- the header and the nodes 1 to k have the size n
pub record Measured (W : Work) (k : ℕ) (n : Size) : Type 0 where
  pub words : n.words ≡ W.top + 3 + length (words W k)
  pub clauses : n.clauses ≡ clauses W k
  pub few : n.words ≤ W.top + 3 + 270336 * k
  pub counted : n.clauses ≤ n.words

-- a node more
pub measured_more : (W : Work) (k : ℕ) (n m s : Size) → Measured W k n → Measures (handed_out W (suc k)) m → m.words ≤ 270336 → m.clauses ≤ m.words → s.words ≡ n.words + m.words → s.clauses ≡ n.clauses + m.clauses → Measured W (suc k) s
measured_more W k n m s p q f h e g = record {
  words = omega (arith, p.words, q.words, ap length (words_more W k), length-append (words W k) (written (handed_out W (suc k))));
  clauses = omega (arith, p.clauses, q.clauses, clauses_more W k);
  few = omega (arith, p.few);
  counted = omega (arith, p.counted);
}

-- the size of all is that of the image
pub measured_all : (W : Work) (k : ℕ) (n : Size) → k ≡ W.top → Measured W k n → (n.words ≡ length (words_out W)) × (n.clauses ≡ count_out W)
measured_all W k n e m = (m.words ∙ ap (λ j. W.top + 3 + length (words W j)) e ∙ sym (words_all W), m.clauses ∙ ap (clauses W) e ∙ sym (clauses_all W))
