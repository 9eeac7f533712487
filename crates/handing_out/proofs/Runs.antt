-- Clauses as words, clause by clause. Assumes nothing.
use Rattle.std.proofs.Common.{◌≡◌, ℕ, ◌+◌, ◌<◌, ◌≤◌, List, [], ◌∷◌, ◌++◌, length, get_or, take, drop, sym, refl, ap, ◌∙◌, append-nil, append_assoc, arith}
use Rattle.std.proofs.lemmas.List.{take_more, length-append, take-append-drop}
use Rattle.image.specs.Runs.{written}
use Rattle.rules.specs.Store.{Meaning}
use Rattle.rules.specs.Lawful.{Lawful}
use Rattle.rules.proofs.Formed.{formed_parts}
use Rattle.rules.proofs.Lawful.{own_few}
use Rattle.rules.proofs.Places.{in_at}
use Rattle.handing_out.specs.Sizes.{Measures}
use Rattle.handing_out.specs.declared.measure.Size.{Size}

-- one list of clauses after another
pub written_append : (Cs Ds : List (List ℕ)) → written (Cs ++ Ds) ≡ written Cs ++ written Ds
unfolding written
written_append [] Ds = refl
written_append (C ∷ Cs) Ds = ap (λ xs. length C ∷ xs) (ap (λ xs. C ++ xs) (written_append Cs Ds) ∙ sym (append_assoc C (written Cs) (written Ds)))

-- one clause
pub written_one : (C : List ℕ) → written (C ∷ []) ≡ length C ∷ C
unfolding written
written_one C = ap (λ xs. length C ∷ xs) (append-nil C)

module _ (Cs : List (List ℕ)) (i : ℕ) (less : i < length Cs) where
  -- one clause more
  pub written_more : written (take (i + 1) Cs) ≡ written (take i Cs) ++ (length (get_or Cs i []) ∷ get_or Cs i [])
  written_more = ap written (take_more Cs i [] less) ∙ written_append (take i Cs) (get_or Cs i [] ∷ []) ∙ ap (λ xs. written (take i Cs) ++ xs) (written_one (get_or Cs i []))

  pub longer : length (written (take (i + 1) Cs)) ≡ length (written (take i Cs)) + (1 + length (get_or Cs i []))
  longer = ap length written_more ∙ length-append (written (take i Cs)) (length (get_or Cs i []) ∷ get_or Cs i []) ∙ ap (λ n. length (written (take i Cs)) + n) {x = length (length (get_or Cs i []) ∷ get_or Cs i [])} {y = 1 + length (get_or Cs i [])} (omega arith)

-- some of the clauses are written as no more words than all
pub part_shorter : (Cs : List (List ℕ)) (i : ℕ) → length (written (take i Cs)) ≤ length (written Cs)
part_shorter Cs i = omega (arith, ap (λ Ds. length (written Ds)) (take-append-drop i Cs), ap length (written_append (take i Cs) (drop i Cs)), length-append (written (take i Cs)) (written (drop i Cs)))

-- an own list is no longer than the largest room
pub own_bounded : (M : Meaning) → Lawful M → M.room ≤ 4096 → (l : ℕ) → length (M.own l) ≤ 4096
own_bounded M L small l = omega (arith, own_few M L l)

-- a clause of an own list is short
pub own_short : (M : Meaning) → Lawful M → (l i : ℕ) → i < length (M.own l) → length (get_or (M.own l) i []) ≤ 32
own_short M L l i h = (formed_parts (get_or (M.own l) i []) (L.formed l (get_or (M.own l) i []) (in_at (M.own l) i [] h))).short

-- a clause more in the size of a list
pub size_more : (Cs : List (List ℕ)) (i n m : ℕ) (C : List ℕ) → i < length Cs → C ≡ get_or Cs i [] → n ≡ length (written (take i Cs)) → m ≡ n + (1 + length C) → m ≡ length (written (take (i + 1) Cs))
size_more Cs i n m C h e p q = omega (arith, longer Cs i h, ap length e)

-- ## Sizes

-- of equal clauses
pub measures_same : {Cs Ds : List (List ℕ)} {n : Size} → Ds ≡ Cs → Measures Cs n → Measures Ds n
measures_same {Cs} {Ds} {n} e m = record { words = m.words ∙ ap (λ Es. length (written Es)) (sym e); clauses = m.clauses ∙ ap length (sym e) }

-- of one literal alone
pub measures_one : (l : ℕ) → Measures ((l ∷ []) ∷ []) (record { words = 2; clauses = 1 })
measures_one l = record { words = unfold written in refl; clauses = refl }

-- of one list after another
pub measures_both : (Cs Ds : List (List ℕ)) (n m : Size) → Measures Cs n → Measures Ds m → Measures (Cs ++ Ds) (record { words = n.words + m.words; clauses = n.clauses + m.clauses })
measures_both Cs Ds n m p q = record {
  words = omega (arith, p.words, q.words, ap length (written_append Cs Ds), length-append (written Cs) (written Ds));
  clauses = omega (arith, p.clauses, q.clauses, length-append Cs Ds);
}
