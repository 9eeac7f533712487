-- An own list as it is written, clause by clause. Assumes nothing.
use Rattle.std.proofs.Common.{◌≡◌, ℕ, ◌+◌, ◌<◌, ◌≤◌, List, [], ◌∷◌, ◌++◌, length, get_or, take, sym, ap, ◌∙◌, arith}
use Rattle.image.specs.Runs.{written}
use Rattle.handing_out.specs.Writing.{Wrote}
use Rattle.handing_out.specs.declared.write.Writer.{Writer}
use Rattle.handing_out.proofs.Runs.{written_more, longer, part_shorter}
use Rattle.handing_out.proofs.Laying.{wrote_both, wrote_length, wrote_same}

module _ (Cs : List (List ℕ)) (i : ℕ) (C : List ℕ) (less : i < length Cs) (e : C ≡ get_or Cs i []) where
  -- the clause is among the words of the list
  pub clause_fits : length (written (take i Cs)) + (1 + length C) ≤ length (written Cs)
  clause_fits = omega (arith, longer Cs i less, part_shorter Cs (i + 1), ap length e)

  module _ (w v : Writer) (room : w.at + length (written Cs) ≤ length w.words.now) (wrote : Wrote (written (take i Cs)) w v) where
    -- there is room for it
    pub clause_room : v.at + (1 + length C) ≤ length v.words.now
    clause_room = omega (arith, clause_fits, wrote.at, wrote_length (omega (arith, clause_fits)) wrote)

    -- and it is written
    pub clause_wrote : (u : Writer) → Wrote (length C ∷ C) v u → Wrote (written (take (i + 1) Cs)) w u
    clause_wrote u p = wrote_same (ap (λ D. written (take i Cs) ++ (length D ∷ D)) e ∙ sym (written_more Cs i less)) (wrote_both (omega (arith, clause_fits)) wrote p)
