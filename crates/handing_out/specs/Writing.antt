-- Words that are written one part after another. Assumes nothing.
use Rattle.std.specs.Prelude.{◌≡◌, ℕ, ◌+◌, List, ◌++◌, length, take, drop}
use Rattle.handing_out.specs.declared.write.Writer.{Writer}

-- the words ws with xs in place of those from a place on
unfoldable pub laid : ℕ → List ℕ → List ℕ → List ℕ
laid at xs ws = take at ws ++ (xs ++ drop (at + length xs) ws)

-- the writer w has come to v by writing xs
pub record Wrote (xs : List ℕ) (w v : Writer) : Type 0 where
  pub same_reference : v.words.ghost_name ≡ w.words.ghost_name
  pub at : v.at ≡ w.at + length xs
  pub words : v.words.now ≡ laid w.at xs w.words.now
