-- What the calls of a work promise, in the words of the subject. Assumes nothing.
use Rattle.std.specs.Prelude.{◌≡◌, ℕ, Bool, true, false, ◌↔◌, List, []}
use Rattle.network.specs.Lists.{In}
use Rattle.network.specs.Networks.{Free}
use Rattle.rules.specs.Store.{Meaning}
use Rattle.rules.specs.Work.{Work}
use Rattle.rules.specs.Turns.{Turn, bve_turns}
use Rattle.rules.specs.Calls.{clauses_in, words_out}
use Rattle.rules.specs.Theorem.{flags, Reached, ReadAs, SameSettings, SmallTurn}
use Rattle.simplifier.specs.declared.state.Simplifier.{Simplifier}
use Rattle.simplifier.specs.Shown.{work_of}

-- from s to t the nodes, the frozen ones and the room are the same, and a node taken out stays out
pub record Keeps {S : Type 0} (meaning : S → Meaning) (s t : Simplifier S) : Type 0 where
  pub top : t.top ≡ s.top
  pub frozen : (n : ℕ) → flags t.frozen n ≡ flags s.frozen n
  pub room : (meaning t.store).room ≡ (meaning s.store).room
  pub out : (v : ℕ) → flags s.taken_out v ≡ true → flags t.taken_out v ≡ true

-- the node v is not frozen, and no live clause names it
pub record Gone {S : Type 0} (meaning : S → Meaning) (s : Simplifier S) (v : ℕ) : Type 0 where
  pub thawed : flags s.frozen v ≡ false
  pub unnamed : (l : ℕ) (C : List ℕ) → In C ((meaning s.store).own l) → Free v C

-- each node taken out is gone
abbrev pub AllGone : {S : Type 0} → (S → Meaning) → Simplifier S → Type 0
AllGone meaning s = (v : ℕ) → flags s.taken_out v ≡ true → Gone meaning s v

-- in a bve_simplify of W each elimination enters no more clauses than it removes
abbrev pub SmallTurns : Work → Type 0
SmallTurns W = (t : Turn) → In t (bve_turns W) → SmallTurn t

-- the words that s hands out, but for a want of room
abbrev pub words_of : {S : Type 0} → (S → Meaning) → Simplifier S → List ℕ
words_of meaning s = words_out (work_of meaning s [])

-- the image vs, handed out by s, is right for the image ws taken in
pub record Faithful {S : Type 0} (meaning : S → Meaning) (s : Simplifier S) (ws vs : List ℕ) : Type 0 where
  -- it is read, header and runs, as exactly the clauses that s hands out
  pub read : ReadAs (work_of meaning s []) vs
  -- it admits exactly the settings of the frozen nodes that the image taken in admits
  pub settings : SameSettings (flags s.frozen) vs ws
  -- it names no node that was taken out
  pub unnamed : (v : ℕ) → flags s.taken_out v ≡ true → (C : List ℕ) → In C (clauses_in vs) → Free v C
  -- it admits the settings that the image handed out of any other work with the same nodes frozen admits exactly if the images taken in do
  pub compared : (us : List ℕ) (gs : List Bool) (V : Work) → Reached us gs V → ((n : ℕ) → flags s.frozen n ≡ flags gs n)
      → SameSettings (flags s.frozen) vs (words_out V) ↔ SameSettings (flags s.frozen) ws us
