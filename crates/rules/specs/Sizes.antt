-- How large things get, over any lawful store: what working words and output have to hold.
-- Assumes nothing.
use Rattle.std.specs.Prelude.{◌≡◌, ℕ, ◌+◌, ◌*◌, ◌≤◌, true, List, length}
use Rattle.network.specs.Lists.{In}
use Rattle.rules.specs.Store.{Meaning, count, live_clauses, kept_clauses}
use Rattle.rules.specs.Lawful.{Lawful}
use Rattle.rules.specs.Work.{Work, own_of}
use Rattle.rules.specs.Bve.{cost, all_resolvents}
use Rattle.rules.specs.Subsume.{subsume_simplify}
use Rattle.rules.specs.Turns.{Turn, const_turns, bve_turns, takes_out}
use Rattle.rules.specs.Calls.{words_out, need}

-- the bounds that a lawful store gives
pub record SizesSmall : Type 0 where
  -- a literal has no more uses than clauses are kept
  pub counts : (M : Meaning) → Lawful M → (x : ℕ) → count M x ≤ kept_clauses M
  -- an attempted node costs no more than there are live clauses, and they are no more than the room
  pub costs : (W : Work) → Lawful W.store → (t : Turn) → In t (bve_turns W) → cost t.before.store t.at ≤ live_clauses t.before.store
  pub lives : (W : Work) → Lawful W.store → (t : Turn) → In t (bve_turns W) → live_clauses t.before.store ≤ W.store.room
  -- a node that is taken out has no more resolvents than it costs
  pub few : (W : Work) (n : ℕ) → takes_out n W ≡ true → length (all_resolvents W.store n) ≤ cost W.store n
  -- a subsume_simplify adds no clause
  pub subsumed : (W : Work) → live_clauses (subsume_simplify W).store ≤ live_clauses W.store
  -- an image handed out has no more words than these
  pub words : (W : Work) → Lawful W.store → W.top ≤ 1023 → length (words_out W) ≤ 3 * W.top + 3 + 33 * live_clauses W.store

-- ## Working words

-- const_simplify has a mark for each clause of a node's two own lists
abbrev pub const_words : ℕ → ℕ
const_words room = 2 * room

-- bve_simplify has the count of each of 2,048 literals, and for each of 1,024 nodes its place and an entry; for each resolvent its length,
-- 32 literals and a word in each of three lists of numbers; and the literals of one that is too long or one too many
abbrev pub bve_words : ℕ → ℕ
bve_words room = 2048 + 2 * 1024 + 36 * room + 64

-- subsume_simplify has for each node how many clauses stand around it
abbrev pub subsume_words : ℕ
subsume_words = 1024

-- the working words that a pass is lent hold what it puts there
pub record WordsSuffice : Type 0 where
  pub const : (W : Work) → const_words W.store.room ≤ need W
  pub bve : (W : Work) → bve_words W.store.room ≤ need W
  pub subsume : (W : Work) → subsume_words ≤ need W
  -- the marks: in no turn has a literal more own clauses than the room
  pub marks : (W : Work) → Lawful W.store → (t : Turn) → In t (const_turns W) → (l : ℕ) → length (own_of t.before l) ≤ W.store.room
  -- the resolvents: an attempt that is not given up has no more than the room, none with more than 32 literals; one that is given up
  -- stops at the first past the cost, which is no more than the room
  pub resolvents : (W : Work) → Lawful W.store → (t : Turn) → In t (bve_turns W) → takes_out t.at t.before ≡ true → length (all_resolvents t.before.store t.at) ≤ W.store.room
  pub short : (W : Work) (n : ℕ) → takes_out n W ≡ true → (R : List ℕ) → In R (all_resolvents W.store n) → length R ≤ 32
  pub costs : (W : Work) → Lawful W.store → (t : Turn) → In t (bve_turns W) → cost t.before.store t.at ≤ W.store.room
