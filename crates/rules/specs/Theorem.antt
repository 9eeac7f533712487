-- What simplification keeps, over any list of calls: the settings that a network admits.
-- Assumes nothing.
use Rattle.std.specs.Prelude.{◌≡◌, ℕ, ◌+◌, ◌*◌, ◌/◌, ◌<◌, ◌≤◌, Bool, true, false, ◌⊎◌, ◌↔◌, List, length, Ok, Err, slice_index_or}
use Rattle.network.specs.Assignments.{Assignment}
use Rattle.network.specs.Lists.{In}
use Rattle.network.specs.Lemmas.{lemmas}
use Rattle.network.specs.Networks.{Free, Admits}
use Rattle.image.specs.Faults.{fault}
use Rattle.image.specs.declared.fault.Fault.{Fault}
use Rattle.image.specs.Headers.{top, stated_count, run}
use Rattle.image.specs.Runs.{clauses}
use Rattle.intake.specs.Answers.{accepts}
use Rattle.intake.specs.Accepted.{Header, taken_in, total}
use Rattle.rules.specs.Store.{Meaning, count, live_clauses}
use Rattle.rules.specs.Lawful.{Lawful}
use Rattle.rules.specs.Work.{Work, own_of}
use Rattle.rules.specs.Const.{const_simplify}
use Rattle.rules.specs.Bve.{all_resolvents, uses_cleared, taken_out, attempt, bve_simplify}
use Rattle.rules.specs.Turns.{Turn, entries, const_entries, bve_turns, takes_out, bve_entries, subsume_checks, AllAccepted, AllGranted}
use Rattle.rules.specs.Calls.{clauses_in, begun, start, handed_out, words_out, const_answer, bve_answer, subsume_answer, simplify_answer, simplified_work, Call, called, after}
use Rattle.rules.specs.Good.{Good}

-- the frozen nodes
abbrev pub flags : List Bool → ℕ → Bool
flags fs n = slice_index_or fs n false

-- W comes of an image that take-in accepts, with the frozen flags fs, by `start` over some store and any calls after it
pub record Reached (ws : List ℕ) (fs : List Bool) (W : Work) : Type 0 where
  pub right : accepts ws ≡ true
  pub zero : flags fs 0 ≡ true
  pub store : Meaning
  pub first : Work
  pub starts : start ws fs store ≡ Ok first
  pub calls : List Call
  pub is : W ≡ after calls first

-- ## Start

-- of a work W that start makes of the image ws, the frozen flags fs and the store M: no entry is refused, and half of the room is free
pub record StartedWell (ws : List ℕ) (fs : List Bool) (M : Meaning) (W : Work) : Type 0 where
  pub unrefused : AllAccepted (entries (clauses_in ws) (begun ws fs M))
  pub half_free : live_clauses W.store ≤ M.room / 2
  pub room : W.store.room ≡ M.room

-- every work that start makes is such
abbrev pub StartsWell : Type 0
StartsWell = (ws : List ℕ) (fs : List Bool) (M : Meaning) (W : Work) → accepts ws ≡ true → flags fs 0 ≡ true → start ws fs M ≡ Ok W → StartedWell ws fs M W

-- ## Settings

-- the image ws is read, header and runs, as exactly the clauses that W hands out
pub record ReadAs (W : Work) (ws : List ℕ) : Type 0 where
  pub header : Header ws
  pub tops : top ws ≡ W.top
  pub runs : (n : ℕ) → 0 < n → n ≤ W.top → clauses (run ws n) ≡ handed_out W n
  pub network : (n : ℕ) → n ≤ W.top → taken_in ws n ≡ handed_out W n
  pub counted : stated_count ws ≡ total ws (top ws)

-- two images admit the same settings of the frozen nodes
abbrev pub SameSettings : (ℕ → Bool) → List ℕ → List ℕ → Type 0
SameSettings frozen ws vs = (setting : Assignment) → Admits (clauses_in ws) frozen setting ↔ Admits (clauses_in vs) frozen setting

-- ## Eliminations

-- a node taken out is not frozen, and is named in no clause that is live or handed out
pub record Gone (frozen : ℕ → Bool) (W : Work) : Type 0 where
  pub thawed : (v : ℕ) → In v W.out → frozen v ≡ false
  pub live : (v : ℕ) → In v W.out → (l : ℕ) (C : List ℕ) → In C (own_of W l) → Free v C
  pub handed : (v : ℕ) → In v W.out → (C : List ℕ) → In C (clauses_in (words_out W)) → Free v C

-- the turn t of a bve_simplify: an elimination enters no more clauses than it removes, and so an attempt leaves no more than it finds;
-- the counts of the node are 0 before its own clauses go
pub record SmallTurn (t : Turn) : Type 0 where
  pub no_more : takes_out t.at t.before ≡ true
      → live_clauses (taken_out t.at t.before).store + length (lemmas (all_resolvents t.before.store t.at)) ≤ live_clauses t.before.store
  pub fewer : live_clauses (attempt t.at t.before).store ≤ live_clauses t.before.store
  pub positive : count (uses_cleared t.at t.before) (2 * t.at) ≡ 0
  pub negative : count (uses_cleared t.at t.before) (2 * t.at + 1) ≡ 0

-- ## What never happens

-- no change that a pass asks of the store is refused: no entry is of an empty, a wide or a disordered clause, finds the store full or
-- contradicts a known value; const_simplify is asked for only where at most half of the room is live
pub record NeverRefused (W : Work) : Type 0 where
  pub in_const : live_clauses W.store ≤ W.store.room / 2 → AllAccepted (const_entries W)
  pub in_bve : AllAccepted (bve_entries W)
  pub in_subsume : AllGranted (subsume_checks W)

-- ## The theorem

-- of the image ws, the frozen flags fs and a work W
pub record Right (ws : List ℕ) (fs : List Bool) (W : Work) : Type 0 where
  -- the image handed out is read as the clauses handed out, and admits a setting exactly if the image taken in does
  pub read : ReadAs W (words_out W)
  pub settings : SameSettings (flags fs) (words_out W) ws
  pub gone : Gone (flags fs) W
  -- the next pass: a bve_simplify leaves no more clauses than it finds, a const_simplify at most twice as many; nothing is refused
  pub turns : (t : Turn) → In t (bve_turns W) → SmallTurn t
  pub shrinks : live_clauses (bve_simplify W).store ≤ live_clauses W.store
  pub doubles : live_clauses W.store ≤ W.store.room / 2 → live_clauses (const_simplify W).store ≤ 2 * live_clauses W.store
  pub unrefused : NeverRefused W
  -- the store is lawful, and the network in it keeps what the network taken in says, level by level
  pub lawful : Lawful W.store
  pub levels : Good (taken_in ws) W

-- whatever is taken in, frozen, started and called
abbrev pub AlwaysRight : Type 0
AlwaysRight = (ws : List ℕ) (fs : List Bool) (W : Work) → Reached ws fs W → Right ws fs W

-- two networks handed out, of one work or of two, with the same nodes frozen, admit the same settings exactly if the networks taken in do
abbrev pub ComparedAlike : Type 0
ComparedAlike = (ws vs : List ℕ) (fs gs : List Bool) (W V : Work) → Reached ws fs W → Reached vs gs V → ((n : ℕ) → flags fs n ≡ flags gs n)
    → SameSettings (flags fs) (words_out W) (words_out V) ↔ SameSettings (flags fs) ws vs

-- ## Calls

-- a call, answered or refused, leads on; an elimination logs its node, and no call forgets one; the room stays
pub record CallsLeadOn : Type 0 where
  pub reached : (ws : List ℕ) (fs : List Bool) (W : Work) → Reached ws fs W → (c : Call) → Reached ws fs (called c W)
  pub logged : (n : ℕ) (W : Work) → takes_out n W ≡ true → In n (attempt n W).out
  pub remembered : (c : Call) (W : Work) (v : ℕ) → In v W.out → In v (called c W).out
  pub room : (ws : List ℕ) (fs : List Bool) (W : Work) (r : Reached ws fs W) → W.store.room ≡ r.store.room

-- a refusal changes nothing, but that the passes of a simplify stand done where only its output was too small
pub record Refusals : Type 0 where
  pub const : (n : ℕ) (W : Work) (f : Fault) → (const_answer n W).1 ≡ Err f → (const_answer n W).0 ≡ W
  pub bve : (n : ℕ) (W : Work) (f : Fault) → (bve_answer n W).1 ≡ Err f → (bve_answer n W).0 ≡ W
  pub subsume : (n : ℕ) (W : Work) (f : Fault) → (subsume_answer n W).1 ≡ Err f → (subsume_answer n W).0 ≡ W
  pub simplify : (n m : ℕ) (W : Work) (f : Fault) → (simplify_answer n m W).1 ≡ Err f
      → ((simplify_answer n m W).0 ≡ W) ⊎ (((simplify_answer n m W).0 ≡ simplified_work W) × (f ≡ fault 14 (length (words_out (simplified_work W)))))
