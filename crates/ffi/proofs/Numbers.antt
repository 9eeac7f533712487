-- Every refusal is one of the table, so none has the number 0, which says that all is done. Assumes nothing.
use Rattle.std.proofs.Common.{ℕ, zero, suc, ◌≤◌, Bool, true, false, cond, List, [], ◌∷◌, Some, None, Option, Ok, Err, Result, arith}
use Rattle.std.proofs.lemmas.Bool.{cond_both}
use Rattle.image.specs.Faults.{◌then◌, fault, tested}
use Rattle.image.specs.declared.fault.Fault.{Fault}
use Rattle.intake.specs.Answers.{node_answer, nodes_answer, rows_answer, searched, take_in_answer}
use Rattle.input.specs.Inputs.{freeze_answer}
use Rattle.rules.specs.Store.{Meaning}
use Rattle.rules.specs.Work.{Work}
use Rattle.rules.specs.Calls.{finalize_answer, simplify_answer, start, unless_loose}
use Rattle.ffi.specs.Simplified.{Numbered, prepared, simplified, simplified_over, store_checked}

module _ {X : Type 0} where
  -- one of two answers
  either : (b : Bool) (r s : Result X Fault) → Numbered r → Numbered s → Numbered (cond b r s)
  either b r s h i = cond_both b r s Numbered (λ _. h) (λ _. i)

  -- one answer and then another
  next : {Y : Type 0} (r : Result X Fault) (f : X → Result Y Fault) → Numbered r → ((x : X) → Numbered (f x)) → Numbered (r then f)
  next (Ok x) f h i = i x
  next (Err e) f h i = record { number = h.number }

  -- an answer that is no refusal
  fine : (x : X) → Numbered {X = X} (Ok x)
  fine x = record { number = tt }

  -- a refusal of the table
  told : (n p : ℕ) → 1 ≤ n → n ≤ 14 → Numbered {X = X} (Err (fault n p))
  told n p l h = record { number = (l, h) }

-- a test that gives a refusal of the table
test : (b : Bool) (n p : ℕ) → 1 ≤ n → n ≤ 14 → Numbered (tested b (fault n p))
test b n p l h = either b (Ok tt) (Err (fault n p)) (fine tt) (told n p l h)

ruleset steps = (arith, next, either, test, told, fine)

-- ## Taking in and freezing

rows_numbered : (n : ℕ) (ws : List ℕ) → Numbered (rows_answer n ws)
unfolding rows_answer searched
rows_numbered n ws = search steps

node_numbered : (n : ℕ) (ws : List ℕ) → Numbered (node_answer n ws)
unfolding node_answer
node_numbered n ws = search (steps, rows_numbered)

nodes_numbered : (ws : List ℕ) (k : ℕ) → Numbered (nodes_answer ws k)
unfolding nodes_answer
nodes_numbered ws zero = fine 0
nodes_numbered ws (suc k) = let h = nodes_numbered ws k in search (steps, node_numbered)

taken_numbered : (ws : List ℕ) → Numbered (take_in_answer ws)
unfolding take_in_answer
taken_numbered ws = search (steps, nodes_numbered)

frozen_numbered : (ws ns : List ℕ) → Numbered (freeze_answer ws ns)
frozen_numbered ws [] = fine tt
frozen_numbered ws (n ∷ ns) = let h = frozen_numbered ws ns in search steps

-- ## Starting and simplifying

kind_numbered : (indexed : Bool) (room words : ℕ) → Numbered (store_checked indexed room words)
kind_numbered true room words = search steps
kind_numbered false room words = search steps

loose_numbered : (o : Option ℕ) (W : Work) → Numbered (unless_loose o W)
loose_numbered None W = fine W
loose_numbered (Some n) W = search steps

start_numbered : (ws : List ℕ) (fs : List Bool) (M : Meaning) → Numbered (start ws fs M)
unfolding start
start_numbered ws fs M = search (steps, loose_numbered)

handed_numbered : (m : ℕ) (W : Work) → Numbered (finalize_answer m W)
unfolding finalize_answer
handed_numbered m W = search steps

-- a work with one of two answers
either_work : {X : Type 0} (b : Bool) (r s : Work × Result X Fault) → Numbered r.1 → Numbered s.1 → Numbered (cond b r s).1
either_work b r s h i = cond_both b r s (λ p. Numbered p.1) (λ _. h) (λ _. i)

simplify_numbered : (n m : ℕ) (W : Work) → Numbered (simplify_answer n m W).1
unfolding simplify_answer
simplify_numbered n m W = search (steps, either_work, handed_numbered)

-- every refusal of the library
pub numbered : (indexed : Bool) (ws ns : List ℕ) (room words n m : ℕ) → Numbered (simplified indexed ws ns room words n m)
unfolding prepared simplified_over
numbered indexed ws ns room words n m = search (steps, taken_numbered, frozen_numbered, kind_numbered, start_numbered, simplify_numbered)
