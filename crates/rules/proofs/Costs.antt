-- How large things get over any lawful store. Assumes nothing.
use Rattle.std.proofs.Common.{◌≡◌, ℕ, zero, suc, not, List, [], ◌∷◌, sym, ◌∙◌, subst, ⊎_elim, arith}
use Rattle.std.proofs.lemmas.Bool.{cond_both, and_parts, not-true}
use Rattle.network.specs.Lists.{In}
use Rattle.rules.specs.Store.{up_to, entered, enterable, enter, index_on}
use Rattle.rules.specs.Index.{Indexed}
use Rattle.rules.specs.Lawful.{Lawful}
use Rattle.rules.specs.Work.{Work, storing, add}
use Rattle.rules.specs.Bve.{all_resolvents, use_count, passed_over, given_up, attempt, least, but}
use Rattle.rules.specs.Turns.{Turn, attempt_turns, bve_turns}
use Rattle.rules.specs.Sizes.{SizesSmall}
use Rattle.rules.proofs.Along.{stays_chains, allowed_along, entry_cases, Steps, attempt_along}
use Rattle.rules.proofs.Index.{removed_indexed, entered_indexed, index_on_indexed}
use Rattle.rules.proofs.Formed.{formed_parts}
use Rattle.rules.proofs.Passes.{index_on_keeps, attempt_keeps, counts_small}
use Rattle.rules.proofs.Sizes.{subsume_fewer, words_few}
use Rattle.rules.proofs.Shrinks.{cost_live}
use Rattle.rules.proofs.Unrefused.{kept_few}

-- an index stays
add_indexed : (C : List ℕ) (W : Work) → Indexed W.store → Indexed (add C W).store
unfolding enter
add_indexed C W I = entry_cases C W (λ N. Indexed N.store) I
    (λ S e. allowed_along (λ M N. Indexed M → Indexed N) (stays_chains Indexed) (enterable W.store S) W.store (entered S W.store) (λ e. entered_indexed W.store S) I)

indexed_steps : Steps (λ W N. Indexed W.store → Indexed N.store)
indexed_steps = record { chains = stays_chains (λ W. Indexed W.store); enters = add_indexed; removes = λ l i W h I. removed_indexed W.store l i I h; takes = λ n W I. I }

attempt_indexed : (n : ℕ) (W : Work) → Indexed W.store → Indexed (attempt n W).store
attempt_indexed = attempt_along (λ W N. Indexed W.store → Indexed N.store) indexed_steps

-- a work met in the pass
record Met (r : ℕ) (W : Work) : Type 0 where
  lawful : Lawful W.store
  index : Indexed W.store
  room : W.store.room ≡ r

attempts_met : (r f : ℕ) (ws : List ℕ) (W : Work) → Met r W → (T : Turn) → In T (attempt_turns f ws W) → Met r T.before
unfolding attempt_turns
attempts_met r zero ws W m T i = absurd i
attempts_met r (suc f) [] W m T i = absurd i
attempts_met r (suc f) (k ∷ ks) W m T i =
    let n = least (use_count W.store) k ks in
    ⊎_elim (λ e. subst (λ U. Met r U.before) (sym e) m)
    (attempts_met r f (but n (k ∷ ks)) (attempt n W) (record { lawful = (attempt_keeps n W m.lawful).0; index = attempt_indexed n W m.index; room = (attempt_keeps n W m.lawful).1 ∙ m.room }) T) i

bve_met : (W : Work) → Lawful W.store → (T : Turn) → In T (bve_turns W) → Met W.store.room T.before
bve_met W L T = cond_both W.store.indexed [] (attempt_turns (suc W.top) (up_to (suc W.top)) (storing W (index_on W.store))) (λ Ts. In T Ts → Met W.store.room T.before)
    (λ e i. absurd i)
    (λ e i. attempts_met W.store.room (suc W.top) (up_to (suc W.top)) (storing W (index_on W.store))
    (record { lawful = (index_on_keeps W.store L).0; index = index_on_indexed W.store e (λ l C j. omega (arith, (formed_parts C (L.formed l C j)).small, L.placed l C j)); room = (index_on_keeps W.store L).1 }) T i)

pub sizes_small : SizesSmall
sizes_small = record {
  counts = counts_small;
  costs = λ W L t i. let m = bve_met W L t i in cost_live t.before.store m.lawful m.index t.at;
  lives = λ W L t i. let m = bve_met W L t i in omega (arith, m.lawful.within, m.room);
  few = λ W n e. (kept_few W n (not-true (given_up W n (all_resolvents W.store n)) (and_parts (not (passed_over W n)) (not (given_up W n (all_resolvents W.store n))) e).1)).1;
  subsumed = subsume_fewer;
  words = words_few;
}
