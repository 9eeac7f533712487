-- The working words that a pass is lent hold what it puts there. Assumes nothing.
use Rattle.std.proofs.Common.{◌≡◌, ℕ, ◌≤◌, not, List, [], ◌∷◌, length, sym, ◌∙◌, subst, ⊎_elim, arith}
use Rattle.std.proofs.lemmas.Bool.{and_parts, not-true}
use Rattle.network.specs.Lists.{In}
use Rattle.rules.specs.Store.{index_off}
use Rattle.rules.specs.Lawful.{Lawful}
use Rattle.rules.specs.Work.{Work, storing, own_of, nodes_of}
use Rattle.rules.specs.Const.{const_node}
use Rattle.rules.specs.Bve.{all_resolvents, passed_over, given_up}
use Rattle.rules.specs.Turns.{Turn, turns, const_turns}
use Rattle.rules.specs.Sizes.{WordsSuffice}
use Rattle.rules.proofs.Lawful.{own_few}
use Rattle.rules.proofs.Passes.{index_off_keeps, const_node_keeps}
use Rattle.rules.proofs.Unrefused.{kept_few}
use Rattle.rules.proofs.Costs.{sizes_small}

-- a work met in const_simplify: its store is lawful, with the room of the first
abbrev Met : ℕ → Work → Type 0
Met r W = Lawful W.store × (W.store.room ≡ r)

turns_met : (r : ℕ) (ns : List ℕ) (W : Work) → Met r W → (T : Turn) → In T (turns ns W) → Met r T.before
unfolding turns
turns_met r [] W m T i = absurd i
turns_met r (n ∷ ns) W m T i =
    ⊎_elim (λ e. subst (λ U. Met r U.before) (sym e) m)
    (turns_met r ns (const_node n W) ((const_node_keeps n W m.0).0, (const_node_keeps n W m.0).1 ∙ m.1) T) i

const_met : (W : Work) → Lawful W.store → (T : Turn) → In T (const_turns W) → Met W.store.room T.before
const_met W L T i = turns_met W.store.room (nodes_of W) (storing W (index_off W.store)) (index_off_keeps W.store L) T i

marks_few : (W : Work) → Lawful W.store → (t : Turn) → In t (const_turns W) → (l : ℕ) → length (own_of t.before l) ≤ W.store.room
marks_few W L t i l =
    let m = const_met W L t i in
    subst (λ r. length (own_of t.before l) ≤ r) m.1 (own_few t.before.store m.0 l)

pub words_suffice : WordsSuffice
words_suffice = record {
  const = λ W. omega arith;
  bve = λ W. omega arith;
  subsume = λ W. omega arith;
  marks = marks_few;
  resolvents = λ W L t i e. omega (arith, sizes_small.few t.before t.at e, sizes_small.costs W L t i, sizes_small.lives W L t i);
  short = λ W n e. (kept_few W n (not-true (given_up W n (all_resolvents W.store n)) (and_parts (not (passed_over W n)) (not (given_up W n (all_resolvents W.store n))) e).1)).0;
  costs = λ W L t i. omega (arith, sizes_small.costs W L t i, sizes_small.lives W L t i);
}
