-- The passes as they are where no entry is refused: each entry made without a test. Assumes nothing.
use Rattle.std.proofs.Common.{◌≡◌, ℕ, ◌+◌, ◌*◌, Bool, true, false, cond, List, [], ◌∷◌, Some, None, Option, refl}
use Rattle.network.specs.Lemmas.{lemmas}
use Rattle.network.specs.Values.{simplified}
use Rattle.rules.specs.Store.{entered, index_off}
use Rattle.rules.specs.Work.{Work, storing, valuing, own_of, each, nodes_of, known_by}
use Rattle.rules.specs.Const.{Fate, goes, shrinks, stays, fate, marking, both_cleared, const_drop}
use Rattle.rules.specs.Bve.{all_resolvents, taken_out, passed_over, given_up}

abbrev pub add_simplified : Option (List ℕ) → Work → Work
add_simplified None W = W
add_simplified (Some C) W = valuing (storing W (entered C W.store)) (known_by C W.values)

unfoldable pub add : List ℕ → Work → Work
add C W = add_simplified (simplified W.values C) W

abbrev pub judged_by : Fate → Work → (Work → List Bool × Work) → List Bool × Work
judged_by goes W go = marking true (go W)
judged_by (shrinks S) W go = marking false (go (add S W))
judged_by stays W go = marking false (go W)

unfoldable pub judged : List (List ℕ) → Work → List Bool × Work
judged [] W = ([], W)
judged (C ∷ Cs) W = judged_by (fate W.values C) W (λ w. judged Cs w)

abbrev pub then_negative : ℕ → List (List ℕ) → List Bool × Work → Work
then_negative n Cs r = both_cleared n r.0 (judged Cs r.1)

unfoldable pub const_node : ℕ → Work → Work
const_node n W = then_negative n (own_of W (2 * n + 1)) (judged (own_of W (2 * n)) W)

unfoldable pub const_simplify : Work → Work
const_simplify W = each const_drop (nodes_of W) (each const_node (nodes_of W) (storing W (index_off W.store)))

unfoldable pub eliminated : ℕ → List (List ℕ) → Work → Work
eliminated n Rs W = each add (lemmas Rs) (taken_out n W)

abbrev pub attempted : ℕ → List (List ℕ) → Work → Work
attempted n Rs W = cond (given_up W n Rs) W (eliminated n Rs W)

unfoldable pub attempt : ℕ → Work → Work
attempt n W = cond (passed_over W n) W (attempted n (all_resolvents W.store n) W)

-- an entry, by cases: a literal of the clause is true, or what is left of it comes in
pub add_cases : (C : List ℕ) (W : Work) (P : Work → Type 0) → P W → ((S : List ℕ) → simplified W.values C ≡ Some S → P (add_simplified (Some S) W)) → P (add C W)
unfolding add
add_cases C W P p = go (simplified W.values C)
  where
    go : (o : Option (List ℕ)) → ((S : List ℕ) → o ≡ Some S → P (add_simplified (Some S) W)) → P (add_simplified o W)
    go None h = p
    go (Some S) h = h S refl
