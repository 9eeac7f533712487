-- The work before its first entry, by its parts. Assumes nothing.
use mathlib.Core.Path.{fun_ext}
use Rattle.std.proofs.Common.{◌≡◌, ℕ, ◌<◌, Bool, false, List, [], length, replicate, get_or, sym, ap, ◌∙◌, ⊎_elim, arith}
use Rattle.std.proofs.lemmas.Bool.{cases_lt}
use Rattle.std.proofs.lemmas.List.{get_or-replicate, get_or_past, length-replicate}
use Rattle.clause.specs.Types.{told, values_of}
use Rattle.clause.specs.declared.literals.Lbool.TheVariants.{Unknown}
use Rattle.image.specs.Headers.{top}
use Rattle.network.specs.Values.{Values, nothing}
use Rattle.rules.specs.Store.{Meaning, emptied}
use Rattle.rules.specs.Work.{Work}
use Rattle.rules.specs.Calls.{begun}

-- flags that agree at each of the nodes that there can be
flags_same : (xs ys : List Bool) (n : ℕ) → length xs ≡ n → length ys ≡ n → ((k : ℕ) → k < n → get_or xs k false ≡ get_or ys k false) → ◌≡◌ {A = ℕ → Bool} (λ k. get_or xs k false) (λ k. get_or ys k false)
flags_same xs ys n p q h = fun_ext (λ k. ⊎_elim (h k) (λ g. get_or_past xs k false (omega arith) ∙ sym (get_or_past ys k false (omega arith))) (cases_lt k n))

-- no node has a value
all_unknown : (n : ℕ) → values_of (replicate n Unknown) ≡ nothing
all_unknown n = fun_ext (λ k. ap told (⊎_elim (λ l. get_or-replicate n k Unknown Unknown l) (λ g. get_or_past (replicate n Unknown) k Unknown (omega (arith, length-replicate n Unknown))) (cases_lt k n)))

-- the work of these parts
work : ℕ → (ℕ → Bool) → Meaning → Values → Work
work t f M V = record { top = t; frozen = f; store = M; values = V; out = [] }

pub blank_is : (ws : List ℕ) (fs : List Bool) (M : Meaning) (t n : ℕ) (xs : List Bool) (N : Meaning)
    → t ≡ top ws → length xs ≡ n → length fs ≡ n → ((k : ℕ) → k < n → get_or xs k false ≡ get_or fs k false) → N ≡ emptied M
    → ◌≡◌ {A = Work} (record { top = t; frozen = λ k. get_or xs k false; store = N; values = values_of (replicate n Unknown); out = [] }) (begun ws fs M)
unfolding work
blank_is ws fs M t n xs N e p q h m =
    ap (λ u. work u (λ k. get_or xs k false) N (values_of (replicate n Unknown))) e ∙ ap (λ f. work (top ws) f N (values_of (replicate n Unknown))) (flags_same xs fs n p q h)
    ∙ ap (λ K. work (top ws) (λ k. get_or fs k false) K (values_of (replicate n Unknown))) m ∙ ap (work (top ws) (λ k. get_or fs k false) (emptied M)) (all_unknown n)
