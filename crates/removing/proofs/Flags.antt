-- The literals in whose own lists stand uses, flagged one by one. Assumes nothing.
use Rattle.std.proofs.Common.{◌≡◌, ℕ, ◌+◌, ◌<◌, Bool, true, false, ◌||◌, List, [], ◌∷◌, Some, None, Option, length, get_or, set, take, replicate, sym, refl, ap, ◌∙◌, subst, ⊎_elim, arith}
use Rattle.std.specs.List.{list_any}
use Rattle.std.proofs.lemmas.Bool.{cases_eq}
use Rattle.std.proofs.lemmas.Bool.Decides.{nat_tests}
use Rattle.std.proofs.lemmas.List.{take_more, get_or-replicate, get_or-set_same, get_or-set_other}
use Rattle.std.proofs.lemmas.List.Folds.{list_any-append}
use Rattle.network.specs.Lists.{In}
use Rattle.rules.specs.Lawful.{Lawful}
use Rattle.rules.specs.Store.{Ref, live, dead, Meaning}
use Rattle.rules.proofs.Formed.{formed_parts}
use Rattle.rules.proofs.Places.{in_at}
use Rattle.removing.specs.Outs.{is_of}

-- a cursor along the uses of x, at place j: the use there, or nothing where there is none
abbrev pub UseAt : {U : Type 0} → (U → ℕ → ℕ → Type 0) → Meaning → ℕ → ℕ → Option U → Type 0
UseAt usage M x j o = elim o [ None ↦ length (M.uses x) ≡ j | Some u ↦ usage u x j × (j < length (M.uses x)) ]

-- a use names an own list of a literal up to 2,047
pub use_small : (M : Meaning) → Lawful M → (x j l i : ℕ) → j < length (M.uses x) → get_or (M.uses x) j dead ≡ live l i → l < 2048
use_small M L x j l i h e =
    let li = L.named x l i (subst (λ r. In r (M.uses x)) e (in_at (M.uses x) j dead h)) in
    let C = get_or (M.own l) i [] in
    let here = in_at (M.own l) i [] li in
    omega (arith, (formed_parts C (L.formed l C here)).small, L.placed l C here)

or_none : (a b : Bool) → (a || (b || false)) ≡ (a || b)
or_none a true = refl
or_none a false = refl

module _ (rs : List Ref) (j : ℕ) (h : j < length rs) (k : ℕ) (b : Bool) where
  one_more : list_any (is_of k) (take (j + 1) rs) ≡ (list_any (is_of k) (take j rs) || is_of k (get_or rs j dead))
  one_more = ap (list_any (is_of k)) (take_more rs j dead h) ∙ list_any-append (is_of k) (take j rs) (get_or rs j dead ∷ []) ∙ or_none (list_any (is_of k) (take j rs)) (is_of k (get_or rs j dead))

  module _ (fs : List Bool) (so_far : get_or fs k false ≡ (b || list_any (is_of k) (take j rs))) where
    -- a dead clause is in no own list
    pub flag_dead : get_or rs j dead ≡ dead → get_or fs k false ≡ (b || list_any (is_of k) (take (j + 1) rs))
    flag_dead e = let m = one_more ∙ ap (λ r. list_any (is_of k) (take j rs) || is_of k r) e in grind (arith, so_far, m)

    pub flag_live : (l i : ℕ) → get_or rs j dead ≡ live l i → k < length fs → get_or (set fs l true) k false ≡ (b || list_any (is_of k) (take (j + 1) rs))
    flag_live l i e kl =
        let m = one_more ∙ ap (λ r. list_any (is_of k) (take j rs) || is_of k r) e in
        ⊎_elim
        (λ q. let s = ap (λ n. get_or (set fs n true) k false) (sym q) ∙ get_or-set_same fs k true false kl in grind (arith, nat_tests, m, s, q))
        (λ ne. let s = get_or-set_other fs l k true false ne in grind (arith, nat_tests, m, s, so_far, ne)) (cases_eq k l)

-- no flag stood, and the uses of two literals were flagged
pub flags_both : (fs gs : List Bool) (k : ℕ) (a b : Bool) → get_or fs k false ≡ (get_or (replicate 2048 false) k false || a) → get_or gs k false ≡ (get_or fs k false || b) → k < 2048 → get_or gs k false ≡ (a || b)
flags_both fs gs k a b e f h = let z = get_or-replicate 2048 k false false h in grind (arith, e, f, z)
