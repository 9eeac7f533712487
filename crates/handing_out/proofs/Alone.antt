-- A node that is handed out as its value's clause alone. Assumes nothing.
use Rattle.std.proofs.Common.{◌≡◌, ℕ, ◌+◌, ◌-◌, ◌*◌, ◌/◌, Bool, true, cond, List, [], ◌∷◌, Some, None, Option, sym, refl, ap, ◌∙◌, ◌++◌, arith}
use Rattle.std.proofs.lemmas.Bool.Decides.{nat_tests}
use Rattle.network.specs.Assignments.{opposite}
use Rattle.network.specs.Values.{Values, flipped, sign, literal, unit_of}
use Rattle.rules.specs.Work.{Work, own_of}
use Rattle.rules.specs.Calls.{only_unit, handed_out}

even : (n : ℕ) → sign (2 * n) ≡ true
even n = grind (arith, nat_tests)

flipped_true : (o : Option Bool) → flipped true o ≡ o
flipped_true None = refl
flipped_true (Some b) = refl

-- what is known of the positive literal is what is known of its node
positive : (V : Values) (n : ℕ) → literal V (2 * n) ≡ V n
unfolding literal
positive V n = ap (λ s. flipped s (V (2 * n / 2))) (even n) ∙ flipped_true (V (2 * n / 2)) ∙ ap V (omega arith)

-- the negative literal follows the positive one
pub negative : (n : ℕ) → opposite (2 * n) ≡ 2 * n + 1
unfolding opposite
negative n = ap (λ s. cond s (2 * n + 1) (2 * n - 1)) (even n)

-- a frozen node with a value has that alone
pub alone : (n : ℕ) (f : Bool) (V : Values) (b : Bool) (l : ℕ) → f ≡ true → literal V (2 * n) ≡ Some b → l ≡ cond b (2 * n) (2 * n + 1) → (Cs : List (List ℕ)) → only_unit n f (V n) Cs ≡ (l ∷ []) ∷ []
unfolding unit_of
alone n f V b l e v q Cs = ap (λ o. only_unit n f o Cs) (sym (positive V n) ∙ v) ∙ ap (λ g. cond g ((cond b (2 * n) (2 * n + 1) ∷ []) ∷ []) Cs) e ∙ ap (λ k. (k ∷ []) ∷ []) (sym q)

-- a node without a value has its clauses
pub unvalued : (n : ℕ) (f : Bool) (V : Values) → literal V (2 * n) ≡ None → (Cs : List (List ℕ)) → only_unit n f (V n) Cs ≡ Cs
unvalued n f V v Cs = ap (λ o. only_unit n f o Cs) (sym (positive V n) ∙ v)

-- what is told of a literal, by its number
pub known : (V : Values) (l k : ℕ) {o : Option Bool} → l ≡ k → o ≡ literal V l → literal V k ≡ o
known V l k e h = sym (h ∙ ap (literal V) e)

-- what is handed out of a node, by what becomes of any clauses that it has
pub handed_is : (W : Work) (n : ℕ) (F : List (List ℕ) → List (List ℕ)) → ((Cs : List (List ℕ)) → only_unit n (W.frozen n) (W.values n) Cs ≡ F Cs) → handed_out W n ≡ F (own_of W (2 * n) ++ own_of W (2 * n + 1))
unfolding handed_out
handed_is W n F e = e (own_of W (2 * n) ++ own_of W (2 * n + 1))
