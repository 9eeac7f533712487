-- Small facts on numbers, options and lists. Assumes nothing.
use Rattle.std.proofs.Common.{◌≡◌, List, [], ◌∷◌, length, Some, None, Option, refl, inl}
use Rattle.network.specs.Lists.{In}

pub some_none : {X : Type 0} (x : X) → ◌≡◌ {A = Option X} (Some x) None → ⊥
some_none x e = cc

pub none_some : {X : Type 0} (x : X) → ◌≡◌ {A = Option X} None (Some x) → ⊥
none_some x e = cc

pub nil_length : {X : Type 0} (xs : List X) → ((x : X) → In x xs → ⊥) → length xs ≡ 0
nil_length [] h = refl
nil_length (x ∷ xs) h = absurd (h x (inl refl))
