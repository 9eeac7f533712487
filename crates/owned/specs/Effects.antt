-- What the changes of own lists make of them. Assumes nothing.
use Rattle.std.specs.Prelude.{◌≡◌, ℕ, ◌+◌, ◌<◌, ◌≤◌, Bool, cond, List, [], ◌∷◌, ◌++◌}
use Rattle.rings.specs.Rings.{at, Lacks, drop_at}
use Rattle.network.specs.Clauses.{front, has, last, without}
use Rattle.slots.specs.Slots.{filled_by_last}
use Rattle.owned.specs.Lists.{own, lost, text, listed}
use Rattle.owned.specs.declared.owned.Owned.{Owned}

-- the clauses and what uses have their slots at stay
pub record SameTexts (s t : Owned) : Type 0 where
  pub texts : (x : ℕ) → text t x ≡ text s x
  pub listings : (x : ℕ) → listed t x ≡ listed s x

-- the clause C is in slot x, which nothing had, at the end of the own list of its last literal
pub record Admitted (x : ℕ) (C : List ℕ) (s t : Owned) : Type 0 where
  pub slot : (2050 ≤ x) × (x < 2050 + s.room)
  pub room : t.room ≡ s.room
  pub fresh : (l : ℕ) → Lacks x (own s l)
  pub found : Lacks x (lost s)
  pub owns : (l : ℕ) → own t l ≡ at (own s) (last C) (own s (last C) ++ (x ∷ [])) l
  pub losts : lost t ≡ lost s
  pub texts : (y : ℕ) → text t y ≡ at (text s) x C y
  pub listings : (y : ℕ) → listed t y ≡ at (listed s) x (front C) y

-- slot x left place i of the own list of l, to which the last one came; it is free
pub record Released (x l i : ℕ) (s t : Owned) : Type 0 where
  pub room : t.room ≡ s.room
  pub owns : (m : ℕ) → own t m ≡ at (own s) l (filled_by_last 0 i (own s l)) m
  pub losts : lost t ≡ lost s
  pub same : SameTexts s t

-- slot x left place i of the own list of l, order kept; it is lost if b, and else free
pub record Retired (b : Bool) (x l i : ℕ) (s t : Owned) : Type 0 where
  pub room : t.room ≡ s.room
  pub owns : (m : ℕ) → own t m ≡ at (own s) l (drop_at i (own s l)) m
  pub losts : lost t ≡ cond b (lost s ++ (x ∷ [])) (lost s)
  pub same : SameTexts s t

-- the clause in slot x lost the literal k, and uses may have it at the same literals
pub record Shortened (x k : ℕ) (s t : Owned) : Type 0 where
  pub room : t.room ≡ s.room
  pub owns : (m : ℕ) → own t m ≡ own s m
  pub losts : lost t ≡ lost s
  pub texts : (y : ℕ) → text t y ≡ at (text s) x (without k (text s x)) y
  pub listings : (y j : ℕ) → has j (listed t y) ≡ has j (listed s y)

-- uses may have slot x at the literals of its clause but the last
pub record Relisted (x : ℕ) (s t : Owned) : Type 0 where
  pub room : t.room ≡ s.room
  pub owns : (m : ℕ) → own t m ≡ own s m
  pub losts : lost t ≡ lost s
  pub texts : (y : ℕ) → text t y ≡ text s y
  pub listings : (y : ℕ) → listed t y ≡ at (listed s) x (front (text s x)) y

-- no slot is lost
pub record Freed (s t : Owned) : Type 0 where
  pub room : t.room ≡ s.room
  pub owns : (m : ℕ) → own t m ≡ own s m
  pub losts : lost t ≡ []
  pub same : SameTexts s t

-- no list has a slot
pub record Emptied (s t : Owned) : Type 0 where
  pub room : t.room ≡ s.room
  pub owns : (m : ℕ) → own t m ≡ []
  pub losts : lost t ≡ []
