-- The theorems of the crate, each on the contract of a function.
-- Assumes nothing.
use Rattle.std.specs.Prelude.{◌≡◌, ℕ, ◌<◌, ◌≤◌, Bool, true, false, not, ◌&&◌, ◌⊎◌, ◌↔◌, List, ◌∷◌, ◌++◌, map, length, Some, None, filter as kept_by, ◌≢◌}
use Rattle.std.specs.List.{list_all}
use Rattle.network.specs.Assignments.{Assignment, node, opposite, lit, put, holds, sat, AgreeOn}
use Rattle.network.specs.Lists.{In}
use Rattle.network.specs.Rows.{lower, clashes, is_loose, Narrow, Valued, Tight, Clash, Loose}
use Rattle.network.specs.Levels.{Below, Total, Same}
use Rattle.network.specs.Networks.{Network, level, Within, Owned, Free}
use Rattle.network.specs.Resolution.{Resolves, resolve, Resolvent, Tautology, Resolved, ResolvedAway, twice}
use Rattle.network.specs.Clauses.{Rising, Ordered, without, Subsumes}
use Rattle.network.specs.Subsumption.{Strengthens, part_of, fits}
use Rattle.network.specs.Values.{Values, simplified, Obeys, left_holds, Satisfied, LeftOf}
use Rattle.network.specs.Signature.{place, signature, bit_at, Covers, within, missing}

-- a clause's value depends on the nodes that it names alone, and lists of clauses hold part by part
pub record Basics : Type 0 where
  pub flips : (σ : Assignment) (l : ℕ) → lit σ (opposite l) ≡ not (lit σ l)
  pub agree : (σ τ : Assignment) (C : List ℕ) → AgreeOn C σ τ → holds σ C ≡ holds τ C
  pub elsewhere : (σ : Assignment) (n : ℕ) (b : Bool) (C : List ℕ) → Free n C → holds (put σ n b) C ≡ holds σ C
  pub append : (σ : Assignment) (Cs Ds : List (List ℕ)) → sat σ (Cs ++ Ds) ≡ (sat σ Cs && sat σ Ds)
  pub filter : (σ : Assignment) (p : List ℕ → Bool) (Cs : List (List ℕ)) → sat σ Cs ≡ true → sat σ (kept_by p Cs) ≡ true
  pub mapped : (σ : Assignment) (f : List ℕ → List ℕ) (Cs : List (List ℕ)) → sat σ (map f Cs) ≡ list_all (λ C. holds σ (f C)) Cs

-- the tests over all rows of a node tell exactly whether some values of the other nodes leave it none, or both
pub record RowsTell : Type 0 where
  pub few : (n : ℕ) (Cs : List (List ℕ)) → (length (lower n Cs) ≤ 8) ↔ Narrow n Cs
  pub clash : (n : ℕ) (Cs : List (List ℕ)) → (clashes n Cs ≡ true) ↔ Clash n Cs
  pub valued : (n : ℕ) (Cs : List (List ℕ)) → clashes n Cs ≡ false → Valued n Cs
  pub loose : (n : ℕ) (Cs : List (List ℕ)) → (is_loose n Cs ≡ true) ↔ Loose n Cs
  pub tight : (n : ℕ) (Cs : List (List ℕ)) → is_loose n Cs ≡ false → Tight n Cs

-- `resolve` gives the resolvent: the literals of C without x and of D without its opposite, in order; none for a tautology
pub record Resolution : Type 0 where
  pub is : (x : ℕ) (C D : List ℕ) → Ordered C → Ordered D → Resolved x C D (resolve x C D)
  -- both ways: it answers R just where R is the resolvent, and None just where there is a tautology
  pub exact : (x : ℕ) (C D R : List ℕ) → Ordered C → Ordered D → (resolve x C D ≡ Some R) ↔ Resolvent x C D R
  pub none : (x : ℕ) (C D : List ℕ) → Ordered C → Ordered D → (resolve x C D ≡ None) ↔ Tautology x C D
  -- it holds where both clauses hold
  pub sound : (σ : Assignment) (x : ℕ) (C D R : List ℕ) → Ordered C → Ordered D → resolve x C D ≡ Some R → holds σ C ≡ true → holds σ D ≡ true → holds σ R ≡ true
  -- what the answer says is what the resolvent says, and a tautology says nothing
  pub says : (σ : Assignment) (x : ℕ) (C D R : List ℕ) → Ordered C → Ordered D → resolve x C D ≡ Some R → (holds σ R ≡ true) ↔ Resolves x C D σ
  pub nothing : (σ : Assignment) (x : ℕ) (C D : List ℕ) → Ordered C → Ordered D → resolve x C D ≡ None → Resolves x C D σ
  -- a rising list is one list: its elements fix it
  pub one : (C D : List ℕ) → Rising C → Rising D → ((l : ℕ) → In l C → In l D) → ((l : ℕ) → In l D → In l C) → C ≡ D

-- a node by its definition
abbrev pub DefinitionOut : Type 0
DefinitionOut = (cs us : List (List ℕ)) (v : ℕ) (σ : Assignment) (b : Bool) → ((D : List ℕ) → In D cs → Ordered D) → ((C : List ℕ) → In C us → Ordered C)
    → sat (put σ v b) cs ≡ true → sat (put σ v (not b)) cs ≡ false → (sat (put σ v b) us ≡ true) ↔ ResolvedAway v cs us σ

-- the tests of one clause against another answer what subsumption and strengthening are, and both are sound
pub record Fitting : Type 0 where
  -- the three answers of `fits`, each both ways
  pub whole : (C D : List ℕ) → Ordered C → Ordered D → (fits C D ≡ (true, None)) ↔ Subsumes C D
  pub but : (C D : List ℕ) → Ordered C → Ordered D → (l : ℕ) → (fits C D ≡ (false, Some l)) ↔ Strengthens l C D
  pub neither : (C D : List ℕ) → Ordered C → Ordered D → (fits C D ≡ (false, None)) ↔ ((Subsumes C D → ⊥) × ((l : ℕ) → Strengthens l C D → ⊥))
  pub part : (C D : List ℕ) → Ordered C → Ordered D → (part_of C D ≡ true) ↔ Subsumes C D
  -- no clause fits a shorter one, whatever their order
  pub longer : (C D : List ℕ) → length D < length C → (fits C D ≡ (false, None)) × (part_of C D ≡ false)
  pub subsumes : (σ : Assignment) (C D : List ℕ) → Subsumes C D → holds σ C ≡ true → holds σ D ≡ true
  pub strengthens : (σ : Assignment) (l : ℕ) (C D : List ℕ) → Strengthens l C D → holds σ C ≡ true → holds σ D ≡ holds σ (without (opposite l) D)
  -- the strengthened clause has the literals of D but the opposite of l, in order, and is the resolvent of C and D upon l
  pub dropped : (x : ℕ) (D : List ℕ) (k : ℕ) → In k (without x D) ↔ (In k D × (k ≢ x))
  pub order : (x : ℕ) (D : List ℕ) → Ordered D → Ordered (without x D)
  pub resolvent : (C D : List ℕ) → Ordered C → Ordered D → (l : ℕ) → Strengthens l C D → resolve l C D ≡ Some (without (opposite l) D)

-- a clause under known values says what it said, to every assignment that has the values
pub record Simplification : Type 0 where
  pub keeps : (σ : Assignment) (V : Values) (C : List ℕ) → Obeys σ V → left_holds σ (simplified V C) ≡ holds σ C
  -- both ways: it goes just where a literal is true, and else R is left, just where R has the literals that are not false
  pub gone : (V : Values) (C : List ℕ) → (simplified V C ≡ None) ↔ Satisfied V C
  pub exact : (V : Values) (C R : List ℕ) → Ordered C → (simplified V C ≡ Some R) ↔ LeftOf V C R
  pub order : (V : Values) (C R : List ℕ) → Ordered C → simplified V C ≡ Some R → Ordered R
  -- no two neighbours in what is left name one node, so that there is never an equal or an opposite one to merge
  pub apart : (V : Values) (C R : List ℕ) → Ordered C → simplified V C ≡ Some R → twice R ≡ false

-- what signatures tell of their clauses
pub record Signatures : Type 0 where
  -- a bit is set just where a literal has that place
  pub bits : (C : List ℕ) (j : ℕ) → j < 128 → (bit_at (signature C) j ≡ 1) ↔ ((l : ℕ) × In l C × (place l ≡ j))
  pub own : (C : List ℕ) → Covers (signature C) C
  -- where a bit of C's is missing in a signature that covers D, C is no part of D; where two are, it does not fit D but for one literal
  pub part : (C D : List ℕ) (s : ℕ × ℕ) → Covers s D → within (signature C) s ≡ false → part_of C D ≡ false
  pub fit : (C D : List ℕ) (s : ℕ × ℕ) → Covers s D → 1 < missing (signature C) s → fits C D ≡ (false, None)

-- A with a literal of k, and with its opposite, at k: A holds below, and the two may go
abbrev pub LoseBoth : Type 0
LoseBoth = (own : Network) (k x : ℕ) (A C D : List ℕ) → node x ≡ k → Free k A → In C (own k) → In D (own k) → Subsumes C (x ∷ A) → Subsumes D (opposite x ∷ A) → Total (level own) k
    → ((σ : Assignment) → Below (level own) k σ → holds σ A ≡ true)
    × ((new : Network) → ((j : ℕ) (E : List ℕ) → In E (new j) → In E (own j)) → ((j : ℕ) (E : List ℕ) → In E (own j) → In E (new j) ⊎ ((j ≡ k) × Subsumes A E))
    → Same (level own) (level new))

-- clauses that follow may be added at any node past those that they name, and a clause that has all of another may go
abbrev pub Refine : Type 0
Refine = (own new : Network) → Owned own → ((i : ℕ) → Total (level own) i)
    → ((k : ℕ) (C : List ℕ) → In C (new k) → In C (own k) ⊎ (Within k C × (m : ℕ) × ((σ : Assignment) → Below (level own) m σ → holds σ C ≡ true)))
    → ((k : ℕ) (C : List ℕ) → In C (own k) → In C (new k) ⊎ ((j : ℕ) × (B : List ℕ) × (j ≤ k) × In B (new j) × Subsumes B C))
    → Same (level own) (level new)
