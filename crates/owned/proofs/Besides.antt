-- Words of which only those of one slot changed. Assumes nothing.
use Rattle.std.proofs.Common.{◌≡◌, ℕ, ◌+◌, ◌<◌, ◌≤◌, true, List, [], ◌++◌, length, get_or, take, drop, set, sym, refl, ap, ◌∙◌, inl, inr, arith}
use Rattle.std.proofs.lemmas.Bool.{cases_lt, cases_eq}
use Rattle.std.proofs.lemmas.List.{append-nil, length-set, length-take, get_or-set_other}
use Rattle.std.proofs.Math.ListN.{drop_of_length-le}
use Rattle.rings.specs.Rings.{at}
use Rattle.rings.proofs.Drops.{at_else, at_here}
use Rattle.owned.specs.Layout.{text_at, home, clause_in, lost_in, listed_in, Sized}
use Rattle.std.specs.List.{AllByRecursion}
use Rattle.network.specs.Clauses.{front, last, well_formed}
use Rattle.owned.proofs.Moves.{Rewritten}
use Rattle.owned.proofs.Texts.{Body, clause_is, clause_low, clause_same, listed_same, lost_in_is, lost_low, lost_same, sized_same}

-- a clause by its length and its words
pub clause_by : (texts : List ℕ) (x n : ℕ) (C : List ℕ) → 2050 ≤ x → get_or texts (text_at x + 1) 0 ≡ n → take n (drop (text_at x + 3) texts) ≡ C → clause_in texts x ≡ C
clause_by texts x n C h e w = clause_is texts x h ∙ ap (λ (k : ℕ). take k (drop (text_at x + 3) texts)) e ∙ w

-- a clause that is as long as with what it lost lost nothing
pub none_lost : (texts : List ℕ) (x n : ℕ) → 2050 ≤ x → get_or texts (text_at x + 1) 0 ≡ n → get_or texts (text_at x + 2) 0 ≡ n → lost_in texts x ≡ []
none_lost texts x n h a b =
    let t : List ℕ = take n (drop (text_at x + 3) texts) in
    let short : length t ≤ n = simp length-take (omega arith) in
    lost_in_is texts x h
    ∙ ap (λ (k : ℕ). drop k (take (get_or texts (text_at x + 2) 0) (drop (text_at x + 3) texts))) a
    ∙ ap (λ (k : ℕ). drop n (take k (drop (text_at x + 3) texts))) b
    ∙ drop_of_length-le t short

-- then uses may have the slot at the literals of its clause but the last
pub listed_by : (texts : List ℕ) (x : ℕ) (C : List ℕ) → clause_in texts x ≡ C → lost_in texts x ≡ [] → listed_in texts x ≡ front C
unfolding listed_in
listed_by texts x C c d = ap (λ (D : List ℕ). front D ++ lost_in texts x) c ∙ ap (λ (D : List ℕ). front C ++ D) d ∙ append-nil (front C)

-- only the words of a slot at b changed
pub record Beside (old new : List ℕ) (b : ℕ) : Type 0 where
  pub long : length new ≡ length old
  pub low : (k : ℕ) → k < b → get_or new k 0 ≡ get_or old k 0
  pub high : (k : ℕ) → b + 35 ≤ k → get_or new k 0 ≡ get_or old k 0

pub beside_none : (old : List ℕ) (b : ℕ) → Beside old old b
beside_none old b = record { long = refl; low = λ j q. refl; high = λ j q. refl }

-- one of its words more
pub beside_set : (old new : List ℕ) (b k v : ℕ) → Beside old new b → b ≤ k → k < b + 35 → Beside old (set new k v) b
beside_set old new b k v s l h = record {
  long = (simp length-set) ∙ s.long;
  low = λ j q. get_or-set_other new k j v 0 (λ e. omega arith) ∙ s.low j q;
  high = λ j q. get_or-set_other new k j v 0 (λ e. omega arith) ∙ s.high j q;
}

-- the other slots
module _ (old new : List ℕ) (x : ℕ) (slot : 2050 ≤ x) (s : Beside old new (text_at x)) where
  word : (y : ℕ) → 2050 ≤ y → (y ≡ x → ⊥) → (k : ℕ) → text_at y ≤ k → k < text_at y + 35 → get_or new k 0 ≡ get_or old k 0
  word y is n k p q = elim (cases_lt y x) [ inl lt ↦ s.low k (omega arith) | inr ge ↦ let gt : x < y = omega arith in s.high k (omega arith) ]

  pub beside_home : (y : ℕ) → 2050 ≤ y → (y ≡ x → ⊥) → home new y ≡ home old y
  beside_home y is n = word y is n (text_at y) (omega arith) (omega arith)

  pub beside_body : (y : ℕ) → 2050 ≤ y → (y ≡ x → ⊥) → Body old new y
  beside_body y is n k p q = word y is n k (omega arith) q

  -- their clauses, and what they lost
  module _ (z : (y : ℕ) → 2050 ≤ y → Sized old y) where
    pub beside_clause : (y : ℕ) → (y ≡ x → ⊥) → clause_in new y ≡ clause_in old y
    beside_clause y n = elim (cases_lt y 2050) [ inl lt ↦ clause_low new y lt ∙ sym (clause_low old y lt) | inr ge ↦ clause_same old new y s.long (beside_body y ge n) (z y ge) ]

    pub beside_lost : (y : ℕ) → (y ≡ x → ⊥) → lost_in new y ≡ lost_in old y
    beside_lost y n = elim (cases_lt y 2050) [ inl lt ↦ lost_low new y lt ∙ sym (lost_low old y lt) | inr ge ↦ lost_same old new y s.long (beside_body y ge n) (z y ge) ]

    pub beside_listed : (y : ℕ) → (y ≡ x → ⊥) → listed_in new y ≡ listed_in old y
    beside_listed y n = listed_same old new y (beside_clause y n) (beside_lost y n)

    -- all of them, where the slot itself has C, and uses may have it at D
    pub beside_texts : (C : List ℕ) → clause_in new x ≡ C → (y : ℕ) → clause_in new y ≡ at (clause_in old) x C y
    beside_texts C e y = elim (cases_eq y x) [ inl q ↦ ap (clause_in new) q ∙ e ∙ sym (at_here (clause_in old) x C y q) | inr n ↦ beside_clause y n ∙ sym (at_else (clause_in old) x C y n) ]

    pub beside_listings : (D : List ℕ) → listed_in new x ≡ D → (y : ℕ) → listed_in new y ≡ at (listed_in old) x D y
    beside_listings D e y = elim (cases_eq y x) [ inl q ↦ ap (listed_in new) q ∙ e ∙ sym (at_here (listed_in old) x D y q) | inr n ↦ beside_listed y n ∙ sym (at_else (listed_in old) x D y n) ]

-- the slot named anew too
pub beside_rewritten : (old new : List ℕ) (x h : ℕ) → 2050 ≤ x → Beside old new (text_at x) → home new x ≡ h → Sized new x → (h < 2048 → (well_formed (clause_in new x) ≡ true) × (last (clause_in new x) ≡ h) × AllByRecursion (λ k. k < 2048) (lost_in new x)) → Rewritten old new x h
beside_rewritten old new x h slot s e z own = record {
  named = e;
  homes = λ y a n. beside_home old new x slot s y a n;
  sizes = λ y a n k. sized_same old new y s.long (beside_body old new x slot s y a n) k;
  clauses = λ y a n k. clause_same old new y s.long (beside_body old new x slot s y a n) k;
  losts = λ y a n k. lost_same old new y s.long (beside_body old new x slot s y a n) k;
  size = z;
  well = λ k. (own k).0;
  end = λ k. (own k).1;
  bounded = λ k. (own k).2;
}
