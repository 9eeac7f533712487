-- Steps that keep what is kept: a network that says the same, and a value that is forced. Assumes nothing.
use Rattle.std.proofs.Common.{◌≡◌, ℕ, suc, ◌<◌, Bool, true, false, ◌⊎◌, Some, None, Option, sym, refl, ap, ◌∙◌, subst, inl, inr, ⊎_elim, arith}
use Rattle.std.proofs.lemmas.Bool.{cases_eq}
use Rattle.std.proofs.lemmas.Bool.Decides.{nat_tests}
use Rattle.network.specs.Assignments.{Assignment, lit, holds, Agree}
use Rattle.network.specs.Levels.{Below, Same, Locals}
use Rattle.network.specs.Networks.{Network, level, Owned, WellPlaced}
use Rattle.network.proofs.Levels.{below_agree, below_less}
use Rattle.network.proofs.Networks.{locals, clause_at}
use Rattle.network.proofs.Ordered.{owned_within}
use Rattle.network.specs.Values.{Values, with_value, unit_of, Obeys}
use Rattle.rules.specs.Kept.{or_else, obey, Known, Idle, Kept, Traced}
use Rattle.network.proofs.Same as same
use Rattle.rules.proofs.Facts.{some_none}

pub obey_some : (V : Values) (σ : Assignment) (k : ℕ) (b : Bool) → V k ≡ Some b → obey V σ k ≡ b
unfolding obey
obey_some V σ k b e = ap (λ o. or_else o (σ k)) e

pub obey_none : (V : Values) (σ : Assignment) (k : ℕ) → V k ≡ None → obey V σ k ≡ σ k
unfolding obey
obey_none V σ k e = ap (λ o. or_else o (σ k)) e

pub known : (o : Option Bool) → (o ≡ None) ⊎ ((b : Bool) × (o ≡ Some b))
known None = inl refl
known (Some b) = inr (b, refl)

pub obey_same : (V : Values) (σ : Assignment) → Obeys σ V → (k : ℕ) → obey V σ k ≡ σ k
obey_same V σ a k = ⊎_elim (obey_none V σ k) (λ (b, e). obey_some V σ k b e ∙ sym (a k b e)) (known (V k))

pub with_here : (V : Values) (n : ℕ) (b : Bool) → with_value V n b n ≡ Some b
unfolding with_value
with_here V n b = grind (arith, nat_tests)

pub with_apart : (V : Values) (n : ℕ) (b : Bool) (k : ℕ) → (k ≡ n → ⊥) → with_value V n b k ≡ V k
unfolding with_value
with_apart V n b k h = grind (arith, nat_tests)

some_some : (b c : Bool) → ◌≡◌ {A = Option Bool} (Some b) (Some c) → b ≡ c
some_some b c e = cc

-- the clause of a value gives it
pub unit_holds : (σ : Assignment) (k : ℕ) (b : Bool) → holds σ (unit_of k b) ≡ true → σ k ≡ b
unfolding lit unit_of
unit_holds σ k true h = grind (arith, nat_tests)
unit_holds σ k false h = grind (arith, nat_tests)

pub forced : (own : Network) (k : ℕ) (b : Bool) → Known own k b → (σ : Assignment) → Below (level own) (suc k) σ → σ k ≡ b
forced own k b i σ s = unit_holds σ k b (clause_at own (suc k) k (unit_of k b) σ s (omega arith) i)

module _ (first own : Network) (n : ℕ) (V : Values) (gone frozen : Assignment) (K : Kept first own n V gone frozen) where
  pub well : Owned own
  well = owned_within own n K.clauses

  pub loc : Locals (level own)
  loc = locals own well

  -- a network that says the same at each level
  pub refine_kept : (new : Network) → Same (level own) (level new) → WellPlaced new n → Traced own new V
      → ((k : ℕ) (b : Bool) → V k ≡ Some b → Known own k b → Known new k b) → Kept first new n V gone frozen
  refine_kept new e c t u = record {
    clauses = c;
    total = λ k. same.total_same (level own) (level new) e loc k (K.total k);
    unique = λ k l f g v. same.unique_same (level own) (level new) e loc k (K.unique k l f g v);
    absent = λ v g k C i l j. ⊎_elim (λ (D, d, m). K.absent v g k D d l m) (λ (u, (h, D, d, m)). K.absent v g h D d l m) (t k C l i j);
    there = K.there;
    base = K.base;
    zero = λ b v. u 0 b v (K.zero b v);
    obeyed = λ k σ s. same.same_below (level own) (level new) e k (obey V σ) (K.obeyed k σ (same.below_same (level own) (level new) e k σ s));
    settled = λ k b v. ⊎_elim (λ f. inl (u k b v f)) (λ i. inr (idle k b v i)) (K.settled k b v);
    valued = K.valued;
    kept = λ σ s. (same.same_below (level own) (level new) e n σ (K.kept σ s).0, (K.kept σ s).1);
    back = λ σ s. K.back σ (same.below_same (level own) (level new) e n σ s);
  }
    where
      idle : (k : ℕ) (b : Bool) → V k ≡ Some b → Idle own k b → Idle new k b
      idle k b v h j C l i m q = ⊎_elim (λ (D, d, p). h j D l d p q)
          (λ (u, r). absurd (some_none b (sym v ∙ ap V (sym q) ∙ u))) (t j C l i m)

  -- a value that the levels up to its node force
  pub value_kept : (v : ℕ) (b : Bool) → v < n → V v ≡ None → Known own v b → Kept first own n (with_value V v b) gone frozen
  value_kept v b vn un i = record {
    clauses = K.clauses;
    total = K.total;
    unique = λ k l fr g u. K.unique k l fr g (⊎_elim (λ e. absurd (some_none b (sym (with_here V v b) ∙ ap (with_value V v b) (sym e) ∙ u))) (λ a. sym (with_apart V v b k a) ∙ u) (cases_eq k v));
    absent = K.absent;
    there = K.there;
    base = K.base;
    zero = λ c u. ⊎_elim (λ e. subst (λ j. Known own j c) (sym e) (subst (Known own v) (same_value 0 c u e) i)) (λ a. K.zero c (sym (with_apart V v b 0 a) ∙ u)) (cases_eq 0 v);
    obeyed = λ k σ s. below_agree (level own) loc k (obey V σ) (obey (with_value V v b) σ) (agree k σ s) (K.obeyed k σ s);
    settled = λ k c u. ⊎_elim (λ e. inl (subst (λ j. Known own j c) (sym e) (subst (Known own v) (same_value k c u e) i))) (λ a. K.settled k c (sym (with_apart V v b k a) ∙ u)) (cases_eq k v);
    valued = λ k c u. ⊎_elim (λ e. omega (arith, e)) (λ a. K.valued k c (sym (with_apart V v b k a) ∙ u)) (cases_eq k v);
    kept = λ σ s. let (m, a) = K.kept σ s in (m, λ k c u. ⊎_elim (λ e. subst (λ j. σ j ≡ c) (sym e) (f σ (below_less (level own) (suc v) n σ vn m) ∙ same_value k c u e)) (λ d. a k c (sym (with_apart V v b k d) ∙ u)) (cases_eq k v));
    back = λ σ s a. K.back σ s (λ k c u. a k c (⊎_elim (λ e. absurd (some_none c (sym u ∙ ap V e ∙ un))) (λ d. with_apart V v b k d ∙ u) (cases_eq k v)));
  }
    where
      f : (σ : Assignment) → Below (level own) (suc v) σ → σ v ≡ b
      f = forced own v b i

      same_value : (k : ℕ) (c : Bool) → with_value V v b k ≡ Some c → k ≡ v → b ≡ c
      same_value k c u e = some_some b c (sym (with_here V v b) ∙ ap (with_value V v b) (sym e) ∙ u)

      agree : (k : ℕ) (σ : Assignment) → Below (level own) k σ → Agree k (obey V σ) (obey (with_value V v b) σ)
      agree k σ s j l = ⊎_elim
          (λ e. subst (λ i. obey V σ i ≡ obey (with_value V v b) σ i) (sym e)
          (f (obey V σ) (below_less (level own) (suc v) k (obey V σ) (omega (arith, e)) (K.obeyed k σ s)) ∙ sym (obey_some (with_value V v b) σ v b (with_here V v b))))
          (λ a. ⊎_elim (λ u. obey_none V σ j u ∙ sym (obey_none (with_value V v b) σ j (with_apart V v b j a ∙ u)))
          (λ (c, u). obey_some V σ j c u ∙ sym (obey_some (with_value V v b) σ j c (with_apart V v b j a ∙ u))) (known (V j)))
          (cases_eq j v)
