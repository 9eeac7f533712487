-- Words of clauses that are written, and those that stay. Assumes nothing.
use Rattle.std.proofs.Common.{◌≡◌, ℕ, suc, ◌+◌, ◌-◌, ◌*◌, ◌/◌, ◌<◌, ◌≤◌, Bool, true, false, cond, not, eqb, List, [], ◌∷◌, ◌++◌, length, get_or, take, drop, set, Some, Option, sym, refl, ap, ◌∙◌, subst, ⊎_elim, arith, length-append, length-set, take-append-drop}
use borrow.Rule.Slice.PartMut.{put_mid}
use Rattle.std.proofs.lemmas.List.{length-take-le, length-drop, get_or-take, get_or-drop, get_or-set_same, get_or-set_other, ext_get_or, take_at, drop_at, drop-take, take-take}
use Rattle.std.proofs.lemmas.Slice.{take-put_mid_below, take-put_mid, drop-put_mid}
use Rattle.std.proofs.lemmas.Bool.{cases_lt, cases_eq, cond-true, cond-false, eq-eqb, ne_eqb}
use Rattle.clause.specs.Types.{worded}
use Rattle.clause.specs.declared.literals.Lit.{Lit}
use Rattle.network.specs.Assignments.{opposite}
use Rattle.network.specs.Clauses.{without}
use Rattle.network.specs.Lemmas.{keeping, once_more, met}
use Rattle.network.specs.Subsumption.{fits}
use Rattle.clause.specs.Written.{Front}
use Rattle.lemmas.specs.declared.words.Clauses.{Clauses}
use Rattle.lemmas.specs.declared.words.Meeting.TheVariants.{Stays, Joins}
use Rattle.lemmas.specs.Turns.{Meets}
use Rattle.lemmas.specs.Words.{lemma_at, Stands, Wrote}

-- a clause that has its words is as long as its length says
pub lemma_length : (C : Clauses) (k : ℕ) → Stands C k → length (lemma_at C k) ≡ get_or C.lengths.now k 0
lemma_length C k s = length-take-le (get_or C.lengths.now k 0) (drop (32 * k) C.literals.now) (omega (arith, length-drop (32 * k) C.literals.now, s.room, s.short))

pub wrote_none : (P : ℕ → Type 0) (C : Clauses) → Wrote P C C
wrote_none P C = record { lengths = (refl, refl); literals = (refl, refl); standing = λ k s. s; counts = λ k n. refl; words = λ i n. refl }

pub wrote_trans : {P : ℕ → Type 0} {C C₁ C₂ : Clauses} → Wrote P C C₁ → Wrote P C₁ C₂ → Wrote P C C₂
wrote_trans a b = record {
  lengths = (b.lengths.0 ∙ a.lengths.0, b.lengths.1 ∙ a.lengths.1);
  literals = (b.literals.0 ∙ a.literals.0, b.literals.1 ∙ a.literals.1);
  standing = λ k s. b.standing k (a.standing k s);
  counts = λ k n. b.counts k n ∙ a.counts k n;
  words = λ i n. b.words i n ∙ a.words i n;
}

pub wrote_weaker : {P Q : ℕ → Type 0} {C C₁ : Clauses} → ((k : ℕ) → P k → Q k) → Wrote P C C₁ → Wrote Q C C₁
wrote_weaker h a = record {
  lengths = a.lengths;
  literals = a.literals;
  standing = a.standing;
  counts = λ k n. a.counts k (λ p. n (h k p));
  words = λ i n. a.words i (λ p. n (h (i / 32) p));
}

-- a clause whose number is not among those written is as it was
pub wrote_other : {P : ℕ → Type 0} {C C₁ : Clauses} → Wrote P C C₁ → (k : ℕ) → Stands C k → (P k → ⊥) → lemma_at C₁ k ≡ lemma_at C k
wrote_other {P} {C} {C₁} w k s n =
    let W = C.literals.now in
    let W₁ = C₁.literals.now in
    let s₁ = w.standing k s in
    let m = get_or C.lengths.now k 0 in
    let l₁ : length (take m (drop (32 * k) W₁)) ≡ m = length-take-le m (drop (32 * k) W₁) (omega (arith, length-drop (32 * k) W₁, s₁.room, s.short)) in
    let l : length (take m (drop (32 * k) W)) ≡ m = length-take-le m (drop (32 * k) W) (omega (arith, length-drop (32 * k) W, s.room, s.short)) in
    ap (λ j. take j (drop (32 * k) W₁)) (w.counts k n)
    ∙ ext_get_or 0 (take m (drop (32 * k) W₁)) (take m (drop (32 * k) W)) (l₁ ∙ sym l)
    (λ i hi.
    let im : i < m = omega arith in
    let place : (32 * k + i) / 32 ≡ k = omega (arith, s.short) in
    get_or-take m (drop (32 * k) W₁) i 0 im ∙ get_or-drop (32 * k) W₁ i 0
    ∙ w.words (32 * k + i) (λ p. n (subst P place p))
    ∙ sym (get_or-take m (drop (32 * k) W) i 0 im ∙ get_or-drop (32 * k) W i 0))

-- a clause without a literal is no longer
pub without_short : (x : ℕ) (C : List ℕ) → length (without x C) ≤ length C
without_short x [] = omega arith
without_short x (c ∷ C) = pick (without_short x C) (not (eqb c x))
  where
    pick : length (without x C) ≤ length C → (b : Bool) → length (cond b (c ∷ without x C) (without x C)) ≤ suc (length C)
    pick h true = omega arith
    pick h false = omega arith

pub get_or_from_take : (n : ℕ) (xs ys : List ℕ) (i : ℕ) → i < n → take n xs ≡ take n ys → get_or xs i 0 ≡ get_or ys i 0
get_or_from_take n xs ys i h e = sym (get_or-take n xs i 0 h) ∙ ap (λ zs. get_or zs i 0) e ∙ get_or-take n ys i 0 h

pub get_or_from_drop : (n : ℕ) (xs ys : List ℕ) (i : ℕ) → n ≤ i → drop n xs ≡ drop n ys → get_or xs i 0 ≡ get_or ys i 0
get_or_from_drop n xs ys i h e =
    let k : n + (i - n) ≡ i = omega arith in
    ap (λ j. get_or xs j 0) (sym k) ∙ sym (get_or-drop n xs (i - n) 0) ∙ ap (λ zs. get_or zs (i - n) 0) e ∙ get_or-drop n ys (i - n) 0 ∙ ap (λ j. get_or ys j 0) k

-- a clause has lost a literal in place
module _ (C : Clauses) (ys : List ℕ) (k x r : ℕ) (s : Stands C k) (f : Front r (without x (lemma_at C k)) (lemma_at C k) ys) where
  left_short : r ≤ get_or C.lengths.now k 0
  left_short = omega (arith, f.0, without_short x (lemma_at C k), lemma_length C k s)

  whole : length ys ≡ get_or C.lengths.now k 0
  whole =
      ap length f.1 ∙ length-append (without x (lemma_at C k)) (drop r (lemma_at C k))
      ∙ omega (arith, f.0, without_short x (lemma_at C k), lemma_length C k s, length-drop r (lemma_at C k))

  pub left_fits : r ≤ 32
  left_fits = omega (arith, left_short, s.short)

  module _ (W₁ : List ℕ) (is : W₁ ≡ put_mid (32 * k) (get_or C.lengths.now k 0) C.literals.now ys) where
    upto : take (32 * k + get_or C.lengths.now k 0) W₁ ≡ take (32 * k) C.literals.now ++ ys
    upto = ap (take (32 * k + get_or C.lengths.now k 0)) is ∙ take-put_mid (32 * k) (get_or C.lengths.now k 0) C.literals.now ys (32 * k + get_or C.lengths.now k 0) (omega (arith, whole)) (omega (arith, s.room))

    past : drop (32 * k + get_or C.lengths.now k 0) W₁ ≡ drop (32 * k + get_or C.lengths.now k 0) C.literals.now
    past = ap (drop (32 * k + get_or C.lengths.now k 0)) is ∙ drop-put_mid (32 * k) (get_or C.lengths.now k 0) C.literals.now ys (32 * k + get_or C.lengths.now k 0) (omega arith) (omega (arith, s.room)) whole

    len : length (take (32 * k) C.literals.now) ≡ 32 * k
    len = length-take-le (32 * k) C.literals.now (omega (arith, s.room))

    same : length W₁ ≡ length C.literals.now
    same =
        let W = C.literals.now in
        let n = 32 * k + get_or C.lengths.now k 0 in
        ap length (sym (take-append-drop n W₁)) ∙ length-append (take n W₁) (drop n W₁)
        ∙ omega (arith, ap length upto, length-append (take (32 * k) W) ys, len, whole, ap length past, length-drop n W, s.room, s.short)

    pub lost_wrote : {C₁ : Clauses} → C₁.lengths.ghost_name ≡ C.lengths.ghost_name → C₁.literals.ghost_name ≡ C.literals.ghost_name → C₁.lengths.now ≡ set C.lengths.now k r → C₁.literals.now ≡ W₁ → Wrote (λ j. j ≡ k) C C₁
    lost_wrote {C₁} name_l name_w l w =
        let L = C.lengths.now in
        let long = ap length l ∙ length-set L k r in
        let wide = ap length w ∙ same in
        let W = C.literals.now in
        let n = get_or L k 0 in
        let count : (j : ℕ) → get_or C₁.lengths.now j 0 ≡ get_or (set L k r) j 0 = λ j. ap (λ xs. get_or xs j 0) l in
        record {
          lengths = (name_l, long);
          literals = (name_w, wide);
          standing = λ j t. record {
            counted = omega (arith, t.counted, long);
            room = omega (arith, t.room, wide);
            short = ⊎_elim
                (λ e. omega (arith, count j, ap (λ i. get_or (set L k r) i 0) e, get_or-set_same L k r 0 s.counted, left_fits))
                (λ ne. omega (arith, count j, get_or-set_other L k j r 0 ne, t.short)) (cases_eq j k);
          };
          counts = λ j ne. count j ∙ get_or-set_other L k j r 0 ne;
          words = λ i ne.
              ap (λ xs. get_or xs i 0) w
              ∙ ⊎_elim
              (λ low. get_or_from_take (32 * k) W₁ W i low (ap (take (32 * k)) is ∙ take-put_mid_below (32 * k) n W ys (32 * k) (omega arith) (omega (arith, s.room))))
              (λ high.
              let far : 32 * k + n ≤ i = ⊎_elim (λ lt. absurd (ne (omega (arith, s.short)))) (λ le. le) (cases_lt i (32 * k + n)) in
              get_or_from_drop (32 * k + n) W₁ W i far past)
              (cases_lt i (32 * k));
        }

    pub lost_lemma : take (get_or (set C.lengths.now k r) k 0) (drop (32 * k) W₁) ≡ without x (lemma_at C k)
    lost_lemma =
        let lacking = without x (lemma_at C k) in
        let n = get_or C.lengths.now k 0 in
        let b : take n (drop (32 * k) W₁) ≡ ys = sym (drop-take (32 * k) n W₁) ∙ ap (drop (32 * k)) upto ∙ drop_at (take (32 * k) C.literals.now) ys (32 * k) len in
        ap (λ m. take m (drop (32 * k) W₁)) (get_or-set_same C.lengths.now k r 0 s.counted)
        ∙ sym (take-take r n (drop (32 * k) W₁) left_short)
        ∙ ap (take r) (b ∙ f.1) ∙ take_at lacking (drop r (lemma_at C k)) r (sym f.0)

-- the same, where m is the clause's length
module _ (C : Clauses) (ys : List ℕ) (k x r m : ℕ) (e : m ≡ get_or C.lengths.now k 0) (s : Stands C k) (f : Front r (without x (take m (drop (32 * k) C.literals.now))) (take m (drop (32 * k) C.literals.now)) ys) where
  front : Front r (without x (lemma_at C k)) (lemma_at C k) ys
  front = subst (λ n. Front r (without x (take n (drop (32 * k) C.literals.now))) (take n (drop (32 * k) C.literals.now)) ys) e f

  is : put_mid (32 * k) m C.literals.now ys ≡ put_mid (32 * k) (get_or C.lengths.now k 0) C.literals.now ys
  is = ap (λ n. put_mid (32 * k) n C.literals.now ys) e

  pub lost_fits : r ≤ 32
  lost_fits = left_fits C ys k x r s front

  pub lost_writes : {C₁ : Clauses} → C₁.lengths.ghost_name ≡ C.lengths.ghost_name → C₁.literals.ghost_name ≡ C.literals.ghost_name → C₁.lengths.now ≡ set C.lengths.now k r → C₁.literals.now ≡ put_mid (32 * k) m C.literals.now ys → Wrote (λ j. j ≡ k) C C₁
  lost_writes = lost_wrote C ys k x r s front (put_mid (32 * k) m C.literals.now ys) is

  pub lost_is : take (get_or (set C.lengths.now k r) k 0) (drop (32 * k) (put_mid (32 * k) m C.literals.now ys)) ≡ without x (lemma_at C k)
  lost_is = lost_lemma C ys k x r s front (put_mid (32 * k) m C.literals.now ys) is

-- the answer of a test that found the literal l
pub fits_at : (r : Bool × Option Lit) (l : Lit) (C D C' D' : List ℕ) → worded r ≡ fits C' D' → r.0 ≡ false → r.1 ≡ Some l → C' ≡ C → D' ≡ D → fits C D ≡ (false, Some l.word)
fits_at r l C D C' D' e b o c d = sym (λ i. fits (c i) (d i)) ∙ sym e ∙ (λ i. worded (b i, o i))

-- ---- two clauses that met at the literal x

module _ (C C₁ : Clauses) (a b x : ℕ) (sa : Stands C a) (sb : Stands C b) (at : fits (lemma_at C a) (lemma_at C b) ≡ (false, Some x)) where
  pub both_one : get_or C.lengths.now a 0 ≡ get_or C.lengths.now b 0 → lemma_at C₁ a ≡ without x (lemma_at C a) → Meets C C₁ a b Joins
  both_one e lost go =
      let A = lemma_at C a in
      let B = lemma_at C b in
      ap (λ f. met A B f go) at
      ∙ cond-true (eqb (length A) (length B)) (once_more (go (without x A))) (keeping (without (opposite x) B) (go A)) (eq-eqb (length A) (length B) (lemma_length C a sa ∙ e ∙ sym (lemma_length C b sb)))
      ∙ ap (λ X. once_more (go X)) (sym lost)

  pub later_loses : (get_or C.lengths.now a 0 ≡ get_or C.lengths.now b 0 → ⊥) → lemma_at C₁ b ≡ without (opposite x) (lemma_at C b) → lemma_at C₁ a ≡ lemma_at C a → Meets C C₁ a b Stays
  later_loses ne lost stays go =
      let A = lemma_at C a in
      let B = lemma_at C b in
      ap (λ f. met A B f go) at
      ∙ cond-false (eqb (length A) (length B)) (once_more (go (without x A))) (keeping (without (opposite x) B) (go A)) (ne_eqb (length A) (length B) (λ q. ne (sym (lemma_length C a sa) ∙ q ∙ lemma_length C b sb)))
      ∙ ap (λ E. keeping E (go A)) (sym lost) ∙ ap (λ X. keeping (lemma_at C₁ b) (go X)) (sym stays)
