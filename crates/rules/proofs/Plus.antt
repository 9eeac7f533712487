-- The network with the known values as clauses of it. Assumes nothing.
use Rattle.std.proofs.Common.{◌≡◌, ℕ, suc, ◌<◌, ◌≤◌, Bool, true, false, ◌⊎◌, List, [], ◌∷◌, ◌++◌, Some, None, Option, sym, refl, ap, ◌∙◌, subst, inl, inr, ⊎_elim, arith}
use Rattle.std.proofs.lemmas.Bool.{cases_eq, cases_Bool, both_ways}
use Rattle.std.proofs.lemmas.Bool.Decides.{nat_tests}
use Rattle.network.specs.Assignments.{Assignment, node, lit, put, holds}
use Rattle.network.specs.Lists.{In}
use Rattle.network.specs.Levels.{Below, Total, Unique}
use Rattle.network.specs.Networks.{Network, level, Free}
use Rattle.network.specs.Clauses.{Ordered, Subsumes, owner}
use Rattle.network.proofs.Literals.{put_here, put_apart}
use Rattle.network.proofs.Lists.{in_left, in_right, in_cases, all_at, all_from}
use Rattle.network.proofs.Holding.{holds_agree, holds_more}
use Rattle.network.proofs.Levels.{below_more, below_put}
use Rattle.network.proofs.Networks.{clause_at}
use Rattle.network.proofs.Ordered.{owner_below}
use Rattle.network.specs.Values.{Values, nothing, unit_of, simplified}
use Rattle.rules.specs.Kept.{obey, Known, Idle, Kept}
use Rattle.rules.proofs.Kept.{well, loc, obey_some, obey_none, known, unit_holds, refine_kept}
use Rattle.rules.proofs.Simplified.{says_at, simplified_some}
use Rattle.rules.proofs.Facts.{none_some}

abbrev pub unit_list : Bool → Option Bool → ℕ → List (List ℕ)
unit_list true o k = []
unit_list false None k = []
unit_list false (Some b) k = unit_of k b ∷ []

-- with the values of the nodes that are not gone
unfoldable pub plus : Network → Values → Assignment → Network
plus own V gone k = own k ++ unit_list (gone k) (V k) k

unit_cases : (g : Bool) (o : Option Bool) (k : ℕ) (E : List ℕ) → In E (unit_list g o k) → (b : Bool) × (g ≡ false) × (o ≡ Some b) × (E ≡ unit_of k b)
unit_cases true o k E h = absurd h
unit_cases false None k E h = absurd h
unit_cases false (Some b) k E h = (b, refl, refl, ⊎_elim (λ e. e) absurd h)

in_unit : (g : Bool) (o : Option Bool) (k : ℕ) (b : Bool) → g ≡ false → o ≡ Some b → In (unit_of k b) (unit_list g o k)
in_unit g o k b e f = subst (λ g. In (unit_of k b) (unit_list g o k)) (sym e) (subst (λ o. In (unit_of k b) (unit_list false o k)) (sym f) (inl refl))

module _ (own : Network) (V : Values) (gone : Assignment) where
  pub plus_own : (k : ℕ) (E : List ℕ) → In E (own k) → In E (plus own V gone k)
  unfolding plus
  plus_own k E h = in_left E (own k) (unit_list (gone k) (V k) k) h

  pub plus_unit : (k : ℕ) (b : Bool) → gone k ≡ false → V k ≡ Some b → In (unit_of k b) (plus own V gone k)
  unfolding plus
  plus_unit k b g v = in_right (unit_of k b) (own k) (unit_list (gone k) (V k) k) (in_unit (gone k) (V k) k b g v)

  pub plus_cases : (k : ℕ) (E : List ℕ) → In E (plus own V gone k) → In E (own k) ⊎ ((b : Bool) × (gone k ≡ false) × (V k ≡ Some b) × (E ≡ unit_of k b))
  unfolding plus
  plus_cases k E h = ⊎_elim inl (λ j. inr (unit_cases (gone k) (V k) k E j)) (in_cases E (own k) (unit_list (gone k) (V k) k) h)

pub unit_ordered : (k : ℕ) (b : Bool) → Ordered (unit_of k b)
unfolding unit_of
unit_ordered k b = ((λ y i. absurd i), tt)

pub unit_owner : (k : ℕ) (b : Bool) → owner (unit_of k b) ≡ k
unfolding unit_of
unit_owner k true = omega arith
unit_owner k false = omega arith

pub unit_true_at : (σ : Assignment) (k : ℕ) (b : Bool) → σ k ≡ b → holds σ (unit_of k b) ≡ true
unfolding unit_of lit
unit_true_at σ k true e = grind (arith, nat_tests)
unit_true_at σ k false e = grind (arith, nat_tests)

pub unit_free : (k v : ℕ) (b : Bool) → (k ≡ v → ⊥) → Free v (unit_of k b)
unfolding unit_of
unit_free k v true a l i e = grind arith
unit_free k v false a l i e = grind arith

module _ (first own : Network) (n : ℕ) (V : Values) (gone frozen : Assignment) (K : Kept first own n V gone frozen) where
  P : Network
  P = plus own V gone

  down : (k : ℕ) (σ : Assignment) → Below (level P) k σ → Below (level own) k σ
  unfolding P
  down k σ s j l = all_from (holds σ) (own j) (λ C i. clause_at P k j C σ s l (plus_own own V gone j C i))

  agrees_below : (k : ℕ) (σ : Assignment) → Below (level P) k σ → (j : ℕ) (b : Bool) → j < k → gone j ≡ false → V j ≡ Some b → σ j ≡ b
  unfolding P
  agrees_below k σ s j b l g v = unit_holds σ j b (clause_at P k j (unit_of j b) σ s l (plus_unit own V gone j b g v))

  -- nodes that a clause names are not gone
  here : (k : ℕ) (C : List ℕ) → In C (own k) → (l : ℕ) → In l C → gone (node l) ≡ false
  here k C i l j = ⊎_elim (λ g. absurd (K.absent (node l) g k C i l j refl)) (λ g. g) (cases_Bool (gone (node l)))

  plus_total : (k : ℕ) → Total (level P) k
  unfolding P
  plus_total k σ s =
      let (b, t) = K.total k σ (down k σ s) in
      let τ = obey V (put σ k b) in
      let m = K.obeyed (suc k) (put σ k b) (below_more (level own) k (put σ k b) (below_put (level own) (loc first own n V gone frozen K) k σ k b (omega arith) (down k σ s)) t) in (
        τ k,
        all_from (holds (put σ k (τ k))) (P k) (λ E i. ⊎_elim
            (λ h. holds_agree (put σ k (τ k)) τ E (λ l j. same b (node l) (here k E h l j) (well first own n V gone frozen K k E h l j)) ∙ clause_at own (suc k) k E τ m (omega arith) h)
            (λ (c, g, v, e). ap (holds (put σ k (τ k))) e ∙ unit_true_at (put σ k (τ k)) k c (put_here σ k (τ k) ∙ obey_some V (put σ k b) k c v)) (plus_cases own V gone k E i)),
      )
    where
      same : (b : Bool) (j : ℕ) → gone j ≡ false → j ≤ k → put σ k (obey V (put σ k b) k) j ≡ obey V (put σ k b) j
      same b j g l = ⊎_elim (λ e. subst (λ i. put σ k (obey V (put σ k b) k) i ≡ obey V (put σ k b) i) (sym e) (put_here σ k (obey V (put σ k b) k)))
          (λ a. put_apart σ k (obey V (put σ k b) k) j a ∙ ⊎_elim (λ u. sym (obey_none V (put σ k b) j u ∙ put_apart σ k b j a))
          (λ (c, u). agrees_below k σ s j c (omega (arith, a)) g u ∙ sym (obey_some V (put σ k b) j c u)) (known (V j))) (cases_eq j k)

  plus_unique : (k : ℕ) → k < n → frozen k ≡ false → gone k ≡ false → Unique (level P) k
  unfolding P
  plus_unique k l f g σ s p q = ⊎_elim
      (λ u. K.unique k l f g u σ (down k σ s) (up true p) (up false q))
      (λ (c, u). both_ways c (sym (value c true u p) ∙ put_here σ k true ∙ flip (sym (put_here σ k false) ∙ value c false u q) (sym (put_here σ k true) ∙ value c true u p)) (sym (value c true u p) ∙ put_here σ k true)) (known (V k))
    where
      up : (b : Bool) → level P k (put σ k b) → level own k (put σ k b)
      up b t = all_from (holds (put σ k b)) (own k) (λ C i. all_at (holds (put σ k b)) (P k) t C (plus_own own V gone k C i))

      value : (c b : Bool) → V k ≡ Some c → level P k (put σ k b) → put σ k b k ≡ c
      value c b u t = unit_holds (put σ k b) k c (all_at (holds (put σ k b)) (P k) t (unit_of k c) (plus_unit own V gone k c g u))

      flip : {c : Bool} → false ≡ c → true ≡ c → true ≡ false
      flip a b = b ∙ sym a

  pub plus_kept : Kept first (plus own V gone) n nothing gone frozen
  unfolding P
  plus_kept = record {
    clauses = record {
      order = λ k E i. ⊎_elim (K.clauses.order k E) (λ (b, g, v, e). subst Ordered (sym e) (unit_ordered k b)) (plus_cases own V gone k E i);
      owned = λ k E i. ⊎_elim (K.clauses.owned k E) (λ (b, g, v, e). ap owner e ∙ unit_owner k b) (plus_cases own V gone k E i);
      small = λ k E i. ⊎_elim (K.clauses.small k E) (λ (b, g, v, e). K.valued k b v) (plus_cases own V gone k E i);
    };
    total = plus_total;
    unique = λ k l f g u. plus_unique k l f g;
    absent = λ w g k E i. ⊎_elim (K.absent w g k E) (λ (b, h, v, e). subst (Free w) (sym e) (unit_free k w b (λ q. both_ways (gone k) h (ap gone q ∙ g)))) (plus_cases own V gone k E i);
    there = K.there;
    base = K.base;
    zero = λ b u. absurd (none_some b u);
    obeyed = λ k σ s j l. all_from (holds (obey nothing σ)) (P j) (λ E i. holds_agree (obey nothing σ) σ E (λ x h. obey_none nothing σ (node x) refl) ∙ clause_at P k j E σ s l i);
    settled = λ k b u. absurd (none_some b u);
    valued = λ k b u. absurd (none_some b u);
    kept = λ σ s. let (m, a) = K.kept σ s in
        ((λ j l. all_from (holds σ) (P j) (λ E i. ⊎_elim (clause_at own n j E σ m l) (λ (b, g, v, e). ap (holds σ) e ∙ unit_true_at σ j b (a j b v)) (plus_cases own V gone j E i))), λ k b u. absurd (none_some b u));
    back = λ σ s x.
        let (τ, m, e) = K.back (obey V σ) (K.obeyed n σ (down n σ s)) (λ k b u. obey_some V σ k b u) in
        (τ, m, λ k g. e k g ∙ ⊎_elim (obey_none V σ k) (λ (b, u). obey_some V σ k b u ∙ sym (agrees_below n σ s k b (K.valued k b u) g u)) (known (V k)));
  }

-- clauses go that have all of one that is left, or whose node's value is a clause
module _ (first P : Network) (n : ℕ) (gone frozen : Assignment) (K : Kept first P n nothing gone frozen) (new : Network)
    (part : (k : ℕ) (E : List ℕ) → In E (new k) → In E (P k))
    (lost : (k : ℕ) (E : List ℕ) → In E (P k) → In E (new k) ⊎ (((B : List ℕ) × In B (new (owner B)) × Subsumes B E) ⊎ ((b : Bool) × In (unit_of k b) (new k))))
  where
    each_holds : (k : ℕ) (σ : Assignment) → Below (level P) k σ → level new k σ → (E : List ℕ) → In E (P k) → holds σ E ≡ true
    each_holds k σ s t E i = ⊎_elim (all_at (holds σ) (new k) t E) (⊎_elim by_part by_value) (lost k E i)
      where
        by_part : (B : List ℕ) × In B (new (owner B)) × Subsumes B E → holds σ E ≡ true
        by_part (B, j, u) = holds_more σ B E u (⊎_elim
            (λ e. all_at (holds σ) (new k) t B (subst (λ g. In B (new g)) e j))
            (λ a. clause_at P k (owner B) B σ s (omega (arith, a, owner_below B k (λ l h. well first P n nothing gone frozen K k E i l (u l h)))) (part (owner B) B j)) (cases_eq (owner B) k))

        by_value : (b : Bool) × In (unit_of k b) (new k) → holds σ E ≡ true
        by_value (b, j) =
            let (c, h) = K.total k σ s in
            let e : σ k ≡ b = unit_holds σ k b (all_at (holds σ) (new k) t (unit_of k b) j) in
            let f : c ≡ b = sym (put_here σ k c) ∙ unit_holds (put σ k c) k b (all_at (holds (put σ k c)) (P k) h (unit_of k b) (part k (unit_of k b) j)) in
            holds_agree σ (put σ k c) E (λ l m. ⊎_elim (λ q. subst (λ g. σ g ≡ put σ k c g) (sym q) (e ∙ sym f ∙ sym (put_here σ k c))) (λ a. sym (put_apart σ k c (node l) a)) (cases_eq (node l) k)) ∙ all_at (holds (put σ k c)) (P k) h E i

    pub reason_drop : Kept first new n nothing gone frozen
    reason_drop = refine_kept first P n nothing gone frozen K new
        (λ k σ s. ((λ h. all_from (holds σ) (new k) (λ E i. all_at (holds σ) (P k) h E (part k E i))), λ h. all_from (holds σ) (P k) (each_holds k σ s h)))
        (record { order = λ j E i. K.clauses.order j E (part j E i); owned = λ j E i. K.clauses.owned j E (part j E i); small = λ j E i. K.clauses.small j E (part j E i) })
        (λ j E l i m. inl (E, part j E i, m)) (λ k b u. absurd (none_some b u))

-- back again, where each clause has its short form beside it
module _ (first own : Network) (n : ℕ) (V : Values) (gone frozen : Assignment) (K : Kept first (plus own V gone) n nothing gone frozen)
    (valued : (k : ℕ) (b : Bool) → V k ≡ Some b → k < n)
    (old : (σ : Assignment) → Below (level first) n σ → (k : ℕ) (b : Bool) → gone k ≡ true → V k ≡ Some b → σ k ≡ b)
    (zero_known : Known own 0 false) (zero_value : V 0 ≡ Some false)
    (short : (k : ℕ) (C : List ℕ) → In C (own k) → (k ≡ 0 → ⊥) → (S : List ℕ) × (simplified V C ≡ Some S) × In S (own k))
    (empty : (k : ℕ) (b : Bool) → V k ≡ Some b → (k ≡ 0 → ⊥) → (C : List ℕ) → In C (own k) → ⊥)
  where
    within : (k : ℕ) (C : List ℕ) → In C (own k) → (l : ℕ) → In l C → node l ≤ k
    within k C i = well first (plus own V gone) n nothing gone frozen K k C (plus_own own V gone k C i)

    -- a clause of node 0 says something of node 0 alone
    at_zero : (σ τ : Assignment) (C : List ℕ) → In C (own 0) → σ 0 ≡ τ 0 → holds σ C ≡ holds τ C
    at_zero σ τ C i e = holds_agree σ τ C (λ l j. let z : node l ≡ 0 = omega (arith, within 0 C i l j) in subst (λ m. σ m ≡ τ m) (sym z) e)

    short_agree : (σ τ : Assignment) (C S : List ℕ) → simplified V C ≡ Some S → ((j : ℕ) → V j ≡ None → σ j ≡ τ j) → holds σ S ≡ true → holds τ C ≡ true
    short_agree σ τ C S e a h = let sh = simplified_some V C S e in
        holds_more τ S C (λ l i. (sh.0 l i).0) (sym (holds_agree σ τ S (λ l i. a (node l) (sh.0 l i).1)) ∙ h)

    minus_obeyed : (k : ℕ) (σ : Assignment) → Below (level own) k σ → Below (level own) k (obey V σ)
    minus_obeyed k σ s j l = all_from (holds (obey V σ)) (own j) (λ C i. ⊎_elim
        (λ e. let z = subst (λ m. m < k) e l in at_zero (obey V σ) σ C (subst (λ m. In C (own m)) e i) (obey_some V σ 0 false zero_value ∙ sym (unit_holds σ 0 false (clause_at own k 0 (unit_of 0 false) σ s z zero_known))) ∙ clause_at own k j C σ s l i)
        (λ a. let (S, e, h) = short j C i a in short_agree σ (obey V σ) C S e (λ m u. sym (obey_none V σ m u)) (clause_at own k j S σ s l h)) (cases_eq j 0))

    to_plus : (k : ℕ) (σ : Assignment) → Below (level own) k σ → Below (level (plus own V gone)) k (obey V σ)
    to_plus k σ s j l = all_from (holds (obey V σ)) (plus own V gone j) (λ E i. ⊎_elim (clause_at own k j E (obey V σ) (minus_obeyed k σ s) l)
        (λ (b, g, v, e). ap (holds (obey V σ)) e ∙ unit_true_at (obey V σ) j b (obey_some V σ j b v)) (plus_cases own V gone j E i))

    put_obey : (σ : Assignment) (k : ℕ) (b : Bool) (j : ℕ) → V j ≡ None → put (obey V σ) k b j ≡ put σ k b j
    put_obey σ k b j u = ⊎_elim (λ e. subst (λ m. put (obey V σ) k b m ≡ put σ k b m) (sym e) (put_here (obey V σ) k b ∙ sym (put_here σ k b)))
        (λ a. put_apart (obey V σ) k b j a ∙ obey_none V σ j u ∙ sym (put_apart σ k b j a)) (cases_eq j k)

    minus_total : (k : ℕ) → Total (level own) k
    minus_total k σ s = let (b, t) = K.total k (obey V σ) (to_plus k σ s) in (
      b,
      all_from (holds (put σ k b)) (own k) (λ C i. ⊎_elim
          (λ e. at_zero (put σ k b) (put (obey V σ) k b) C (subst (λ m. In C (own m)) e i) (subst (λ m. put σ k b m ≡ put (obey V σ) k b m) e (put_here σ k b ∙ sym (put_here (obey V σ) k b)))
          ∙ all_at (holds (put (obey V σ) k b)) (plus own V gone k) t C (plus_own own V gone k C i))
          (λ a. let (S, e, h) = short k C i a in short_agree (put (obey V σ) k b) (put σ k b) C S e (put_obey σ k b) (all_at (holds (put (obey V σ) k b)) (plus own V gone k) t S (plus_own own V gone k S h))) (cases_eq k 0)),
    )

    minus_unique : (k : ℕ) → k < n → frozen k ≡ false → gone k ≡ false → V k ≡ None → Unique (level own) k
    minus_unique k l f g u σ s p q = K.unique k l f g refl (obey V σ) (to_plus k σ s) (up true p) (up false q)
      where
        up : (b : Bool) → level own k (put σ k b) → level (plus own V gone) k (put (obey V σ) k b)
        up b t = all_from (holds (put (obey V σ) k b)) (plus own V gone k) (λ E i. ⊎_elim
            (λ h. let (S, e, m) = short k E h (λ z. none_some false (sym u ∙ ap V z ∙ zero_value)) in short_agree (put σ k b) (put (obey V σ) k b) E S e (λ j v. sym (put_obey σ k b j v)) (all_at (holds (put σ k b)) (own k) t S m))
            (λ (c, g', v, e). absurd (none_some c (sym u ∙ v))) (plus_cases own V gone k E i))

    idle : (k : ℕ) (b : Bool) → V k ≡ Some b → (k ≡ 0 → ⊥) → Idle own k b
    idle k b v a j C l i m q = ((λ e. empty k b v a C (subst (λ g. In C (own g)) e i)), literal_false)
      where
        not_zero : j ≡ 0 → ⊥
        not_zero e = a (sym q ∙ zero_of (within j C i l m) e)
          where
            zero_of : node l ≤ j → j ≡ 0 → node l ≡ 0
            zero_of h e = omega (arith, h, e)

        literal_false : lit (λ _. b) l ≡ false
        literal_false =
            let (S, e, h) = short j C i not_zero in
            ⊎_elim (λ w. absurd (none_some b (sym ((simplified_some V C S e).0 l w).1 ∙ ap V q ∙ v)))
            (λ w. let (c, u, t) = says_at V l (Some false) w in ap (λ d. lit (λ _. d) l) (same c (sym v ∙ ap V (sym q) ∙ u)) ∙ t) ((simplified_some V C S e).1 l m)
          where
            same : (c : Bool) → ◌≡◌ {A = Option Bool} (Some b) (Some c) → b ≡ c
            same c h = cc

    pub minus_kept : Kept first own n V gone frozen
    minus_kept = record {
      clauses = record {
        order = λ k E i. K.clauses.order k E (plus_own own V gone k E i);
        owned = λ k E i. K.clauses.owned k E (plus_own own V gone k E i);
        small = λ k E i. K.clauses.small k E (plus_own own V gone k E i);
      };
      total = minus_total;
      unique = minus_unique;
      absent = λ w g k E i. K.absent w g k E (plus_own own V gone k E i);
      there = K.there;
      base = K.base;
      zero = λ b w. subst (Known own 0) (same b (sym zero_value ∙ w)) zero_known;
      obeyed = minus_obeyed;
      settled = λ k b v. ⊎_elim (λ e. inl (subst (λ m. V m ≡ Some b → Known own m b) (sym e) (λ w. subst (Known own 0) (same b (sym zero_value ∙ w)) zero_known) v)) (λ a. inr (idle k b v a)) (cases_eq k 0);
      valued = valued;
      kept = λ σ s. let m = (K.kept σ s).0 in (
        (λ j l. all_from (holds σ) (own j) (λ E i. clause_at (plus own V gone) n j E σ m l (plus_own own V gone j E i))),
        λ k b v. ⊎_elim (λ g. old σ s k b g v) (λ g. unit_holds σ k b (clause_at (plus own V gone) n k (unit_of k b) σ m (valued k b v) (plus_unit own V gone k b g v))) (cases_Bool (gone k)),
      );
      back = λ σ s a. K.back σ (λ j l. all_from (holds σ) (plus own V gone j) (λ E i. ⊎_elim (clause_at own n j E σ s l) (λ (b, g, v, e). ap (holds σ) e ∙ unit_true_at σ j b (a j b v)) (plus_cases own V gone j E i))) (λ k b u. absurd (none_some b u));
    }
      where
        same : (b : Bool) → ◌≡◌ {A = Option Bool} (Some false) (Some b) → false ≡ b
        same b h = cc
