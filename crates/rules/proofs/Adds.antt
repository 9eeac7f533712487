-- Clauses entered, one after another. Assumes nothing.
use Rattle.std.proofs.Common.{◌≡◌, ℕ, ◌<◌, Bool, true, false, ◌⊎◌, List, [], ◌∷◌, Some, None, Option, sym, refl, ap, ◌∙◌, subst, inl, inr, ⊎_elim, arith}
use Rattle.network.specs.Assignments.{Assignment, node, lit, holds}
use Rattle.network.specs.Lists.{In}
use Rattle.network.specs.Levels.{Below}
use Rattle.network.specs.Networks.{Network, level, Free}
use Rattle.network.specs.Clauses.{Ordered, Subsumes, owner, last}
use Rattle.network.proofs.Lists.{in_left, in_right, in_cases, all_at, all_from}
use Rattle.network.specs.Values.{sign, Values, simplified}
use Rattle.rules.specs.Kept.{Known, Idle, Kept}
use Rattle.rules.specs.Store.{Meaning, entered}
use Rattle.rules.specs.Held.{held, Placed}
use Rattle.rules.specs.Index.{Indexed}
use Rattle.rules.specs.Work.{Work, each, known_by}
use Rattle.rules.proofs.Along.{stays_chains, each_along}
use Rattle.rules.proofs.Plain.{add_simplified, add, add_cases}
use Rattle.rules.proofs.Kept.{with_apart}
use Rattle.rules.proofs.Simplified.{says_at, simplified_some, simplified_none, unit_true}
use Rattle.rules.proofs.Enter.{Plus, Occurs, Implied, enter_kept}
use Rattle.rules.proofs.Verdicts.{owner_last}
use Rattle.rules.proofs.Places.{held_in, held_new, held_old}
use Rattle.rules.proofs.Index.{entered_own, entered_apart, entered_cases, entered_indexed}
use Rattle.rules.proofs.Facts.{none_some}

pub entered_plus : (M : Meaning) (S : List ℕ) → Plus (held M) (held (entered S M)) S
entered_plus M S = record {
  old = λ k E i. ⊎_elim (λ h. h) (λ (q, h). subst (λ g. In E (held (entered S M) g)) q (held_in (entered S M) (last S) E (subst (In E) (sym (entered_own M S)) (in_left E (M.own (last S)) (S ∷ []) h)))) (held_old M (entered S M) (last S) (entered_apart M S) k E i);
  here = subst (λ g. In S (held (entered S M) g)) (sym (owner_last S)) (held_in (entered S M) (last S) S (subst (In S) (sym (entered_own M S)) (in_right S (M.own (last S)) (S ∷ []) (inl refl))));
  cases = λ k E i. ⊎_elim inl (λ (q, h). ⊎_elim (λ j. inl (subst (λ g. In E (held M g)) q (held_in M (last S) E j))) (λ j. inr (⊎_elim (λ e. e) absurd j, owner_last S ∙ q))
      (in_cases E (M.own (last S)) (S ∷ []) (subst (In E) (entered_own M S) h))) (held_new M (entered S M) (last S) (entered_apart M S) k E i);
}

pub entered_placed : (M : Meaning) (S : List ℕ) → Placed M → Placed (entered S M)
entered_placed M S P l E i = ⊎_elim (P l E) (λ (q, e). ap last q ∙ sym e) (entered_cases M S l E i)

-- what does not change
pub add_top : (C : List ℕ) (W : Work) → ((add C W).top ≡ W.top) × ((add C W).out ≡ W.out) × ((add C W).frozen ≡ W.frozen)
add_top C W = add_cases C W (λ N. (N.top ≡ W.top) × (N.out ≡ W.out) × (N.frozen ≡ W.frozen)) (refl, refl, refl) (λ S e. (refl, refl, refl))

pub adds_top : (Cs : List (List ℕ)) (W : Work) → ((each add Cs W).top ≡ W.top) × ((each add Cs W).out ≡ W.out) × ((each add Cs W).frozen ≡ W.frozen)
adds_top [] W = (refl, refl, refl)
adds_top (C ∷ Cs) W = let (a, b, c) = adds_top Cs (add C W) in let (p, q, r) = add_top C W in (a ∙ p, b ∙ q, c ∙ r)

pub add_placed : (C : List ℕ) (W : Work) → Placed W.store → Placed (add C W).store
add_placed C W P = add_cases C W (λ N. Placed N.store) P (λ S e. entered_placed W.store S P)

pub add_indexed : (C : List ℕ) (W : Work) → Indexed W.store → Indexed (add C W).store
add_indexed C W I = add_cases C W (λ N. Indexed N.store) I (λ S e. entered_indexed W.store S I)

pub adds_placed : (Cs : List (List ℕ)) (W : Work) → Placed W.store → Placed (each add Cs W).store
adds_placed = each_along (λ W N. Placed W.store → Placed N.store) (stays_chains (λ W. Placed W.store)) add add_placed

pub adds_indexed : (Cs : List (List ℕ)) (W : Work) → Indexed W.store → Indexed (each add Cs W).store
adds_indexed = each_along (λ W N. Indexed W.store → Indexed N.store) (stays_chains (λ W. Indexed W.store)) add add_indexed

-- node 0's value stays
add_zero : (C : List ℕ) (W : Work) → W.values 0 ≡ Some false → (add C W).values 0 ≡ Some false
add_zero C W z = add_cases C W (λ N. N.values 0 ≡ Some false) z (λ S e. stays S (λ l i. ((simplified_some W.values C S e).0 l i).1))
  where
    stays : (S : List ℕ) → ((l : ℕ) → In l S → W.values (node l) ≡ None) → known_by S W.values 0 ≡ Some false
    stays [] h = z
    stays (l ∷ []) h = with_apart W.values (node l) (sign l) 0 (λ e. none_some false (sym (h l (inl refl)) ∙ ap W.values (sym e) ∙ z)) ∙ z
    stays (l ∷ k ∷ S) h = z

pub adds_zero : (Cs : List (List ℕ)) (W : Work) → W.values 0 ≡ Some false → (each add Cs W).values 0 ≡ Some false
adds_zero = each_along (λ W N. W.values 0 ≡ Some false → N.values 0 ≡ Some false) (stays_chains (λ W. W.values 0 ≡ Some false)) add add_zero

-- some clause at its owner is part of C
abbrev pub Covered : Network → List ℕ → Type 0
Covered own C = (B : List ℕ) × In B (own (owner B)) × Subsumes B C

-- what comes of clauses entered
module _ (first : Network) (n : ℕ) (gone frozen : Assignment) (pos : 0 < n) where
  abbrev pub KeptWork : Work → Type 0
  KeptWork W = Kept first (held W.store) n W.values gone frozen

  pub record Added (W N : Work) (C : List ℕ) : Type 0 where
    pub keeps : KeptWork N
    pub grows : (k : ℕ) (E : List ℕ) → In E (held W.store k) → In E (held N.store k)
    pub covered : Covered (held N.store) C
    pub from : (k : ℕ) (E : List ℕ) → In E (held N.store k) → In E (held W.store k) ⊎ Subsumes E C

  pub add_kept : (C : List ℕ) (W : Work) → KeptWork W → Ordered C → Occurs (held W.store) C → Implied (held W.store) C → Added W (add C W) C
  unfolding add
  add_kept C W K o oc im = go (simplified W.values C) refl
    where
      V : Values
      V = W.values

      true_one : (y : ℕ) → In y C → (b : Bool) → V (node y) ≡ Some b → lit (λ _. b) y ≡ true → Known (held W.store) (node y) b ⊎ Idle (held W.store) (node y) b → Covered (held W.store) C
      true_one y i b v t (inl k) = (y ∷ [], subst (λ U. In U (held W.store (node y))) (unit_true y b t) k, λ l h. ⊎_elim (λ e. subst (λ z. In z C) (sym e) i) absurd h)
      true_one y i b v t (inr d) = let (j, D, m, h) = oc y i in absurd (grind (arith, (d j D y m h refl).1))

      go : (r : Option (List ℕ)) → simplified V C ≡ r → Added W (add_simplified r W) C
      go None e =
          let (y, i, t) = simplified_none V C e in
          let (b, v, q) = says_at V y (Some true) t in
          record { keeps = K; grows = λ k E h. h; covered = true_one y i b v q (K.settled (node y) b v); from = λ k E h. inl h }
      go (Some S) e =
          let p = entered_plus W.store S in
          let sh = simplified_some V C S e in
          record {
            keeps = enter_kept first (held W.store) (held (entered S W.store)) n V gone frozen K pos C S e o oc im p;
            grows = p.old;
            covered = (S, p.here, λ l h. (sh.0 l h).0);
            from = λ k E h. ⊎_elim inl (λ (q, w). inr (λ l m. (sh.0 l (subst (In l) q m)).0)) (p.cases k E h);
          }

  pub record Adds (W N : Work) (Cs : List (List ℕ)) : Type 0 where
    pub keeps : KeptWork N
    pub grows : (k : ℕ) (E : List ℕ) → In E (held W.store k) → In E (held N.store k)
    pub covered : (C : List ℕ) → In C Cs → Covered (held N.store) C
    pub from : (k : ℕ) (E : List ℕ) → In E (held N.store k) → In E (held W.store k) ⊎ ((C : List ℕ) × In C Cs × Subsumes E C)

  pub more_levels : (own new : Network) (m : ℕ) (σ : Assignment) → ((k : ℕ) (E : List ℕ) → In E (own k) → In E (new k)) → Below (level new) m σ → Below (level own) m σ
  more_levels own new m σ g s j l = all_from (holds σ) (own j) (λ E i. all_at (holds σ) (new j) (s j l) E (g j E i))

  pub adds_kept : (Cs : List (List ℕ)) (W : Work) → KeptWork W → ((C : List ℕ) → In C Cs → Ordered C) → ((C : List ℕ) → In C Cs → Occurs (held W.store) C)
      → ((C : List ℕ) → In C Cs → Implied (held W.store) C) → Adds W (each add Cs W) Cs
  adds_kept [] W K o oc im = record { keeps = K; grows = λ k E h. h; covered = λ C i. absurd i; from = λ k E h. inl h }
  adds_kept (C ∷ Cs) W K o oc im =
      let a = add_kept C W K (o C (inl refl)) (oc C (inl refl)) (im C (inl refl)) in
      let r = adds_kept Cs (add C W) a.keeps (λ D i. o D (inr i)) (λ D i l h. let (j, E, m, q) = oc D (inr i) l h in (j, E, a.grows j E m, q))
      (λ D i. let (m, f) = im D (inr i) in (m, λ σ s. f σ (more_levels (held W.store) (held (add C W).store) m σ a.grows s))) in
      record {
        keeps = r.keeps;
        grows = λ k E h. r.grows k E (a.grows k E h);
        covered = λ D i. ⊎_elim (λ e. subst (Covered (held (each add (C ∷ Cs) W).store)) (sym e) (let (B, j, s) = a.covered in (B, r.grows (owner B) B j, s))) (r.covered D) i;
        from = λ k E h. ⊎_elim (λ j. ⊎_elim inl (λ s. inr (C, inl refl, s)) (a.from k E j)) (λ (D, i, s). inr (D, inr i, s)) (r.from k E h);
      }

-- two works, the second without the clauses that name v
pub record Related (v : ℕ) (W N : Work) : Type 0 where
  pub values : W.values ≡ N.values
  pub to : (k : ℕ) (E : List ℕ) → In E (held N.store k) → In E (held W.store k) × Free v E
  pub fro : (k : ℕ) (E : List ℕ) → In E (held W.store k) → Free v E → In E (held N.store k)

add_related : (v : ℕ) (W N : Work) (C : List ℕ) → Related v W N → Free v C → Related v (add C W) (add C N)
unfolding add
add_related v W N C r f = subst (λ o. Related v (add_simplified (simplified W.values C) W) (add_simplified o N)) (ap (λ V. simplified V C) r.values) (go (simplified W.values C) refl)
  where
    go : (o : Option (List ℕ)) → simplified W.values C ≡ o → Related v (add_simplified o W) (add_simplified o N)
    go None e = r
    go (Some S) e =
        let p = entered_plus W.store S in
        let q = entered_plus N.store S in
        let fS : Free v S = λ l i. f l ((simplified_some W.values C S e).0 l i).0 in
        record {
          values = ap (known_by S) r.values;
          to = λ k E h. ⊎_elim (λ j. (p.old k E (r.to k E j).0, (r.to k E j).1)) (λ (a, b). (subst (λ D. In D (held (entered S W.store) k)) (sym a) (subst (λ g. In S (held (entered S W.store) g)) b p.here), subst (Free v) (sym a) fS)) (q.cases k E h);
          fro = λ k E h fe. ⊎_elim (λ j. q.old k E (r.fro k E j fe)) (λ (a, b). subst (λ D. In D (held (entered S N.store) k)) (sym a) (subst (λ g. In S (held (entered S N.store) g)) b q.here)) (p.cases k E h);
        }

pub adds_related : (v : ℕ) (Cs : List (List ℕ)) (W N : Work) → Related v W N → ((C : List ℕ) → In C Cs → Free v C) → Related v (each add Cs W) (each add Cs N)
adds_related v [] W N r f = r
adds_related v (C ∷ Cs) W N r f = adds_related v Cs (add C W) (add C N) (add_related v W N C r (f C (inl refl))) (λ D i. f D (inr i))
