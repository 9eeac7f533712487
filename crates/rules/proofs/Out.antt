-- A node taken out keeps what is kept. Assumes nothing.
use Rattle.std.proofs.Common.{◌≡◌, ℕ, suc, ◌<◌, Bool, true, false, not, ◌⊎◌, List, Some, None, Option, sym, refl, ap, ◌∙◌, subst, inl, inr, ⊎_elim, arith}
use Rattle.std.proofs.lemmas.Bool.{cases_eq, cases_lt, both_ways}
use Rattle.std.proofs.lemmas.Bool.Decides.{nat_tests}
use Rattle.network.specs.Assignments.{Assignment, node, opposite, lit, put, holds}
use Rattle.network.specs.Lists.{In}
use Rattle.network.specs.Levels.{Below, Total, Unique}
use Rattle.network.specs.Networks.{Network, level, Free, Owned}
use Rattle.network.specs.Resolution.{Resolves}
use Rattle.network.proofs.Literals.{put_here, put_apart}
use Rattle.network.proofs.Lists.{all_at, all_from, any_from}
use Rattle.network.proofs.Holding.{holds_agree, holds_put}
use Rattle.network.proofs.Levels.{below_agree, below_less, below_put, below_more}
use Rattle.network.proofs.Networks.{locals, clause_at}
use Rattle.network.specs.Values.{Values, unit_of, Obeys}
use Rattle.rules.specs.Kept.{obey, Known, Idle, Kept}
use Rattle.rules.proofs.Kept.{obey_some, obey_none, obey_same, known, well, forced}
use Rattle.network.proofs.Without as out

gone_more : (gone : Assignment) (v k : ℕ) → put gone v true k ≡ false → (gone k ≡ false) × (k ≡ v → ⊥)
unfolding put
gone_more gone v k h = (grind (arith, nat_tests), λ e. grind (arith, nat_tests))

gone_cases : (gone : Assignment) (v k : ℕ) → put gone v true k ≡ true → (k ≡ v) ⊎ (gone k ≡ true)
unfolding put
gone_cases gone v k h = ⊎_elim inl (λ a. inr (grind (arith, nat_tests))) (cases_eq k v)

-- a value that turns the literal x over
lit_turned : (σ : Assignment) (v : ℕ) (c : Bool) (x : ℕ) → node x ≡ v → lit (λ _. c) x ≡ false → lit (put σ v (not c)) x ≡ true
unfolding lit put
lit_turned σ v c x e h = grind (arith, nat_tests)

unit_node : (k : ℕ) (b : Bool) (x : ℕ) → In x (unit_of k b) → node x ≡ k
unfolding unit_of
unit_node k true x i = grind arith
unit_node k false x i = grind arith

module _ (first own new : Network) (n v : ℕ) (V : Values) (gone frozen : Assignment) (K : Kept first own n V gone frozen)
    (here : frozen v ≡ false)
    (part : (k : ℕ) (C : List ℕ) → In C (new k) → In C (own k))
    (free : (k : ℕ) (C : List ℕ) → In C (new k) → Free v C)
    (split : (k : ℕ) (C : List ℕ) → In C (own k) → In C (new k) ⊎ ((x : ℕ) × In x C × (node x ≡ v)))
  where
    blind : (k : ℕ) (σ τ : Assignment) → ((j : ℕ) → (j ≡ v → ⊥) → σ j ≡ τ j) → Below (level new) k σ → Below (level new) k τ
    blind k σ τ a s j l = all_from (holds τ) (new j) (λ C i. sym (holds_agree σ τ C (λ x h. a (node x) (free j C i x h))) ∙ clause_at new k j C σ s l i)

    models_part : (k : ℕ) (σ : Assignment) → Below (level own) k σ → Below (level new) k σ
    models_part k σ s j l = all_from (holds σ) (new j) (λ C i. clause_at own k j C σ s l (part j C i))

    obey_put : (σ : Assignment) (b : Bool) (j : ℕ) → (j ≡ v → ⊥) → obey V (put σ v b) j ≡ obey V σ j
    obey_put σ b j a = ⊎_elim (λ u. obey_none V (put σ v b) j u ∙ put_apart σ v b j a ∙ sym (obey_none V σ j u))
        (λ (c, u). obey_some V (put σ v b) j c u ∙ sym (obey_some V σ j c u)) (known (V j))

    module _ (has : (k : ℕ) (σ : Assignment) → Below (level new) k σ → (b : Bool) × Below (level own) k (put σ v b))
        (uniq : (k : ℕ) → (k ≡ v → ⊥) → Unique (level own) k → Unique (level new) k)
        (back-own : (σ : Assignment) → Below (level new) n σ → Obeys σ V → (ρ : Assignment) × Below (level own) n ρ × Obeys ρ V × ((k : ℕ) → (k ≡ v → ⊥) → ρ k ≡ σ k))
      where
        out_total : (k : ℕ) → Total (level new) k
        out_total k σ s = go (has k σ s)
          where
            go : (b : Bool) × Below (level own) k (put σ v b) → (c : Bool) × level new k (put σ k c)
            go (b, o) =
                let c = K.total k (put σ v b) o in (
                  c.0,
                  all_from (holds (put σ k c.0)) (new k)
                      (λ C i. holds_agree (put σ k c.0) (put (put σ v b) k c.0) C (λ x j. sym (out.put_under σ v k b c.0 (node x) (free k C i x j)))
                      ∙ all_at (holds (put (put σ v b) k c.0)) (own k) c.1 C (part k C i)),
                )

        out_obeyed : (k : ℕ) (σ : Assignment) → Below (level new) k σ → Below (level new) k (obey V σ)
        out_obeyed k σ s = let (b, o) = has k σ s in blind k (obey V (put σ v b)) (obey V σ) (obey_put σ b) (models_part k (obey V (put σ v b)) (K.obeyed k (put σ v b) o))

        out_settled : (k : ℕ) (b : Bool) → V k ≡ Some b → Known new k b ⊎ Idle new k b
        out_settled k b u = ⊎_elim (λ e. inr (λ j C l i m q. absurd (free j C i l m (q ∙ e))))
            (λ a. ⊎_elim (λ f. inl (⊎_elim (λ i. i) (λ (x, i, e). absurd (a (sym (unit_node k b x i) ∙ e))) (split k (unit_of k b) f))) (λ h. inr (λ j C l i. h j C l (part j C i))) (K.settled k b u)) (cases_eq k v)

        pub out_kept : Kept first new n V (put gone v true) frozen
        out_kept = record {
          clauses = record { order = λ k C i. K.clauses.order k C (part k C i); owned = λ k C i. K.clauses.owned k C (part k C i); small = λ k C i. K.clauses.small k C (part k C i) };
          total = out_total;
          unique = λ k l f g u. uniq k (gone_more gone v k g).1 (K.unique k l f (gone_more gone v k g).0 u);
          absent = λ w g k C i. ⊎_elim (λ e. subst (λ j. Free j C) (sym e) (free k C i)) (λ h. K.absent w h k C (part k C i)) (gone_cases gone v w g);
          there = λ k f. put_apart gone v true k (λ e. grind (arith, here)) ∙ K.there k f;
          base = K.base;
          zero = λ b u. ⊎_elim (λ i. i) (λ (x, i, e). absurd (both_ways (frozen v) here (ap frozen (sym (sym (unit_node 0 b x i) ∙ e)) ∙ K.base))) (split 0 (unit_of 0 b) (K.zero b u));
          obeyed = out_obeyed;
          settled = out_settled;
          valued = K.valued;
          kept = λ σ s. (models_part n σ (K.kept σ s).0, (K.kept σ s).1);
          back = λ σ s a.
              let (ρ, o, b, d) = back-own σ s a in
              let (τ, m, e) = K.back ρ o b in
              (τ, m, λ k g. e k (gone_more gone v k g).0 ∙ d k (gone_more gone v k g).1);
        }

-- the node has one value alone
module _ (first own new : Network) (n v : ℕ) (V : Values) (gone frozen : Assignment) (K : Kept first own n V gone frozen)
    (vn : v < n) (here : frozen v ≡ false) (there : gone v ≡ false)
    (part : (k : ℕ) (C : List ℕ) → In C (new k) → In C (own k))
    (free : (k : ℕ) (C : List ℕ) → In C (new k) → Free v C)
    (split : (k : ℕ) (C : List ℕ) → In C (own k) → In C (new k) ⊎ ((x : ℕ) × In x C × (node x ≡ v)))
    (resolved : (k x : ℕ) (C D : List ℕ) → v < k → In C (own k) → In x C → node x ≡ v → In D (own v) → In (opposite x) D
    → (σ : Assignment) → Below (level new) (suc k) σ → Resolves x C D σ)
  where
    wf : Owned own
    wf = well first own n V gone frozen K

    module _ (unique : Unique (level own) v) (sure : (c : Bool) → V v ≡ Some c → Known own v c) where
      has_one : (k : ℕ) (σ : Assignment) → Below (level new) k σ → (b : Bool) × Below (level own) k (put σ v b)
      has_one k σ s = ⊎_elim (λ l. let h = out.has_value own new v wf K.total unique part free split resolved k σ (omega arith) s in (h.0, h.2))
          (λ l. (true, below_put (level own) (locals own wf) k σ v true l (out.lower own new v wf K.total unique part free split resolved k σ l s))) (cases_lt v k)

      back_one : (σ : Assignment) → Below (level new) n σ → Obeys σ V → (ρ : Assignment) × Below (level own) n ρ × Obeys ρ V × ((k : ℕ) → (k ≡ v → ⊥) → ρ k ≡ σ k)
      back_one σ s a = go (has_one n σ s)
        where
          go : (b : Bool) × Below (level own) n (put σ v b) → (ρ : Assignment) × Below (level own) n ρ × Obeys ρ V × ((k : ℕ) → (k ≡ v → ⊥) → ρ k ≡ σ k)
          go (b, o) = (
            put σ v b,
            o,
            (λ k c u. ⊎_elim (λ e. subst (λ j. put σ v b j ≡ c) (sym e) (forced own v c (sure c (ap V (sym e) ∙ u)) (put σ v b) (below_less (level own) (suc v) n (put σ v b) vn o)))
                (λ d. put_apart σ v b k d ∙ a k c u) (cases_eq k v)),
            λ k d. put_apart σ v b k d,
          )

      pub out_one : Kept first new n V (put gone v true) frozen
      out_one = out_kept first own new n v V gone frozen K here part free split has_one
          (out.unique_new own new v wf K.total unique part free split resolved) back_one

    -- the node has a value, and where it is named the value makes its literal false
    module _ (c : Bool) (u : V v ≡ Some c) (idle : Idle own v c) where
      up : (k : ℕ) (σ : Assignment) → Below (level new) k σ → Below (level own) k (put σ v (not c))
      up k σ s j l = all_from (holds (put σ v (not c))) (own j)
          (λ C i. ⊎_elim (λ h. holds_put σ v (not c) C (free j C h) ∙ clause_at new k j C σ s l h)
          (λ (x, h, e). any_from (lit (put σ v (not c))) C x h (lit_turned σ v c x e (idle j C x i h e).1)) (split j C i))

      uniq_idle : (k : ℕ) → (k ≡ v → ⊥) → Unique (level own) k → Unique (level new) k
      uniq_idle k a q σ s p r = q (put σ v (not c)) (up k σ s) (at true p) (at false r)
        where
          at : (d : Bool) → level new k (put σ k d) → level own k (put (put σ v (not c)) k d)
          at d t = locals own wf k (put (put σ k d) v (not c)) (put (put σ v (not c)) k d) (λ i m. sym (out.put_swap σ v k (not c) d i a))
              (up (suc k) (put σ k d) (below_more (level new) k (put σ k d) (below_put (level new) (locals new (λ j C i. wf j C (part j C i))) k σ k d (omega arith) s) t) k (omega arith))

      back_idle : (σ : Assignment) → Below (level new) n σ → Obeys σ V → (ρ : Assignment) × Below (level own) n ρ × Obeys ρ V × ((k : ℕ) → (k ≡ v → ⊥) → ρ k ≡ σ k)
      back_idle σ s a = (σ, below_agree (level own) (locals own wf) n (obey V (put σ v (not c))) σ (λ j l. is j) (K.obeyed n (put σ v (not c)) (up n σ s)), a, λ k d. refl)
        where
          is : (j : ℕ) → obey V (put σ v (not c)) j ≡ σ j
          is j = ⊎_elim (λ e. obey_some V (put σ v (not c)) j c (ap V e ∙ u) ∙ sym (a j c (ap V e ∙ u)))
              (λ d. obey_put first own new n v V gone frozen K here part free split σ (not c) j d ∙ obey_same V σ a j) (cases_eq j v)

      pub out_idle : Kept first new n V (put gone v true) frozen
      out_idle = out_kept first own new n v V gone frozen K here part free split (λ k σ s. (not c, up k σ s)) uniq_idle back_idle

    forced_unique : (c : Bool) → Known own v c → Unique (level own) v
    forced_unique c f σ s p q = grind (arith, at true p, at false q)
      where
        at : (d : Bool) → level own v (put σ v d) → d ≡ c
        at d t = sym (put_here σ v d) ∙ forced own v c f (put σ v d) (below_more (level own) v (put σ v d) (below_put (level own) (locals own wf) v σ v d (omega arith) s) t)

    -- a node that is not frozen may be taken out
    pub out_any : Kept first new n V (put gone v true) frozen
    out_any = go (V v) refl
      where
        go : (o : Option Bool) → V v ≡ o → Kept first new n V (put gone v true) frozen
        go None e = out_one (K.unique v vn here there e) (λ c u. absurd (grind (arith, sym u ∙ e)))
        go (Some c) e = ⊎_elim (λ f. out_one (forced_unique c f) (λ d u. subst (Known own v) (grind (arith, sym e ∙ u)) f)) (out_idle c e) (K.settled v c e)
