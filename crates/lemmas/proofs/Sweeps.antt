-- One clause's turn, step by step, and the turns one after the other. Assumes nothing.
use Rattle.std.proofs.Common.{◌≡◌, ℕ, ◌+◌, ◌<◌, ◌≤◌, Bool, true, false, cond, ◌⊎◌, List, [], ◌∷◌, ◌++◌, map, length, get_or, take, drop, set, sym, refl, ap, ◌∙◌, subst, ⊎_elim, append_assoc, append-nil, arith, length-set}
use Rattle.std.specs.List.{AllByRecursion}
use Rattle.std.proofs.ByRecursion.{All-from_get_or}
use Rattle.std.proofs.lemmas.List.{length-take, length-take-le, length-drop, length-map, get_or-take, get_or-drop, get_or-set_same, get_or-set_other, take_more, take_more_set, take-set-le, take-take, drop_more, drop_all, drop-append-le, drop-set-lt, map_push}
use Rattle.std.proofs.lemmas.Bool.{cases_eq}
use Rattle.network.specs.Lemmas.{swept, turned, lemmas_from}
use Rattle.lemmas.specs.Words.{lemma_at, named, Stands, Wrote}
use Rattle.queue.proofs.Lines.{drop_further}
use Rattle.lemmas.specs.declared.words.Clauses.{Clauses}
use Rattle.lemmas.specs.declared.words.Meeting.{Meeting}
use Rattle.lemmas.specs.declared.words.Meeting.TheVariants.{Stays, Goes, Joins}
use Rattle.lemmas.specs.Turns.{after, Meets}
use Rattle.lemmas.specs.Lines.{Lined, At, From, Turned, Ran}
use Rattle.lemmas.specs.Marks.{Numbered}
use Rattle.lemmas.proofs.Writes.{wrote_none, wrote_trans, wrote_weaker, wrote_other, get_or_from_take, get_or_from_drop}
use Rattle.lemmas.proofs.Fewer.{Short, swept_short, full, full_none, full_step, behind, swept_none, swept_more, noted, one_stays, one_joins, all_met}

-- ---- the clauses that a part of the line names

-- the clause at the place p of the line
abbrev clause_at : Clauses → List ℕ → ℕ → List ℕ
clause_at C O p = lemma_at C (get_or O p 0)

-- the clauses from the place a on and before b
abbrev part : Clauses → List ℕ → ℕ → ℕ → List (List ℕ)
part C O a b = named C (drop a (take b O))

map_same : (F G : ℕ → List ℕ) (xs : List ℕ) → AllByRecursion (λ x. F x ≡ G x) xs → map F xs ≡ map G xs
map_same F G [] a = refl
map_same F G (x ∷ xs) a = λ i. a.0 i ∷ map_same F G xs a.1 i

named_same : (F G : ℕ → List ℕ) (O : List ℕ) (a b : ℕ) → ((p : ℕ) → a ≤ p → p < b → F (get_or O p 0) ≡ G (get_or O p 0)) → map F (drop a (take b O)) ≡ map G (drop a (take b O))
named_same F G O a b h = map_same F G (drop a (take b O)) (All-from_get_or (λ x. F x ≡ G x) (drop a (take b O)) 0 (λ i hi.
    let small : a + i < b = omega (arith, length-drop a (take b O), length-take b O) in
    let e : get_or (drop a (take b O)) i 0 ≡ get_or O (a + i) 0 = get_or-drop a (take b O) i 0 ∙ get_or-take b O (a + i) 0 small in
    ap F e ∙ h (a + i) (omega arith) small ∙ sym (ap G e)))

module _ (F : ℕ → List ℕ) (O : List ℕ) where
  named_cons : (a b : ℕ) → a < b → b ≤ length O → map F (drop a (take b O)) ≡ F (get_or O a 0) ∷ map F (drop (a + 1) (take b O))
  named_cons a b h w = ap (map F) (drop_more (take b O) a 0 (omega (arith, length-take-le b O w))) ∙ ap (λ x. F x ∷ map F (drop (a + 1) (take b O))) (get_or-take b O a 0 h)

  named_none : (a b : ℕ) → b ≤ a → map F (drop a (take b O)) ≡ []
  named_none a b h = ap (map F) (drop_all a (take b O) (omega (arith, length-take b O)))

  named_push : (a b x : ℕ) → a ≤ b → b < length O → map F (drop a (take (b + 1) (set O b x))) ≡ map F (drop a (take b O)) ++ F x ∷ []
  named_push a b x h w =
      ap (λ ys. map F (drop a ys)) (take_more_set O b x w)
      ∙ ap (map F) (drop-append-le a (take b O) (x ∷ []) (omega (arith, length-take-le b O (omega arith))))
      ∙ map_push F (drop a (take b O)) x

-- ---- one clause's turn

-- the turn of the clause at `at` has come to the place j, and the first `left` places of the line are those left so far
pub record Sweeping (at n : ℕ) (C₀ : Clauses) (O₀ : List ℕ) (C : Clauses) (O : List ℕ) (j left : ℕ) (again : Bool) : Type 0 where
  pub low : at < left
  pub high : left ≤ j
  pub long : length O ≡ length O₀
  pub front : take (at + 1) O ≡ take (at + 1) O₀
  pub back : drop j O ≡ drop j O₀
  pub from : From O₀ j O left
  pub once : (p q : ℕ) → p < left → q < left → get_or O p 0 ≡ get_or O q 0 → p ≡ q
  pub wrote : Wrote (At O₀ at n) C₀ C
  pub whole : swept (part C₀ O₀ (at + 1) n) (clause_at C₀ O₀ at) ≡ noted again (behind (part C O (at + 1) left) (swept (part C O₀ j n) (clause_at C O₀ at)))

module _ {at n : ℕ} {C₀ : Clauses} {O₀ : List ℕ} (in' : at < n) (lined : Lined C₀ O₀ n) where
  pub sweep_start : Sweeping at n C₀ O₀ C₀ O₀ (at + 1) (at + 1) false
  sweep_start = record {
    low = omega arith;
    high = omega arith;
    long = refl;
    front = refl;
    back = refl;
    from = λ p h. (p, h, refl);
    once = λ p q hp hq e. lined.once p q (omega arith) (omega arith) e;
    wrote = wrote_none (At O₀ at n) C₀;
    whole = sym (ap (λ Ds. behind Ds (swept (part C₀ O₀ (at + 1) n) (clause_at C₀ O₀ at))) (named_none (lemma_at C₀) O₀ (at + 1) (at + 1) (omega arith)));
  }

  module _ {C : Clauses} {O : List ℕ} {j left : ℕ} {again : Bool} (s : Sweeping at n C₀ O₀ C O j left again) where
    -- the turn is over
    pub sweep_end : n ≤ j → j ≤ n → Turned at n left again C₀ O₀ C O
    sweep_end ge le =
        let K = part C O (at + 1) left in
        let A = clause_at C O₀ at in
        let same : j ≡ n = omega arith in
        record {
          low = s.low;
          high = omega (arith, s.high);
          swept_to = s.whole ∙ ap (λ Ds. noted again (behind K (swept Ds A))) (named_none (lemma_at C) O₀ j n ge) ∙ ap (λ t. noted again (behind K t)) (swept_none A) ∙ all_met again A K;
          front = s.front;
          back = drop_further O₀ O n j le s.back;
          from = λ p h. let (q, qj, e) = s.from p h in (q, omega arith, e);
          lined = record {
            within = omega (arith, s.long, s.high, lined.within);
            stands = λ p h. let (q, qj, e) = s.from p h in subst (Stands C) (sym e) (s.wrote.standing (get_or O₀ q 0) (lined.stands q (omega arith)));
            once = s.once;
          };
          wrote = s.wrote;
        }

    module _ (jn : j < n) where
      later_is : get_or O j 0 ≡ get_or O₀ j 0
      later_is = get_or_from_drop j O O₀ j (omega arith) s.back

      first_is : get_or O at 0 ≡ get_or O₀ at 0
      first_is = get_or_from_take (at + 1) O O₀ at (omega arith) s.front

      pub first_stands : Stands C (get_or O₀ at 0)
      first_stands = s.wrote.standing (get_or O₀ at 0) (lined.stands at in')

      pub later_stands : Stands C (get_or O j 0)
      later_stands = subst (Stands C) (sym later_is) (s.wrote.standing (get_or O₀ j 0) (lined.stands j jn))

      -- its number is below what each of the line is below
      pub later_below : {m : ℕ} → Numbered O₀ n m → get_or O j 0 < m
      later_below {m} b = subst (λ k. k < m) (sym later_is) (b j jn)

      pub pair_apart : get_or O₀ at 0 ≡ get_or O j 0 → ⊥
      pair_apart e = let z = lined.once at j in' jn (e ∙ later_is) in omega (arith, s.low, s.high)

      module _ {C₁ : Clauses} (w : Wrote (λ k. (k ≡ get_or O₀ at 0) ⊎ (k ≡ get_or O j 0)) C C₁) where
        wrote_on : Wrote (At O₀ at n) C₀ C₁
        wrote_on = wrote_trans s.wrote (wrote_weaker (λ k o. ⊎_elim (λ e. (at, omega arith, in', sym e)) (λ e. (j, omega (arith, s.low, s.high), jn, sym (e ∙ later_is))) o) w)

        same_kept : part C O (at + 1) left ≡ part C₁ O (at + 1) left
        same_kept = named_same (lemma_at C) (lemma_at C₁) O (at + 1) left (λ p lo hi.
            let (q, qj, e) = s.from p hi in
            sym (wrote_other w (get_or O p 0) (subst (Stands C) (sym e) (s.wrote.standing (get_or O₀ q 0) (lined.stands q (omega arith))))
            (λ o.
            ⊎_elim
            (λ f. let z = s.once p at hi s.low (f ∙ sym first_is) in omega arith)
            (λ f. let z = lined.once q j (omega arith) jn (sym e ∙ f ∙ later_is) in omega arith) o)))

        same_rest : part C O₀ (j + 1) n ≡ part C₁ O₀ (j + 1) n
        same_rest = named_same (lemma_at C) (lemma_at C₁) O₀ (j + 1) n (λ p lo hi.
            sym (wrote_other w (get_or O₀ p 0) (s.wrote.standing (get_or O₀ p 0) (lined.stands p hi))
            (λ o.
            ⊎_elim
            (λ f. let z = lined.once p at hi in' f in omega (arith, s.low, s.high))
            (λ f. let z = lined.once p j hi jn (f ∙ later_is) in omega arith) o)))

        module _ (t : Meeting) (m : Meets C C₁ (get_or O₀ at 0) (get_or O j 0) t) where
          step : swept (part C O₀ j n) (clause_at C O₀ at) ≡ after t (clause_at C₁ O j) (swept (part C₁ O₀ (j + 1) n) (clause_at C₁ O₀ at))
          step =
              let A = clause_at C O₀ at in
              let D = clause_at C O j in
              let R = part C O₀ (j + 1) n in
              ap (λ Ds. swept Ds A) (named_cons (lemma_at C) O₀ j n jn lined.within ∙ ap (λ x. lemma_at C x ∷ R) (sym later_is))
              ∙ swept_more D R A ∙ m (λ B. swept R B)
              ∙ ap (λ Ds. after t (clause_at C₁ O j) (swept Ds (clause_at C₁ O₀ at))) same_rest

          so_far : swept (part C₀ O₀ (at + 1) n) (clause_at C₀ O₀ at) ≡ noted again (behind (part C₁ O (at + 1) left) (after t (clause_at C₁ O j) (swept (part C₁ O₀ (j + 1) n) (clause_at C₁ O₀ at))))
          so_far = s.whole ∙ (λ i. noted again (behind (same_kept i) (step i)))

          -- the later clause went, and what is noted then of the turn is noted of the whole
          gone : (g : Bool) → swept (part C₀ O₀ (at + 1) n) (clause_at C₀ O₀ at) ≡ noted g (behind (part C₁ O (at + 1) left) (swept (part C₁ O₀ (j + 1) n) (clause_at C₁ O₀ at))) → Sweeping at n C₀ O₀ C₁ O (j + 1) left g
          gone g whole = record {
            low = s.low;
            high = omega (arith, s.high);
            long = s.long;
            front = s.front;
            back = drop_further O₀ O (j + 1) j (omega arith) s.back;
            from = λ p h. let (q, qj, f) = s.from p h in (q, omega arith, f);
            once = s.once;
            wrote = wrote_on;
            whole = whole;
          }

          pub sweep_goes : t ≡ Goes → Sweeping at n C₀ O₀ C₁ O (j + 1) left again
          sweep_goes e =
              let K = part C₁ O (at + 1) left in
              let u = swept (part C₁ O₀ (j + 1) n) (clause_at C₁ O₀ at) in
              gone again (so_far ∙ ap (λ b. noted again (behind K (after b (clause_at C₁ O j) u))) e)

          pub sweep_joins : t ≡ Joins → Sweeping at n C₀ O₀ C₁ O (j + 1) left true
          sweep_joins e =
              let K = part C₁ O (at + 1) left in
              let D = clause_at C₁ O j in
              let u = swept (part C₁ O₀ (j + 1) n) (clause_at C₁ O₀ at) in
              gone true (so_far ∙ ap (λ b. noted again (behind K (after b D u))) e ∙ one_joins K D u again)

          -- the later clause stays
          pub sweep_stays : t ≡ Stays → Sweeping at n C₀ O₀ C₁ (set O left (get_or O j 0)) (j + 1) (left + 1) again
          sweep_stays e =
              let x = get_or O j 0 in
              let room : left < length O = omega (arith, s.long, s.high, lined.within) in
              let here : get_or (set O left x) left 0 ≡ x = get_or-set_same O left x 0 room in
              let there : (p : ℕ) → p < left → get_or (set O left x) p 0 ≡ get_or O p 0 = λ p h. get_or-set_other O left p x 0 (λ q. omega arith) in
              let apart : (p : ℕ) → p < left → get_or O p 0 ≡ x → ⊥ = λ p h f.
              let (q, qj, g) = s.from p h in
              let z = lined.once q j (omega arith) jn (sym g ∙ f ∙ later_is) in
              omega arith in
              record {
                low = omega (arith, s.low);
                high = omega (arith, s.high);
                long = length-set O left x ∙ s.long;
                front = take-set-le (at + 1) O left x (omega (arith, s.low)) ∙ s.front;
                back = drop-set-lt (j + 1) O left x (omega (arith, s.high)) ∙ drop_further O₀ O (j + 1) j (omega arith) s.back;
                from = λ p h.
                    ⊎_elim
                    (λ f. (j, omega arith, ap (λ i. get_or (set O left x) i 0) f ∙ here ∙ later_is))
                    (λ ne. let h' : p < left = omega arith in let (q, qj, g) = s.from p h' in (q, omega arith, there p h' ∙ g))
                    (cases_eq p left);
                once = λ p q hp hq f.
                    ⊎_elim
                    (λ a. ⊎_elim (λ b. a ∙ sym b) (λ nb. let q' : q < left = omega arith in absurd (apart q q' (sym (there q q') ∙ sym f ∙ ap (λ i. get_or (set O left x) i 0) a ∙ here))) (cases_eq q left))
                    (λ na.
                    let p' : p < left = omega arith in
                    ⊎_elim
                    (λ b. absurd (apart p p' (sym (there p p') ∙ f ∙ ap (λ i. get_or (set O left x) i 0) b ∙ here)))
                    (λ nb. let q' : q < left = omega arith in s.once p q p' q' (sym (there p p') ∙ f ∙ there q q'))
                    (cases_eq q left))
                    (cases_eq p left);
                wrote = wrote_on;
                whole =
                    let K = part C₁ O (at + 1) left in
                    let D = lemma_at C₁ x in
                    let u = swept (part C₁ O₀ (j + 1) n) (clause_at C₁ O₀ at) in
                    so_far ∙ ap (λ b. noted again (behind K (after b D u))) e ∙ one_stays K D u again
                    ∙ ap (λ Ds. noted again (behind Ds u)) (sym (named_push (lemma_at C₁) O (at + 1) left x (omega (arith, s.low)) room));
              }

-- ---- the turns one after the other

-- the turns have come to the place `at`, and `left` clauses are left
pub record Running (n : ℕ) (C₀ : Clauses) (O₀ : List ℕ) (C : Clauses) (O : List ℕ) (at left : ℕ) : Type 0 where
  pub low : at ≤ left
  pub high : left ≤ n
  pub whole : full (named C₀ (take n O₀)) ≡ named C (take at O) ++ full (part C O at left)
  pub back : drop n O ≡ drop n O₀
  pub from : From O₀ n O left
  pub lined : Lined C O left
  pub wrote : Wrote (At O₀ 0 n) C₀ C

pub run_start : {n : ℕ} {C₀ : Clauses} {O₀ : List ℕ} → Lined C₀ O₀ n → Running n C₀ O₀ C₀ O₀ 0 n
run_start {n} {C₀} {O₀} lined = record {
  low = omega arith;
  high = omega arith;
  whole = refl;
  back = refl;
  from = λ p h. (p, h, refl);
  lined = lined;
  wrote = wrote_none (At O₀ 0 n) C₀;
}

-- a turn that comes again has left fewer
pub turned_less : {at n m : ℕ} {again : Bool} {C : Clauses} {O : List ℕ} {C₁ : Clauses} {O₁ : List ℕ} → n ≤ length O → again ≡ true → Turned at n m again C O C₁ O₁ → m < n
turned_less {at} {n} {m} {again} {C} {O} {C₁} {O₁} within e t =
    let Ds = part C O (at + 1) n in
    let A = clause_at C O at in
    let R = part C₁ O₁ (at + 1) m in
    let h : Short (length Ds) (record { first = clause_at C₁ O at; again = again; rest = R }) = subst (Short (length Ds)) t.swept_to (swept_short Ds A) in
    omega (
      arith,
      h.less e,
      t.low,
      length-map (drop (at + 1) (take n O)) (lemma_at C),
      length-drop (at + 1) (take n O),
      length-take-le n O within,
      length-map (drop (at + 1) (take m O₁)) (lemma_at C₁),
      length-drop (at + 1) (take m O₁),
      length-take-le m O₁ t.lined.within,
    )

module _ {n : ℕ} {C₀ : Clauses} {O₀ : List ℕ} {C : Clauses} {O : List ℕ} {at left : ℕ} (s : Running n C₀ O₀ C O at left) where
  -- the turns are over
  pub run_end : n ≤ length O₀ → left ≤ at → Ran n left C₀ O₀ C O
  run_end within le =
      let same : at ≡ left = omega (arith, s.low) in
      let Cs = named C₀ (take n O₀) in
      let long : length Cs ≡ n = length-map (take n O₀) (lemma_at C₀) ∙ length-take-le n O₀ within in
      let none : full (part C O at left) ≡ [] = ap full (named_none (lemma_at C) O at left le) ∙ full_none in
      record {
        high = s.high;
        ran =
            ap (λ k. named C (take k O)) (sym same)
            ∙ sym (s.whole ∙ ap (λ Ds. named C (take at O) ++ Ds) none ∙ append-nil (named C (take at O)))
            ∙ ap (λ k. lemmas_from k Cs) long;
        back = s.back;
        from = s.from;
        lined = s.lined;
        wrote = s.wrote;
      }

  module _ {kept : ℕ} {again : Bool} {C₁ : Clauses} {O₁ : List ℕ} (in' : at < left) (t : Turned at left kept again C O C₁ O₁) where
    front_line : take at O₁ ≡ take at O
    front_line = sym (take-take at (at + 1) O₁ (omega arith)) ∙ ap (take at) t.front ∙ take-take at (at + 1) O (omega arith)

    here : get_or O₁ at 0 ≡ get_or O at 0
    here = get_or_from_take (at + 1) O₁ O at (omega arith) t.front

    -- the clauses before have not changed
    front_same : named C (take at O) ≡ named C₁ (take at O₁)
    front_same =
        named_same (lemma_at C) (lemma_at C₁) O 0 at (λ p lo hi.
        sym (wrote_other t.wrote (get_or O p 0) (s.lined.stands p (omega arith)) (λ (q, ql, qh, e). let z = s.lined.once q p qh (omega arith) e in omega arith)))
        ∙ ap (named C₁) (sym front_line)

    turn : full (part C O at left) ≡ cond again (full (part C₁ O₁ at kept)) (clause_at C₁ O₁ at ∷ full (part C₁ O₁ (at + 1) kept))
    turn =
        let A = clause_at C O at in
        let Ds = part C O (at + 1) left in
        let R = part C₁ O₁ (at + 1) kept in
        let F₁ = lemma_at C₁ in
        ap full (named_cons (lemma_at C) O at left in' s.lined.within) ∙ full_step A Ds ∙ ap (λ u. turned u full) t.swept_to
        ∙ ap (λ x. cond again (full (F₁ x ∷ R)) (F₁ x ∷ full R)) (sym here)
        ∙ ap (λ Cs. cond again (full Cs) (F₁ (get_or O₁ at 0) ∷ full R)) (sym (named_cons F₁ O₁ at kept t.low t.lined.within))

    back_on : drop n O₁ ≡ drop n O₀
    back_on = drop_further O O₁ n left s.high t.back ∙ s.back

    from_on : From O₀ n O₁ kept
    from_on p h =
        let (q, ql, e) = t.from p h in
        let (r, rn, f) = s.from q ql in
        (r, rn, e ∙ f)

    wrote_all : Wrote (At O₀ 0 n) C₀ C₁
    wrote_all = wrote_trans s.wrote (wrote_weaker (λ k (p, lo, hi, e). let (q, qn, f) = s.from p hi in (q, omega arith, qn, sym f ∙ e)) t.wrote)

    pub run_again : again ≡ true → Running n C₀ O₀ C₁ O₁ at kept
    run_again e =
        let A = full (part C₁ O₁ at kept) in
        let B = clause_at C₁ O₁ at ∷ full (part C₁ O₁ (at + 1) kept) in
        record {
          low = omega (arith, t.low);
          high = omega (arith, t.high, s.high);
          whole = s.whole ∙ ap (λ Cs. Cs ++ full (part C O at left)) front_same ∙ ap (λ Cs. named C₁ (take at O₁) ++ Cs) (turn ∙ ap (λ b. cond b A B) e);
          back = back_on;
          from = from_on;
          lined = t.lined;
          wrote = wrote_all;
        }

    pub run_on : again ≡ false → Running n C₀ O₀ C₁ O₁ (at + 1) kept
    run_on e =
        let A = full (part C₁ O₁ at kept) in
        let R = full (part C₁ O₁ (at + 1) kept) in
        let F = clause_at C₁ O₁ at in
        let more : named C₁ (take (at + 1) O₁) ≡ named C₁ (take at O₁) ++ F ∷ [] =
        ap (named C₁) (take_more O₁ at 0 (omega (arith, t.low, t.lined.within))) ∙ map_push (lemma_at C₁) (take at O₁) (get_or O₁ at 0) in
        record {
          low = omega (arith, t.low);
          high = omega (arith, t.high, s.high);
          whole =
              s.whole ∙ ap (λ Cs. Cs ++ full (part C O at left)) front_same ∙ ap (λ Cs. named C₁ (take at O₁) ++ Cs) (turn ∙ ap (λ b. cond b A (F ∷ R)) e)
              ∙ sym (append_assoc (named C₁ (take at O₁)) (F ∷ []) R) ∙ ap (λ Cs. Cs ++ R) (sym more);
          back = back_on;
          from = from_on;
          lined = t.lined;
          wrote = wrote_all;
        }
