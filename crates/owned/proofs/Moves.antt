-- A slot moved from one ring to the end of another, its words written anew: what holds of own lists still holds. Assumes nothing.
use Rattle.std.proofs.Common.{◌≡◌, ℕ, zero, suc, ◌+◌, ◌<◌, ◌≤◌, true, ◌⊎◌, List, [], ◌∷◌, ◌++◌, length, get_or, set, sym, refl, ap, ◌∙◌, subst, inl, inr, ⊎_elim, arith}
use Rattle.std.specs.List.{AllByRecursion}
use Rattle.std.proofs.ByRecursion.{All-from_get_or}
use Rattle.std.proofs.lemmas.Bool.{cases_eq}
use Rattle.std.proofs.lemmas.List.{length_push, get_or-set_same}
use Rattle.rings.specs.Rings.{at, drop_at, Differ, Held, Lacks}
use Rattle.rings.proofs.Drops.{at_here, at_else, drop_at_length, drop_at_out}
use Rattle.rings.proofs.Shifts.{slot_at, lacks_other}
use Rattle.network.specs.Clauses.{last, well_formed}
use Rattle.network.specs.Lists.{In}
use Rattle.network.proofs.Lists.{has_in, in_left, in_right, in_cases}
use Rattle.rules.proofs.Answers.{has_from}
use Rattle.owned.specs.Layout.{node_count, rg, text_at, home, clause_in, lost_in, Whole}
use Rattle.owned.specs.Totals.{total}
use Rattle.owned.proofs.Totals.{total_at, total_same}
use Rattle.owned.proofs.Texts.{Sized, sized_same, clause_same, lost_same, head_body, head_home, head_length}

-- what holds of all of a list holds of each, and the other way round
pub all_in : (P : ℕ → Type 0) (xs : List ℕ) → AllByRecursion P xs → (y : ℕ) → In y xs → P y
all_in P [] h y i = absurd i
all_in P (x ∷ xs) h y (inl e) = subst P (sym e) h.0
all_in P (x ∷ xs) h y (inr i) = all_in P xs h.1 y i

pub in_all : (P : ℕ → Type 0) (xs : List ℕ) → ((y : ℕ) → In y xs → P y) → AllByRecursion P xs
in_all P [] f = tt
in_all P (x ∷ xs) f = (f x (inl refl), in_all P xs (λ y i. f y (inr i)))

-- ys is xs without x, in whatever order
pub record Out (x : ℕ) (xs ys : List ℕ) : Type 0 where
  pub less : length xs ≡ suc (length ys)
  pub lacks : Lacks x ys
  pub back : (y : ℕ) → In y ys → In y xs
  pub rest : (y : ℕ) → (y ≡ x → ⊥) → In y xs → In y ys

-- a place taken out
drop_back : (i : ℕ) (xs : List ℕ) (y : ℕ) → In y (drop_at i xs) → In y xs
unfolding drop_at
drop_back i [] y k = k
drop_back zero (x ∷ xs) y k = inr k
drop_back (suc i) (x ∷ xs) y (inl e) = inl e
drop_back (suc i) (x ∷ xs) y (inr k) = inr (drop_back i xs y k)

drop_rest : (i : ℕ) (xs : List ℕ) (y : ℕ) → (y ≡ get_or xs i 0 → ⊥) → In y xs → In y (drop_at i xs)
unfolding drop_at
drop_rest i [] y n k = k
drop_rest zero (x ∷ xs) y n (inl e) = absurd (n e)
drop_rest zero (x ∷ xs) y n (inr k) = k
drop_rest (suc i) (x ∷ xs) y n (inl e) = inl e
drop_rest (suc i) (x ∷ xs) y n (inr k) = inr (drop_rest i xs y n k)

pub drop_out : (i : ℕ) (xs : List ℕ) (x : ℕ) → i < length xs → Differ xs → get_or xs i 0 ≡ x → Out x xs (drop_at i xs)
drop_out i xs x h d e = record {
  less = let l = drop_at_length i xs h in omega arith;
  lacks = subst (λ (y : ℕ). Lacks y (drop_at i xs)) e (drop_at_out i xs h d);
  back = drop_back i xs;
  rest = λ y n. drop_rest i xs y (λ q. n (q ∙ e));
}

-- what is written anew to the words of slot x, whose ring is that of h now
pub record Rewritten (old new : List ℕ) (x h : ℕ) : Type 0 where
  pub named : home new x ≡ h
  pub homes : (y : ℕ) → 2050 ≤ y → (y ≡ x → ⊥) → home new y ≡ home old y
  pub sizes : (y : ℕ) → 2050 ≤ y → (y ≡ x → ⊥) → Sized old y → Sized new y
  pub clauses : (y : ℕ) → 2050 ≤ y → (y ≡ x → ⊥) → Sized old y → clause_in new y ≡ clause_in old y
  pub losts : (y : ℕ) → 2050 ≤ y → (y ≡ x → ⊥) → Sized old y → lost_in new y ≡ lost_in old y
  -- what the slot itself has
  pub size : Sized new x
  pub well : h < 2048 → well_formed (clause_in new x) ≡ true
  pub end : h < 2048 → last (clause_in new x) ≡ h
  pub bounded : h < 2048 → AllByRecursion (λ k. k < 2048) (lost_in new x)

total_two : (f : ℕ → ℕ) → total 2050 f ≡ total 2048 f + f 2048 + f 2049
unfolding total
total_two f = refl

-- the rings after the slot x left ring m, of which `left` stays, and came to the end of ring h
abbrev pub carried : (ℕ → List ℕ) → ℕ → List ℕ → ℕ → ℕ → ℕ → List ℕ
carried R m left h x = at (at R m left) h (at R m left h ++ (x ∷ []))

module _ (room : ℕ) (links texts : List ℕ) (w : Whole room links texts) (m i x : ℕ) (hm : m < 2050) (im : i < length (rg room links m)) (is : get_or (rg room links m) i 0 ≡ x) (left : List ℕ) (out : Out x (rg room links m) left) (h : ℕ) (hh : h < 2050) where
  abbrev R : ℕ → List ℕ
  R = rg room links

  abbrev F : ℕ → List ℕ
  F = at R m left

  abbrev G : ℕ → List ℕ
  G = carried R m left h x

  -- slots of other rings are other slots
  other_lacks : (l : ℕ) → l < 2050 → (l ≡ m → ⊥) → Lacks x (R l)
  other_lacks l hl n = subst (λ (y : ℕ). Lacks y (R l)) is (lacks_other 2050 (node_count room) links w.held m i l hm hl im n)

  -- what a ring has now is x, or what it had
  carried_from : (l : ℕ) → l < 2050 → (y : ℕ) → In y (G l) → ((y ≡ x) × (l ≡ h)) ⊎ ((y ≡ x → ⊥) × In y (R l))
  carried_from l hl y k =
      let rest : In y (F l) → (y ≡ x → ⊥) × In y (R l) = λ j.
      elim (cases_eq l m) [
        | inl e ↦ let j2 = subst (In y) (at_here R m left l e) j in (all_in (λ z. z ≡ x → ⊥) left out.lacks y j2, subst (λ (a : ℕ). In y (R a)) (sym e) (out.back y j2))
        | inr n ↦ let j2 = subst (In y) (at_else R m left l n) j in (all_in (λ z. z ≡ x → ⊥) (R l) (other_lacks l hl n) y j2, j2)
      ] in
      elim (cases_eq l h) [
        | inl e ↦ ⊎_elim
            (λ j. inr (rest (subst (λ (a : ℕ). In y (F a)) (sym e) j)))
            (λ j. inl (⊎_elim (λ q. q) (λ q. absurd q) j, e))
            (in_cases y (F h) (x ∷ []) (subst (In y) (at_here F h (F h ++ (x ∷ [])) l e) k))
        | inr n ↦ inr (rest (subst (In y) (at_else F h (F h ++ (x ∷ [])) l n) k))
      ]

  -- and it keeps what is not x
  carried_keeps : (l : ℕ) (y : ℕ) → (y ≡ x → ⊥) → In y (R l) → In y (G l)
  carried_keeps l y n j =
      let f : In y (F l) = elim (cases_eq l m) [
        | inl e ↦ subst (In y) (sym (at_here R m left l e)) (out.rest y n (subst (λ (a : ℕ). In y (R a)) e j))
        | inr u ↦ subst (In y) (sym (at_else R m left l u)) j
      ] in
      elim (cases_eq l h) [
        | inl e ↦ subst (In y) (sym (at_here F h (F h ++ (x ∷ [])) l e)) (in_left y (F h) (x ∷ []) (subst (λ (a : ℕ). In y (F a)) e f))
        | inr u ↦ subst (In y) (sym (at_else F h (F h ++ (x ∷ [])) l u)) f
      ]

  carried_has : In x (G h)
  carried_has = subst (In x) (sym (at_here F h (F h ++ (x ∷ [])) h refl)) (in_right x (F h) (x ∷ []) (inl refl))

  carried_total : total 2050 (λ l. length (G l)) ≡ total 2050 (λ l. length (R l))
  carried_total =
      let a = total_at 2050 (λ l. length (R l)) (λ l. length (F l)) m hm (λ l k n. ap length (at_else R m left l n)) in
      let b = total_at 2050 (λ l. length (F l)) (λ l. length (G l)) h hh (λ l k n. ap length (at_else F h (F h ++ (x ∷ [])) l n)) in
      let c : length (F m) ≡ length left = ap length (at_here R m left m refl) in
      let d : length (G h) ≡ length (F h) + 1 = ap length (at_here F h (F h ++ (x ∷ [])) h refl) ∙ length_push (F h) x in
      let e = out.less in
      omega arith

  module _ (links' texts' : List ℕ) (long' : length links' ≡ length links) (held' : Held 2050 (node_count room) links') (rings' : (l : ℕ) → l < 2050 → rg room links' l ≡ G l) (re : Rewritten texts texts' x h) where
    slot : (l y : ℕ) → l < 2050 → In y (R l) → 2050 ≤ y
    slot l y hl = all_in (λ z. 2050 ≤ z) (R l) (slots l hl) y
      where
        slots : (l : ℕ) → l < 2050 → AllByRecursion (λ z. 2050 ≤ z) (R l)
        slots l hl = All-from_get_or (λ z. 2050 ≤ z) (R l) 0 (λ j k. (slot_at 2050 (node_count room) links w.held l j hl k).0)

    sized : (l y : ℕ) → l < 2050 → In y (R l) → Sized texts y
    sized l y hl = all_in (Sized texts) (R l) (w.sizes l hl) y

    -- what holds of x in the ring of h, and of the others where they stood
    all_by : (P : ℕ → ℕ → Type 0) (l : ℕ) → l < 2050 → (l ≡ h → P h x) → ((y : ℕ) → (y ≡ x → ⊥) → In y (R l) → P l y) → AllByRecursion (P l) (rg room links' l)
    all_by P l hl here else_ = in_all (P l) (rg room links' l) (λ y k.
        ⊎_elim
        (λ q. subst (λ (a : ℕ). P a y) (sym q.1) (subst (P h) (sym q.0) (here q.1)))
        (λ q. else_ y q.0 q.1)
        (carried_from l hl y (subst (In y) (rings' l hl) k)))

    pub moved_whole : Whole room links' texts'
    moved_whole = record {
      long = let z = w.long in omega arith;
      held = held';
      housed = λ y a b.
          elim (cases_eq y x) [
            | inl e ↦
                let q : home texts' y ≡ h = ap (home texts') e ∙ re.named in
                (omega arith, rw (q, rings' h hh, e) (has_from x (G h) carried_has))
            | inr n ↦
                let q = re.homes y a n in
                let o = w.housed y a b in
                let o0 = o.0 in
                (omega arith, rw (q, rings' (home texts y) o.0) (has_from y (G (home texts y)) (carried_keeps (home texts y) y n (has_in y (R (home texts y)) o.1))))
          ];
      sizes = λ l hl. all_by (λ l y. Sized texts' y) l hl (λ e. re.size) (λ y n j. re.sizes y (slot l y hl j) n (sized l y hl j));
      wells = λ l hl. all_by (λ l y. well_formed (clause_in texts' y) ≡ true) l (omega arith) (λ e. re.well (omega arith)) (λ y n j. ap well_formed (re.clauses y (slot l y (omega arith) j) n (sized l y (omega arith) j)) ∙ all_in (λ z. well_formed (clause_in texts z) ≡ true) (R l) (w.wells l hl) y j);
      ends = λ l hl. all_by (λ l y. last (clause_in texts' y) ≡ l) l (omega arith) (λ e. re.end (omega arith)) (λ y n j. ap last (re.clauses y (slot l y (omega arith) j) n (sized l y (omega arith) j)) ∙ all_in (λ z. last (clause_in texts z) ≡ l) (R l) (w.ends l hl) y j);
      bounded = λ l hl. all_by (λ l y. AllByRecursion (λ k. k < 2048) (lost_in texts' y)) l (omega arith) (λ e. re.bounded (omega arith)) (λ y n j. subst (AllByRecursion (λ k. k < 2048)) (sym (re.losts y (slot l y (omega arith) j) n (sized l y (omega arith) j))) (all_in (λ z. AllByRecursion (λ k. k < 2048) (lost_in texts z)) (R l) (w.bounded l hl) y j));
      sized =
          let a = total_same 2050 (λ l. length (rg room links' l)) (λ l. length (G l)) (λ l k. ap length (rings' l k)) in
          let b = carried_total in
          let c = total_two (λ l. length (rg room links' l)) in
          let d = total_two (λ l. length (R l)) in
          let z = w.sized in
          omega arith;
    }

-- a slot that leaves its own list, or is no longer lost: only its head is written
pub head_rewritten : (texts : List ℕ) (x h : ℕ) → 2050 ≤ x → text_at x < length texts → 2048 ≤ h → Sized texts x → Rewritten texts (set texts (text_at x) h) x h
head_rewritten texts x h p q g z =
    let l = head_length texts x h p in
    record {
      named = get_or-set_same texts (text_at x) h 0 q;
      homes = head_home texts x h p;
      sizes = λ y a n k. sized_same texts (set texts (text_at x) h) y l (head_body texts x h p y a) k;
      clauses = λ y a n k. clause_same texts (set texts (text_at x) h) y l (head_body texts x h p y a) k;
      losts = λ y a n k. lost_same texts (set texts (text_at x) h) y l (head_body texts x h p y a) k;
      size = sized_same texts (set texts (text_at x) h) x l (head_body texts x h p x p) z;
      well = λ k. absurd (omega arith);
      end = λ k. absurd (omega arith);
      bounded = λ k. absurd (omega arith);
    }
