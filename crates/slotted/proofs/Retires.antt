-- A clause retired from own lists, which an index keeps. Assumes nothing.
use Rattle.std.proofs.Common.{◌≡◌, ℕ, suc, ◌+◌, ◌-◌, ◌<◌, ◌≤◌, Bool, true, false, cond, ◌&&◌, eqb, ltb, List, [], ◌∷◌, ◌++◌, length, get_or, sym, refl, ap, ◌∙◌, subst, inl, inr, arith}
use mathlib.Core.Path.{fun_ext}
use Rattle.std.specs.List.{list_any}
use Rattle.std.proofs.lemmas.Bool.{both_ways, and_left, and_right, and_from, cases_Bool, cases_eq, cases_lt, cond-true, cond-false, eq-eqb, ne_eqb, lt-ltb, le-ltb}
use Rattle.std.proofs.lemmas.List.{length-map, length_push}
use Rattle.network.specs.Lists.{In}
use Rattle.network.specs.Clauses.{has}
use Rattle.network.proofs.Lists.{in_left, in_right}
use Rattle.rings.specs.Rings.{drop_at}
use Rattle.rings.proofs.Drops.{at_here, at_else, drop_at_high, drop_at_length, drop_at_low}
use Rattle.rules.specs.Store.{literals, retired}
use Rattle.rules.specs.Subsume.{place_after}
use Rattle.rules.specs.Lawful.{Lawful}
use Rattle.rules.proofs.Lawful.{retired_lawful}
use Rattle.slots.proofs.Changes.{retired_is}
use Rattle.owned.specs.declared.owned.Owned.{Owned}
use Rattle.owned.specs.Effects.{Retired}
use Rattle.slotted.specs.Indexes.{Alike, Listing, Sensible}
use Rattle.owned.specs.Lists.{At, listed, lost, own, text}
use Rattle.slotted.specs.Tied.{meaning_of}
use Rattle.slotted.proofs.Leaves.{left_new, left_old}
use Rattle.slotted.proofs.Members.{any_low, any_nothing, none_in}
use Rattle.owned.proofs.Laws.{own_laws}
use Rattle.owned.proofs.Moves.{Out, all_in, drop_out}
use Rattle.slotted.proofs.Stands.{Facts, HasSlot, Ties, at_own, facts, meaning_is}

module _ (s t : Owned) (ix : Bool) (j : ℕ → Bool) (u : Listing → ℕ → List ℕ) (S : Sensible j u) (T : Ties s ix j u) (x l i : ℕ) (a : At s x l i) (b : Bool) (is : b ≡ (ix && ltb 0 (length (listed s x)))) (R : Retired b x l i s t) where
  listing : (y : ℕ) → listed t y ≡ listed s y
  listing y = R.same.listings y

  pub retired_alike : Alike j (listed s) (listed t)
  retired_alike y k e = ap (has k) (sym (listing y))

  same_uses : (k : ℕ) → u (listed s) k ≡ u (listed t) k
  same_uses = S.depends (listed s) (listed t) retired_alike

  here : In x (own s l)
  here = at_own s x l i a

  -- it is used somewhere if and only if it is to be lost
  referred_is : list_any (λ k. has x (u (listed s) k)) literals ≡ b
  referred_is =
      elim (cases_Bool ix) [
        | inl on ↦
            ap (λ (p : ℕ → Bool). list_any p literals) (fun_ext (λ k. T.complete on l k x here))
            ∙ any_low (listed s x) (all_in _ (own s l) ((own_laws s).literals l) x here)
            ∙ ap (λ (c : Bool). c && ltb 0 (length (listed s x))) (sym on) ∙ sym is
        | inr off ↦ any_nothing x (u (listed s)) literals (nothing off) ∙ sym (is ∙ ap (λ (c : Bool). c && ltb 0 (length (listed s x))) off)
      ]
    where
      nothing : ix ≡ false → (k : ℕ) → u (listed s) k ≡ []
      nothing off k = none_in (u (listed s) k) (λ y h. both_ways (j y) ((T.off off).0 y) (all_in (λ z. j z ≡ true) (u (listed s) k) (S.users (listed s) k) y h))

  losts : length (lost t) ≡ cond (list_any (λ k. has (get_or (own s l) i 0) (u (listed s) k)) literals) (suc (length (lost s))) (length (lost s))
  losts =
      let n = length (lost s) in
      let p : list_any (λ k. has (get_or (own s l) i 0) (u (listed s) k)) literals ≡ b = ap (λ (z : ℕ). list_any (λ k. has z (u (listed s) k)) literals) a.1 ∙ referred_is in
      ap length R.losts
      ∙ elim (cases_Bool b) [
        | inl q ↦ ap length (cond-true b (lost s ++ (x ∷ [])) (lost s) q) ∙ length_push (lost s) x ∙ (let e : n + 1 ≡ suc n = omega arith in e) ∙ sym (cond-true _ (suc n) n (p ∙ q))
        | inr q ↦ ap length (cond-false b (lost s ++ (x ∷ [])) (lost s) q) ∙ sym (cond-false _ (suc n) n (p ∙ q))
      ]

  pub retired_meaning : meaning_of t ix u ≡ retired l i (meaning_of s ix u)
  retired_meaning =
      meaning_is t ix u s.room (own t) (u (listed s)) (text s) (length (lost t)) R.room (λ m. refl) (λ k. sym (same_uses k)) R.same.texts refl
      ∙ retired_is (own s) (text s) (own_laws s).kept_so l i a.0 (own t) R.owns s.room ix (u (listed s)) (length (lost s)) (length (lost t)) losts

  abbrev new : List ℕ
  new = drop_at i (own s l)

  out : Out x (own s l) new
  out = drop_out i (own s l) x a.0 ((own_laws s).kept_so.differ l) a.1

  own_old : (m y : ℕ) → In y (own t m) → In y (own s m)
  own_old m y h = (left_old s t x l i a new out R.owns m y h).0

  lost_stays : (y : ℕ) → In y (lost s) → In y (lost t)
  lost_stays y h =
      rw R.losts (elim (cases_Bool b) [
        | inl q ↦ rw (cond-true b (lost s ++ (x ∷ [])) (lost s) q) (in_left y (lost s) (x ∷ []) h)
        | inr q ↦ rw (cond-false b (lost s ++ (x ∷ [])) (lost s) q) h
      ])

  x_lost : j x ≡ true → In x (lost t)
  x_lost e =
      let on : ix ≡ true = elim (cases_Bool ix) [ inl q ↦ q | inr q ↦ absurd (both_ways (j x) ((T.off q).0 x) e) ] in
      let q : b ≡ true = is ∙ ap (λ (c : Bool). c && ltb 0 (length (listed s x))) on ∙ sym (T.joins on l x here) ∙ e in
      rw R.losts (rw (cond-true b (lost s ++ (x ∷ [])) (lost s) q) (in_right x (lost s) (x ∷ []) (inl refl)))

  slot_stays : (y : ℕ) → j y ≡ true → HasSlot s y → HasSlot t y
  slot_stays y e (inl k) = elim (cases_eq y x) [ inl q ↦ inr (subst (λ (z : ℕ). In z (lost t)) (sym q) (x_lost (ap j (sym q) ∙ e))) | inr n ↦ inl (k.0, left_new s t x l i a new out R.owns k.0 y n k.1) ]
  slot_stays y e (inr k) = inr (lost_stays y k)

  retired_ties : Ties t ix j u
  retired_ties = record {
    kept = λ y e. slot_stays y e (T.kept y e);
    joins = λ on m y h. T.joins on m y (own_old m y h) ∙ ap (λ (D : List ℕ). ltb 0 (length D)) (sym (listing y));
    complete = λ on m k y h. ap (has y) (sym (same_uses k)) ∙ T.complete on m k y (own_old m y h) ∙ ap (has k) (sym (listing y));
    off = λ e. ((T.off e).0, R.losts ∙ cond-false b (lost s ++ (x ∷ [])) (lost s) (is ∙ ap (λ (c : Bool). c && ltb 0 (length (listed s x))) e) ∙ (T.off e).1);
  }

  pub retired_facts : Lawful (meaning_of s ix u) → (slots : ℕ) → s.room ≤ slots → Facts t ix slots j u
  retired_facts L slots f = facts t ix slots j u (let e = R.room in omega arith) retired_ties (subst Lawful (sym retired_meaning) (retired_lawful l i (meaning_of s ix u) L (let p = a.0 in let e = length-map (own s l) (text s) in omega arith)))

  -- the slots behind it in its list come a place forward
  pub retired_follow : (y m n : ℕ) → At s y m n → ((m ≡ l) × (n ≡ i) → ⊥) → At t y m (place_after l i m n)
  retired_follow y m n p ne =
      elim (cases_eq m l) [
        | inl q ↦
            let ne' : n ≡ i → ⊥ = λ e. ne (q, e) in
            let p0 : n < length (own s l) = subst (λ (w : ℕ). n < length (own s w)) q p.0 in
            let p1 : get_or (own s l) n 0 ≡ y = ap (λ (w : ℕ). get_or (own s w) n 0) (sym q) ∙ p.1 in
            let len = drop_at_length i (own s l) a.0 in
            let z = a.0 in
            rw (R.owns m, at_here (own s) l (drop_at i (own s l)) m q) (elim (cases_lt i n) [
              | inl lt ↦
                  let e : place_after l i m n ≡ n - 1 = cond-true (eqb l m && ltb i n) (n - 1) n (and_from (eqb l m) (ltb i n) (eq-eqb l m (sym q)) (lt-ltb i n lt)) in
                  let f : suc (n - 1) ≡ n = omega arith in
                  rw e (omega arith, drop_at_high i (n - 1) (own s l) 0 (omega arith) ∙ ap (λ (w : ℕ). get_or (own s l) w 0) f ∙ p1)
              | inr ge ↦
                  let e : place_after l i m n ≡ n = cond-false (eqb l m && ltb i n) (n - 1) n (and_right (eqb l m) (ltb i n) (le-ltb i n ge)) in
                  let lt : n < i = elim (cases_lt n i) [ inl w ↦ w | inr w ↦ absurd (ne' (omega arith)) ] in
                  rw e (omega arith, drop_at_low i n (own s l) 0 lt ∙ p1)
            ])
        | inr q ↦ rw (R.owns m, at_else (own s) l (drop_at i (own s l)) m q, cond-false (eqb l m && ltb i n) (n - 1) n (and_left (eqb l m) (ltb i n) (ne_eqb l m (λ e. q (sym e))))) p
      ]
