-- A slot whose clause lost a literal, which stays behind the others. Assumes nothing.
use Rattle.std.proofs.Common.{◌≡◌, ℕ, suc, ◌+◌, ◌-◌, ◌<◌, ◌≤◌, true, List, [], ◌∷◌, ◌++◌, length, get_or, take, drop, set, sym, refl, ap, ◌∙◌, subst, inl, inr, arith, rules}
use borrow.Rule.Slice.PartMut.{put_mid}
use Rattle.std.specs.List.{AllByRecursion}
use Rattle.std.proofs.Math.Seq.{drop-append_seam, take-append_seam}
use Rattle.std.proofs.lemmas.Bool.{cases_eq}
use Rattle.std.proofs.lemmas.List.{append_assoc, drop-set-lt, drop-take, get_or-set_other, get_or-set_same, length-append, length-drop, length-take-le, places}
use Rattle.std.proofs.lemmas.Slice.{overwrites}
use Rattle.network.specs.Clauses.{front, has, last, well_formed, without}
use Rattle.network.specs.Lists.{In}
use Rattle.network.proofs.Lists.{has_in}
use Rattle.rules.proofs.Formed.{Formed, formed_parts, front_dropped, parts_formed}
use Rattle.clause.specs.Written.{Front}
use Rattle.owned.specs.declared.owned.Owned.{Owned}
use Rattle.owned.specs.Layout.{text_at, home, clause_in, lost_in, listed_in, Sized}
use Rattle.owned.specs.Lists.{At, listed, text}
use Rattle.owned.specs.Effects.{Shortened}
use Rattle.owned.proofs.Besides.{Beside, beside_listed, beside_set, beside_texts, clause_by}
use Rattle.owned.proofs.Drops.{behind, dropped_fewer, dropped_small, dropped_words, listed_kept}
use Rattle.owned.proofs.Leaves.{Facts, inside, slot}
use Rattle.owned.proofs.Rewrites.{Anew, anew_kept}
use Rattle.owned.proofs.Stands.{stands}
use Rattle.owned.proofs.Texts.{all_sized, clause_is, lost_in_is}
use Rattle.owned.proofs.Wholes.{at_bounded, at_end, at_sizes, at_well}

-- slot x at place i of the own list of l
module _ (s : Owned) (l i x : ℕ) (a : At s x l i) where
  abbrev old : List ℕ
  old = s.texts.now

  abbrev b : ℕ
  b = text_at x

  abbrev C : List ℕ
  C = text s x

  abbrev w : ℕ
  w = get_or old (b + 2) 0

  pub formed : Formed C
  formed = formed_parts C (at_well s.room s.links.now old (stands s) x l i a)

  sizes : Sized old x
  sizes = at_sizes s.room s.links.now old (stands s) x l i a

  -- its words tell how long the clause is
  pub length_is : length C ≡ get_or old (b + 1) 0
  length_is =
      let p = inside s l i x a in
      let z = sizes in
      let z0 = z.0 in
      let z1 = z.1 in
      let n = get_or old (b + 1) 0 in
      let d : length (drop (b + 3) old) ≡ length old - (b + 3) = length-drop (b + 3) old in
      ap length (clause_is old x (slot s l i x a).0) ∙ length-take-le n (drop (b + 3) old) (omega arith)

  pub words_are : take (length C) (drop (b + 3) old) ≡ C
  words_are = ap (λ (n : ℕ). take n (drop (b + 3) old)) length_is ∙ sym (clause_is old x (slot s l i x a).0)

  pub words_in : b + 3 + length C ≤ length old
  words_in = let p = inside s l i x a in let z = sizes in let z0 = z.0 in let z1 = z.1 in let n = length_is in omega arith

  -- the literal k dropped
  module _ (k : ℕ) (h : has k (front C) ≡ true) where
    abbrev W : List ℕ
    W = without k C

    abbrev m : ℕ
    m = length W

    abbrev R : List ℕ
    R = drop (length C) (drop (b + 3) old)

    abbrev j : ℕ
    j = w - length C

    abbrev mid : List ℕ
    mid = put_mid (b + 3) (length C) old (W ++ (k ∷ []))

    abbrev ts : List ℕ
    ts = set mid (b + 1) m

    there : In k (front C)
    there = has_in k (front C) h

    pub fewer : suc m ≡ length C
    fewer = dropped_fewer k C formed there

    part : length (W ++ (k ∷ [])) ≡ length C
    part = length-append W (k ∷ []) ∙ (let e = fewer in omega arith)

    only_mid : Beside old mid b
    only_mid =
        let p = words_in in
        let q = part in
        let f = formed.short in
        record { long = search (rules, overwrites, places); low = λ n r. search (rules, overwrites, places); high = λ n r. search (rules, overwrites, places) }

    only : Beside old ts b
    only = beside_set old mid b (b + 1) m only_mid (omega arith) (omega arith)

    near : (n : ℕ) → n < b + 3 → get_or mid n 0 ≡ get_or old n 0
    near n r = let p = words_in in let q = part in search (rules, overwrites, places)

    size : get_or ts (b + 1) 0 ≡ m
    size = let p = inside s l i x a in let e = only_mid.long in get_or-set_same mid (b + 1) m 0 (omega arith)

    was : get_or ts (b + 2) 0 ≡ w
    was = get_or-set_other mid (b + 1) (b + 2) m 0 (λ e. omega arith) ∙ near (b + 2) (omega arith)

    named : home ts x ≡ home old x
    named = get_or-set_other mid (b + 1) b m 0 (λ e. omega arith) ∙ near b (omega arith)

    words : drop (b + 3) ts ≡ W ++ (k ∷ R)
    words =
        let p = words_in in
        let t : length (take (b + 3) old) ≡ b + 3 = length-take-le (b + 3) old (omega arith) in
        drop-set-lt (b + 3) mid (b + 1) m (omega arith) ∙ ap (λ (n : ℕ). drop n mid) (sym t) ∙ drop-append_seam (take (b + 3) old) ((W ++ (k ∷ [])) ++ R) ∙ append_assoc W (k ∷ []) R

    here : clause_in ts x ≡ W
    here = clause_by ts x m W (slot s l i x a).0 size (ap (take m) words ∙ take-append_seam W (k ∷ R))

    more : w ≡ m + suc j
    more = let z = sizes in let z0 = z.0 in let n = length_is in let f = fewer in omega arith

    lost_old : lost_in old x ≡ take j R
    lost_old =
        let e : w ≡ length C + j = (let z = sizes in let z0 = z.0 in let n = length_is in omega arith) in
        lost_in_is old x (slot s l i x a).0 ∙ ap (λ (n : ℕ). drop n (take w (drop (b + 3) old))) (sym length_is) ∙ ap (λ (n : ℕ). drop (length C) (take n (drop (b + 3) old))) e ∙ drop-take (length C) j (drop (b + 3) old)

    lost_now : lost_in ts x ≡ k ∷ lost_in old x
    lost_now =
        lost_in_is ts x (slot s l i x a).0
        ∙ ap (λ (n : ℕ). drop n (take (get_or ts (b + 2) 0) (drop (b + 3) ts))) size
        ∙ ap (λ (n : ℕ). drop m (take n (drop (b + 3) ts))) (was ∙ more)
        ∙ ap (λ (xs : List ℕ). drop m (take (m + suc j) xs)) words
        ∙ behind W R k j
        ∙ ap (λ (xs : List ℕ). k ∷ xs) (sym lost_old)

    listed_now : (n : ℕ) → has n (listed_in ts x) ≡ has n (listed s x)
    unfolding listed_in
    listed_now n =
        ap (λ (D : List ℕ). has n (front D ++ lost_in ts x)) here
        ∙ ap (λ (D : List ℕ). has n (front W ++ D)) lost_now
        ∙ listed_kept k C formed there (lost_in old x) n

    anew : Anew s x l ts
    anew =
        let g = front_dropped k C formed there in
        record {
          only = only;
          named = named;
          size = let p = size in let q = was in let z = sizes in let z1 = z.1 in let e = more in (omega arith, omega arith);
          well = ap well_formed here ∙ parts_formed W g.0;
          end = ap last here ∙ g.1 ∙ at_end s.room s.links.now old (stands s) x l i a;
          bounded = subst (AllByRecursion (λ k. k < 2048)) (sym lost_now) (dropped_small k C formed there, at_bounded s.room s.links.now old (stands s) x l i a);
        }

    -- as the code writes it, where at is the place of the slot's words, n the length of the clause and r that of the new one
    module _ (at n r : ℕ) (new : List ℕ) (e : at ≡ b) (en : n ≡ length C) (f : Front r (without k (take n (drop (at + 3) old))) (take n (drop (at + 3) old)) new) where
      clause_at : take n (drop (at + 3) old) ≡ C
      clause_at = ap (λ (q : ℕ). take q (drop (at + 3) old)) en ∙ ap (λ (q : ℕ). take (length C) (drop (q + 3) old)) e ∙ words_are

      r_is : r ≡ m
      r_is = f.0 ∙ ap (λ (D : List ℕ). length (without k D)) clause_at

      new_is : new ≡ W ++ drop m C
      new_is = f.1 ∙ ap (λ (q : ℕ). without k (take n (drop (at + 3) old)) ++ drop q (take n (drop (at + 3) old))) r_is ∙ ap (λ (D : List ℕ). without k D ++ drop m D) clause_at

      pub dropped_in : r < length new
      dropped_in = let p = r_is in let q = ap length new_is ∙ length-append W (drop m C) in let d = length-drop m C in let z = fewer in omega arith

      written : set (put_mid (at + 3) n old (set new r k)) (at + 1) r ≡ ts
      written =
          let q : set new r k ≡ W ++ (k ∷ []) = ap (λ (xs : List ℕ). set xs r k) new_is ∙ ap (λ (p : ℕ). set (W ++ drop m C) p k) r_is ∙ dropped_words k C formed there in
          ap (λ (xs : List ℕ). set (put_mid (at + 3) n old xs) (at + 1) r) q
          ∙ ap (λ (p : ℕ). set (put_mid (at + 3) p old (W ++ (k ∷ []))) (at + 1) r) en
          ∙ ap (λ (p : ℕ). set (put_mid (p + 3) (length C) old (W ++ (k ∷ []))) (p + 1) r) e
          ∙ ap (set mid (b + 1)) r_is

      pub shortened_kept : Facts s.room s.links.now (set (put_mid (at + 3) n old (set new r k)) (at + 1) r) s.live
      shortened_kept = rw written (anew_kept s l i x a ts anew)

      pub shortened : (t : Owned) → t.room ≡ s.room → t.links.now ≡ s.links.now → t.texts.now ≡ set (put_mid (at + 3) n old (set new r k)) (at + 1) r → Shortened x k s t
      shortened t c d v =
          let q : t.texts.now ≡ ts = v ∙ written in
          let z : (y : ℕ) → 2050 ≤ y → Sized old y = all_sized s.room s.links.now old (stands s) s.exact in
          record {
            room = c;
            owns = λ n. rw (c, d) refl;
            losts = rw (c, d) refl;
            texts = λ y. rw q (beside_texts old ts x (slot s l i x a).0 only z W here y);
            listings = λ y n. rw q (elim (cases_eq y x) [
              | inl o ↦ ap (λ (u : ℕ). has n (listed_in ts u)) o ∙ listed_now n ∙ ap (λ (u : ℕ). has n (listed s u)) (sym o)
              | inr ne ↦ ap (has n) (beside_listed old ts x (slot s l i x a).0 only z y ne)
            ]);
          }
