-- What a slot lost forgotten by uses. Assumes nothing.
use Rattle.std.proofs.Common.{◌≡◌, ℕ, ◌+◌, ◌<◌, ◌≤◌, List, [], get_or, take, set, sym, refl, ap, ◌∙◌, subst, inl, inr, arith}
use Rattle.std.specs.List.{AllByRecursion}
use Rattle.std.proofs.lemmas.Bool.{cases_eq}
use Rattle.std.proofs.lemmas.List.{drop-set-lt, get_or-set_other, get_or-set_same}
use Rattle.network.specs.Clauses.{front, last, well_formed}
use Rattle.owned.specs.declared.owned.Owned.{Owned}
use Rattle.owned.specs.Layout.{text_at, clause_in, lost_in}
use Rattle.owned.specs.Lists.{At, text}
use Rattle.owned.specs.Effects.{Relisted}
use Rattle.owned.proofs.Besides.{Beside, beside_clause, beside_listings, beside_none, beside_set, clause_by, listed_by, none_lost}
use Rattle.owned.proofs.Leaves.{Facts, inside, slot}
use Rattle.owned.proofs.Rewrites.{Anew, anew_kept}
use Rattle.owned.proofs.Stands.{stands}
use Rattle.owned.specs.Layout.{Sized}
use Rattle.owned.proofs.Texts.{all_sized, clause_is}
use Rattle.owned.proofs.Wholes.{at_end, at_sizes, at_well}

-- slot x at place i of the own list of l
module _ (s : Owned) (l i x : ℕ) (a : At s x l i) where
  abbrev old : List ℕ
  old = s.texts.now

  abbrev n : ℕ
  n = get_or old (text_at x + 1) 0

  abbrev ts : List ℕ
  ts = set old (text_at x + 2) n

  only : Beside old ts (text_at x)
  only = beside_set old old (text_at x) (text_at x + 2) n (beside_none old (text_at x)) (omega arith) (omega arith)

  size : get_or ts (text_at x + 1) 0 ≡ n
  size = get_or-set_other old (text_at x + 2) (text_at x + 1) n 0 (λ e. omega arith)

  was : get_or ts (text_at x + 2) 0 ≡ n
  was = let p = inside s l i x a in get_or-set_same old (text_at x + 2) n 0 (omega arith)

  here : clause_in ts x ≡ text s x
  here =
      let h = (slot s l i x a).0 in
      clause_by ts x n (text s x) h size (ap (take n) (drop-set-lt (text_at x + 3) old (text_at x + 2) n (omega arith)) ∙ sym (clause_is old x h))

  none : lost_in ts x ≡ []
  none = none_lost ts x n (slot s l i x a).0 size was

  anew : Anew s x l ts
  anew =
      let z = at_sizes s.room s.links.now old (stands s) x l i a in
      record {
        only = only;
        named = get_or-set_other old (text_at x + 2) (text_at x) n 0 (λ e. omega arith);
        size = let p = size in let q = was in let z0 = z.0 in let z1 = z.1 in (omega arith, omega arith);
        well = ap well_formed here ∙ at_well s.room s.links.now old (stands s) x l i a;
        end = ap last here ∙ at_end s.room s.links.now old (stands s) x l i a;
        bounded = subst (AllByRecursion (λ k. k < 2048)) (sym none) tt;
      }

  -- as the code writes it, where b is the place of the slot's words
  pub relisted_kept : (b : ℕ) → b ≡ text_at x → Facts s.room s.links.now (set old (b + 2) (get_or old (b + 1) 0)) s.live
  relisted_kept b e = rw e (anew_kept s l i x a ts anew)

  pub relisted : (b : ℕ) → b ≡ text_at x → (t : Owned) → t.room ≡ s.room → t.links.now ≡ s.links.now → t.texts.now ≡ set old (b + 2) (get_or old (b + 1) 0) → Relisted x s t
  relisted b e t r k w =
      let v : t.texts.now ≡ ts = w ∙ ap (λ (j : ℕ). set old (j + 2) (get_or old (j + 1) 0)) e in
      let sizes : (y : ℕ) → 2050 ≤ y → Sized old y = all_sized s.room s.links.now old (stands s) s.exact in
      record {
        room = r;
        owns = λ m. rw (r, k) refl;
        losts = rw (r, k) refl;
        texts = λ y. rw v (elim (cases_eq y x) [ inl q ↦ ap (clause_in ts) q ∙ here ∙ ap (text s) (sym q) | inr ne ↦ beside_clause old ts x (slot s l i x a).0 only sizes y ne ]);
        listings = λ y. rw v (beside_listings old ts x (slot s l i x a).0 only sizes (front (text s x)) (listed_by ts x (text s x) here none) y);
      }
