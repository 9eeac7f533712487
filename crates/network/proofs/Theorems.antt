-- The theorems, put together. Assumes nothing.
use Rattle.std.proofs.Common.{◌≡◌, ℕ, Bool, true, false, not, eqb, List, sym, refl, subst}
use Rattle.std.proofs.lemmas.List.Folds.{list_all-append, list_all-map}
use Rattle.network.specs.Assignments.{Assignment, opposite, holds}
use Rattle.network.specs.Clauses.{Ordered, without}
use Rattle.network.specs.Resolution.{resolve, Resolved}
use Rattle.network.specs.Subsumption.{Strengthens}
use Rattle.network.specs.Theorems.{Basics, RowsTell, Resolution, DefinitionOut, Fitting, Simplification, Signatures, LoseBoth, Refine}
use Rattle.network.proofs.Literals.{lit_neg}
use Rattle.network.proofs.Ordered.{ordered_rising, ordered_kept}
use Rattle.network.proofs.Lists as c
use Rattle.network.proofs.Holding as holding
use Rattle.network.proofs.Resolution as r
use Rattle.network.proofs.Fits as f
use Rattle.network.proofs.Values as v
use Rattle.network.proofs.Signature as g
use Rattle.network.proofs.Spared as spared
use Rattle.network.proofs.Rows as rows
use Rattle.network.proofs.Sound as s
use Rattle.network.proofs.Networks as nets

pub basics : Basics
basics = record {
  flips = lit_neg;
  agree = holding.holds_agree;
  elsewhere = holding.holds_put;
  append = λ σ. list_all-append (holds σ);
  filter = λ σ. c.all_kept (holds σ);
  mapped = λ σ f Cs. list_all-map (holds σ) f Cs;
}

pub rows_tell : RowsTell
rows_tell = record {
  few = λ n Cs. (rows.narrow_from n Cs, rows.narrow_back n Cs);
  clash = rows.clashes_tell;
  valued = rows.valued_from;
  loose = rows.loose_tells;
  tight = rows.tight_from;
}

resolve_is : (x : ℕ) (C D : List ℕ) → Ordered C → Ordered D → Resolved x C D (resolve x C D)
resolve_is x C D oC oD = r.resolve_is x C D (ordered_rising C oC) (ordered_rising D oD)

pub resolution : Resolution
resolution = record {
  is = resolve_is;
  exact = λ x C D R oC oD. r.resolvent_exactly x C D oC oD R;
  none = λ x C D oC oD. r.tautology_exactly x C D oC oD;
  sound = λ σ x C D R oC oD e p q. s.resolvent_holds σ x C D R (subst (Resolved x C D) e (resolve_is x C D oC oD)) (s.resolution σ x C D p q);
  says = λ σ x C D R oC oD e.
      let h = subst (Resolved x C D) e (resolve_is x C D oC oD) in
      (s.holds_resolvent σ x C D R h, s.resolvent_holds σ x C D R h);
  nothing = λ σ x C D oC oD e. s.tautology_holds σ x C D (subst (Resolved x C D) e (resolve_is x C D oC oD));
  one = r.rising_same;
}

pub definition_out : DefinitionOut
definition_out cs us v σ b oc ou p q = s.definition_out cs us v σ b oc ou p q

strengthens : (σ : Assignment) (l : ℕ) (C D : List ℕ) → Strengthens l C D → holds σ C ≡ true → holds σ D ≡ holds σ (without (opposite l) D)
strengthens σ l C D b h = go (holds σ D) (holds σ (without (opposite l) D)) (s.strengthened σ l C D b h) (s.weaker σ (opposite l) D)
  where
    go : (x y : Bool) → (x ≡ true → y ≡ true) → (y ≡ true → x ≡ true) → x ≡ y
    go true y f g = sym (f refl)
    go false true f g = g refl
    go false false f g = refl

pub fitting : Fitting
fitting = record {
  whole = f.fits_sub;
  but = f.fits_but;
  neither = f.fits_none;
  part = λ C D oC oD. (f.part_found D C, f.found_part D C (ordered_rising C oC) (ordered_rising D oD));
  longer = λ C D h. (f.longer_unfit C D h, f.longer_no_part C D h);
  subsumes = λ σ C D h. holding.holds_more σ C D h;
  strengthens = strengthens;
  dropped = λ x D k. (r.without_in x k D, λ (i, a). r.in_without x k D i a);
  order = λ x D o. ordered_kept (λ l. not (eqb l x)) D o;
  resolvent = r.strengthened_resolvent;
}

pub simplification : Simplification
simplification = record {
  keeps = v.simplified_holds;
  gone = v.gone_exactly;
  exact = λ V C R o. v.left_exactly V C o R;
  order = v.simplified_ordered;
  apart = v.simplified_untwice;
}

pub signatures : Signatures
signatures = record { bits = g.bits_exactly; own = g.covers_own; part = spared.part_spared; fit = spared.fit_spared }

pub lose_both : LoseBoth
lose_both own k x A C D nx f i j p q t = (s.pair_gives own k x A C D nx f i j p q t, s.pair_lost own k x A C D nx f i j p q t)

pub refine : Refine
refine = nets.refined
