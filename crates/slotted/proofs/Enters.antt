-- A clause entered, in own lists and in an index. Assumes nothing.
use Rattle.std.proofs.Common.{◌≡◌, ℕ, ◌+◌, ◌≤◌, Bool, true, false, cond, ◌&&◌, eqb, ltb, ◌⊎◌, List, [], ◌∷◌, ◌++◌, length, sym, refl, ap, ◌∙◌, subst, inl, inr, ⊎_elim, arith}
use Rattle.std.proofs.lemmas.Bool.{and_parts, both_ways, cases_Bool, cases_eq}
use Rattle.network.specs.Lists.{In}
use Rattle.network.specs.Clauses.{front, has, last, well_formed}
use Rattle.network.proofs.Lists.{in_cases, in_left, in_right}
use Rattle.rings.specs.Rings.{Lacks}
use Rattle.rings.proofs.Drops.{at_here, at_else}
use Rattle.rules.specs.Store.{enterable, entered}
use Rattle.rules.specs.Lawful.{Lawful}
use Rattle.rules.proofs.Lawful.{entered_lawful}
use Rattle.slots.proofs.Slots.{entered_is}
use Rattle.rules.proofs.Answers.{has_from}
use Rattle.owned.proofs.Moves.{all_in, in_all}
use Rattle.owned.specs.declared.owned.Owned.{Owned}
use Rattle.owned.specs.Effects.{Admitted}
use Rattle.slotted.specs.Indexes.{Listing, MayJoin, Sensible}
use Rattle.owned.specs.Lists.{kept, listed, lost, own, text}
use Rattle.slotted.specs.Tied.{meaning_of}
use Rattle.slotted.proofs.Asks.{live_is}
use Rattle.slotted.proofs.Fronts.{may_join}
use Rattle.slotted.proofs.Members.{has_not, has_same, lacks_not, not_lacks}
use Rattle.slotted.proofs.Stands.{Facts, HasSlot, Ties, facts, meaning_is}

-- whether a clause may be entered
fits_is : (o : Owned) (ix : Bool) (used : Listing → ℕ → List ℕ) (C : List ℕ) → (well_formed C && ltb (kept o) o.room) ≡ enterable (meaning_of o ix used) C
fits_is o ix used C = ap (λ (n : ℕ). well_formed C && ltb (n + length (lost o)) o.room) (live_is o ix used)

pub fits_by : (o : Owned) (ix : Bool) (used : Listing → ℕ → List ℕ) (C : List ℕ) {b : Bool} → b ≡ (well_formed C && ltb (kept o) o.room) → b ≡ enterable (meaning_of o ix used) C
fits_by o ix used C e = e ∙ fits_is o ix used C

-- what a clause entered leaves: the facts of the store, and its meaning
abbrev pub Entered : (s t : Owned) (ix : Bool) (u : Listing → ℕ → List ℕ) (C : List ℕ) (slots : ℕ) (j' : ℕ → Bool) (u' : Listing → ℕ → List ℕ) → Type 0
Entered s t ix u C slots j' u' = Facts t ix slots j' u' × (meaning_of t ix u' ≡ entered C (meaning_of s ix u))

-- one more at the end of a list
pub in_more : (x y : ℕ) (b : Bool) (us : List ℕ) → (y ≡ x → ⊥) → has y (cond b (us ++ (x ∷ [])) us) ≡ has y us
in_more x y true us n = has_same y (us ++ (x ∷ [])) us (λ h. ⊎_elim (λ k. k) (λ k. absurd (⊎_elim n (λ z. z) k)) (in_cases y us (x ∷ []) h)) (in_left y us (x ∷ []))
in_more x y false us n = refl

in_last : (x : ℕ) (b : Bool) (us : List ℕ) → Lacks x us → has x (cond b (us ++ (x ∷ [])) us) ≡ b
in_last x true us l = has_from x (us ++ (x ∷ [])) (in_right x us (x ∷ []) (inl refl))
in_last x false us l = has_not x us (lacks_not x us l)

-- the store before, and own lists with a clause more
module _ (s t : Owned) (ix : Bool) (j : ℕ → Bool) (u : Listing → ℕ → List ℕ) (S : Sensible j u) (T : Ties s ix j u) (x : ℕ) (C : List ℕ) (A : Admitted x C s t) (fits : true ≡ (well_formed C && ltb (kept s) s.room)) where
  good : well_formed C ≡ true
  good = (and_parts (well_formed C) (ltb (kept s) s.room) (sym fits)).0

  ok : enterable (meaning_of s ix u) C ≡ true
  ok = sym (fits_by s ix u C fits)

  not_slot : HasSlot s x → ⊥
  not_slot (inl k) = lacks_not x (own s k.0) (A.fresh k.0) k.1
  not_slot (inr k) = lacks_not x (lost s) A.found k

  not_joined : j x ≡ false
  not_joined = elim (cases_Bool (j x)) [ inl e ↦ absurd (not_slot (T.kept x e)) | inr e ↦ e ]

  joins_at : (slots : ℕ) → s.room ≤ slots → MayJoin slots j x (front C)
  joins_at slots f = let a = A.slot.1 in may_join slots j x C A.slot.0 (omega arith) not_joined good

  -- where no index stands none joins
  idle : ix ≡ false → (b : Bool) (y : ℕ) → j y ≡ cond (eqb y x) (ix && b) (j y)
  idle e b y =
      elim (cases_eq y x) [
        | inl q ↦ (T.off e).0 y ∙ sym (at_here j x (ix && b) y q ∙ ap (λ (c : Bool). c && b) e)
        | inr n ↦ sym (at_else j x (ix && b) y n)
      ]

  listing : (y : ℕ) → (y ≡ x → ⊥) → listed t y ≡ listed s y
  listing y n = A.listings y ∙ at_else (listed s) x (front C) y n

  here : listed t x ≡ front C
  here = A.listings x ∙ at_here (listed s) x (front C) x refl

  others : (y : ℕ) → j y ≡ true → y ≡ x → ⊥
  others y e q = both_ways (j x) not_joined (ap j (sym q) ∙ e)

  same_uses : (k : ℕ) → u (listed s) k ≡ u (listed t) k
  same_uses = S.depends (listed s) (listed t) (λ y k e. ap (has k) (sym (listing y (others y e))))

  unused : (k : ℕ) → Lacks x (u (listed s) k)
  unused k = not_lacks x (u (listed s) k) (λ h. both_ways (j x) not_joined (all_in (λ y. j y ≡ true) (u (listed s) k) (S.users (listed s) k) x h))

  own_in : (l y : ℕ) → In y (own s l) → In y (own t l)
  own_in l y h =
      rw (A.owns l) (elim (cases_eq l (last C)) [
        | inl q ↦ rw (at_here (own s) (last C) (own s (last C) ++ (x ∷ [])) l q) (in_left y (own s (last C)) (x ∷ []) (subst (λ (m : ℕ). In y (own s m)) q h))
        | inr n ↦ rw (at_else (own s) (last C) (own s (last C) ++ (x ∷ [])) l n) h
      ])

  own_cases : (l y : ℕ) → In y (own t l) → In y (own s l) ⊎ (y ≡ x)
  own_cases l y h =
      elim (cases_eq l (last C)) [
        | inl q ↦
            let k : In y (own s (last C) ++ (x ∷ [])) = subst (In y) (A.owns l ∙ at_here (own s) (last C) (own s (last C) ++ (x ∷ [])) l q) h in
            ⊎_elim (λ a. inl (subst (λ (m : ℕ). In y (own s m)) (sym q) a)) (λ b. inr (⊎_elim (λ e. e) (λ z. absurd z) b)) (in_cases y (own s (last C)) (x ∷ []) k)
        | inr n ↦ inl (subst (In y) (A.owns l ∙ at_else (own s) (last C) (own s (last C) ++ (x ∷ [])) l n) h)
      ]

  x_slot : HasSlot t x
  x_slot = inl (last C, subst (In x) (sym (A.owns (last C) ∙ at_here (own s) (last C) (own s (last C) ++ (x ∷ [])) (last C) refl)) (in_right x (own s (last C)) (x ∷ []) (inl refl)))

  slot_stays : (y : ℕ) → HasSlot s y → HasSlot t y
  slot_stays y (inl k) = inl (k.0, own_in k.0 y k.1)
  slot_stays y (inr k) = inr (subst (In y) (sym A.losts) k)

  -- and the index, which the slot has joined if it stands
  module _ (j' : ℕ → Bool) (u' : Listing → ℕ → List ℕ) (joins : (y : ℕ) → j' y ≡ cond (eqb y x) (ix && ltb 0 (length (front C))) (j y))
      (uses : (k : ℕ) → u' (listed t) k ≡ cond (ix && has k (front C)) (u (listed t) k ++ (x ∷ [])) (u (listed t) k)) where
    uses_old : (k : ℕ) → u' (listed t) k ≡ cond (ix && has k (front C)) (u (listed s) k ++ (x ∷ [])) (u (listed s) k)
    uses_old k = uses k ∙ ap (λ (us : List ℕ). cond (ix && has k (front C)) (us ++ (x ∷ [])) us) (sym (same_uses k))

    entered_meaning : meaning_of t ix u' ≡ entered C (meaning_of s ix u)
    entered_meaning =
        meaning_is t ix u' s.room (own t) (u' (listed t)) (text t) (length (lost s)) A.room (λ m. refl) (λ k. refl) (λ y. refl) (ap length A.losts)
        ∙ entered_is s.room ix (own s) (u (listed s)) (text s) (own t) (u' (listed t)) (text t) (length (lost s)) x C A.fresh unused A.owns uses_old
        (A.texts x ∙ at_here (text s) x C x refl)
        (λ l. in_all (λ y. text t y ≡ text s y) (own s l) (λ y h. A.texts y ∙ at_else (text s) x C y (λ q. lacks_not x (own s l) (A.fresh l) (subst (λ (z : ℕ). In z (own s l)) q h))))
        (λ k. in_all (λ y. text t y ≡ text s y) (u (listed s) k) (λ y h. A.texts y ∙ at_else (text s) x C y (λ q. lacks_not x (u (listed s) k) (unused k) (subst (λ (z : ℕ). In z (u (listed s) k)) q h))))

    entered_ties : Ties t ix j' u'
    entered_ties = record {
      kept = λ y e. elim (cases_eq y x) [
        | inl q ↦ subst (HasSlot t) (sym q) x_slot
        | inr n ↦ slot_stays y (T.kept y (sym (joins y ∙ at_else j x (ix && ltb 0 (length (front C))) y n) ∙ e))
      ];
      joins = λ on l y h. elim (cases_eq y x) [
        | inl q ↦ joins y ∙ at_here j x (ix && ltb 0 (length (front C))) y q ∙ ap (λ (b : Bool). b && ltb 0 (length (front C))) on ∙ ap (λ (L : List ℕ). ltb 0 (length L)) (sym here ∙ ap (listed t) (sym q))
        | inr n ↦ joins y ∙ at_else j x (ix && ltb 0 (length (front C))) y n ∙ T.joins on l y (⊎_elim (λ k. k) (λ q. absurd (n q)) (own_cases l y h)) ∙ ap (λ (L : List ℕ). ltb 0 (length L)) (sym (listing y n))
      ];
      complete = λ on l k y h. elim (cases_eq y x) [
        | inl q ↦ ap (λ (z : ℕ). has z (u' (listed t) k)) q ∙ ap (has x) (uses_old k) ∙ in_last x (ix && has k (front C)) (u (listed s) k) (unused k) ∙ ap (λ (b : Bool). b && has k (front C)) on ∙ ap (has k) (sym here ∙ ap (listed t) (sym q))
        | inr n ↦ ap (has y) (uses_old k) ∙ in_more x y (ix && has k (front C)) (u (listed s) k) n ∙ T.complete on l k y (⊎_elim (λ a. a) (λ q. absurd (n q)) (own_cases l y h)) ∙ ap (has k) (sym (listing y n))
      ];
      off = λ e. (λ y. joins y ∙ sym (idle e (ltb 0 (length (front C))) y) ∙ (T.off e).0 y, A.losts ∙ (T.off e).1);
    }

    entered_facts : (slots : ℕ) → s.room ≤ slots → Lawful (meaning_of s ix u) → Facts t ix slots j' u'
    entered_facts slots f L = facts t ix slots j' u' (let e = A.room in omega arith) entered_ties (subst Lawful (sym entered_meaning) (entered_lawful C (meaning_of s ix u) L ok))

  module _ (L : Lawful (meaning_of s ix u)) (slots : ℕ) (f : s.room ≤ slots) where
    -- by what the index says of a slot that joins
    pub entered_on : ix ≡ true → (slots' : ℕ) → slots' ≡ slots → (j' : ℕ → Bool) (u' : Listing → ℕ → List ℕ) (literals : List ℕ) → literals ≡ front C →
        (MayJoin slots j x literals → (y : ℕ) → j' y ≡ cond (eqb y x) (ltb 0 (length literals)) (j y)) →
        (MayJoin slots j x literals → listed t x ≡ literals → (k : ℕ) → u' (listed t) k ≡ cond (has k literals) (u (listed t) k ++ (x ∷ [])) (u (listed t) k)) → Entered s t ix u C slots' j' u'
    entered_on on slots' same j' u' literals fr js us =
        let m : MayJoin slots j x literals = subst (MayJoin slots j x) (sym fr) (joins_at slots f) in
        let joins : (y : ℕ) → j' y ≡ cond (eqb y x) (ix && ltb 0 (length (front C))) (j y) = λ y. js m y ∙ ap (λ (D : List ℕ). cond (eqb y x) (ltb 0 (length D)) (j y)) fr ∙ ap (λ (b : Bool). cond (eqb y x) (b && ltb 0 (length (front C))) (j y)) (sym on) in
        let uses : (k : ℕ) → u' (listed t) k ≡ cond (ix && has k (front C)) (u (listed t) k ++ (x ∷ [])) (u (listed t) k) = λ k.
        us m (here ∙ sym fr) k ∙ ap (λ (D : List ℕ). cond (has k D) (u (listed t) k ++ (x ∷ [])) (u (listed t) k)) fr ∙ ap (λ (b : Bool). cond (b && has k (front C)) (u (listed t) k ++ (x ∷ [])) (u (listed t) k)) (sym on) in
        (entered_facts j' u' joins uses slots' (omega arith) L, entered_meaning j' u' joins uses)

    -- with no index
    pub entered_off : ix ≡ false → Entered s t ix u C slots j u
    entered_off off =
        let uses : (k : ℕ) → u (listed t) k ≡ cond (ix && has k (front C)) (u (listed t) k ++ (x ∷ [])) (u (listed t) k) = λ k. ap (λ (b : Bool). cond (b && has k (front C)) (u (listed t) k ++ (x ∷ [])) (u (listed t) k)) (sym off) in
        (entered_facts j u (idle off (ltb 0 (length (front C)))) uses slots f L, entered_meaning j u (idle off (ltb 0 (length (front C)))) uses)
