-- The slots of own lists join an index, one after the other. Assumes nothing.
use Rattle.std.proofs.Common.{◌≡◌, ℕ, zero, suc, ◌+◌, ◌<◌, ◌≤◌, Bool, true, false, cond, ◌&&◌, eqb, ltb, List, [], ◌∷◌, ◌++◌, length, get_or, slice_index, take, Some, None, Option, filter, sym, refl, ap, ◌∙◌, subst, inl, inr, ⊎_elim, arith, flat_map}
use mathlib.Core.Path.{fun_ext}
use Rattle.std.proofs.lemmas.Bool.{and_parts, both_ways, cases_Bool, cases_eq, cond-true, cond-false, eq-eqb, ne_eqb}
use Rattle.std.proofs.lemmas.List.{append-nil, append_assoc, take_all}
use Rattle.std.proofs.lemmas.List.Elements.{filter-append}
use Rattle.std.proofs.Math.Seq.{take-suc}
use Rattle.std.proofs.ByRecursion.{All-get_or}
use Rattle.network.specs.Lists.{In}
use Rattle.network.specs.Clauses.{front, has, well_formed}
use Rattle.network.proofs.Lists.{flat_map_in, has_in, in_cases, in_flat_map, in_kept, in_right, kept_in}
use Rattle.rings.specs.Rings.{Differ, Lacks}
use Rattle.rings.proofs.Drops.{at_here, at_else}
use Rattle.rules.specs.Store.{Meaning, filled, from, index_on, literals, up_to}
use Rattle.rules.specs.Lawful.{Lawful}
use Rattle.rules.proofs.Formed.{formed_parts}
use Rattle.rules.proofs.Index.{in_up_to}
use Rattle.rules.proofs.Lawful.{index_on_lawful}
use Rattle.rules.proofs.Start.{from_in}
use Rattle.slots.proofs.Changes.{indexed_is}
use Rattle.owned.specs.declared.owned.Owned.{Owned}
use Rattle.owned.specs.Effects.{Relisted}
use Rattle.owned.specs.Lists.{At, listed, lost, own, text}
use Rattle.rules.proofs.Answers.{has_from}
use Rattle.owned.proofs.Laws.{own_laws}
use Rattle.owned.proofs.Moves.{all_in, in_all}
use Rattle.slotted.specs.Filled.{Filled, SameLists, earlier}
use Rattle.slotted.specs.Indexes.{Listing, MayJoin, Sensible}
use Rattle.slotted.specs.Tied.{meaning_of}
use Rattle.slotted.proofs.Enters.{in_more}
use Rattle.slotted.proofs.Fronts.{may_join}
use Rattle.slotted.proofs.Members.{has_not, lacks_not, none_in, not_lacks, place_of}
use Rattle.slotted.proofs.Stands.{Facts, Ties, at_own, facts, meaning_is, own_formed, own_low}

-- ## Lists

-- one list more
more_from : (f : ℕ → List ℕ) (n i : ℕ) → flat_map f (from i (suc n)) ≡ flat_map f (from i n) ++ f (i + n)
more_from f zero i = append-nil (f i) ∙ ap f (omega arith)
more_from f (suc n) i =
    let e : suc i + n ≡ i + suc n = omega arith in
    ap (λ (ys : List ℕ). f i ++ ys) (more_from f n (suc i) ∙ ap (λ (m : ℕ). flat_map f (from (suc i) n) ++ f m) e) ∙ sym (append_assoc (f i) (flat_map f (from (suc i) n)) (f (i + suc n)))

earlier_none : (o : Owned) → earlier 0 o ≡ []
unfolding earlier
earlier_none o = refl

earlier_more : (o : Owned) (l : ℕ) → earlier (l + 1) o ≡ earlier l o ++ own o l
unfolding earlier
earlier_more o l = let e : l + 1 ≡ suc l = omega arith in ap (λ (m : ℕ). earlier m o) e ∙ more_from (own o) l 0 ∙ ap (λ (m : ℕ). earlier l o ++ own o m) (omega arith)

-- what earlier lists have
earlier_in : (o : Owned) (l x : ℕ) → In x (earlier l o) → (m : ℕ) × (m < l) × In x (own o m)
unfolding earlier
earlier_in o l x h = let m = flat_map_in (own o) (up_to l) x h in let b = (from_in l 0 m.0 m.1).1 in (m.0, omega arith, m.2)

in_earlier : (o : Owned) (l m x : ℕ) → m < l → In x (own o m) → In x (earlier l o)
unfolding earlier
in_earlier o l m x h = in_flat_map (own o) (up_to l) m x (in_up_to l m h)

filter_flat : (p : ℕ → Bool) (f : ℕ → List ℕ) (ls : List ℕ) → filter p (flat_map f ls) ≡ flat_map (λ l. filter p (f l)) ls
filter_flat p f [] = refl
filter_flat p f (l ∷ ls) = filter-append p (f l) (flat_map f ls) ∙ ap (λ (ys : List ℕ). filter p (f l) ++ ys) (filter_flat p f ls)

filter_push : (p : ℕ → Bool) (xs : List ℕ) (x : ℕ) → filter p (xs ++ (x ∷ [])) ≡ cond (p x) (filter p xs ++ (x ∷ [])) (filter p xs)
filter_push p xs x =
    filter-append p xs (x ∷ []) ∙ elim (cases_Bool (p x)) [
      | inl t ↦ ap (λ (ys : List ℕ). filter p xs ++ ys) (cond-true (p x) (x ∷ []) [] t) ∙ sym (cond-true (p x) (filter p xs ++ (x ∷ [])) (filter p xs) t)
      | inr f ↦ ap (λ (ys : List ℕ). filter p xs ++ ys) (cond-false (p x) (x ∷ []) [] f) ∙ append-nil (filter p xs) ∙ sym (cond-false (p x) (filter p xs ++ (x ∷ [])) (filter p xs) f)
    ]

has_filter : (p : ℕ → Bool) (x : ℕ) (xs : List ℕ) → In x xs → has x (filter p xs) ≡ p x
has_filter p x xs h =
    elim (cases_Bool (p x)) [
      | inl t ↦ has_from x (filter p xs) (in_kept p x xs h t) ∙ sym t
      | inr f ↦ has_not x (filter p xs) (λ k. both_ways (p x) f (kept_in p x xs k).1) ∙ sym f
    ]

take_lacks : (i : ℕ) (xs : List ℕ) → Differ xs → i < length xs → Lacks (get_or xs i 0) (take i xs)
unfolding Differ
take_lacks i [] d h = absurd (omega arith)
take_lacks zero (x ∷ xs) d h = tt
take_lacks (suc i) (x ∷ xs) d h = (λ e. All-get_or (λ y. y ≡ x → ⊥) xs i 0 (omega arith) d.0 (sym e), take_lacks i xs d.1 (omega arith))

-- ## A slot joins

module _ (xs : List ℕ) (o t : Owned) (slots : ℕ) (j : ℕ → Bool) (u : Listing → ℕ → List ℕ) (S : Sensible j u) (F : Filled xs o slots j u) (x : ℕ) (R : Relisted x o t)
    (new : Lacks x xs) (slot : (2050 ≤ x) × (x < 2050 + o.room)) (good : well_formed (text o x) ≡ true)
    (slots' : ℕ) (j' : ℕ → Bool) (u' : Listing → ℕ → List ℕ) (lits : List ℕ) (fr : lits ≡ front (text t x)) (same : slots' ≡ slots)
    (js : MayJoin slots j x lits → (y : ℕ) → j' y ≡ cond (eqb y x) (ltb 0 (length lits)) (j y))
    (us : MayJoin slots j x lits → listed t x ≡ lits → (k : ℕ) → u' (listed t) k ≡ cond (has k lits) (u (listed t) k ++ (x ∷ [])) (u (listed t) k)) where
  not_in : (y : ℕ) → In y xs → y ≡ x → ⊥
  not_in y h e = lacks_not x xs new (subst (λ (z : ℕ). In z xs) e h)

  fresh : j x ≡ false
  fresh = F.joins x ∙ ap (λ (b : Bool). b && ltb 0 (length (front (text o x)))) (has_not x xs (lacks_not x xs new))

  lits_is : lits ≡ front (text o x)
  lits_is = fr ∙ ap front (R.texts x)

  may : MayJoin slots j x lits
  may = let f = F.fits in let h = slot.1 in subst (MayJoin slots j x) (sym lits_is) (may_join slots j x (text o x) slot.0 (omega arith) fresh good)

  here : listed t x ≡ lits
  here = R.listings x ∙ at_here (listed o) x (front (text o x)) x refl ∙ sym lits_is

  else : (y : ℕ) → (y ≡ x → ⊥) → listed t y ≡ listed o y
  else y n = R.listings y ∙ at_else (listed o) x (front (text o x)) y n

  fronts : (y : ℕ) → front (text t y) ≡ front (text o y)
  fronts y = ap front (R.texts y)

  old : (k : ℕ) → u (listed t) k ≡ filter (λ y. has k (front (text t y))) xs
  old k =
      sym (S.depends (listed o) (listed t) (λ y m e. ap (has m) (sym (else y (λ q. both_ways (j x) fresh (ap j (sym q) ∙ e))))) k)
      ∙ F.uses k ∙ ap (λ (p : ℕ → Bool). filter p xs) (fun_ext (λ y. ap (has k) (sym (fronts y))))

  pub filled_push : Filled (xs ++ (x ∷ [])) t slots' j' u'
  filled_push = record {
    fits = (let f = F.fits in let e = R.room in omega arith);
    joins = λ y. js may y ∙ elim (cases_eq y x) [
      | inl q ↦ at_here j x (ltb 0 (length lits)) y q ∙ ap (λ (D : List ℕ). ltb 0 (length D)) (fr ∙ ap (λ (z : ℕ). front (text t z)) (sym q)) ∙ ap (λ (b : Bool). b && ltb 0 (length (front (text t y)))) (sym (has_from y (xs ++ (x ∷ [])) (in_right y xs (x ∷ []) (inl q))))
      | inr n ↦ at_else j x (ltb 0 (length lits)) y n ∙ F.joins y ∙ ap (λ (D : List ℕ). has y xs && ltb 0 (length D)) (sym (fronts y)) ∙ ap (λ (b : Bool). b && ltb 0 (length (front (text t y)))) (sym (in_more x y true xs n))
    ];
    uses = λ k.
        let p : ℕ → Bool = λ y. has k (front (text t y)) in
        us may here k ∙ ap (λ (D : List ℕ). cond (has k D) (u (listed t) k ++ (x ∷ [])) (u (listed t) k)) fr ∙ ap (λ (ys : List ℕ). cond (p x) (ys ++ (x ∷ [])) ys) (old k) ∙ sym (filter_push p xs x);
    lists = in_all (λ y. listed t y ≡ front (text t y)) (xs ++ (x ∷ [])) (λ y h. ⊎_elim
        (λ k. else y (not_in y k) ∙ all_in (λ z. listed o z ≡ front (text o z)) xs F.lists y k ∙ sym (fronts y))
        (λ k. ⊎_elim (λ q. subst (λ (z : ℕ). listed t z ≡ front (text t z)) (sym q) (here ∙ fr)) (λ z. absurd z) k) (in_cases y xs (x ∷ []) h));
  }

-- ## A walk along an own list

-- the walk is at place i of a list
abbrev pub Stand : List ℕ → ℕ → Option ℕ → Type 0
Stand xs i at = elim at [ None ↦ length xs ≡ i | Some x ↦ (i < length xs) × (slice_index xs i ≡ x) ]

-- how much of a list is left from a slot on
abbrev pub left_from : List ℕ → ℕ → ℕ
left_from [] x = 0
left_from (y ∷ ys) x = cond (eqb y x) (suc (length ys)) (left_from ys x)

abbrev pub left : List ℕ → Option ℕ → ℕ
left xs None = 0
left xs (Some x) = left_from xs x

left_at : (xs : List ℕ) (i x : ℕ) → Differ xs → i < length xs → get_or xs i 0 ≡ x → left_from xs x + i ≡ length xs
unfolding Differ
left_at [] i x d h e = absurd (omega arith)
left_at (y ∷ ys) zero x d h e = ap (λ (n : ℕ). n + 0) (at_here_left y ys x e) ∙ omega arith
  where
    at_here_left : (y : ℕ) (ys : List ℕ) (x : ℕ) → y ≡ x → left_from (y ∷ ys) x ≡ suc (length ys)
    at_here_left y ys x e = cond-true (eqb y x) (suc (length ys)) (left_from ys x) (eq-eqb y x e)
left_at (y ∷ ys) (suc i) x d h e =
    let n : y ≡ x → ⊥ = λ q. All-get_or (λ z. z ≡ y → ⊥) ys i 0 (omega arith) d.0 (e ∙ sym q) in
    let p = cond-false (eqb y x) (suc (length ys)) (left_from ys x) (ne_eqb y x n) in
    let ih = left_at ys i x d.1 (omega arith) e in
    omega arith

-- the slots before place i of the own list of l have joined
pub record Along (s o : Owned) (l slots : ℕ) (joined : ℕ → Bool) (used : Listing → ℕ → List ℕ) (at : Option ℕ) : Type 0 where
  pub place : ℕ
  pub stands : Stand (own s l) place at
  pub filled : Filled (earlier l s ++ take place (own s l)) o slots joined used
  pub same : SameLists s o

pub same_refl : (s : Owned) → SameLists s s
same_refl s = record { room = refl; owns = λ l. refl; losts = refl; texts = λ x. refl }

pub along_start : (s : Owned) (l slots : ℕ) (j : ℕ → Bool) (u : Listing → ℕ → List ℕ) (at : Option ℕ) → Filled (earlier l s) s slots j u → Stand (own s l) 0 at → Along s s l slots j u at
along_start s l slots j u at F st = record { place = 0; stands = st; filled = subst (λ (xs : List ℕ). Filled xs s slots j u) (sym (append-nil (earlier l s))) F; same = same_refl s }

pub along_end : (s o : Owned) (l slots : ℕ) (j : ℕ → Bool) (u : Listing → ℕ → List ℕ) → Along s o l slots j u None → Filled (earlier (l + 1) s) o slots j u
along_end s o l slots j u a =
    let e : length (own s l) ≤ a.place = (let q = a.stands in omega arith) in
    subst (λ (xs : List ℕ). Filled xs o slots j u) (ap (λ (ys : List ℕ). earlier l s ++ ys) (take_all a.place (own s l) e) ∙ sym (earlier_more s l)) a.filled

-- one slot further
module _ (s o t : Owned) (l slots : ℕ) (j : ℕ → Bool) (u : Listing → ℕ → List ℕ) (S : Sensible j u) (x : ℕ) (a : Along s o l slots j u (Some x)) where
  abbrev i : ℕ
  i = a.place

  pub stands_at : At o x l i
  stands_at = let p = a.stands in rw (a.same.owns l) p

  pub kept_at : (R : Relisted x o t) → At t x l i
  kept_at R = rw (R.owns l) stands_at

  -- what is after it there is after it in the own list of s
  pub stands_next : (R : Relisted x o t) (at : Option ℕ) → Stand (own t l) (i + 1) at → Stand (own s l) (i + 1) at
  stands_next R at = subst (λ (xs : List ℕ). Stand xs (i + 1) at) (R.owns l ∙ a.same.owns l)

  -- it has a literal
  pub not_empty : (R : Relisted x o t) → 0 < length (text t x)
  not_empty R = let f = (formed_parts (text o x) (own_formed o l x (at_own o x l i stands_at))).some in let e = ap length (R.texts x) in omega arith

  pub along_left : left (own s l) (Some x) + i ≡ length (own s l)
  along_left = left_at (own s l) i x ((own_laws s).kept_so.differ l) a.stands.0 a.stands.1

  pub left_less : (at : Option ℕ) → Stand (own s l) (i + 1) at → left (own s l) at < left (own s l) (Some x)
  left_less None st = let p = along_left in let q = a.stands.0 in omega arith
  left_less (Some y) st = let p = along_left in let q = left_at (own s l) (i + 1) y ((own_laws s).kept_so.differ l) st.0 st.1 in omega arith

  not_yet : Lacks x (earlier l s ++ take i (own s l))
  not_yet =
      let p : At s x l i = a.stands in
      not_lacks x (earlier l s ++ take i (own s l)) (λ h. ⊎_elim
      (λ k.
      let m = earlier_in s l x k in
      let q = place_of x (own s m.0) m.2 in
      let e = ((own_laws s).once x l i m.0 q.0 p (q.1, q.2)).0 in
      let b = m.1 in
      absurd (omega arith))
      (λ k. lacks_not x (take i (own s l)) (subst (λ (z : ℕ). Lacks z (take i (own s l))) p.1 (take_lacks i (own s l) ((own_laws s).kept_so.differ l) p.0)) k)
      (in_cases x (earlier l s) (take i (own s l)) h))

  module _ (R : Relisted x o t) (slots' : ℕ) (j' : ℕ → Bool) (u' : Listing → ℕ → List ℕ) (lits : List ℕ) (fr : lits ≡ front (text t x)) (same : slots' ≡ slots)
      (js : MayJoin slots j x lits → (y : ℕ) → j' y ≡ cond (eqb y x) (ltb 0 (length lits)) (j y))
      (us : MayJoin slots j x lits → listed t x ≡ lits → (k : ℕ) → u' (listed t) k ≡ cond (has k lits) (u (listed t) k ++ (x ∷ [])) (u (listed t) k)) where
    pub along_next : (at : Option ℕ) → Stand (own s l) (i + 1) at → Along s t l slots' j' u' at
    along_next at st =
        let h : In x (own o l) = at_own o x l i stands_at in
        let f = filled_push (earlier l s ++ take i (own s l)) o t slots j u S a.filled x R not_yet (all_in _ (own o l) ((own_laws o).owned_slots l) x h) (own_formed o l x h) slots' j' u' lits fr same js us in
        let e : suc i ≡ i + 1 = omega arith in
        let more : (earlier l s ++ take i (own s l)) ++ (x ∷ []) ≡ earlier l s ++ take (i + 1) (own s l) =
        append_assoc (earlier l s) (take i (own s l)) (x ∷ []) ∙ ap (λ (ys : List ℕ). earlier l s ++ ys) (ap (λ (z : ℕ). take i (own s l) ++ (z ∷ [])) (sym a.stands.1) ∙ sym (take-suc (own s l) i 0 a.stands.0) ∙ ap (λ (n : ℕ). take n (own s l)) e) in
        record {
          place = i + 1;
          stands = st;
          filled = subst (λ (xs : List ℕ). Filled xs t slots' j' u') more f;
          same = record { room = R.room ∙ a.same.room; owns = λ m. R.owns m ∙ a.same.owns m; losts = R.losts ∙ a.same.losts; texts = λ y. R.texts y ∙ a.same.texts y };
        }

-- ## Every own list

earlier_same : (s o : Owned) → SameLists s o → (l : ℕ) → earlier l o ≡ earlier l s
unfolding earlier
earlier_same s o e l = ap (λ (f : ℕ → List ℕ). flat_map f (up_to l)) (fun_ext e.owns)

-- how far the lists have been filled
abbrev pub FilledTo : (s o : Owned) (l slots : ℕ) (joined : ℕ → Bool) (used : Listing → ℕ → List ℕ) → Type 0
FilledTo s o l slots joined used = Filled (earlier l s) o slots joined used × SameLists s o

pub filled_now : (s o : Owned) (l slots : ℕ) (j : ℕ → Bool) (u : Listing → ℕ → List ℕ) → FilledTo s o l slots j u → Filled (earlier l o) o slots j u
filled_now s o l slots j u h = subst (λ (xs : List ℕ). Filled xs o slots j u) (sym (earlier_same s o h.1 l)) h.0

pub filled_first : (s : Owned) (slots : ℕ) (j : ℕ → Bool) (u : Listing → ℕ → List ℕ) → Filled [] s slots j u → FilledTo s s 0 slots j u
filled_first s slots j u f = (subst (λ (xs : List ℕ). Filled xs s slots j u) (sym (earlier_none s)) f, same_refl s)

pub filled_then : (s o t : Owned) (l slots : ℕ) (j : ℕ → Bool) (u : Listing → ℕ → List ℕ) → SameLists s o → Filled (earlier l o) t slots j u → SameLists o t → FilledTo s t l slots j u
filled_then s o t l slots j u e f h = (
  subst (λ (xs : List ℕ). Filled xs t slots j u) (earlier_same s o e l) f,
  record { room = h.room ∙ e.room; owns = λ m. h.owns m ∙ e.owns m; losts = h.losts ∙ e.losts; texts = λ y. h.texts y ∙ e.texts y },
)

-- ## An index that is made

module _ (s : Owned) (ix : Bool) (slots : ℕ) (j : ℕ → Bool) (u : Listing → ℕ → List ℕ) (S : Sensible j u) (T : Ties s ix j u) (off : ix ≡ false) where
  -- before it
  pub filled_none : s.room ≤ slots → Filled [] s slots j u
  filled_none f = record {
    fits = f;
    joins = (T.off off).0;
    uses = λ k. none_in (u (listed s) k) (λ y h. both_ways (j y) ((T.off off).0 y) (all_in (λ z. j z ≡ true) (u (listed s) k) (S.users (listed s) k) y h));
    lists = tt;
  }

  -- and after
  module _ (t : Owned) (slots' : ℕ) (j' : ℕ → Bool) (u' : Listing → ℕ → List ℕ) (F : Filled (earlier 2048 s) t slots' j' u') (E : SameLists s t) where
    pub filled_meaning : meaning_of t true u' ≡ index_on (meaning_of s ix u)
    unfolding earlier
    filled_meaning =
        let used : (k : ℕ) → u' (listed t) k ≡ flat_map (λ l. filter (λ x. has k (front (text s x))) (own s l)) literals = λ k.
        F.uses k ∙ ap (λ (f : ℕ → List ℕ). filter (λ x. has k (front (f x))) (earlier 2048 s)) (fun_ext E.texts) ∙ filter_flat (λ x. has k (front (text s x))) (own s) literals in
        meaning_is t true u' s.room (own s) (u' (listed t)) (text s) 0 E.room E.owns (λ k. refl) E.texts (ap length (E.losts ∙ (T.off off).1))
        ∙ indexed_is s.room (own s) (u (listed s)) (u' (listed t)) (text s) (length (lost s)) (own_laws s).kept_so used
        ∙ ap (λ (b : Bool). index_on (meaning_of s b u)) (sym off)

    in_all_earlier : (l x : ℕ) → In x (own t l) → In x (earlier 2048 s)
    in_all_earlier l x h = let k = subst (In x) (E.owns l) h in in_earlier s 2048 l x (own_low s l x k) k

    filled_ties : Ties t true j' u'
    filled_ties = record {
      kept = λ x e. let k = and_parts (has x (earlier 2048 s)) (ltb 0 (length (front (text t x)))) (sym (F.joins x) ∙ e) in let m = earlier_in s 2048 x (has_in x (earlier 2048 s) k.0) in inl (m.0, subst (In x) (sym (E.owns m.0)) m.2);
      joins = λ on l x h. let k = in_all_earlier l x h in
          F.joins x ∙ ap (λ (b : Bool). b && ltb 0 (length (front (text t x)))) (has_from x (earlier 2048 s) k) ∙ ap (λ (D : List ℕ). ltb 0 (length D)) (sym (all_in (λ y. listed t y ≡ front (text t y)) (earlier 2048 s) F.lists x k));
      complete = λ on l k x h. let e = in_all_earlier l x h in
          ap (has x) (F.uses k) ∙ has_filter (λ y. has k (front (text t y))) x (earlier 2048 s) e ∙ ap (has k) (sym (all_in (λ y. listed t y ≡ front (text t y)) (earlier 2048 s) F.lists x e));
      off = λ e. absurd (both_ways true e refl);
    }

    pub filled_facts : Lawful (meaning_of s ix u) → Facts t true slots' j' u'
    filled_facts L = facts t true slots' j' u' F.fits filled_ties (subst Lawful (sym filled_meaning) (index_on_lawful (meaning_of s ix u) L))

-- where one stands
pub index_stays : (M : Meaning) → M.indexed ≡ true → M ≡ index_on M
unfolding index_on
index_stays M on = sym (cond-true M.indexed M (filled M) on)
