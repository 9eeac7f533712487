-- A clause that is written literal by literal. Assumes nothing.
use Rattle.std.proofs.Common.{◌≡◌, ℕ, ◌+◌, ◌-◌, ◌<◌, ◌≤◌, ltb, List, [], ◌∷◌, ◌++◌, length, get_or, take, drop, set, Some, None, Option, sym, refl, ap, ◌∙◌, subst, append_assoc, append-nil, arith, length-append, length-set, take-append-drop}
use Rattle.std.proofs.lemmas.List.{take_more_set, drop-set-lt, drop-drop, get_or-drop, length-take-le}
use Rattle.std.proofs.lemmas.Bool.{cond-false, le-ltb}
use Rattle.clause.specs.Written.{before, Gives, Writes}

-- the first n of `new` are written, with `rest` they are `all`, and past them `new` is as `old` was
pub record Sofar (all rest : Option (List ℕ)) (old new : List ℕ) (n : ℕ) : Type 0 where
  pub front : all ≡ before (take n new) rest
  pub back : drop n new ≡ drop n old
  pub within : n ≤ length new

before_before : (xs ys : List ℕ) (o : Option (List ℕ)) → before xs (before ys o) ≡ before (xs ++ ys) o
before_before xs ys None = refl
before_before xs ys (Some zs) = ap Some (sym (append_assoc xs ys zs))

drop_later : (n m : ℕ) (xs ys : List ℕ) → n ≤ m → drop n xs ≡ drop n ys → drop m xs ≡ drop m ys
drop_later n m xs ys h e =
    let k : n + (m - n) ≡ m = omega arith in
    ap (λ i. drop i xs) (sym k) ∙ sym (drop-drop (m - n) n xs) ∙ ap (drop (m - n)) e ∙ drop-drop (m - n) n ys ∙ ap (λ i. drop i ys) k

module _ {all rest : Option (List ℕ)} {old new : List ℕ} {n : ℕ} (s : Sofar all rest old new n) where
  pub sofar_same : (next : Option (List ℕ)) → rest ≡ next → Sofar all next old new n
  sofar_same next e = record { front = s.front ∙ ap (before (take n new)) e; back = s.back; within = s.within }

  pub sofar_more : (next : Option (List ℕ)) (l : ℕ) → n < length new → rest ≡ before (l ∷ []) next → Sofar all next old (set new n l) (n + 1)
  sofar_more next l h e = record {
    front = s.front ∙ ap (before (take n new)) e ∙ before_before (take n new) (l ∷ []) next ∙ ap (λ xs. before xs next) (sym (take_more_set new n l h));
    back = drop-set-lt (n + 1) new n l (omega arith) ∙ drop_later n (n + 1) new old (omega arith) s.back;
    within = omega (arith, length-set new n l);
  }

  -- a word that is not yet written over is as it was
  pub so_far_get_or : (i : ℕ) → n ≤ i → get_or new i 0 ≡ get_or old i 0
  so_far_get_or i h =
      let k : n + (i - n) ≡ i = omega arith in
      ap (λ j. get_or new j 0) (sym k) ∙ sym (get_or-drop n new (i - n) 0) ∙ ap (λ xs. get_or xs (i - n) 0) s.back ∙ get_or-drop n old (i - n) 0 ∙ ap (λ j. get_or old j 0) k

  pub sofar_fails : (most : ℕ) → n ≤ most → rest ≡ None → Gives most None all old new
  sofar_fails most h e = subst (λ o. Gives most None o old new) (sym (s.front ∙ ap (before (take n new)) e)) (drop_later n most new old h s.back)

  pub sofar_ends : (most : ℕ) → rest ≡ Some [] → Gives most (Some n) all old new
  sofar_ends most e =
      let P : Option (List ℕ) → Type 0 = λ o. Gives most (Some n) o old new in
      let whole : all ≡ Some (take n new) = s.front ∙ ap (before (take n new)) e ∙ ap Some (append-nil (take n new)) in
      subst P (sym whole) (sym (length-take-le n new s.within), sym (take-append-drop n new) ∙ ap (λ xs. take n new ++ xs) s.back)

  -- the rest is written by another function
  pub sofar_copied : (most part : ℕ) (next : Option (List ℕ)) (new' : List ℕ) (r : Option ℕ) → n ≤ part → part ≤ most → rest ≡ next → Gives part r (before (take n new) next) new new' → Gives most r all old new'
  sofar_copied most part None new' None hp hm e h =
      let P : Option (List ℕ) → Type 0 = λ o. Gives most None o old new' in
      subst P (sym (s.front ∙ ap (before (take n new)) e)) (drop_later part most new' old hm (h ∙ drop_later n part new old hp s.back))
  sofar_copied most part (Some xs) new' None hp hm e h = absurd h
  sofar_copied most part None new' (Some r) hp hm e h = absurd h
  sofar_copied most part (Some xs) new' (Some r) hp hm e h =
      let P : Option (List ℕ) → Type 0 = λ o. Gives most (Some r) o old new' in
      let more : n ≤ r = omega (arith, h.0, length-append (take n new) xs, length-take-le n new s.within) in
      subst P (sym (s.front ∙ ap (before (take n new)) e)) (h.0, h.1 ∙ ap (λ zs. (take n new ++ xs) ++ zs) (drop_later n r new old more s.back))

-- ---- the room

pub room_enough : {most : ℕ} {r : Option ℕ} {o : Option (List ℕ)} {old new : List ℕ} → most ≤ length old → Gives most r o old new → Writes most r o old new
room_enough {most} {r} {o} {old} {new} h g =
    let P : Option (List ℕ) → Type 0 = λ o'. Gives most r o' old new in
    record { given = subst P (sym (cond-false (ltb (length old) most) None o (le-ltb (length old) most h))) g; short = λ l. absurd (omega arith) }

pub writes_same : {most : ℕ} {r : Option ℕ} {o : Option (List ℕ)} {old new : List ℕ} (new' : List ℕ) → new ≡ new' → Writes most r o old new' → Writes most r o old new
writes_same {most} {r} {o} {old} {new} new' e w = subst (λ xs. Writes most r o old xs) (sym e) w
