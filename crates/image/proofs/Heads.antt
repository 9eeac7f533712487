-- The head of an image. Assumes nothing.
use Rattle.std.proofs.Common.{◌≡◌, ℕ, zero, suc, ◌+◌, ◌-◌, ◌<◌, ◌≤◌, Bool, true, false, cond, ◌&&◌, eqb, leb, List, [], length, get_or, drop, slice_range, MatchBool, Ok, Some, Err, sym, refl, ap, ◌∙◌, ⊎_elim, add-one, arith, length-drop}
use Rattle.std.proofs.lemmas.List.{get_or-take, get_or-drop, length-take}
use Rattle.std.proofs.lemmas.Bool.{false_from_ne_true, lt-ltb, le-ltb, and_parts, and_from, cases_eq, leb-true, eqb-true, le-leb, eq-eqb, cond-true, cond-false}
use Rattle.std.proofs.lemmas.List.Sorted.{non_decreasing_from_is_sorted}
use Rattle.std.specs.List.{IsAllAdjacentAnswer}
use Rattle.std.specs.List.Sorted.{IsNonDecreasing}
use Rattle.std.specs.Ordering.{is_some_and, is_le, nat_cmp}
use Rattle.image.specs.Faults.{fault}
use Rattle.image.specs.declared.fault.Fault.{Fault}
use Rattle.image.specs.Headers.{top, offset, climbs, headed, between, run}

pub climbs_none : (ws : List ℕ) → climbs ws 0 ≡ true
unfolding climbs
climbs_none ws = refl

pub climbs_more : (ws : List ℕ) (k : ℕ) → climbs ws (suc k) ≡ (leb (offset ws k) (offset ws (suc k)) && climbs ws k)
unfolding climbs
climbs_more ws k = refl

-- the word after an offset is the next offset
pub offset_more : (ws : List ℕ) (k : ℕ) → get_or ws (k + 3) 0 ≡ offset ws (suc k)
offset_more ws k = let e : k + 3 ≡ suc k + 2 = omega arith in ap (λ (i : ℕ). get_or ws i 0) e

pub climbs_from : (ws : List ℕ) (m : ℕ) → ((k : ℕ) → k < m → offset ws k ≤ offset ws (suc k)) → climbs ws m ≡ true
climbs_from ws zero h = climbs_none ws
climbs_from ws (suc m) h = climbs_more ws m ∙ and_from _ _ (le-leb _ _ (h m (omega arith))) (climbs_from ws m (λ k l. h k (omega arith)))

pub climbs_at : (ws : List ℕ) (m k : ℕ) → climbs ws m ≡ true → k < m → offset ws k ≤ offset ws (suc k)
climbs_at ws zero k c h = absurd (omega arith)
climbs_at ws (suc m) k c h =
    let p = and_parts (leb (offset ws m) (offset ws (suc m))) (climbs ws m) (sym (climbs_more ws m) ∙ c) in
    grind (arith, leb-true (offset ws m) (offset ws (suc m)) p.0, climbs_at ws m k p.1)

pub climbs_stop : (ws : List ℕ) (m k : ℕ) → k < m → offset ws (suc k) < offset ws k → climbs ws m ≡ false
climbs_stop ws m k h l = false_from_ne_true (climbs ws m) (λ c. omega (arith, l, climbs_at ws m k c h))

-- the offsets as a slice of the words
offset_in : (ws : List ℕ) (m k : ℕ) → k ≤ m → get_or (slice_range ws 2 (m + 3)) k 0 ≡ offset ws k
offset_in ws m k l =
    let e : 2 + k ≡ k + 2 = omega arith in get_or-take (m + 3 - 2) (drop 2 ws) k 0 (omega arith) ∙ get_or-drop 2 ws k 0 ∙ ap (λ (i : ℕ). get_or ws i 0) e

-- whether that slice is sorted
pub climbs_is : (ws : List ℕ) (m : ℕ) (r : Bool) → m + 3 ≤ length ws → IsAllAdjacentAnswer (λ x y b. is_some_and is_le (Some (nat_cmp x y)) ≡ b) (slice_range ws 2 (m + 3)) r → r ≡ climbs ws m
climbs_is ws m r h a = go r (non_decreasing_from_is_sorted (slice_range ws 2 (m + 3)) r a)
  where
    n : length (slice_range ws 2 (m + 3)) ≡ m + 1
    n = omega (arith, length-take (m + 3 - 2) (drop 2 ws), length-drop 2 ws)

    go : (r : Bool) → MatchBool r (IsNonDecreasing (slice_range ws 2 (m + 3))) ((k : ℕ) × (k + 1 < length (slice_range ws 2 (m + 3))) × ((d : ℕ) → get_or (slice_range ws 2 (m + 3)) (k + 1) d < get_or (slice_range ws 2 (m + 3)) k d)) → r ≡ climbs ws m
    go true s = sym (climbs_from ws m (λ k l. omega (arith, s k (suc k) 0 (omega arith) (omega (arith, n)), offset_in ws m k (omega arith), offset_in ws m (suc k) l)))
    go false (k, l, s) =
        let j : k + 1 ≡ suc k = add-one k in
        let m' : k < m = omega (arith, n) in
        sym (climbs_stop ws m k m' (omega (arith, s 0, ap (λ (i : ℕ). get_or (slice_range ws 2 (m + 3)) i 0) j, offset_in ws m k (omega arith), offset_in ws m (suc k) m')))

pub climbs_le : (ws : List ℕ) (m d k : ℕ) → climbs ws m ≡ true → d + k ≡ m → offset ws k ≤ offset ws m
climbs_le ws m zero k c e = let i : k ≡ m = omega arith in omega (arith, ap (offset ws) i)
climbs_le ws m (suc d) k c e =
    let a : offset ws k ≤ offset ws (suc k) = climbs_at ws m k c (omega arith) in
    let b : offset ws (suc k) ≤ offset ws m = climbs_le ws m d (suc k) c (omega arith) in
    omega (arith, a, b)

pub record Head (ws : List ℕ) : Type 0 where
  pub three : 3 ≤ length ws
  pub few : top ws ≤ 1023
  pub long : top ws + 3 ≤ length ws
  pub first : offset ws 0 ≡ top ws + 3
  pub climb : climbs ws (top ws) ≡ true
  pub last : offset ws (top ws) ≡ length ws

pub head_from : (ws : List ℕ) → headed ws ≡ true → Head ws
unfolding headed
head_from ws h =
    let a = and_parts (leb 3 (length ws)) _ h in
    let b = and_parts (leb (top ws) 1023) _ a.1 in
    let c = and_parts (leb (top ws + 3) (length ws)) _ b.1 in
    let d = and_parts (eqb (offset ws 0) (top ws + 3)) _ c.1 in
    let e = and_parts (climbs ws (top ws)) _ d.1 in
    record { three = leb-true _ _ a.0; few = leb-true _ _ b.0; long = leb-true _ _ c.0; first = eqb-true _ _ d.0; climb = e.0; last = eqb-true _ _ e.1 }

pub headed_from : (ws : List ℕ) → Head ws → headed ws ≡ true
unfolding headed
headed_from ws h =
    let a = le-leb _ _ h.three in
    let b = le-leb _ _ h.few in
    let c = le-leb _ _ h.long in
    let d = eq-eqb _ _ h.first in
    let e = eq-eqb _ _ h.last in
    and_from _ _ a (and_from _ _ b (and_from _ _ c (and_from _ _ d (and_from _ _ h.climb e))))

pub head_refused : (ws : List ℕ) (f : Fault) → f ≡ fault 1 0 → (Head ws → ⊥) → Err f ≡ cond (headed ws) (Ok (top ws)) (Err (fault 1 0))
head_refused ws f e n = ap Err e ∙ sym (cond-false _ _ _ (false_from_ne_true (headed ws) (λ h. n (head_from ws h))))

pub head_opened : (ws : List ℕ) → Head ws → Ok (top ws) ≡ cond (headed ws) (Ok (top ws)) (Err (fault 1 0))
head_opened ws h = sym (cond-true _ _ _ (headed_from ws h))

-- a node's run lies within the image
pub run_within : (ws : List ℕ) (k : ℕ) → Head ws → k < top ws → (get_or ws (k + 2) 0 ≤ get_or ws (k + 3) 0) × (get_or ws (k + 3) 0 ≤ length ws) × (top ws + 3 ≤ get_or ws (k + 2) 0)
run_within ws k h l =
    let a : offset ws k ≤ offset ws (suc k) = climbs_at ws (top ws) k h.climb l in
    let e = offset_more ws k in
    let b : offset ws (suc k) ≤ offset ws (top ws) = climbs_le ws (top ws) (top ws - suc k) (suc k) h.climb (omega arith) in
    let d : offset ws 0 ≤ offset ws k = climbs_le ws k k 0 (climbs_down ws (top ws) k h.climb (omega arith)) (omega arith) in
    (omega (arith, a, e), omega (arith, b, e, h.last), omega (arith, d, h.first))
  where
    climbs_down : (ws : List ℕ) (m k : ℕ) → climbs ws m ≡ true → k ≤ m → climbs ws k ≡ true
    climbs_down ws zero zero c h = c
    climbs_down ws zero (suc k) c h = absurd (omega arith)
    climbs_down ws (suc m) k c h = ⊎_elim (λ (e : k ≡ suc m). ap (climbs ws) e ∙ c) (λ (n : k ≡ suc m → ⊥). climbs_down ws m k (and_parts _ _ (sym (climbs_more ws m) ∙ c)).1 (omega arith)) (cases_eq k (suc m))

-- a node's run, by its offsets
pub run_is : (ws : List ℕ) (k : ℕ) → k < top ws → run ws (suc k) ≡ between (offset ws k) (offset ws (suc k)) ws
run_is ws k l = cond-true _ _ _ (lt-ltb k (top ws) l)

-- no words past the highest node
pub run_past : (ws : List ℕ) (n : ℕ) → top ws < n → run ws n ≡ []
run_past ws zero l = refl
run_past ws (suc k) l = cond-false _ _ _ (le-ltb k (top ws) (omega arith))
