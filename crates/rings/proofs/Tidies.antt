-- Rings with no node astray: what the writers leave of them. Assumes nothing.
use Rattle.std.proofs.Common.{◌≡◌, ℕ, zero, suc, ◌+◌, ◌*◌, ◌<◌, ◌≤◌, List, [], ◌∷◌, ◌++◌, length, get_or, drop, sym, refl, ap, ◌∙◌, subst, inl, inr, arith}
use native.Mathlib.Bridge.{le_prop}
use mathlib.Core.HLevel.{Π_prop}
use denote.Struct.Props.{≡_prop}
use base.Stored.{coded_ℕ}
use Rattle.std.specs.List.{AllByRecursion}
use Rattle.std.proofs.lemmas.Bool.{cases_eq}
use Rattle.std.proofs.ByRecursion.{All-drop}
use Rattle.std.proofs.lemmas.List.{length-drop}
use Rattle.rings.specs.Rings.{Held, Lacks, Path, at, cut_out, linked, next, prev, put_in, ring, scattered, unlinked, without}
use Rattle.rings.specs.Tidy.{Tidy}
use Rattle.rings.proofs.Bounds.{cut_is, put_is, scattered_alone, scattered_length}
use Rattle.rings.proofs.Drops.{at_here, at_else}
use Rattle.rings.proofs.Holes.{few}
use Rattle.rings.proofs.Paths.{walk_path, without_here, without_other}
use Rattle.rings.proofs.Words.{alone_lacks, ring_differ, ring_slots, walk_within}
use Rattle.rings.proofs.Shifts.{Cuts, cuts, lone_held, push_held, push_ring, push_still}

path_prop : (nx pv : ℕ → ℕ) (a : ℕ) (xs : List ℕ) (b : ℕ) → IsProp (Path nx pv a xs b)
unfolding Path
path_prop nx pv a [] b p q = λ i. (≡_prop coded_ℕ (nx a) b p.0 q.0 i, ≡_prop coded_ℕ (pv b) a p.1 q.1 i)
path_prop nx pv a (x ∷ xs) b p q = λ i. ((≡_prop coded_ℕ (nx a) x p.0.0 q.0.0 i, ≡_prop coded_ℕ (pv x) a p.0.1 q.0.1 i), path_prop nx pv x xs b p.1 q.1 i)

pub held_prop : (heads nodes : ℕ) (ws : List ℕ) → IsProp (Held heads nodes ws)
held_prop heads nodes ws p q = λ i. (
  (le_prop p.0.0 q.0.0 i, le_prop p.0.1 q.0.1 i),
  (
    λ n h.
        ((le_prop (p.1.0 n h).0.0 (q.1.0 n h).0.0 i, le_prop (p.1.0 n h).0.1 (q.1.0 n h).0.1 i), (≡_prop coded_ℕ (next ws (prev ws n)) n (p.1.0 n h).1.0 (q.1.0 n h).1.0 i, ≡_prop coded_ℕ (prev ws (next ws n)) n (p.1.0 n h).1.1 (q.1.0 n h).1.1 i)),
    λ l h. path_prop (next ws) (prev ws) l (ring heads nodes ws l) l (p.1.1 l h) (q.1.1 l h) i,
  ),
)

-- so that a field can keep it
pub tidy_prop : (heads nodes : ℕ) (ws : List ℕ) → IsProp (Tidy heads nodes ws)
tidy_prop heads nodes ws p q = λ i. record {
  held = held_prop heads nodes ws p.held q.held i;
  alone = λ n a b l. ≡_prop coded_ℕ (next ws n) n (p.alone n a b l) (q.alone n a b l) i;
}

pub lacks_without : (m n : ℕ) (ys : List ℕ) → (m ≡ n → ⊥) → Lacks m (without n ys) → Lacks m ys
lacks_without m n [] ne h = tt
lacks_without m n (y ∷ ys) ne h =
    elim (cases_eq y n) [
      | inl e ↦ (λ q. ne (sym q ∙ e), lacks_without m n ys ne (subst (Lacks m) (without_here n y ys e) h))
      | inr no' ↦ let k = subst (Lacks m) (without_other n y ys no') h in (k.0, lacks_without m n ys ne k.1)
    ]

pub lacks_push : (m s : ℕ) (ys : List ℕ) → Lacks m (ys ++ (s ∷ [])) → Lacks m ys × (s ≡ m → ⊥)
lacks_push m s [] h = (tt, h.0)
lacks_push m s (y ∷ ys) h = let k = lacks_push m s ys h.1 in ((h.0, k.0), k.1)

module _ (heads nodes : ℕ) (ws : List ℕ) (t : Tidy heads nodes ws) (s : ℕ) (slot : heads ≤ s) (within : s < nodes) where
  abbrev c : Cuts heads nodes ws t.held s slot within (unlinked ws s)
  c = cuts heads nodes ws t.held s slot within

  cut_tidy : Tidy heads nodes (unlinked ws s)
  cut_tidy = record {
    held = c.held';
    alone = λ n a b l. elim (cases_eq n s) [
      | inl e ↦ ap (next (unlinked ws s)) e ∙ c.alone' ∙ sym e
      | inr ne ↦ c.still' n b (t.alone n a b (λ k h. lacks_without n s (ring heads nodes ws k) ne (subst (Lacks n) (c.rings' k h) (l k h))))
    ];
  }

  -- a slot taken out
  pub cut_out_tidy : Tidy heads nodes (cut_out ws s)
  cut_out_tidy = rw (cut_is heads nodes ws t.held s within) cut_tidy

  -- and what else that leaves
  pub cut_out_rings : (l : ℕ) → l < heads → ring heads nodes (cut_out ws s) l ≡ without s (ring heads nodes ws l)
  cut_out_rings l h = rw (cut_is heads nodes ws t.held s within) (c.rings' l h)

  pub cut_out_alone : next (cut_out ws s) s ≡ s
  cut_out_alone = rw (cut_is heads nodes ws t.held s within) c.alone'

  pub cut_out_still : (y : ℕ) → y < nodes → next ws y ≡ y → next (cut_out ws s) y ≡ y
  cut_out_still y h e = rw (cut_is heads nodes ws t.held s within) (c.still' y h e)

module _ (heads nodes : ℕ) (ws : List ℕ) (t : Tidy heads nodes ws) (h s : ℕ) (head : h < heads) (slot : heads ≤ s) (within : s < nodes) (one : next ws s ≡ s) where
  abbrev vs : List ℕ
  vs = linked ws h s

  rings : (l : ℕ) → l < heads → ring heads nodes vs l ≡ at (ring heads nodes ws) h (ring heads nodes ws h ++ (s ∷ [])) l
  rings = push_ring heads nodes ws t.held h s head slot within one

  -- a slot that some new ring has not, no old one had, and it is not the one put there
  not_there : (n : ℕ) → ((l : ℕ) → l < heads → Lacks n (ring heads nodes vs l)) → ((l : ℕ) → l < heads → Lacks n (ring heads nodes ws l)) × (s ≡ n → ⊥)
  not_there n l =
      let here = lacks_push n s (ring heads nodes ws h) (subst (Lacks n) (rings h head ∙ at_here (ring heads nodes ws) h (ring heads nodes ws h ++ (s ∷ [])) h refl) (l h head)) in (
        λ k g. elim (cases_eq k h) [
          | inl e ↦ subst (λ (m : ℕ). Lacks n (ring heads nodes ws m)) (sym e) here.0
          | inr ne ↦ subst (Lacks n) (rings k g ∙ at_else (ring heads nodes ws) h (ring heads nodes ws h ++ (s ∷ [])) k ne) (l k g)
        ],
        here.1,
      )

  put_tidy : Tidy heads nodes vs
  put_tidy = record {
    held = push_held heads nodes ws t.held h s head slot within one;
    alone = λ n a b l. let g = not_there n l in push_still heads nodes ws t.held h s head slot within one n b (λ e. g.1 (sym e)) (t.alone n a b g.0) (λ e. omega arith);
  }

  put_words : put_in ws h s ≡ vs
  put_words = put_is heads nodes ws t.held h s (let a = t.held.0.0 in omega arith) within

  -- a slot that stood alone, put at the end of a ring
  pub put_in_tidy : Tidy heads nodes (put_in ws h s)
  put_in_tidy = rw put_words put_tidy

  pub put_in_rings : (l : ℕ) → l < heads → ring heads nodes (put_in ws h s) l ≡ at (ring heads nodes ws) h (ring heads nodes ws h ++ (s ∷ [])) l
  put_in_rings l g = rw put_words (rings l g)

  pub put_in_still : (y : ℕ) → heads ≤ y → y < nodes → (y ≡ s → ⊥) → next ws y ≡ y → next (put_in ws h s) y ≡ y
  put_in_still y a b n e = rw put_words (push_still heads nodes ws t.held h s head slot within one y b n e (λ q. omega arith))

-- all nodes alone
pub scattered_tidy : (heads nodes : ℕ) (ws : List ℕ) → heads ≤ nodes → 2 * nodes ≤ length ws → Tidy heads nodes (scattered nodes ws)
scattered_tidy heads nodes ws le long =
    let a = scattered_alone nodes ws long in
    let e = scattered_length nodes ws in
    record {
      held = lone_held heads nodes (scattered nodes ws) le (omega arith) a;
      alone = λ n p q l. (a n q).0;
    }

-- a path from one of its nodes on
path_after : (nx pv : ℕ → ℕ) (a : ℕ) (xs : List ℕ) (b i : ℕ) → Path nx pv a xs b → i < length xs → Path nx pv (get_or xs i 0) (drop (suc i) xs) b
unfolding Path
path_after nx pv a [] b i p h = absurd (omega arith)
path_after nx pv a (x ∷ xs) b zero p h = p.1
path_after nx pv a (x ∷ xs) b (suc i) p h = path_after nx pv x xs b i p.1 (omega arith)

-- what an iterator from the slot at place i on has left
pub ring_rest : (heads nodes : ℕ) (ws : List ℕ) → Held heads nodes ws → (l i : ℕ) → l < heads → i < length (ring heads nodes ws l) → ring heads nodes ws (get_or (ring heads nodes ws l) i 0) ≡ drop (suc i) (ring heads nodes ws l)
unfolding ring
ring_rest heads nodes ws held l i h k =
    let xs = ring heads nodes ws l in
    let s = ring_slots heads nodes ws held l h in
    let all = All-drop (λ x. heads ≤ x) (suc i) xs s.0 in
    let n = few nodes xs (ring_differ heads nodes ws held l h) s.1 in
    let d = length-drop (suc i) xs in
    walk_path (next ws) (prev ws) heads nodes (get_or xs i 0) (drop (suc i) xs) l (path_after (next ws) (prev ws) l xs l i (held.1.1 l h) k) all h (omega arith)

-- a slot of a ring is not linked to itself
pub tied : (heads nodes : ℕ) (ws : List ℕ) → Held heads nodes ws → (l n : ℕ) → l < heads → n < nodes → (Lacks n (ring heads nodes ws l) → ⊥) → next ws n ≡ n → ⊥
tied heads nodes ws held l n h k there e = there (alone_lacks heads nodes ws held n l h k e)

-- the nodes from a node on are nodes
pub ring_within : (heads nodes : ℕ) (ws : List ℕ) → Held heads nodes ws → (n : ℕ) → n < nodes → AllByRecursion (λ y. y < nodes) (ring heads nodes ws n)
unfolding ring
ring_within heads nodes ws held n h = walk_within (next ws) heads nodes nodes (next ws n) (λ m k. (held.1.0 m k).0.0) (held.1.0 n h).0.0

-- ## A slot stands alone exactly if no ring has it

module _ (heads nodes : ℕ) (ws : List ℕ) (t : Tidy heads nodes ws) (s n : ℕ) (slot : heads ≤ s) (within : s < nodes) (a : heads ≤ n) (b : n < nodes) (other : n ≡ s → ⊥) where
  -- a slot that stands alone when another was taken out did so before
  pub cut_alone_back : next (cut_out ws s) n ≡ n → next ws n ≡ n
  cut_alone_back e =
      let t' = cut_out_tidy heads nodes ws t s slot within in
      t.alone n a b (λ l h. lacks_without n s (ring heads nodes ws l) other (subst (Lacks n) (cut_out_rings heads nodes ws t s slot within l h) (alone_lacks heads nodes (cut_out ws s) t'.held n l h b e)))

  -- and one that does when another was put in
  pub put_alone_back : (h : ℕ) → h < heads → next ws s ≡ s → next (put_in ws h s) n ≡ n → next ws n ≡ n
  put_alone_back h head one e =
      let t' = put_in_tidy heads nodes ws t h s head slot within one in
      let rings' = put_in_rings heads nodes ws t h s head slot within one in
      t.alone n a b (λ l g.
      let there = subst (Lacks n) (rings' l g) (alone_lacks heads nodes (put_in ws h s) t'.held n l g b e) in
      elim (cases_eq l h) [
        | inl q ↦ subst (λ (m : ℕ). Lacks n (ring heads nodes ws m)) (sym q) (lacks_push n s (ring heads nodes ws h) (subst (Lacks n) (at_here (ring heads nodes ws) h (ring heads nodes ws h ++ (s ∷ [])) l q) there)).0
        | inr ne ↦ subst (Lacks n) (at_else (ring heads nodes ws) h (ring heads nodes ws h ++ (s ∷ [])) l ne) there
      ])

-- a slot that was put in does not stand alone
pub put_in_tied : (heads nodes : ℕ) (ws : List ℕ) → Tidy heads nodes ws → (h s : ℕ) → h < heads → heads ≤ s → s < nodes → next ws s ≡ s → next (put_in ws h s) s ≡ s → ⊥
put_in_tied heads nodes ws t h s head slot within one e =
    let t' = put_in_tidy heads nodes ws t h s head slot within one in
    let rings' = put_in_rings heads nodes ws t h s head slot within one in
    let there = subst (Lacks s) (rings' h head ∙ at_here (ring heads nodes ws) h (ring heads nodes ws h ++ (s ∷ [])) h refl) (alone_lacks heads nodes (put_in ws h s) t'.held s h head within e) in
    (lacks_push s s (ring heads nodes ws h) there).1 refl
