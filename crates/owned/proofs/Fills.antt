-- Words with every slot free. Assumes nothing.
use Rattle.std.proofs.Common.{◌≡◌, ℕ, ◌+◌, ◌*◌, ◌<◌, ◌≤◌, List, [], ◌∷◌, ◌++◌, length, get_or, set, sym, refl, ap, ◌∙◌, inl, inr, arith}
use Rattle.std.specs.List.{AllByRecursion}
use Rattle.std.proofs.lemmas.Bool.{cases_lt, cases_eq}
use Rattle.std.proofs.lemmas.List.{length_push, get_or-set_same, get_or-set_other, length-set}
use Rattle.std.proofs.ByRecursion.{All-from_get_or, All-push, All-weaker}
use Rattle.rings.specs.Rings.{at, next, linked, put_in, scattered}
use Rattle.rings.proofs.Drops.{at_here, at_else}
use Rattle.rings.proofs.Shifts.{slot_at, lone_ring, lone_held, push_held, push_ring, push_still}
use Rattle.rings.proofs.Bounds.{put_is, scattered_alone, scattered_length}
use Rattle.network.specs.Lists.{In}
use Rattle.network.proofs.Lists.{has_in, in_left, in_right}
use Rattle.rules.proofs.Answers.{has_from}
use Rattle.owned.specs.Layout.{node_count, rg, text_at, own_at, Whole, Filled, Cleared}
use Rattle.owned.specs.Totals.{total}
use Rattle.owned.proofs.Totals.{total_none}
use Rattle.owned.proofs.Leaves.{Facts}
use Rattle.owned.proofs.Wholes.{own_by, lost_by}
use Rattle.owned.proofs.Moves.{all_in, in_all}

-- words with each node alone
pub filled_scattered : (room : ℕ) (old links texts : List ℕ) → 2 * node_count room ≤ length old → links ≡ scattered (node_count room) old → Filled room links texts 0
filled_scattered room old links texts long e =
    let l = scattered_length (node_count room) old in
    let al = scattered_alone (node_count room) old long in
    let v = scattered (node_count room) old in
    let r = lone_ring 2050 (node_count room) v (omega arith) (omega arith) al in
    let made : Filled room v texts 0 = record {
      long = omega arith;
      held = lone_held 2050 (node_count room) v (omega arith) (omega arith) al;
      others = λ l h n. r l h;
      sized = ap length (r 2048 (omega arith));
      low = rw (r 2048 (omega arith)) tt;
      free = λ x a b. absurd (omega arith);
      alone = λ n g h. (al n h).0;
      names = λ x a b. absurd (omega arith);
      sizes = λ x a b. absurd (omega arith);
    } in
    rw e made

-- a slot freed: it comes last among the free ones, and has no text
abbrev pub emptied : List ℕ → ℕ → List ℕ
emptied texts b = set (set (set texts b 2048) (b + 1) 0) (b + 2) 0

module _ (texts : List ℕ) (b : ℕ) (h : b + 2 < length texts) where
  emptied_else : (k : ℕ) → (k ≡ b → ⊥) → (k ≡ b + 1 → ⊥) → (k ≡ b + 2 → ⊥) → get_or (emptied texts b) k 0 ≡ get_or texts k 0
  emptied_else k n0 n1 n2 = get_or-set_other (set (set texts b 2048) (b + 1) 0) (b + 2) k 0 0 n2 ∙ get_or-set_other (set texts b 2048) (b + 1) k 0 0 n1 ∙ get_or-set_other texts b k 2048 0 n0

  emptied_0 : get_or (emptied texts b) b 0 ≡ 2048
  emptied_0 = get_or-set_other (set (set texts b 2048) (b + 1) 0) (b + 2) b 0 0 (λ q. omega arith) ∙ get_or-set_other (set texts b 2048) (b + 1) b 0 0 (λ q. omega arith) ∙ get_or-set_same texts b 2048 0 (omega arith)

  emptied_1 : get_or (emptied texts b) (b + 1) 0 ≡ 0
  emptied_1 = get_or-set_other (set (set texts b 2048) (b + 1) 0) (b + 2) (b + 1) 0 0 (λ q. omega arith) ∙ get_or-set_same (set texts b 2048) (b + 1) 0 0 (simp length-set (omega arith))

  emptied_2 : get_or (emptied texts b) (b + 2) 0 ≡ 0
  emptied_2 = get_or-set_same (set (set texts b 2048) (b + 1) 0) (b + 2) 0 0 (simp length-set (omega arith))

module _ (room : ℕ) (links texts : List ℕ) (i : ℕ) (h : i < room) (f : Filled room links texts i) (exact : length texts ≡ 35 * room) where
  abbrev x : ℕ
  x = 2050 + i

  abbrev b : ℕ
  b = 35 * i

  al : next links x ≡ x
  al = f.alone x (omega arith) (omega arith)

  r : (l : ℕ) → l < 2050 → rg room (linked links 2048 x) l ≡ at (rg room links) 2048 (rg room links 2048 ++ (x ∷ [])) l
  r = push_ring 2050 (node_count room) links f.held 2048 x (omega arith) (omega arith) (omega arith) al

  one : rg room (linked links 2048 x) 2048 ≡ rg room links 2048 ++ (x ∷ [])
  one = r 2048 (omega arith) ∙ at_here (rg room links) 2048 (rg room links 2048 ++ (x ∷ [])) 2048 refl

  made : Filled room (linked links 2048 x) (emptied texts b) (i + 1)
  made = record {
    long = let z = f.long in simp length-set (omega arith);
    held = push_held 2050 (node_count room) links f.held 2048 x (omega arith) (omega arith) (omega arith) al;
    others = λ l k n. r l k ∙ at_else (rg room links) 2048 (rg room links 2048 ++ (x ∷ [])) l n ∙ f.others l k n;
    sized = ap length one ∙ length_push (rg room links 2048) x ∙ ap (λ (k : ℕ). k + 1) f.sized;
    low = rw one (All-push (λ y. y < 2050 + (i + 1)) (rg room links 2048) x (All-weaker (λ y. y < 2050 + i) (λ y. y < 2050 + (i + 1)) (λ y q. omega arith) (rg room links 2048) f.low) (omega arith));
    free = λ y p q. rw one (has_from y (rg room links 2048 ++ (x ∷ [])) (elim (cases_lt y x) [
      | inl lt ↦ in_left y (rg room links 2048) (x ∷ []) (has_in y (rg room links 2048) (f.free y p lt))
      | inr ge ↦ in_right y (rg room links 2048) (x ∷ []) (inl (omega arith))
    ]));
    alone = λ n g k. push_still 2050 (node_count room) links f.held 2048 x (omega arith) (omega arith) (omega arith) al n k (λ q. omega arith) (f.alone n (omega arith) k) (λ q. omega arith);
    names = λ y p q. elim (cases_lt y x) [
      | inl lt ↦ emptied_else texts b (omega arith) (text_at y) (λ e. omega arith) (λ e. omega arith) (λ e. omega arith) ∙ f.names y p lt
      | inr ge ↦ let e : text_at y ≡ b = omega arith in ap (λ (k : ℕ). get_or (emptied texts b) k 0) e ∙ emptied_0 texts b (omega arith)
    ];
    sizes = λ y p q. elim (cases_lt y x) [
      | inl lt ↦ (emptied_else texts b (omega arith) (text_at y + 1) (λ e. omega arith) (λ e. omega arith) (λ e. omega arith) ∙ (f.sizes y p lt).0, emptied_else texts b (omega arith) (text_at y + 2) (λ e. omega arith) (λ e. omega arith) (λ e. omega arith) ∙ (f.sizes y p lt).1)
      | inr ge ↦ let e : text_at y ≡ b = omega arith in (ap (λ (k : ℕ). get_or (emptied texts b) (k + 1) 0) e ∙ emptied_1 texts b (omega arith), ap (λ (k : ℕ). get_or (emptied texts b) (k + 2) 0) e ∙ emptied_2 texts b (omega arith))
    ];
  }

  pub filled_put : (links' texts' : List ℕ) → links' ≡ put_in links 2048 x → texts' ≡ emptied texts b → Filled room links' texts' (i + 1)
  filled_put links' texts' e t = rw (e ∙ put_is 2050 (node_count room) links f.held 2048 x (omega arith) (omega arith), t) made

-- with all slots free the own lists stand
module _ (room : ℕ) (links texts : List ℕ) (f : Filled room links texts room) where
  none : (P : ℕ → Type 0) (l : ℕ) → l < 2050 → (l ≡ 2048 → ⊥) → AllByRecursion P (rg room links l)
  none P l h n = rw (f.others l h n) tt

  slot : (y : ℕ) → In y (rg room links 2048) → (2050 ≤ y) × (y < 2050 + room)
  slot y k = (all_in (λ z. 2050 ≤ z) (rg room links 2048) (All-from_get_or (λ z. 2050 ≤ z) (rg room links 2048) 0 (λ j q. (slot_at 2050 (node_count room) links f.held 2048 j (omega arith) q).0)) y k, all_in (λ z. z < 2050 + room) (rg room links 2048) f.low y k)

  filled_whole : Whole room links texts
  filled_whole = record {
    long = f.long;
    held = f.held;
    housed = λ x a b. let n = f.names x a b in (omega arith, rw n (f.free x a b));
    sizes = λ l h. elim (cases_eq l 2048) [
      | inl e ↦ rw e (in_all _ (rg room links 2048) (λ y k. let s = slot y k in let z = f.sizes y s.0 s.1 in let z0 = z.0 in let z1 = z.1 in (omega arith, omega arith)))
      | inr n ↦ none _ l h n
    ];
    wells = λ l h. none _ l (omega arith) (λ q. omega arith);
    ends = λ l h. none _ l (omega arith) (λ q. omega arith);
    bounded = λ l h. none _ l (omega arith) (λ q. omega arith);
    sized = let a = total_none 2048 (λ l. length (rg room links l)) (λ l h. ap length (f.others l (omega arith) (λ q. omega arith))) in let b = f.sized in let c = ap length (f.others 2049 (omega arith) (λ q. omega arith)) in omega arith;
  }

  pub filled_cleared : Cleared room links texts
  filled_cleared = record {
    sound = λ r. filled_whole;
    owns = own_by (λ l xs. xs ≡ []) room links (λ l. refl) (λ r l h. f.others l (omega arith) (λ q. omega arith));
    losts = lost_by (λ xs. xs ≡ []) room links refl (λ r. f.others 2049 (omega arith) (λ q. omega arith));
  }

-- no room, no slot
pub bare_cleared : (room : ℕ) (links texts : List ℕ) → room ≡ 0 → Cleared room links texts
bare_cleared room links texts e = record {
  sound = λ r. absurd (omega arith);
  owns = own_by (λ l xs. xs ≡ []) room links (λ l. refl) (λ r. absurd (omega arith));
  losts = lost_by (λ xs. xs ≡ []) room links refl (λ r. absurd (omega arith));
}

-- no own list has a slot then
pub cleared_total : (room : ℕ) (links texts : List ℕ) → Cleared room links texts → ◌≡◌ {A = ℕ} 0 (total 2048 (λ l. length (own_at room links l)))
cleared_total room links texts c = sym (total_none 2048 (λ l. length (own_at room links l)) (λ l h. ap length (c.owns l)))

-- the facts of own lists then
pub cleared_kept : (room : ℕ) (links texts : List ℕ) → room ≤ 4096 → length texts ≡ 35 * room → Cleared room links texts → Facts room links texts 0
cleared_kept room links texts small exact c = record { small = small; exact = exact; alive = cleared_total room links texts c; whole = ∣ c.sound ∣₁ }
