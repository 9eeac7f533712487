-- What the writers of rings make of the lists, and what the reader finds. Assumes nothing.
use Rattle.std.specs.Prelude.{◌≡◌, ℕ, suc, ◌-◌, ◌*◌, ◌<◌, ◌≤◌, cond, List, [], ◌∷◌, ◌++◌, length, take, drop, Some, None, nat_lt, slice_index, slice_set}
use Rattle.rings.specs.Rings.{next, ring, Held, Place, without, drop_at, at, cut_out, put_in, shifted, swapped_out, slot_after, scattered}

-- of words that hold rings, for every ring at once
pub record RingLaws : Type 0 where
  -- a slot taken out leaves its ring, the order of the rest kept; rings stand, and the words past the nodes stay
  pub cuts : (heads nodes : ℕ) (ws : List ℕ) (s l : ℕ) → Held heads nodes ws → heads ≤ s → s < nodes → l < heads →
      (ring heads nodes (cut_out ws s) l ≡ without s (ring heads nodes ws l)) × (Held heads nodes (cut_out ws s) × (drop (2 * nodes) (cut_out ws s) ≡ drop (2 * nodes) ws))
  -- a slot that stands alone, put before a head, comes last in its ring
  pub pushes : (heads nodes : ℕ) (ws : List ℕ) (h s l : ℕ) → Held heads nodes ws → h < heads → heads ≤ s → s < nodes → next ws s ≡ s → l < heads →
      (ring heads nodes (put_in ws h s) l ≡ at (ring heads nodes ws) h (ring heads nodes ws h ++ (s ∷ [])) l) × (Held heads nodes (put_in ws h s) × (drop (2 * nodes) (put_in ws h s) ≡ drop (2 * nodes) ws))
  -- a slot shifted leaves its ring, and then comes last in the other
  pub shifts : (heads nodes : ℕ) (ws : List ℕ) (m i x h l : ℕ) → Place heads nodes ws m i x → h < heads → l < heads →
      (ring heads nodes (shifted ws h x) l ≡ at (at (ring heads nodes ws) m (drop_at i (ring heads nodes ws m))) h (at (ring heads nodes ws) m (drop_at i (ring heads nodes ws m)) h ++ (x ∷ [])) l) × (Held heads nodes (shifted ws h x) × (drop (2 * nodes) (shifted ws h x) ≡ drop (2 * nodes) ws))
  -- a slot swapped out leaves its ring, whose last comes to its place
  pub swaps : (heads nodes : ℕ) (ws : List ℕ) (m i x l : ℕ) → Place heads nodes ws m i x → l < heads →
      (ring heads nodes (swapped_out ws m x) l ≡ at (ring heads nodes ws) m (slice_set (take (length (ring heads nodes ws m) - 1) (ring heads nodes ws m)) i (slice_index (ring heads nodes ws m) (length (ring heads nodes ws m) - 1))) l) × (Held heads nodes (swapped_out ws m x) × (drop (2 * nodes) (swapped_out ws m x) ≡ drop (2 * nodes) ws))
  -- after a head comes the first slot of its ring, and after a slot the one at the next place
  pub first : (heads nodes : ℕ) (ws : List ℕ) (l : ℕ) → Held heads nodes ws → l < heads →
      slot_after heads ws l ≡ cond (nat_lt 0 (length (ring heads nodes ws l))) (Some (slice_index (ring heads nodes ws l) 0)) None
  pub next_one : (heads nodes : ℕ) (ws : List ℕ) (l i x : ℕ) → Place heads nodes ws l i x →
      slot_after heads ws x ≡ cond (nat_lt (suc i) (length (ring heads nodes ws l))) (Some (slice_index (ring heads nodes ws l) (suc i))) None
  -- scattered nodes make rings with no slot
  pub scatters : (heads nodes : ℕ) (ws : List ℕ) (l : ℕ) → heads ≤ nodes → 2 * nodes ≤ length ws → l < heads →
      (ring heads nodes (scattered nodes ws) l ≡ []) × (Held heads nodes (scattered nodes ws) × (drop (2 * nodes) (scattered nodes ws) ≡ drop (2 * nodes) ws))
  -- no slot is twice in a ring, or in two rings
  pub apart : (heads nodes : ℕ) (ws : List ℕ) (l m i j x : ℕ) → Place heads nodes ws l i x → Place heads nodes ws m j x → (l ≡ m) × (i ≡ j)
