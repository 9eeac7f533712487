use Rattle.std.proofs.Common.{◌≡◌, ℕ, ap, ◌∙◌, refl, set, List, not, eqb, arith}
use Rattle.std.specs.Bool.{then_some}
use Rattle.owned.specs.Lists.{At}
use Rattle.rings.specs.Rings.{prev, put_in, swapped_out}
use Rattle.owned.proofs.Leaves.{alive, inside}
use Rattle.owned.proofs.Releases.{prev_inside, released, released_kept, released_next}
use Rattle.owned.proofs.Stands.{stands}
use Rattle.owned.proofs.Wholes.{at_once}
use Rattle.owned.proofs.owned.Owned.release.Goals as goal
use Rattle.owned.proofs.owned.Owned.release.Goals.{After-then_some}

pub bounds-links-l : goal.bounds-links-l
bounds-links-l c = let h = c.in_ok-l.ensures in let p = prev_inside c.args.self.now c.in_ok-l.l h.0 c.args.x h.1 in omega arith

pub bounds-texts-text_at : goal.bounds-texts-text_at
bounds-texts-text_at c =
    let h = c.in_ok-l.ensures in
    let p = inside c.args.self.now c.in_ok-l.l h.0 c.args.x h.1 in
    let e = c.text_at.ensures in
    omega arith

pub overflow_sub-live : goal.overflow_sub-live
overflow_sub-live c = let h = c.in_ok-l.ensures in let p = alive c.args.self.now c.in_ok-l.l h.0 c.args.x h.1 in omega arith

pub invariant_of-self : goal.invariant_of-self
invariant_of-self c =
    let h = c.in_ok-l.ensures in
    released_kept c.args.self.now c.in_ok-l.l h.0 c.args.x h.1 c.link.new.ws (c.link.ensures ∙ ap (λ (v : List ℕ). put_in v 2048 c.args.x) c.swap_out.ensures) c.text_at.result c.text_at.ensures

-- the list that the slot's words name is the one
same : (c : After-then_some) (l i : ℕ) → At c.args.self.now c.args.x l i → c.in_ok-l.l ≡ l
same c l i a = let s = c.args.self.now in let h = c.in_ok-l.ensures in (at_once s.room s.links.now s.texts.now (stands s) c.args.x c.in_ok-l.l h.0 l i h.1 a).0

words : (c : After-then_some) (l i : ℕ) → At c.args.self.now c.args.x l i → c.link.new.ws ≡ put_in (swapped_out c.args.self.now.links.now l c.args.x) 2048 c.args.x
words c l i a = c.link.ensures ∙ ap (λ (v : List ℕ). put_in v 2048 c.args.x) (c.swap_out.ensures ∙ ap (λ (m : ℕ). swapped_out c.args.self.now.links.now m c.args.x) (same c l i a))

pub returns-clause-makes : goal.returns-clause-makes
returns-clause-makes c l i a = released c.args.self.now l i c.args.x a _ refl (words c l i a) (ap (λ (b : ℕ). set c.args.self.now.texts.now b 2048) c.text_at.ensures)

pub returns-clause-then : goal.returns-clause-then
returns-clause-then c l i a =
    let s = c.args.self.now in
    released_next s l i c.args.x a c.link.new.ws (words c l i a) c.then_some.result (c.then_some.ensures ∙ ap (λ (m : ℕ). then_some (not (eqb (prev s.links.now m) c.args.x)) (prev s.links.now m)) (same c l i a))
