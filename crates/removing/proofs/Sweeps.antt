-- The own lists of later nodes, cleared one after another. Assumes nothing.
use Rattle.std.proofs.Common.{◌≡◌, ℕ, ◌+◌, ◌-◌, ◌*◌, ◌≤◌, Bool, true, false, sym, ap, ◌∙◌, arith}
use Rattle.std.proofs.lemmas.Bool.{cond-true, cond-false}
use Rattle.rules.specs.Store.{Meaning, from}
use Rattle.rules.specs.Work.{each}
use Rattle.waiting.specs.declared.waiting.Waiting.{Waiting}
use Rattle.removing.specs.Follows.{Follows}
use Rattle.removing.specs.Outs.{used_in, gone_if_used, uses_gone, without_named}
use Rattle.removing.proofs.Following.{follows_none, follows_two}
use Rattle.removing.proofs.Ruled.{each_more}

module _ (n : ℕ) where
  -- from M and v the sweep has come to N and w, with the literal l next
  pub record Swept (l : ℕ) (M N : Meaning) (v w : Waiting) : Type 0 where
    pub made : N ≡ each (gone_if_used M n) (from (2 * n + 2) (l - (2 * n + 2))) M
    pub follows : Follows M N v w

  pub swept_starts : (M : Meaning) (v : Waiting) → Swept (2 * n + 2) M M v v
  swept_starts M v = let none : 2 * n + 2 - (2 * n + 2) ≡ 0 = omega arith in record {
    made = sym (ap (λ m. each (gone_if_used M n) (from (2 * n + 2) m) M) none);
    follows = follows_none M v;
  }

  module _ (l : ℕ) (M N : Meaning) (v w : Waiting) (s : Swept l M N v w) (h : 2 * n + 2 ≤ l) where
    one_more : gone_if_used M n l N ≡ each (gone_if_used M n) (from (2 * n + 2) (l + 1 - (2 * n + 2))) M
    one_more =
        let next : l + 1 - (2 * n + 2) ≡ (l - (2 * n + 2)) + 1 = omega arith in
        let here : (2 * n + 2) + (l - (2 * n + 2)) ≡ l = omega arith in
        sym (ap (λ m. each (gone_if_used M n) (from (2 * n + 2) m) M) next ∙ each_more (gone_if_used M n) (l - (2 * n + 2)) (2 * n + 2) M ∙ (λ j. gone_if_used M n (here j) (sym s.made j)))

    pub swept_gone : (b : Bool) → b ≡ used_in M n l → b ≡ true → (P : Meaning) (x : Waiting) → P ≡ without_named n l N → Follows N P w x → Swept (l + 1) M P v x
    swept_gone b u t P x e f = record {
      made = e ∙ sym (cond-true (used_in M n l) (without_named n l N) N (sym u ∙ t)) ∙ one_more;
      follows = follows_two M N P v w x s.follows f;
    }

    pub swept_stays : (b : Bool) → b ≡ used_in M n l → b ≡ false → Swept (l + 1) M N v w
    swept_stays b u f = record { made = sym (cond-false (used_in M n l) (without_named n l N) N (sym u ∙ f)) ∙ one_more; follows = s.follows }

  pub swept_ends : (l top : ℕ) (M N : Meaning) (v w : Waiting) → Swept l M N v w → l ≡ 2 * top + 2 → n ≤ top → N ≡ uses_gone n top M
  swept_ends l top M N v w s e le = let all : l - (2 * n + 2) ≡ 2 * (top - n) = omega (arith, e) in s.made ∙ ap (λ m. each (gone_if_used M n) (from (2 * n + 2) m) M) all
