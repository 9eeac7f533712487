use Rattle.std.proofs.Common.{◌≡◌, Bool, ◌||◌, sym, ap, ◌∙◌, arith}
use Rattle.std.proofs.lemmas.Bool.{or_left}
use Rattle.std.proofs.lemmas.List.{nil_from_length}
use Rattle.network.specs.Clauses.{front, has}
use Rattle.owned.specs.Layout.{lost_in}
use Rattle.owned.specs.Lists.{text}
use Rattle.owned.proofs.Texts.{front_take, has_same, listed_has}
use Rattle.owned.proofs.owned.Owned.lists.Goals as goal
use Rattle.owned.proofs.owned.Owned.lists.Goals.{Joined-text-lt1, in-empty, in-len1-up}

front_is : (c : Joined-text-lt1) → c.if-text-lt1.front.now ≡ front (text c.args.self.now c.args.x)
front_is c =
    elim c.if-text-lt1.branch [
      | in-empty w ↦ ap (λ t. t.now) w.front-is ∙ sym (ap front (nil_from_length c.text.result.now (let h = w.in-empty.len_below in omega arith))) ∙ ap front c.text.ensures
      | in-len1-up w ↦ ap (λ t. t.now) w.front-is ∙ front_take c.text.result.now ∙ ap front c.text.ensures
    ]

pub returns-then-contains : goal.returns-then-contains
returns-then-contains c =
    let s = c.args.self.now in
    let k = c.args.k in
    let f : c.contains.result ≡ has k (front (text s c.args.x)) = c.contains.ensures.value ∙ has_same k c.if-text-lt1.front.now ∙ ap (has k) (front_is (goal.at.returns-then-contains c).Joined-text-lt1) in
    c.if-contains.true ∙ sym (or_left (has k (front (text s c.args.x))) (has k (lost_in s.texts.now c.args.x)) (sym f ∙ c.if-contains.true)) ∙ listed_has s.texts.now c.args.x k

pub returns-else-contains : goal.returns-else-contains
returns-else-contains c =
    let s = c.args.self.now in
    let k = c.args.k in
    let f : c.contains.result ≡ has k (front (text s c.args.x)) = c.contains.ensures.value ∙ has_same k c.if-text-lt1.front.now ∙ ap (has k) (front_is (goal.at.returns-else-contains c).Joined-text-lt1) in
    c.contains-else-contains.ensures.value ∙ has_same k c.gone.result.now ∙ ap (has k) c.gone.ensures
    ∙ ap (λ (a : Bool). a || has k (lost_in s.texts.now c.args.x)) (sym c.if-contains.false ∙ f) ∙ listed_has s.texts.now c.args.x k
