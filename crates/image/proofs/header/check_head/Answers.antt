use Rattle.std.proofs.Common.{sym, ◌∙◌, arith, rules}
use Rattle.std.proofs.lemmas.Bool.{both_ways}
use Rattle.image.proofs.Heads.{climbs_is, head_refused, head_opened}
use Rattle.image.proofs.header.check_head.Goals as goal
use Rattle.image.proofs.header.check_head.Goals.{then-not-is_sorted-via-then-not-is_sorted, then-not-is_sorted-via-else-not-is_sorted+then-words-top-2}

pub returns-in_default : goal.returns-in_default
returns-in_default c = head_refused c.args.words.now _ c.at-refused.ensures (λ h. search rules)

pub returns-then-top-gt1023 : goal.returns-then-top-gt1023
returns-then-top-gt1023 c = head_refused c.args.words.now _ c.at-refused.ensures (λ h. grind arith)

pub returns-then-not-is_sorted : goal.returns-then-not-is_sorted
returns-then-not-is_sorted c =
    elim c.then-not-is_sorted.branch [
      | then-not-is_sorted-via-then-not-is_sorted w ↦ head_refused c.args.words.now _ c.at-refused.ensures (λ h. both_ways _ w.if-not-is_sorted.true (climbs_is c.args.words.now _ _ (omega arith) c.is_sorted.ensures.cases ∙ h.climb))
      | then-not-is_sorted-via-else-not-is_sorted+then-words-top-2 w ↦ head_refused c.args.words.now _ c.at-refused.ensures (λ h. w.if-words-top-2.true h.last)
    ]

pub returns : goal.returns
returns c =
    head_opened c.args.words.now (record { three = search rules; few = c.if-top-gt1023.false; long = c.if-words-top.false; first = c.if-first-top.false; climb = sym (climbs_is c.args.words.now _ _ c.if-words-top.false c.is_sorted.ensures.cases) ∙ c.if-not-is_sorted.false; last = c.if-words-top-2.false })
