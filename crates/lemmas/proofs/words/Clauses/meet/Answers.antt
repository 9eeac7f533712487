use Rattle.std.proofs.Common.{ap, ◌∙◌, inl, inr}
use Rattle.network.specs.Clauses.{without}
use Rattle.lemmas.specs.Words.{lemma_at}
use Rattle.lemmas.specs.Marks.{mark}
use Rattle.lemmas.proofs.Marks.{marks_spare, marked_anew}
use Rattle.lemmas.proofs.Writes.{wrote_weaker, wrote_other, fits_at, both_one, later_loses}
use Rattle.lemmas.proofs.words.Clauses.meet.Goals as goal

pub returns-then-mark-marks-clause-met : goal.returns-then-mark-marks-clause-met
returns-then-mark-marks-clause-met c = let r = c.requires in marks_spare c.args.self.now c.args.marks.now c.args.first c.args.later r.marked r.first r.later r.first_in r.later_in c.if-mark-marks.true

pub returns-then-self-first : goal.returns-then-self-first
returns-then-self-first c =
    let C = c.args.self.now in
    let a = c.args.first in
    let b = c.args.later in
    let q = c.ordered_subsume_execpt_one-part in
    let at = fits_at q.result c.in-Some.literal (lemma_at C a) (lemma_at C b) c.literals_of.result.now c.literals_of-2.result.now q.ensures c.if-part.false c.in-Some.is c.literals_of.ensures c.literals_of-2.ensures in
    record {
      wrote = wrote_weaker (λ k e. inl e) c.lose.ensures.wrote;
      met = both_one C c.lose.new.self a b c.in-Some.literal.word c.requires.first c.requires.later at c.if-self-first.true c.lose.ensures.lost;
      marked = marked_anew c.args.marks.now _ c.lose.ensures.wrote c.requires.marked c.requires.first_in (c.mark_of.ensures ∙ ap mark c.literals_of-then-self-first.ensures);
    }

pub returns : goal.returns
returns c =
    let C = c.args.self.now in
    let a = c.args.first in
    let b = c.args.later in
    let q = c.ordered_subsume_execpt_one-part in
    let l = c.lose-2 in
    let at = fits_at q.result c.in-Some.literal (lemma_at C a) (lemma_at C b) c.literals_of.result.now c.literals_of-2.result.now q.ensures c.if-part.false c.in-Some.is c.literals_of.ensures c.literals_of-2.ensures in
    record {
      wrote = wrote_weaker (λ k e. inr e) l.ensures.wrote;
      met = later_loses C l.new.self a b c.in-Some.literal.word c.requires.first c.requires.later at c.if-self-first.false (l.ensures.lost ∙ ap (λ y. without y (lemma_at C b)) c.opposite.ensures)
          (wrote_other l.ensures.wrote a c.requires.first c.requires.apart);
      marked = marked_anew c.args.marks.now _ l.ensures.wrote c.requires.marked c.requires.later_in (c.mark_of-2.ensures ∙ ap mark c.literals_of-3.ensures);
    }
