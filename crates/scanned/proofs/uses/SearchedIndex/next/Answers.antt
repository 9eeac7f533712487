use Rattle.std.proofs.Common.{sym, ◌∙◌}
use Rattle.std.proofs.lemmas.Bool.{both_ways}
use Rattle.scanned.specs.Facts.{sound}
use Rattle.owned.specs.Lists.{listed}
use Rattle.scanned.proofs.Sequences.{next_use, no_next, use_in_range}
use Rattle.scanned.proofs.uses.SearchedIndex.next.Goals as goal

pub returns-in_default : goal.returns-in_default
returns-in_default c j st =
    let s = c.args.self.now in
    absurd (both_ways _ c.in_default.ensures (use_in_range s.room s.words.now (sound s.sound) (listed c.args.own.now) c.args.k c.args.u.slot j st))

pub returns-in_default-search : goal.returns-in_default-search
returns-in_default-search c j st =
    let s = c.args.self.now in
    no_next s.room s.words.now (sound s.sound) (listed c.args.own.now) c.args.k c.args.u.slot j st c.in-Some.n c.in-Some.ensures.1 c.in_default-search.ensures

pub returns : goal.returns
returns c j st =
    let s = c.args.self.now in
    next_use s.room s.words.now (sound s.sound) (listed c.args.own.now) c.args.k c.args.u.slot j st c.in-Some.n c.in-Some-search.slot c.in-Some.ensures.1 c.in-Some-search.ensures
