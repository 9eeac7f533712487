use Rattle.std.proofs.Common.{◌≡◌, ◌^◌, ◌<◌, true, false, ◌&&◌, ◌||◌, length, Err, sym, refl, ap, ◌∙◌, arith}
use Rattle.std.proofs.lemmas.Bool.{both_ways}
use Rattle.image.proofs.Walks.{whole_on, fits_clause, fits_whole}
use Rattle.image.specs.Runs.{clauses}
use Rattle.network.specs.Assignments.{put, holds}
use Rattle.network.specs.Rows.{row}
use Rattle.intake.proofs.Searching.{so_far_on, rows_none, rows_on, rows_stop, rows_count, searched_clash, searched_done}
use Rattle.intake.proofs.search.search_rows.Goals as goal
use Rattle.intake.proofs.search.search_rows.Goals.{else-rows-test, then-rows-test+in-Some+then-not-off+then-not-on}

pub rows-init : goal.rows-init
rows-init c = (refl, rows_none c.args.low.now c.args.run.run.node c.args.run.run.words.now)

pub loop-clause-preserved : goal.loop-clause-preserved
loop-clause-preserved c =
    let f = fits_clause c.loop-clause.clause-iterator c.next.new.self _ c.next.ensures.steps _ c.in-Some.is in
    let i = c.loop-clause.invariant in
    let off : c.if-off.off ≡ (c.loop-clause.off && holds (put (row c.args.low.now c.rows.number) c.args.run.run.node false) c.in-Some.clause.now) = grind arith in
    let on : c.if-on.on ≡ (c.loop-clause.on && holds (put (row c.args.low.now c.rows.number) c.args.run.run.node true) c.in-Some.clause.now) = grind arith in
    (tt, tt, i.2, sym (whole_on _ _ _ f) ∙ i.3, so_far_on _ _ _ _ _ _ _ f i.4 off, so_far_on _ _ _ _ _ _ _ f i.5 on, grind arith)

pub rows-preserved : goal.rows-preserved
rows-preserved c =
    let i = c.loop-clause.invariant in
    let e = fits_whole c.loop-clause.clause-iterator c.next.new.self _ c.next.ensures.steps c.in-None.is i.3 in
    let more : c.if-loose.loose ≡ (c.rows.loose || (c.loop-clause.off && c.loop-clause.on)) = grind arith in
    let p = rows_on c.args.low.now c.args.run.run.node c.args.run.run.words.now _ c.rows.number _ _ i.4 i.5 _ _ e i.6 c.rows.invariant.1 more in
    (i.2, p)

pub returns-then-clash : goal.returns-then-clash
returns-then-clash c =
    elim c.rows-test.branch [
      | else-rows-test w ↦ absurd (both_ways c.rows-test.clash (w.clash-is ∙ c.rows.invariant.0) c.if-clash.true)
      | then-rows-test+in-Some+then-not-off+then-not-on w ↦
          let f = fits_clause w.loop-clause.clause-iterator w.next.new.self _ w.next.ensures.steps _ w.in-Some.is in
          let i = w.loop-clause.invariant in
          let off : w.if-off.off ≡ (w.loop-clause.off && holds (put (row c.args.low.now c.rows.number) c.args.run.run.node false) w.in-Some.clause.now) = grind arith in
          let on : w.if-on.on ≡ (w.loop-clause.on && holds (put (row c.args.low.now c.rows.number) c.args.run.run.node true) w.in-Some.clause.now) = grind arith in
          let lt : c.rows.number < 2 ^ length c.args.low.now = omega (arith, w.rows-test.true, rows_count (length c.args.low.now) c.requires.few) in
          ap Err c.at.ensures ∙ searched_clash c.args.low.now c.args.run.run.node (clauses c.args.run.run.words.now) (rows_stop _ _ c.args.run.run.words.now _ c.rows.number _ _ (so_far_on _ _ _ _ _ _ _ f i.4 off) (so_far_on _ _ _ _ _ _ _ f i.5 on) (2 ^ length c.args.low.now) lt w.if-not-off.true w.if-not-on.true)
    ]

pub returns : goal.returns
returns c =
    elim c.rows-test.branch [
      | else-rows-test w ↦ searched_done c.args.low.now c.args.run.run.node c.args.run.run.words.now c.rows.number c.rows.loose (omega (arith, rows_count (length c.args.low.now) c.requires.few)) c.rows.invariant.1
      | then-rows-test+in-Some+then-not-off+then-not-on w ↦ absurd (both_ways c.rows-test.clash c.if-clash.false w.clash-is)
    ]
