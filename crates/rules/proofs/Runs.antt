-- Whole runs, by computing. Assumes nothing.
use Rattle.std.proofs.Common.{refl}
use Rattle.network.specs.Assignments.{opposite, lit, put}
use Rattle.network.specs.Resolution.{merge, resolve}
use Rattle.network.specs.Subsumption.{fits_from, fits}
use Rattle.network.specs.Values.{with_value, unit_of, literal, simplified}
use Rattle.network.specs.Lemmas.{placed, by_length, swept, lemmas_from, lemmas}
use Rattle.network.specs.Rows.{some_row}
use Rattle.image.specs.Headers.{climbs, headed}
use Rattle.image.specs.Runs.{whole_by, whole, clauses_by, clauses, written}
use Rattle.intake.specs.Answers.{searched, rows_answer, node_answer, nodes_answer, take_in_answer, loose_nodes}
use Rattle.rules.specs.Store
use Rattle.rules.specs.Work
use Rattle.rules.specs.Const
use Rattle.rules.specs.Bve
use Rattle.rules.specs.Subsume
use Rattle.rules.specs.Calls
use Rattle.rules.specs.Runs

pub sample_runs : Runs.SampleRuns
unfolding opposite lit put resolve merge fits_from fits with_value unit_of literal simplified placed by_length swept lemmas_from lemmas some_row climbs headed whole_by whole clauses_by clauses written searched rows_answer node_answer nodes_answer take_in_answer loose_nodes Store.changed Store.entered Store.removed Store.retired Store.shortened Store.places Store.index_on Store.index_off Store.live_clauses Store.enter Store.retire Store.shorten Work.add Work.cleared Work.clear Work.clear_all Const.judged Const.const_node Const.const_drop Const.const_simplify Bve.resolvents Bve.all_resolvents Bve.taken_out Bve.eliminated Bve.attempt Bve.attempts Bve.bve_simplify Subsume.checked_from Subsume.checked Subsume.walked Subsume.subsume_simplify Calls.clauses_in Calls.started Calls.start Calls.handed_out Calls.words_out Calls.const_answer Calls.bve_answer Calls.subsume_answer Calls.finalize_answer Calls.simplify_answer Calls.called Runs.opened
sample_runs = record { simplifies = refl; no_margin = refl; shortens = refl; half_full = refl; one_cost = refl; one_resolvents = refl; one_goes = refl; two_cost = refl; two_resolvents = refl; two_stays = refl }

pub passes_apart : Runs.PassesApart
unfolding opposite lit put resolve merge fits_from fits with_value unit_of literal simplified placed by_length swept lemmas_from lemmas some_row climbs headed whole_by whole clauses_by clauses written searched rows_answer node_answer nodes_answer take_in_answer loose_nodes Store.changed Store.entered Store.removed Store.retired Store.shortened Store.places Store.index_on Store.index_off Store.live_clauses Store.enter Store.retire Store.shorten Work.add Work.cleared Work.clear Work.clear_all Const.judged Const.const_node Const.const_drop Const.const_simplify Bve.resolvents Bve.all_resolvents Bve.taken_out Bve.eliminated Bve.attempt Bve.attempts Bve.bve_simplify Subsume.checked_from Subsume.checked Subsume.walked Subsume.subsume_simplify Calls.clauses_in Calls.started Calls.start Calls.handed_out Calls.words_out Calls.const_answer Calls.bve_answer Calls.subsume_answer Calls.finalize_answer Calls.simplify_answer Calls.called Runs.opened
passes_apart = record { started = refl; const = refl; bve = refl; subsume = refl }
