-- The rules at small cases, by computing. Assumes nothing.
use Rattle.std.proofs.Common.{refl}
use Rattle.network.specs.Assignments.{opposite, lit, put}
use Rattle.network.specs.Resolution.{merge, resolve}
use Rattle.network.specs.Subsumption.{fits_from, fits}
use Rattle.network.specs.Values.{with_value, literal, simplified}
use Rattle.network.specs.Lemmas.{placed, by_length, swept, lemmas_from, lemmas}
use Rattle.rules.specs.Samples.{Samples}
use Rattle.network.specs.Rows.{some_row}

pub samples : Samples
unfolding resolve merge opposite lit put fits_from with_value literal simplified fits placed by_length swept lemmas_from lemmas some_row
samples = record { resolvent = refl; no_resolvent = refl; strengthens = refl; subsumes = refl; false_literal = refl; true_literal = refl; joined = refl; clashing = refl; never_loose = refl; once_loose = refl }
