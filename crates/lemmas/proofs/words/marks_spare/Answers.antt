use Rattle.lemmas.proofs.Marks.{mark_spares}
use Rattle.lemmas.proofs.words.marks_spare.Goals as goal

pub returns : goal.returns
returns c = mark_spares
