use Rattle.clause.proofs.Words.{xor_opposite}
use Rattle.clause.proofs.literals.Lit.opposite.Goals as goal

pub returns : goal.returns
returns c = xor_opposite c.args.self.word
