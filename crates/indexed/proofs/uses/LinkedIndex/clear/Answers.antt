use Rattle.indexed.specs.Facts.{sound}
use Rattle.indexed.proofs.Asks.{bare_joined, bare_used, bare_whole}
use Rattle.indexed.proofs.uses.LinkedIndex.clear.Goals as goal

pub empty_rings-requires : goal.empty_rings-requires
empty_rings-requires c = sound c.args.self.now.sound

pub invariant_of-self : goal.invariant_of-self
invariant_of-self c = record { small = c.args.self.now.small; sound = ∣ (λ r. bare_whole c.args.self.now.room c.empty_rings.new.ws (c.empty_rings.ensures r)) ∣₁ }

pub returns-clause-uses : goal.returns-clause-uses
returns-clause-uses c L = bare_used c.args.self.now.room c.empty_rings.new.ws c.empty_rings.ensures

pub returns-clause-joins : goal.returns-clause-joins
returns-clause-joins c = bare_joined c.args.self.now.room c.empty_rings.new.ws c.empty_rings.ensures
