use Rattle.std.proofs.Common.{refl}
use Rattle.owned.proofs.Frees.{freed, freed_kept}
use Rattle.owned.proofs.Stands.{stands}
use Rattle.owned.proofs.owned.Owned.free_lost.Goals as goal

pub free_all-requires : goal.free_all-requires
free_all-requires c = let s = c.args.self.now in (stands s, s.exact)

pub invariant_of-self : goal.invariant_of-self
invariant_of-self c = freed_kept c.args.self.now c.free_all.new.links c.free_all.new.texts c.free_all.ensures.kin c.free_all.ensures.sound

pub returns : goal.returns
returns c = freed c.args.self.now c.free_all.new.links c.free_all.new.texts c.free_all.ensures.kin c.free_all.ensures.none _ refl refl refl
