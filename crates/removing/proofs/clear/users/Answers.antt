use Rattle.removing.proofs.Flags.{flags_both}
use Rattle.removing.proofs.clear.users.Goals as goal

pub returns : goal.returns
returns g c l h = flags_both c.flag_users.new.flags c.flag_users-2.new.flags l _ _ (c.flag_users.ensures l h) (c.flag_users-2.ensures l h) h
