use Rattle.std.proofs.Common.{rules}
use Rattle.rings.specs.Rings.{put_in}
use Rattle.rings.proofs.link.Goals as goal

pub returns-then-not-inside : goal.returns-then-not-inside
unfolding put_in
returns-then-not-inside c = search rules

pub returns : goal.returns
unfolding put_in
returns c = search rules
