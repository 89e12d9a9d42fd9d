use Rattle.std.proofs.Common.{refl}
use Rattle.link.specs.Resumed.{empty}
use Rattle.link.proofs.resume.empty.Goals as goal

pub returns : goal.returns
unfolding empty
returns c = refl
