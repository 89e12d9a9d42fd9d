use Rattle.program.specs.State.{zeros}
use Rattle.program.proofs.KeptBytes.{nothing-kept}
use Rattle.program.proofs.keeping.none.Goals as goal

pub returns : goal.returns
unfolding zeros
returns c = nothing-kept
